use Rattle.std.proofs.Common.{◌≡◌, ◌∙◌, ap, subst, sym, arith, rules, w64, to_z, of_z, List, [], length, Some, ℤ, nat_abs, ◌<◌, ◌≤◌, ◌^◌}
use Rattle.std.proofs.lemmas.Bool.{eqb-true}
use Rattle.std.proofs.lemmas.Int.{ints, to_z-of_z}
use Rattle.pg_lemmas.proofs.Lists.{no_items}
use Rattle.pg_notes.specs.NotesValue.{smallest_by}
use Rattle.pg_style.specs.Values.{StyleValue}
use Rattle.pg_style.specs.declared.style.Class.{Class}
use Rattle.pg_style.specs.declared.style.Give.{Give}
use Rattle.pg_column.specs.Passed.{raised}
use Rattle.pg_hops.specs.Needs.{least_by}
use Rattle.pg_hops.specs.View.{view}
use Rattle.pg_hops.proofs.Asking.{bound_alone, no_notes, no_skips}
use Rattle.pg_hops.proofs.needs.Needs.of.Goals as goal

pub returns-then-is_empty : goal.returns-then-is_empty
returns-then-is_empty c =
    let style = c.args.style.now in
    let p = view c.args.passed.now in
    let none : style.classes ≡ [] =
    subst (λ (cs : List Class). cs ≡ []) (c.as_slice.ensures.classes ∙ ap (λ (s : StyleValue). s.classes) c.style.view_is)
    (no_items c.as_slice.result.now (eqb-true (length c.as_slice.result.now) 0 (sym c.is_empty.ensures ∙ c.if-is_empty.true))) in
    record {
      notes = no_notes style p none;
      give = c.none.ensures ∙ no_skips style p none;
      bound = bound_alone style p none c.bound_with.result (sym c.bound_with.ensures)
          ∙ ap (λ (z : ℤ). Some z) (sym (to_z-of_z w64 c.bound_with.result (record { sfits = search rules })));
      small = omega arith;
      stretch = subst (λ (g : Give). nat_abs g.stretch ≤ 2 ^ 34) (sym c.none.ensures) (omega arith);
      shrink = subst (λ (g : Give). nat_abs g.shrink ≤ 2 ^ 34) (sym c.none.ensures) (omega arith);
    }

pub returns : goal.returns
returns c =
    let style = c.args.style.now in
    let p = view c.args.passed.now in
    let own = to_z-of_z w64 c.minus.result (record { sfits = search rules }) in
    let high = to_z-of_z w64 c.height-notes.result (record { sfits = search rules }) in
    let less = to_z-of_z w64 c.give-give.result.shrink (record { sfits = search rules }) in
    let given = ap (λ (g : Give). g.shrink) c.give-give.ensures.value in
    let smallest : to_z w64 (of_z w64 c.minus.result) ≡ smallest_by style.classes p.notes =
    omega (arith, ints, own, high, less, given, c.minus.ensures.value, c.height-notes.ensures.value) in
    record {
      notes = high ∙ c.height-notes.ensures.value;
      give = c.give-give.ensures.value;
      bound = ap (λ (z : ℤ). raised p.bound (least_by p z)) (sym smallest) ∙ (sym c.bound_with-2.ensures
          ∙ ap (λ (z : ℤ). Some z) (sym (to_z-of_z w64 c.bound_with-2.result (record { sfits = search rules }))));
      small = subst (λ (z : ℤ). nat_abs z < 2 ^ 51) (sym high) c.height-notes.ensures.size;
      stretch = c.give-give.ensures.size.0;
      shrink = c.give-give.ensures.size.1;
    }
