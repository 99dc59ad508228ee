use Rattle.std.proofs.Common.{◌≡◌, ◌∙◌, ap, sym, rules, arith, w64, to_z, of_z, Some, ℤ}
use Rattle.std.proofs.lemmas.Int.{ints, to_z-of_z}
use Rattle.pg_notes.specs.NotesValue.{smallest_by}
use Rattle.pg_style.specs.declared.style.Give.{Give}
use Rattle.pg_column.specs.Passed.{raised}
use Rattle.pg_hops.specs.Needs.{least_by}
use Rattle.pg_hops.specs.View.{view}
use Rattle.pg_hops.proofs.needs.Needs.with.Goals as goal

pub returns : goal.returns
returns c = λ style are.
    let p = view c.args.passed.now in
    let own = to_z-of_z w64 c.minus.result (record { sfits = search rules }) in
    let high = to_z-of_z w64 c.args.noted.now.height (record { sfits = search rules }) in
    let given = ap (λ (g : Give). g.shrink) are.give in
    let smallest : to_z w64 (of_z w64 c.minus.result) ≡ smallest_by style.classes p.notes =
    omega (arith, ints, own, given, c.minus.ensures.value, are.height) in
    record {
      notes = high ∙ are.height;
      give = are.give;
      bound = ap (λ (z : ℤ). raised p.bound (least_by p z)) (sym smallest) ∙ (sym c.bound_with.ensures
          ∙ ap (λ (z : ℤ). Some z) (sym (to_z-of_z w64 c.bound_with.result (record { sfits = search rules }))));
      small = search rules;
      stretch = search rules;
      shrink = search rules;
    }
