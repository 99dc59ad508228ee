use Rattle.std.proofs.Common.{◌≡◌, ◌∙◌, ◌<◌, ◌^◌, sym, subst, arith, rules, ℤ, List, to_z, of_z, w64}
use Rattle.std.specs.Prelude.{nat_abs}
use Rattle.std.proofs.lemmas.Int.{to_z-of_z}
use Rattle.pg_list.specs.declared.item.Item.{Item}
use Rattle.pg_greedy.specs.FirstFit.{AreFirstFit}
use Rattle.pg_greedy.proofs.Singles.{flat_single, no_choice}
use Rattle.pg_greedy.proofs.builder.first_fit.Goals as goal

pub pages_of-requires : goal.pages_of-requires
pages_of-requires c =
    let same : to_z w64 (of_z w64 c.full_height.result) ≡ c.full_height.result =
    to_z-of_z w64 c.full_height.result (record { sfits = search rules }) in
    record {
      single = no_choice c.args.style.now c.args.galley.now.blocks (sym c.find_fault.ensures ∙ c.in_default.is);
      room = same ∙ c.full_height.ensures.value;
      small = subst (λ (z : ℤ). nat_abs z < 2 ^ 40) (sym same)
          (let size = c.full_height.ensures.size in omega (arith, size));
    }

pub returns-in-Ok-clause-fit : goal.returns-in-Ok-clause-fit
returns-in-Ok-clause-fit c =
    let single = no_choice c.args.style.now c.args.galley.now.blocks (sym c.find_fault.ensures ∙ c.in_default.is) in
    subst (λ (items : List Item). AreFirstFit c.args.style.now items 0 c.in-Ok.pages)
    (sym (flat_single c.args.galley.now.blocks single)) c.in-Ok.ensures
