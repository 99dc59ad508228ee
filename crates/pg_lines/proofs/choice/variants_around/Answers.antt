use Rattle.std.proofs.Common.{◌∙◌, ◌++◌, ◌-◌, ap, sym, arith, length, List, rules, drop, w32}
use Rattle.std.specs.Prelude.{ℤ, pos, get_or}
use Rattle.std.specs.List.{flat_map}
use Rattle.std.proofs.lemmas.Int.{to_z-of_z}
use Rattle.pg_lemmas.proofs.Lists.{all_drop, all_take, no_items}
use Rattle.pg_list.specs.declared.variants.Variant.{Variant}
use Rattle.pg_lines.specs.Answers.{variant_by}
use Rattle.pg_lines.proofs.Found.{all_around, near_of, one_further}
use Rattle.pg_lines.proofs.choice.variants_around.Goals as goal

pub loosenesses-init : goal.loosenesses-init
loosenesses-init c =
    let by = variant_by c.args.space.now.rule.now c.args.space.now.items.now c.args.best.now.ends.items in
    record {
      variants = ap (λ (vs : List Variant). vs ++ flat_map by c.loosenesses-rest.result.now)
          c.new-variants.ensures.items
          ∙ ap (flat_map by) c.loosenesses-rest.ensures;
      near = near_of (length c.args.best.now.ends.items) c.args.space.now.rule.now.around c.args.space.now.most
          c.loosenesses-rest.result.now c.loosenesses-rest.ensures c.requires.rule.around c.requires.most;
    }

pub loosenesses-preserved : goal.loosenesses-preserved
loosenesses-preserved c =
    let by = variant_by c.args.space.now.rule.now c.args.space.now.items.now c.args.best.now.ends.items in
    let rest = c.loosenesses.rest.now in
    let same = to_z-of_z w32 (get_or rest 0 (pos 0)) (record { sfits = search rules }) in
    record {
      variants = one_further by rest (pos 0) c.loosenesses.variants.items c.push_variant.new.variants.items _
          c.in-len1-up.len_at_least
          (c.in_ok-push_variant.ensures ∙ ap (λ (o : ℤ). c.loosenesses.variants.items ++ by o) same)
          c.loosenesses.invariant.variants;
      near = all_take _ (length rest - 1) (drop 1 rest) (all_drop _ 1 rest c.loosenesses.invariant.near);
    }

pub returns : goal.returns
returns c =
    let by = variant_by c.args.space.now.rule.now c.args.space.now.items.now c.args.best.now.ends.items in
    all_around c.args.space.now.rule.now c.args.space.now.items.now c.args.best.now.ends.items
    c.loosenesses.variants.items c.requires.best
    (ap (λ (os : List ℤ). c.loosenesses.variants.items ++ flat_map by os)
    (sym (no_items c.loosenesses.rest.now (omega (arith, c.in_default.len_below)))) ∙ c.loosenesses.invariant.variants)
