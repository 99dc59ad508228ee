use Rattle.std.proofs.Common.{◌≡◌, ◌++◌, length}
use Rattle.std.specs.Prelude.{ℤ, pos, ◌+ℤ◌, ◌≤ℤ◌}
use Rattle.std.specs.List.{AllByRecursion, flat_map}
use Rattle.law_lines.specs.Variants.{loosenesses}
use Rattle.pg_lines.specs.Answers.{variant_by}
use Rattle.pg_lines.proofs.choice.variants_around.Given as goal

abbrev pub invariant-loosenesses : goal.invariant-loosenesses
invariant-loosenesses l = record {
  variants : l.variants.items ++ flat_map (variant_by l.space.rule.now l.space.items.now l.best.ends.items) l.rest
      ≡ flat_map (variant_by l.space.rule.now l.space.items.now l.best.ends.items)
      (loosenesses l.space.rule.now.around);
  near : AllByRecursion (λ (o : ℤ). (pos (length l.best.ends.items) +ℤ o) ≤ℤ pos l.space.most) l.rest;
}

abbrev pub decreases-loosenesses : goal.decreases-loosenesses
decreases-loosenesses l = length l.rest
