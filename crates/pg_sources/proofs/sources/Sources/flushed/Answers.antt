use Rattle.std.proofs.Common.{rules, ◌≡◌, ◌∙◌, ap, [], length, map, ℕ}
use Rattle.std.specs.List.{range_with_len}
use Rattle.pg_rules.specs.Floats.{entry, float_numbers, flushed}
use Rattle.pg_layouts.proofs.OneMore.{map_next}
use Rattle.pg_sources.proofs.CalledFew.{flushed_long, entries_are}
use Rattle.pg_sources.proofs.sources.Sources.flushed.Goals as goal

pub loop-slot-preserved : goal.loop-slot-preserved
loop-slot-preserved c = map_next (λ (slot : ℕ). entry (flushed c.args.self.now.galley.now.blocks
    c.args.self.now.style.now c.args.block) slot) [] c.loop-slot.counts c.push.new.self c.loop-slot.slot
    c.flushed_at.result c.loop-slot.invariant (search rules) c.flushed_at.ensures

pub returns : goal.returns
returns c =
    let e : c.loop-slot.slot ≡ length (float_numbers c.args.self.now.style.now) = search rules in
    c.loop-slot.invariant
    ∙ (ap (λ (n : ℕ). map (λ (slot : ℕ). entry (flushed c.args.self.now.galley.now.blocks c.args.self.now.style.now
    c.args.block) slot) (range_with_len 0 n)) e
    ∙ entries_are (flushed c.args.self.now.galley.now.blocks c.args.self.now.style.now c.args.block) _
    (flushed_long c.args.self.now.galley.now.blocks c.args.self.now.style.now c.args.block))
