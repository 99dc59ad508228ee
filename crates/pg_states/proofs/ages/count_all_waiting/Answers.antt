use Rattle.std.proofs.Common.{rules, arith, ◌≡◌, ◌∙◌, ap, map, length, ℕ}
use Rattle.std.specs.List.{range_with_len}
use Rattle.pg_rules.specs.Floats.{float_numbers, total_count}
use Rattle.pg_sources.specs.Document.{doc_of}
use Rattle.pg_states.specs.Parts.{waits_in}
use Rattle.pg_states.proofs.Sums.{total_next}
use Rattle.pg_states.proofs.ages.count_all_waiting.Goals as goal

pub loop-slot-preserved : goal.loop-slot-preserved
loop-slot-preserved c = (
  total_next (waits_in (doc_of c.args.sources.now) c.args.state.now) c.loop-slot.slot c.loop-slot.count
      c.count_waiting-count.result c.loop-slot.invariant.0 c.count_waiting-count.ensures.value,
  omega (arith, c.loop-slot.invariant.1, c.count_waiting-count.ensures.few),
)

pub returns : goal.returns
returns c =
    let e : c.loop-slot.slot ≡ length (float_numbers c.args.sources.now.style.now) = search rules in
    c.loop-slot.invariant.0 ∙ ap (λ (n : ℕ). total_count (map (waits_in (doc_of c.args.sources.now) c.args.state.now)
    (range_with_len 0 n))) e
