use Rattle.std.proofs.Common.{◌≡◌, ◌≤◌, ◌*◌, ◌^◌, map}
use Rattle.std.specs.List.{range_with_len}
use Rattle.pg_rules.specs.Floats.{total_count}
use Rattle.pg_sources.specs.Document.{doc_of}
use Rattle.pg_states.specs.Parts.{waits_in}
use Rattle.pg_states.proofs.ages.count_all_waiting.Given as goal

abbrev pub invariant-loop-slot : goal.invariant-loop-slot
invariant-loop-slot l = (l.count ≡ total_count (map (waits_in (doc_of l.sources) l.state) (range_with_len 0 l.slot)))
    × (l.count ≤ 2 ^ 16 * l.slot)
