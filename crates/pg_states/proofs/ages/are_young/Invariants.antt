use Rattle.std.proofs.Common.{◌≡◌, ◌≤◌, ◌+◌, map, length, ℕ}
use Rattle.std.specs.List.{range_with_len}
use Rattle.pg_rules.specs.Floats.{distance_table}
use Rattle.law_moves.specs.Ages.{waits_of}
use Rattle.law_moves.specs.StateTest.{young_by}
use Rattle.pg_sources.specs.Document.{doc_of}
use Rattle.pg_states.specs.Parts.{waits_in}
use Rattle.pg_states.proofs.ages.are_young.Given as goal

abbrev pub invariant-slots : goal.invariant-slots
invariant-slots l = (young_by (λ (slot : ℕ). length (distance_table (doc_of l.sources).style slot)) l.slot
    (map (waits_in (doc_of l.sources) l.state) (range_with_len l.slot l.left)) l.rest
    ≡ young_by (λ (slot : ℕ). length (distance_table (doc_of l.sources).style slot)) 0
    (waits_of (doc_of l.sources) l.state) l.state.ages) × (l.slot + l.left ≤ 8)

abbrev pub decreases-slots : goal.decreases-slots
decreases-slots l = l.left
