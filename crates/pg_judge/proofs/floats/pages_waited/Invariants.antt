use Rattle.std.proofs.Common.{◌≡◌, ◌+◌, ◌-◌, ◌≤◌, length}
use Rattle.std.specs.Prelude.{reverse}
use Rattle.pg_list.specs.declared.galley.Place.{Place}
use Rattle.pg_rules.specs.History.{is_called}
use Rattle.pg_judge.specs.Bases.{doc_of}
use Rattle.pg_judge.specs.Waits.{waits_in}
use Rattle.pg_judge.proofs.floats.pages_waited.Given as goal

abbrev pub invariant-turns : goal.invariant-turns
invariant-turns l = record {
  few : l.left ≤ l.limit;
  shorter : length l.rest ≤ length l.turns;
  same : (l.limit - l.left) + waits_in (λ (turn : Place). is_called (doc_of l.basis) turn (l.slot, l.number))
      l.left (reverse l.rest)
      ≡ waits_in (λ (turn : Place). is_called (doc_of l.basis) turn (l.slot, l.number)) l.limit
      (reverse l.turns);
}

abbrev pub decreases-turns : goal.decreases-turns
decreases-turns l = length l.rest
