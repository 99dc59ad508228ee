use Rattle.std.proofs.Common.{◌≡◌, ◌++◌, ◌+◌, length}
use Rattle.std.specs.List.{flat_map}
use Rattle.pg_scaled.specs.Scaled.{Grows}
use Rattle.pg_rules.specs.Floats.{dealt_from}
use Rattle.pg_pages.specs.Bodies.{body_text}
use Rattle.pg_pages.specs.Printed.{lent}
use Rattle.pg_pages.proofs.areas.print_dealt.Given as goal

abbrev pub invariant-each : goal.invariant-each
invariant-each l = record {
  text : l.out.items ++ flat_map body_text (dealt_from l.slot (lent l.rest) l.before l.counts)
      ≡ l.fn.out.items ++ flat_map body_text (dealt_from 0 (lent l.bodies) l.before l.counts);
  slot : l.slot + length l.rest ≡ length l.bodies;
  grows : Grows l.fn.out.items l.out.items;
}

abbrev pub decreases-each : goal.decreases-each
decreases-each l = length l.rest
