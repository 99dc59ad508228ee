use Rattle.std.proofs.Common.{◌≡◌, ◌≤◌, ◌<◌, ◌+◌, length}
use Rattle.pg_scan.specs.Lines.{raw_lines, joined}
use Rattle.pg_scan.proofs.LineLemmas.{with_rest}
use Rattle.pg_scan.proofs.lines.take_line.Given as goal

abbrev pub invariant-parts : goal.invariant-parts
invariant-parts l = record {
  said : joined l.wrap l.number (raw_lines l.text) ≡ with_rest l.open l.number l.line.items
      (joined l.wrap l.next (raw_lines l.rest));
  count : l.next + length (raw_lines l.rest) ≡ l.number + length (raw_lines l.text);
  shorter : length l.rest < length l.text;
  room : l.next + length l.rest ≤ l.number + length l.text;
}

abbrev pub decreases-parts : goal.decreases-parts
decreases-parts l = length l.rest
