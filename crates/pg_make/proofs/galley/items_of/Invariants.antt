use Rattle.std.proofs.Common.{◌≡◌}
use Rattle.std.specs.List.{flat_map, range_with_len}
use Rattle.pg_make.specs.Generated.{made_line}
use Rattle.pg_make.proofs.galley.items_of.Given as goal

abbrev pub invariant-lines : goal.invariant-lines
invariant-lines l = l.items ≡ flat_map (made_line l.paragraph l.count) (range_with_len 1 l.line)
