use Rattle.std.proofs.Common.{◌≡◌}
use Rattle.std.specs.List.{flat_map, range_with_len}
use Rattle.pg_fold.specs.Imposed.{layout_of, signature_of}
use Rattle.pg_fold.proofs.layout.impose.Given as goal

abbrev pub invariant-loop-signature : goal.invariant-loop-signature
invariant-loop-signature l =
    l.sheets ≡ flat_map (signature_of (layout_of l.fn.folds l.fn.nest l.fn.pages)) (range_with_len 0 l.signature)
