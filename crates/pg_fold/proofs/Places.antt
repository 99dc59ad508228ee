-- The places of a side's cells in the reading of their sheet.
use Rattle.std.specs.Prelude.{ℕ, ◌^◌, List, map}
use Rattle.std.specs.List.{range_with_len}
use Rattle.pg_fold.specs.Imposed.{sheet_place}
use Rattle.pg_fold.specs.declared.face.Side.{Side}

abbrev pub places : ℕ → Side → List ℕ
places folds side = map (sheet_place folds side) (range_with_len 0 (2 ^ folds))
