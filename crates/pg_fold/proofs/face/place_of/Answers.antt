use Rattle.std.proofs.Common.{arith}
use Rattle.pg_fold.proofs.FacePlaces.{height_small, place_small}
use Rattle.pg_fold.proofs.face.place_of.Goals as goal

pub fold_across-face-requires-clause-height : goal.fold_across-face-requires-clause-height
fold_across-face-requires-clause-height c =
    height_small c.loop-n.n c.args.folds c.args.side c.args.cell c.loop-n.face c.loop-n.invariant
    (omega (arith, c.loop-n-test.true, c.requires))

pub fold_across-face-requires-clause-place : goal.fold_across-face-requires-clause-place
fold_across-face-requires-clause-place c =
    place_small c.loop-n.n c.args.folds c.args.side c.args.cell c.loop-n.face c.loop-n.invariant

pub fold_upwards-face-requires-clause-height : goal.fold_upwards-face-requires-clause-height
fold_upwards-face-requires-clause-height c =
    height_small c.loop-n.n c.args.folds c.args.side c.args.cell c.loop-n.face c.loop-n.invariant
    (omega (arith, c.loop-n-test.true, c.requires))

pub fold_upwards-face-requires-clause-place : goal.fold_upwards-face-requires-clause-place
fold_upwards-face-requires-clause-place c =
    place_small c.loop-n.n c.args.folds c.args.side c.args.cell c.loop-n.face c.loop-n.invariant
