use Rattle.pg_cover.proofs.Remembered.{covered_spared}
use Rattle.pg_cover.proofs.Spared.{unwanted_spared}
use Rattle.pg_cover.proofs.covering.CoveringWants.wants.Goals as goal

pub returns : goal.returns
returns g c = λ h. covered_spared _ _ _ _ _
    (unwanted_spared _ _ _ c.args.self.now.cost c.args.cost c.is_outdone.result
    (record { sfits = c.ranges.cost.sfits }) c.is_outdone.ensures h)
