use Rattle.std.proofs.lemmas.Bool.{not-false}
use Rattle.pg_table.proofs.Remembered.{low_spared}
use Rattle.pg_table.proofs.wanting.WantingWants.wants.Goals as goal

pub returns : goal.returns
returns g c = λ h. low_spared _ c.args.self.now.below _ _ _
    (c.is_below.ensures.yes (not-false c.is_below.result h))
