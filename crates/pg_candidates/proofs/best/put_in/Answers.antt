use Rattle.std.proofs.Common.{◌∙◌, ap, map, rc_value, refl, sym}
use Rattle.pg_candidates.specs.RoomEnds.{ends_of}
use Rattle.pg_candidates.specs.declared.best.Spot.TheVariants.{Before, Instead, Nowhere}
use Rattle.pg_candidates.proofs.Putting.{put_found}
use Rattle.pg_candidates.proofs.best.put_in.Goals as goal

pub returns-in_ok-put_behind-in-Before : goal.returns-in_ok-put_behind-in-Before
returns-in_ok-put_behind-in-Before c = λ order.
    let ps = map rc_value c.args.listed.now in
    let old = c.args.ends.now.items in
    ap (ends_of ps) c.in_ok-put_behind-in-Before.ensures
    ∙ put_found ps c.args.end old old c.as_slice.result.now c.args.at
    Before order refl c.as_slice.ensures.value c.requires.within c.requires.point (sym c.in-Before.is ∙ c.spot_at.ensures)

pub returns-in-Instead : goal.returns-in-Instead
returns-in-Instead c = λ order.
    let ps = map rc_value c.args.listed.now in
    let old = c.args.ends.now.items in
    put_found ps c.args.end old old c.as_slice.result.now c.args.at
    Instead order refl c.as_slice.ensures.value c.requires.within c.requires.point (sym c.in-Instead.is ∙ c.spot_at.ensures)

pub returns-in-Nowhere : goal.returns-in-Nowhere
returns-in-Nowhere c = λ order.
    let ps = map rc_value c.args.listed.now in
    let old = c.args.ends.now.items in
    put_found ps c.args.end old old c.as_slice.result.now c.args.at
    Nowhere order refl c.as_slice.ensures.value c.requires.within c.requires.point (sym c.in-Nowhere.is ∙ c.spot_at.ensures)
