use Rattle.std.proofs.Common.{◌≡◌, ◌∙◌, ◌∷◌, [], map, rc_value, sym, arith, ◌<ℤ◌}
use Rattle.std.proofs.lemmas.Int.{ints}
use Rattle.std.proofs.lemmas.Result.{on_ok_weaker}
use Rattle.pg_column.specs.Numbers.{most_room}
use Rattle.pg_rules.specs.Legal.{document}
use Rattle.pg_candidates.specs.RoomEnds.{ends_of}
use Rattle.pg_candidates.proofs.Needed.{in_room, not_in_room}
use Rattle.pg_candidates.proofs.Nears.{best_same, best_with}
use Rattle.pg_candidates.proofs.TooLow.{best_below}
use Rattle.pg_candidates.proofs.room.keep_near.Goals as goal

pub returns-then-is_too_low : goal.returns-then-is_too_low
returns-then-is_too_low c = λ g most gives cs ds picks is best.
    let low : most_room c.args.room.now <ℤ c.args.near.now.least =
    grind (arith, ints, c.is_too_low.ensures, c.if-is_too_low.true) in
    best_below (document g c.args.style.now) most c.args.room.now cs ds c.args.near.now
    (ends_of (map rc_value c.args.listed.now) c.args.ends.now.items) low is best

pub returns-then-not-is_needed : goal.returns-then-not-is_needed
returns-then-not-is_needed c = λ g most gives cs ds picks is.
    let doc = document g c.args.style.now in
    let room = c.args.room.now in
    let olds = ends_of (map rc_value c.args.listed.now) c.args.ends.now.items in
    best_with doc room cs ds [] c.args.near.now olds olds
    (not_in_room room.size ds c.args.near.now (sym c.is_needed.ensures ∙ c.if-not-is_needed.true))
    (best_same doc room cs olds)

pub returns : goal.returns
returns c = on_ok_weaker c.keep_end.result (λ added g most gives cs ds picks is.
    let doc = document g c.args.style.now in
    let room = c.args.room.now in
    let ps = map rc_value c.args.listed.now in
    best_with doc room cs ds (is.candidate ∷ []) c.args.near.now (ends_of ps c.args.ends.now.items)
    (ends_of ps c.keep_end.new.ends.items)
    (in_room room.size ds c.args.near.now is.candidate (sym c.is_needed.ensures ∙ c.if-not-is_needed.false) is.there)
    (added g most gives cs is.candidate (picks c.args.near.now.at is.candidate is.there) is.is))
    c.keep_end.ensures
