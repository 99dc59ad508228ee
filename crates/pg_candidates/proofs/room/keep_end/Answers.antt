use Rattle.std.proofs.Common.{◌≡◌, ◌∙◌, Bool, ap, map, rc_value, subst, sym}
use Rattle.std.specs.Prelude.{◌||◌, nat_le}
use Rattle.pg_candidates.specs.Nears.{NearValue}
use Rattle.std.proofs.lemmas.Result.{on_ok_weaker}
use Rattle.pg_rules.specs.Legal.{document}
use Rattle.pg_candidates.specs.RoomEnds.{end_of, ends_of}
use Rattle.pg_candidates.specs.declared.room_end.RoomEnd.{RoomEnd}
use Rattle.law_walk.specs.Best.{insert_end}
use Rattle.pg_candidates.proofs.Nears.{best_kept, best_refused}
use Rattle.pg_candidates.proofs.room.keep_end.Goals as goal

pub returns-then-not-is_tolerable : goal.returns-then-not-is_tolerable
returns-then-not-is_tolerable c = λ g most gives cs it there is best.
    let doc = document g c.args.style.now in
    let ps = map rc_value c.args.listed.now in
    best_refused doc most c.args.room.now it c.args.near.now is c.cost_of-cost.result
    (c.cost_of-cost.ensures most gives is.worst) cs ps there (ends_of ps c.args.ends.now.items) best
    c.requires.high (ap (λ (b : Bool). b || nat_le c.cost_of-cost.result.badness c.args.style.now.tolerance)
    (sym (ap (λ (n : NearValue). n.kind.is_forced) c.near.view_is)) ∙ (sym c.is_tolerable.ensures ∙ c.if-not-is_tolerable.true))

pub returns : goal.returns
returns c = on_ok_weaker c.keep_best.result (λ added g most gives cs it there is best.
    let doc = document g c.args.style.now in
    let ps = map rc_value c.args.listed.now in
    best_kept doc most c.args.room.now it c.args.near.now is c.cost_of-cost.result
    (c.cost_of-cost.ensures most gives is.worst) cs ps there (ends_of ps c.args.ends.now.items) best
    c.requires.high (ap (λ (b : Bool). b || nat_le c.cost_of-cost.result.badness c.args.style.now.tolerance)
    (sym (ap (λ (n : NearValue). n.kind.is_forced) c.near.view_is)) ∙ (sym c.is_tolerable.ensures ∙ c.if-not-is_tolerable.false))
    (ends_of ps c.keep_best.new.ends.items)
    (subst (λ (end : RoomEnd). ends_of ps c.keep_best.new.ends.items
    ≡ insert_end (end_of ps end) (ends_of ps c.args.ends.now.items)) c.end_with.ensures (added best.ascend)))
    c.keep_best.ensures
