use Rattle.std.proofs.Common.{◌≡◌, ◌∙◌, sym, List, [], subst, true}
use Rattle.std.proofs.lemmas.Result.{IfOk-weaker}
use Rattle.pg_column.specs.Ends.{AreEnds}
use Rattle.pg_rules.specs.Legal.{document}
use Rattle.law_walk.specs.Best.{AreBest}
use Rattle.law_walk.specs.Candidates.{has_text, kept_ends}
use Rattle.pg_candidates.specs.Nears.{needed_in}
use Rattle.pg_candidates.specs.RoomEnds.{ends_of}
use Rattle.pg_candidates.specs.declared.room_end.RoomEnd.{RoomEnd}
use Rattle.pg_candidates.proofs.Needed.{best_of_near}
use Rattle.pg_candidates.proofs.TooLow.{best_none, best_text}
use Rattle.pg_candidates.proofs.near.NearList.room_ends.Goals as goal

pub returns-then-not-has_text-clause-best : goal.returns-then-not-has_text-clause-best
returns-then-not-has_text-clause-best c = λ most gives cs picks right.
    let doc = document c.args.galley.now c.args.style.now in
    let room = c.args.room.now in
    let needed = needed_in room.size cs c.args.self.now.nears in
    subst (λ (es : List RoomEnd). AreBest (kept_ends doc room needed) (ends_of c.args.self.now.picks es))
    (sym c.new.ensures.items)
    (best_none doc room (sym c.has_text.ensures ∙ c.if-not-has_text.true) needed)

pub returns-then-not-has_text-clause-ends : goal.returns-then-not-has_text-clause-ends
returns-then-not-has_text-clause-ends c = λ from top most cs are within upper cands.
    let doc = document c.args.galley.now c.args.style.now in
    let room = c.args.room.now in
    subst (λ (es : List RoomEnd). AreEnds doc from room (ends_of c.args.self.now.picks es)) (sym c.new.ensures.items)
    (c.candidates_give_ends.ensures.one from top room cs [] upper cands
    (best_none doc room (sym c.has_text.ensures ∙ c.if-not-has_text.true) cs))

pub returns-clause-best : goal.returns-clause-best
returns-clause-best c =
    let doc = document c.args.galley.now c.args.style.now in
    let room = c.args.room.now in
    let text : has_text doc.style room ≡ true = sym c.has_text.ensures ∙ c.if-not-has_text.false in
    IfOk-weaker c.text_ends.result _ _ (λ ends best most gives cs picks right.
    best_text doc room text (needed_in room.size cs c.args.self.now.nears) (ends_of c.args.self.now.picks ends.items)
    (best c.args.galley.now most gives cs picks right)) c.text_ends.ensures.best

pub returns-clause-ends : goal.returns-clause-ends
returns-clause-ends c =
    let doc = document c.args.galley.now c.args.style.now in
    let room = c.args.room.now in
    let text : has_text doc.style room ≡ true = sym c.has_text.ensures ∙ c.if-not-has_text.false in
    IfOk-weaker c.text_ends.result _ _ (λ ends best from top most cs are within upper cands.
    let bs = ends_of c.args.self.now.picks ends.items in
    c.candidates_give_ends.ensures.one from top room cs bs upper cands
    (best_text doc room text cs bs
    (best_of_near doc most room cs c.args.self.now bs are within (best c.args.galley.now most within.stretch cs))))
    c.text_ends.ensures.best
