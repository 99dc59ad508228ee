use Rattle.std.proofs.Common.{◌≡◌, ◌∙◌, ap, List, map, rc_value, subst, sym, ℕ}
use Rattle.std.proofs.lemmas.Result.{IfOk-weaker}
use Rattle.pg_column.specs.Ends.{AreEnds}
use Rattle.pg_rules.specs.Legal.{document}
use Rattle.law_walk.specs.Best.{AreBest}
use Rattle.law_walk.specs.Candidates.{kept_ends}
use Rattle.pg_candidates.specs.Nears.{NearsValue, needed_in}
use Rattle.pg_candidates.specs.RoomEnds.{ends_of}
use Rattle.pg_candidates.proofs.near.NearList.ends_in.Goals as goal

pub returns-clause-best : goal.returns-clause-best
returns-clause-best c =
    let same : map rc_value c.as_slice.result.now ≡ c.args.self.now.picks =
    ap (map rc_value) c.as_slice.ensures.value ∙ ap (λ (v : NearsValue). v.picks) c.self.view_is in
    let all = ap (λ (ps : List (List ℕ)). ends_of ps c.as_slice-2.result.now) same
    ∙ ap (ends_of c.args.self.now.picks) c.as_slice-2.ensures.value in
    IfOk-weaker c.all_with_picks.result _ _ (λ ends is most gives cs picks right.
    subst (AreBest (kept_ends (document c.args.galley.now c.args.style.now) c.args.room.now
    (needed_in c.args.room.now.size cs c.args.self.now.nears))) (sym (is ∙ all))
    (c.in_ok-ends.ensures.best most gives cs picks right)) c.all_with_picks.ensures

pub returns-clause-ends : goal.returns-clause-ends
returns-clause-ends c =
    let same : map rc_value c.as_slice.result.now ≡ c.args.self.now.picks =
    ap (map rc_value) c.as_slice.ensures.value ∙ ap (λ (v : NearsValue). v.picks) c.self.view_is in
    let all = ap (λ (ps : List (List ℕ)). ends_of ps c.as_slice-2.result.now) same
    ∙ ap (ends_of c.args.self.now.picks) c.as_slice-2.ensures.value in
    IfOk-weaker c.all_with_picks.result _ _ (λ ends is from top most cs are within upper cands.
    subst (AreEnds (document c.args.galley.now c.args.style.now) from c.args.room.now) (sym (is ∙ all))
    (c.in_ok-ends.ensures.ends from top most cs are within upper cands)) c.all_with_picks.ensures
