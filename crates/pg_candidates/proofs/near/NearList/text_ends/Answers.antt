use Rattle.std.proofs.Common.{◌≡◌, ◌∙◌, ap, List, map, rc_value, subst, sym, take, ◌+◌, ℕ}
use Rattle.std.proofs.lemmas.List.{take_all}
use Rattle.pg_lemmas.proofs.Lists.{one_more}
use Rattle.pg_rules.specs.Legal.{document}
use Rattle.law_walk.specs.Best.{AreBest}
use Rattle.law_walk.specs.Candidates.{text_ends}
use Rattle.pg_candidates.specs.Nears.{ArePicks, NearsValue, needed_in}
use Rattle.pg_candidates.specs.RoomEnds.{ends_of}
use Rattle.pg_candidates.proofs.Nears.{best_near, best_of_all}
use Rattle.pg_candidates.proofs.near.NearList.text_ends.Goals as goal

pub each-preserved : goal.each-preserved
each-preserved c =
    let ps = map rc_value c.as_slice-listed.result.now in
    let items = c.as_slice-near-items.result.now in
    let i = c.each.near-index in
    let room = c.args.room.now in
    record {
      best = λ g most gives cs picks.
          best_near (document g c.args.style.now) most room cs (take (i + 1) items) (take i items) c.near-item.result
          (ends_of ps c.each.ends.items) (ends_of ps c.keep_near.new.ends.items)
          (one_more items i c.near-item.result c.each-test.true c.near-item.is) (c.each.invariant.best g most gives cs picks)
          (c.in_ok-keep_near.ensures g most gives (needed_in room.size cs (take i items)) cs picks);
    }

pub returns : goal.returns
returns c =
    let room = c.args.room.now in
    let same : map rc_value c.as_slice-listed.result.now ≡ c.args.self.now.picks =
    ap (map rc_value) c.as_slice-listed.ensures.value ∙ ap (λ (v : NearsValue). v.picks) c.self.view_is in
    let nears = c.args.self.now.nears in
    record {
      best = λ g most gives cs picks right.
          let doc = document g c.args.style.now in
          subst (λ (ps : List (List ℕ)). AreBest (text_ends doc room (needed_in room.size cs nears)) (ends_of ps c.each.ends.items))
          same
          (best_of_all doc most room cs nears _
          (take_all c.each.near-index c.as_slice-near-items.result.now c.each-test.false
          ∙ c.as_slice-near-items.ensures.value ∙ ap (λ (v : NearsValue). v.nears) c.self.view_is)
          (ends_of (map rc_value c.as_slice-listed.result.now) c.each.ends.items)
          (c.each.invariant.best g most gives cs (subst (ArePicks cs) (sym same) picks)) right);
    }
