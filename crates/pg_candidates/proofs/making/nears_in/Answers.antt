use Rattle.std.proofs.Common.{ap, ◌∙◌, [], ◌∷◌, List, map, subst, sym, take, ℕ, pos}
use Rattle.std.proofs.lemmas.List.{map-append, take_all}
use Rattle.pg_rules.specs.Legal.{document}
use Rattle.pg_candidates.specs.Seen.{AreSeen, AreServed}
use Rattle.pg_candidates.specs.View.{candidate_of}
use Rattle.pg_candidates.specs.declared.order.Ranked.{Ranked}
use Rattle.pg_candidates.proofs.Needed.{next_at}
use Rattle.pg_candidates.proofs.making.nears_in.Goals as goal

pub each-preserved : goal.each-preserved
each-preserved c =
    let at = λ (it : Ranked). it.at in
    let done = take c.each.it-index c.args.order.now in
    record {
      seen = subst (λ (is : List ℕ). AreSeen (document c.args.galley.now c.args.style.now)
          c.args.most.now.stretch
          (map candidate_of c.args.candidates.now) is c.add_near.new.made.first c.add_near.new.made.nears.items)
          (sym (ap (map at) (next_at c.args.order.now c.each.it-index
          (record { rank = 0; pick_demerits = pos 0; at = 0 }) c.each-test.true)
          ∙ map-append at done (_ ∷ [])))
          (c.in_ok-add_near.ensures (map at done) c.each.invariant.seen);
    }

pub returns : goal.returns
returns c =
    subst (λ (its : List Ranked). AreServed (document c.args.galley.now c.args.style.now)
    c.args.most.now.stretch
    (map candidate_of c.args.candidates.now) (map (λ (it : Ranked). it.at) its) c.each.made.nears.items)
    (take_all c.each.it-index c.args.order.now c.each-test.false) c.each.invariant.seen.served
