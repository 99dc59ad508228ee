use Rattle.std.proofs.Common.{List, length, map, subst}
use Rattle.std.proofs.lemmas.Result.{IfOk-weaker}
use Rattle.pg_rules.specs.Legal.{document}
use Rattle.pg_candidates.specs.Seen.{AreServed, AreServedBefore}
use Rattle.pg_candidates.specs.View.{candidate_of}
use Rattle.pg_candidates.specs.declared.order.Ranked.{Ranked}
use Rattle.pg_candidates.proofs.making.nears_of.Goals as goal

pub returns : goal.returns
returns c =
    let at = λ (it : Ranked). it.at in
    let doc = document c.args.galley.now c.args.style.now in
    let most = c.args.most.now.stretch in
    let cs = map candidate_of c.args.candidates.now in
    IfOk-weaker c.nears_in.result (λ nears. AreServed doc most cs (map at c.as_slice.result.now) nears.items)
    (λ nears. AreServedBefore doc most cs (length c.args.candidates.now) nears.items)
    (λ nears are. record {
      seen = map at c.in_ok-order.order.items;
      all = c.in_ok-order.ensures;
      are = subst (λ (its : List Ranked). AreServed doc most cs (map at its) nears.items) c.as_slice.ensures.value are;
    }) c.nears_in.ensures
