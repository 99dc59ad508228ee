use Rattle.std.proofs.Common.{◌<◌, ◌≡◌, ◌∙◌, List, ap, length, map, subst, sym, ℕ}
use Rattle.std.proofs.lemmas.Result.{IfOk-weaker}
use Rattle.law_walk.specs.Best.{IsAmong}
use Rattle.pg_candidates.specs.Groups.{indices_in}
use Rattle.pg_candidates.specs.declared.order.Ranked.{Ranked}
use Rattle.pg_candidates.proofs.order.in_order.Goals as goal

pub returns : goal.returns
returns c =
    let at = λ (it : Ranked). it.at in
    IfOk-weaker c.joined.result (λ order. map at order.items ≡ indices_in c.as_slice.result.now)
    (λ order. (i : ℕ) → i < length c.args.candidates.now → IsAmong i (map at order.items))
    (λ order all i less. subst (λ (is : List ℕ). IsAmong i is)
    (sym (all ∙ ap indices_in c.as_slice.ensures.value)) (c.in_ok-groups.ensures i less)) c.joined.ensures
