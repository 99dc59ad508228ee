use Rattle.std.proofs.Common.{◌<◌, List, ap, inl, length, subst, sym}
use Rattle.pg_candidates.specs.Groups.{IsAdded, indices_in}
use Rattle.pg_candidates.specs.declared.order.Group.{Group}
use Rattle.pg_candidates.specs.declared.order.Ranked.{Ranked}
use Rattle.pg_candidates.proofs.Ordered.{added_in, added_new}
use Rattle.pg_candidates.proofs.order.add.Goals as goal

pub returns-then-is_there : goal.returns-then-is_there
returns-then-is_there c =
    let at = c.count_before-at.result in
    added_in c.args.groups.now.items at c.args.it.at c.index_mut.result.now c.add_to.new.group
    (subst (λ (groups : List Group). at < length groups) c.as_slice-2.ensures.value (c.is_there.ensures c.if-is_there.true))
    c.index_mut.ensures.value c.in_ok-add_to.ensures

pub returns : goal.returns
returns c =
    let old = c.args.groups.now.items in
    subst (λ (groups : List Group). IsAdded c.args.it.at (indices_in old) (indices_in groups))
    (sym c.in_ok-put_behind.ensures)
    (added_new old c.count_before-at.result c.args.it.at c.group_of.result
    (inl (ap (λ (it : Ranked). it.at) c.group_of.ensures)))
