use Rattle.std.proofs.Common.{refl, sym, subst, ◌∙◌, ◌+◌, ◌++◌, rules, arith, List, get_or}
use Rattle.std.proofs.lemmas.List.{take_rest}
use Rattle.std.proofs.lemmas.Result.{IfOk-weaker, IfOk-from_err}
use Rattle.pg_sources.specs.Document.{doc_of}
use Rattle.pg_rooms.specs.PlaceEnds.{AreGroups}
use Rattle.pg_rooms.specs.declared.grouping.Group.{Group}
use Rattle.pg_rooms.proofs.Called.{all_like}
use Rattle.pg_rooms.proofs.Grouped.{all_grouped, no_end, one_group, split_read, still_few}
use Rattle.pg_rooms.proofs.grouping.group_ends.Goals as goal

pub group_all-requires-clause-classes : goal.group_all-requires-clause-classes
group_all-requires-clause-classes c = sym c.slots.ensures.value ∙ c.has_no_class.ensures c.if-has_no_class.true

pub returns-then-has_no_class-clause-groups : goal.returns-then-has_no_class-clause-groups
returns-then-has_no_class-clause-groups c = IfOk-weaker c.group_all.result _ _ (λ groups are kept. are) c.group_all.ensures

pub returns-then-has_no_class-clause-calls : goal.returns-then-has_no_class-clause-calls
returns-then-has_no_class-clause-calls c = IfOk-weaker c.group_all.result _ _ (λ groups are kept. kept) c.group_all.ensures

pub groups-init : goal.groups-init
groups-init c = record {
  groups = λ all more g. subst (λ (found : List Group). AreGroups (doc_of c.args.sources.now) (found ++ more)
      c.args.ends.now) (sym c.requires) g;
  calls = λ all. all;
  few = search rules;
}

pub groups-preserved : goal.groups-preserved
groups-preserved c = record {
  groups = λ all.
      let calls = c.groups.invariant.calls all in
      one_group (doc_of c.args.sources.now) c.groups.groups.items c.push.new.self.items c.args.ends.now
      c.groups.rest.now _ _ (get_or c.groups.rest.now 0 no_end)
      (record { before = c.in_ok-before.before; count = c.in_ok-more.more + 1 }) c.in_ok-more.more
      (c.groups.invariant.groups all) (split_read c.groups.rest.now no_end (search rules))
      refl (c.in_ok-before.ensures ∙ (c.in_ok-like.ensures.like calls).same)
      (all_like (doc_of c.args.sources.now) _ _ _ c.in_ok-before.ensures
      (c.in_ok-more.ensures.same (c.in_ok-like.ensures.calls calls)))
      (search rules) (take_rest _ c.in_ok-more.more);
  calls = λ all. c.in_ok-more.ensures.calls (c.in_ok-like.ensures.calls (c.groups.invariant.calls all));
  few = still_few c.args.ends.now c.groups.rest.now _ _ (get_or c.groups.rest.now 0 no_end) c.in_ok-more.more
      (split_read c.groups.rest.now no_end (search rules))
      (take_rest _ c.in_ok-more.more) c.groups.invariant.few;
}

pub returns-clause-groups : goal.returns-clause-groups
returns-clause-groups c = λ all.
    let below = c.in_default.len_below in
    all_grouped (doc_of c.args.sources.now) c.groups.groups.items c.args.ends.now c.groups.rest.now
    (c.groups.invariant.groups all) (omega (arith, below))

pub returns-clause-calls : goal.returns-clause-calls
returns-clause-calls c = λ all. c.groups.invariant.calls all

pub count_same-requires : goal.count_same-requires
count_same-requires c = c.in_ok-before.ensures

pub group_all-requires-clause-none : goal.group_all-requires-clause-none
group_all-requires-clause-none c = c.requires

pub returns-in_err-like-clause-groups : goal.returns-in_err-like-clause-groups
returns-in_err-like-clause-groups c = IfOk-from_err c.from_residual.result _ c.from_residual.ensures.0

pub returns-in_err-like-clause-calls : goal.returns-in_err-like-clause-calls
returns-in_err-like-clause-calls c = IfOk-from_err c.from_residual.result _ c.from_residual.ensures.0

pub returns-in_err-before-clause-groups : goal.returns-in_err-before-clause-groups
returns-in_err-before-clause-groups c =
    IfOk-from_err c.from_residual-in_err-before.result _ c.from_residual-in_err-before.ensures.0

pub returns-in_err-before-clause-calls : goal.returns-in_err-before-clause-calls
returns-in_err-before-clause-calls c =
    IfOk-from_err c.from_residual-in_err-before.result _ c.from_residual-in_err-before.ensures.0

pub returns-in_err-more-clause-groups : goal.returns-in_err-more-clause-groups
returns-in_err-more-clause-groups c =
    IfOk-from_err c.from_residual-in_err-more.result _ c.from_residual-in_err-more.ensures.0

pub returns-in_err-more-clause-calls : goal.returns-in_err-more-clause-calls
returns-in_err-more-clause-calls c =
    IfOk-from_err c.from_residual-in_err-more.result _ c.from_residual-in_err-more.ensures.0

pub returns-in_err-push-clause-groups : goal.returns-in_err-push-clause-groups
returns-in_err-push-clause-groups c =
    IfOk-from_err c.from_residual-in_err-push.result _ c.from_residual-in_err-push.ensures.0

pub returns-in_err-push-clause-calls : goal.returns-in_err-push-clause-calls
returns-in_err-push-clause-calls c =
    IfOk-from_err c.from_residual-in_err-push.result _ c.from_residual-in_err-push.ensures.0
