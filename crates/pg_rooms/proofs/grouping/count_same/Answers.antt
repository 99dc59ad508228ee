use Rattle.std.proofs.Common.{◌+◌, sym, ap, subst, take, ℕ, refl, get_or}
use Rattle.std.specs.List.{AllByRecursion}
use Rattle.pg_candidates.specs.declared.room_end.RoomEnd.{RoomEnd}
use Rattle.pg_list.specs.declared.galley.Place.{Place}
use Rattle.pg_sources.specs.Document.{doc_of}
use Rattle.pg_rooms.specs.Calls.{IsLike}
use Rattle.pg_rooms.proofs.Grouped.{all_next, no_end}
use Rattle.std.proofs.lemmas.Result.{IfOk-from_err}
use Rattle.pg_rooms.proofs.grouping.count_same.Goals as goal

pub loop-end-init : goal.loop-end-init
loop-end-init c = record { same = λ all. tt; calls = λ all. all; count = refl }

pub loop-end-preserved : goal.loop-end-preserved
loop-end-preserved c = record {
  same = λ all. all_next (λ (end : RoomEnd). IsLike (doc_of c.args.sources.now) c.args.like end.to) c.args.ends.now
      c.loop-end.end-index no_end c.loop-end-test.true (c.loop-end.invariant.same all)
      (subst (λ (at : Place).
      IsLike (doc_of c.args.sources.now) at (get_or c.args.ends.now c.loop-end.end-index no_end).to)
      (sym (c.is_same.ensures c.if-not-is_same.false)) (c.in_ok-its.ensures.like (c.loop-end.invariant.calls all)));
  calls = λ all. c.in_ok-its.ensures.calls (c.loop-end.invariant.calls all);
  count = ap (λ (n : ℕ). n + 1) c.loop-end.invariant.count;
}

pub returns-clause-same : goal.returns-clause-same
returns-clause-same c = λ all. subst (λ (n : ℕ). AllByRecursion (λ (end : RoomEnd).
    IsLike (doc_of c.args.sources.now) c.args.like end.to) (take n c.args.ends.now))
    (sym c.loop-end.invariant.count) (c.loop-end.invariant.same all)

pub returns-clause-calls : goal.returns-clause-calls
returns-clause-calls c = c.loop-end.invariant.calls

pub returns-then-not-is_same-clause-same : goal.returns-then-not-is_same-clause-same
returns-then-not-is_same-clause-same c = λ all. subst (λ (n : ℕ). AllByRecursion (λ (end : RoomEnd).
    IsLike (doc_of c.args.sources.now) c.args.like end.to) (take n c.args.ends.now))
    (sym c.loop-end.invariant.count) (c.loop-end.invariant.same all)

pub returns-then-not-is_same-clause-calls : goal.returns-then-not-is_same-clause-calls
returns-then-not-is_same-clause-calls c = λ all. c.in_ok-its.ensures.calls (c.loop-end.invariant.calls all)

pub like_beside-requires : goal.like_beside-requires
like_beside-requires c = c.requires

pub returns-in_err-its-clause-same : goal.returns-in_err-its-clause-same
returns-in_err-its-clause-same c = IfOk-from_err c.from_residual.result _ c.from_residual.ensures.0

pub returns-in_err-its-clause-calls : goal.returns-in_err-its-clause-calls
returns-in_err-its-clause-calls c = IfOk-from_err c.from_residual.result _ c.from_residual.ensures.0

pub returns-in_err-its-clause-few : goal.returns-in_err-its-clause-few
returns-in_err-its-clause-few c = IfOk-from_err c.from_residual.result _ c.from_residual.ensures.0
