use Rattle.std.proofs.Common.{◌≡◌, Some, sym, ◌∙◌}
use Rattle.std.specs.Prelude.{slice_get}
use Rattle.pg_table.proofs.Hinted.{found_at}
use Rattle.pg_table.proofs.Lists.{contains_at}
use Rattle.pg_table.proofs.Seats.{met_in}
use Rattle.pg_table.proofs.pending.known_place.Goals as goal
use Rattle.pg_table.proofs.pending.known_place.Goals.{In_ok-held}

found : (g : _) (c : In_ok-held g) →
    slice_get c.args.pending.now.buckets.items c.in_ok-hint.hint.place ≡ Some c.in_ok-bucket.bucket.now
found g c = found_at _ _ _ _ c.deref.ensures.value c.in_ok-bucket.ensures.lookup.0 c.in_ok-bucket.ensures.lookup.1

pub no_worse-requires-clause-b : goal.no_worse-requires-clause-b
no_worse-requires-clause-b g c = c.requires.held _ (
  c.in_ok-hint.hint.place,
  (
    c.in_ok-bucket.bucket.now,
    (
      found g (goal.at.no_worse-requires-clause-b g c).In_ok-held,
      contains_at c.in_ok-bucket.bucket.now.items c.in_ok-hint.hint.index _ (sym c.in_ok-held.ensures.label),
    ),
  ),
)

pub returns-then-no_worse : goal.returns-then-no_worse
returns-then-no_worse g c =
    met_in _ _ c.args.pending.now.buckets.items c.in_ok-hint.hint.place c.in_ok-hint.hint.index _ _
    (found g (goal.at.returns-then-no_worse g c).In_ok-held) c.in_ok-held.ensures.label
    (sym c.no_worse.ensures ∙ c.if-no_worse.true)
