-- Where the ends behind a front stand, and how far columns go there.
use Rattle.std.proofs.Common.{◌≡◌, refl, sym, ap, ◌∙◌, subst, ℕ, ◌+◌, ◌≤◌, inl, inr, List, [], ◌∷◌, ◌++◌, drop, arith, true, Option, Some, None, ℤ}
use Rattle.std.specs.Prelude.{◌<◌, reverse, slice_get, ◌⊎◌}
use Rattle.std.specs.List.{AllByRecursion}
use Rattle.pg_column.specs.Passed.{nothing}
use Rattle.pg_hops.specs.declared.state.State.{State}
use Rattle.pg_lemmas.proofs.Bools.{both, both_of}
use Rattle.pg_list.specs.Places.{place}
use Rattle.pg_list.specs.Shapes.{IsBlock}
use Rattle.pg_list.specs.declared.galley.Place.{Place}
use Rattle.pg_notes.specs.declared.sums.NoteSum.{NoteSum}
use Rattle.pg_rules.specs.IsState.{IsPlace}
use Rattle.pg_rules.specs.Reach.{IsReach}
use Rattle.pg_rules.specs.Room.{Document}
use Rattle.pg_sums.specs.declared.totals.Totals.{Totals}
use Rattle.pg_table.specs.Space.{Run}
use Rattle.law_places.proofs.Tests.{both_same, le_int}
use Rattle.law_walk.specs.Best.{IsAmong}
use Rattle.law_walk.specs.Candidates.{Candidate, is_no_greater}
use Rattle.law_walk.specs.Laws.{LabelsTellReach}
use Rattle.law_walk.specs.Reached.{first_reach, quiet, tallest}
use Rattle.law_walk.specs.Space.{IsStart, WalkState, first_ends, is_no_worse}
use Rattle.law_walk.specs.Walk.{first_front, first_items, picked_front, variants_at}
use Rattle.law_walk.proofs.SpaceLaws.{are_same, no_worse_of, past_parts}
use Rattle.law_walk.proofs.Bounds.{no_greater_itself}
use Rattle.law_walk.proofs.Stretches.{front_behind}
use Rattle.pg_walk.specs.Blocks.{IsBegun, IsGreatestFrom}
use Rattle.pg_walk.specs.Collected.{Collects, IsOfLabels}
use Rattle.pg_walk.specs.Fronts.{AreApart, ReachesServe, is_same_state}
use Rattle.pg_walk.specs.Furthest.{GoesTo, IsFurthest}
use Rattle.pg_walk.specs.Meaning.{space_meaning, state_of}
use Rattle.pg_walk.specs.Reaching.{along_to, along_whole}
use Rattle.pg_walk.proofs.Collecting.{has_pick}
use Rattle.pg_walk.proofs.Greatest.{is_greatest}
use Rattle.pg_walk.proofs.Lifted.{entries_of, lifted}
use Rattle.pg_walk.proofs.Standing.{IsPast, before_between, first_before, in_turn, past_front, past_lower, up_to}

-- ---- states that are the same

bound_same : (a b : Option ℤ) → is_no_greater a b ≡ true → is_no_greater b a ≡ true → a ≡ b
bound_same None None p q = refl
bound_same None (Some y) p q = absurd cc
bound_same (Some x) None p q = absurd cc
bound_same (Some x) (Some y) p q =
    ap Some (both_same x y (le_int x y p) (le_int y x q))

pub same_state : (u v : WalkState) → is_same_state u v ≡ true → u ≡ v
same_state u v e =
    let two = both_of (is_no_worse u v) (is_no_worse v u) e in
    let one = are_same u v two.0 in
    make u.block v.block u.passed.totals v.passed.totals u.passed.notes v.passed.notes u.passed.bound v.passed.bound
    one.block one.totals one.notes (bound_same u.passed.bound v.passed.bound one.bound (are_same v u two.1).bound)
  where
    make : (m n : ℕ) (t t' : Totals) (ns ns' : List NoteSum) (o o' : Option ℤ) → m ≡ n → t ≡ t' → ns ≡ ns' → o ≡ o' →
        ◌≡◌ {A = WalkState} (record { block = m; passed = record { totals = t; notes = ns; bound = o } })
        (record { block = n; passed = record { totals = t'; notes = ns'; bound = o' } })
    make m n t t' ns ns' o o' p q r s = rw (p, q, r, s) refl

-- each is the same as itself
pub state_itself : (u : WalkState) → is_same_state u u ≡ true
state_itself u = both _ _ itself itself
  where
    itself : is_no_worse u u ≡ true
    itself = no_worse_of u u
        (record { block = refl; totals = refl; notes = refl; bound = no_greater_itself u.passed.bound })

-- ---- the state before a front

-- columns from a place come to the front in this state
pub start_of : (doc : Document) (top : ℤ) (from : Place) (start : State) → IsBegun doc top from start →
    IsStart doc top from (state_of start)
start_of doc top from start is = record { block = is.front; past = sym is.past }

module _ (doc : Document) (top : ℤ) (from : Place) (kept : State) (start : IsStart doc top from (state_of kept)) where
  -- what is passed goes up to the front
  front_reach : kept.block ≡ first_reach doc top from
  front_reach =
      let parts = past_parts doc top nothing (state_of kept).passed (first_items doc.blocks from) start.past in
      let low = along_whole doc top (first_front doc.blocks from) nothing (state_of kept).passed
      (first_items doc.blocks from) parts.0 parts.1 in
      let high = along_to doc top 0 (first_front doc.blocks from) nothing (first_items doc.blocks from)
      (before_between (first_front doc.blocks from) (first_items doc.blocks from) (first_before doc.blocks from)) in
      let same : kept.block ≡ first_front doc.blocks from = start.block in omega (arith, low, high, same)

-- ---- where they stand

module _ (doc : Document) (top : ℤ) (from : Place) (kept : State) where
  run_behind : (ms : List ℕ) (v : State) (c : ℤ) → Run (space_meaning doc top kept) ms v c → kept.block ≤ v.block
  run_behind [] v c (e, z) = let s = ap (λ (x : State). x.block) e in omega (arith, s)
  run_behind (m ∷ ms) v c (u, (n, k, (run, f, sum))) =
      let l = run_behind ms u n run in
      let e : v.block ≡ picked_front doc.blocks u.block = f.picks.leads in
      let p = front_behind (u.block + 1) (drop (u.block + 1) doc.blocks) in omega (arith, l, e, p)

  behind_front : AllByRecursion IsBlock doc.blocks → IsPlace doc.blocks from → (cs : List Candidate) →
      Collects doc top kept [] cs → (d : Candidate) → IsAmong d cs → IsPast kept.block d.to
  behind_front blocks at cs all d a = elim (all.ends.each d a) [ inl n ↦ absurd n | inr l ↦ by l ]
    where
      by : IsOfLabels doc top all.es all.es d → IsPast kept.block d.to
      by l =
          let own = all.table.labels l.entry l.listed in
          let p = has_pick doc top (state_of l.entry.state) l.entry.cost (reverse l.picks) 0
          (variants_at doc.blocks l.entry.state.block) d l.among in
          let z : p.offset ≡ 0 + p.offset = omega arith in
          past_lower kept.block l.entry.state.block d.to
          (run_behind own.moves l.entry.state l.entry.cost own.run)
          (past_front doc top blocks from at _ _ l.entry.state.block (0 + p.offset) p.variant _ d
          (subst (λ (k : ℕ). slice_get (variants_at doc.blocks l.entry.state.block) k ≡ Some p.variant) z p.there)
          p.along)

  pub apart : kept.block ≡ first_front doc.blocks from → AllByRecursion IsBlock doc.blocks → IsPlace doc.blocks from →
      (cs : List Candidate) → Collects doc top kept [] cs → AreApart (first_ends doc top from) cs
  apart front blocks at cs all c d a b =
      in_turn kept.block c.to d.to
      (subst (λ (n : ℕ). (c.to.block < n) ⊎ (c.to ≡ place n 0 0)) (sym front)
      (up_to doc top blocks from at c a))
      (behind_front blocks at cs all d b)

-- the ends along the first stretch, added to none
pub alone_at : (doc : Document) (z top : ℤ) → z ≡ top → (from : Place) (old new : List Candidate) → old ≡ [] →
    new ≡ old ++ first_ends doc z from → new ≡ first_ends doc top from
alone_at doc z top t from old new none is =
    is ∙ (ap (λ (xs : List Candidate). xs ++ first_ends doc z from) none ∙ ap (λ (y : ℤ). first_ends doc y from) t)

-- ---- how far columns go

reaches : (doc : Document) (law : LabelsTellReach doc) (from : Place) (kept : State) (n : ℕ) → IsPlace doc.blocks from →
    IsStart (quiet doc) (tallest doc.style) from (state_of kept) →
    GoesTo (quiet doc) (tallest doc.style) kept kept.block n → IsReach doc from (n + 1)
reaches doc law from kept n at start goes =
    law from (state_of kept) (entries_of goes.es) n at start
    (lifted (quiet doc) (tallest doc.style) kept goes.es goes.table)
    (is_greatest (quiet doc) (tallest doc.style) from goes.es n
    (subst (λ (b : ℕ). IsFurthest (quiet doc) (tallest doc.style) goes.es b n)
    (front_reach (quiet doc) (tallest doc.style) from kept start) goes.furthest))

-- the greatest block behind the front is that of all columns from the place
pub greatest_behind : (doc : Document) (from : Place) (start : State) (n : ℕ) →
    IsBegun (quiet doc) (tallest doc.style) from start →
    GoesTo (quiet doc) (tallest doc.style) start start.block n → IsGreatestFrom (quiet doc) (tallest doc.style) from n
greatest_behind doc from start n is goes = inr (record {
  start = start;
  front = is.front;
  past = is.past;
  goes = subst (λ (b : ℕ). GoesTo (quiet doc) (tallest doc.style) start b n)
      (front_reach (quiet doc) (tallest doc.style) from start
      (start_of (quiet doc) (tallest doc.style) from start is)) goes;
})

pub reaches_all : (doc : Document) → LabelsTellReach doc → ReachesServe doc
reaches_all doc law from start kept reach at begun alike is =
    subst (IsReach doc from) (sym is.is)
    (reaches doc law from kept is.greatest at
    (subst (IsStart (quiet doc) (tallest doc.style) from)
    (sym (same_state (state_of kept) (state_of start) alike))
    (start_of (quiet doc) (tallest doc.style) from start begun)) is.goes)
