-- The state behind the first stretch is one of the walk.
use Rattle.std.proofs.Common.{◌≡◌, refl, sym, ap, ◌∙◌, ℕ, ◌+◌, ◌≤◌, ◌<◌, ◌^◌, List, [], length, drop, arith, Some, None, Option, Result, Ok, Err, IfOk, IfSome, ℤ, inl, inr, ◌⊎◌, Bool, true, false, subst}
use Rattle.std.specs.Prelude.{if◌then◌else◌, slice_get, unwrap_or, option_map}
use Rattle.std.specs.List.{AllByRecursion}
use Rattle.pg_list.specs.Counts.{item_count}
use Rattle.pg_list.specs.declared.blocks.Block.{Block}
use Rattle.pg_list.specs.declared.galley.Place.{Place}
use Rattle.pg_list.specs.Places.{picked_items}
use Rattle.pg_list.specs.Shapes.{IsBlock}
use Rattle.pg_breaks.proofs.Lists.{get_lt}
use Rattle.pg_list.specs.Flat.{FlatItem, end_of}
use Rattle.pg_list.proofs.Places.{same_place}
use Rattle.pg_column.specs.Passed.{Passed, nothing}
use Rattle.pg_rules.specs.IsState.{IsPlace}
use Rattle.pg_rules.specs.Room.{Document}
use Rattle.pg_style.specs.Ranges.{IsClass}
use Rattle.pg_hops.specs.View.{IsFor, view}
use Rattle.pg_hops.specs.declared.state.State.{State}
use Rattle.pg_hops.proofs.Left.{first_left}
use Rattle.pg_hops.specs.Quiet.{is_quiet, passed_along}
use Rattle.pg_hops.proofs.Quiet.{quiet_reach, quiet_stops}
use Rattle.law_walk.specs.Reached.{first_reach, quiet, reach_along}
use Rattle.law_walk.specs.Walk.{first_front, first_items, past_stretch, variants_at}
use Rattle.law_walk.proofs.SpaceLaws.{past_parts}
use Rattle.law_walk.proofs.Whole.{first_within}
use Rattle.pg_candidates.specs.View.{passed_of}
use Rattle.pg_candidates.specs.declared.along.Walked.{Walked}
use Rattle.pg_walk.specs.Blocks.{HasStart, HasWalked, IsAlone, TellsAlone, TellsQuiet}
use Rattle.law_walk.specs.Candidates.{AreCandidates, Candidate}
use Rattle.law_walk.specs.Laws.{LabelsSuffice}
use Rattle.law_walk.specs.Space.{first_ends}
use Rattle.pg_walk.proofs.Lifted.{entries_of, lifted}
use Rattle.pg_walk.specs.Collected.{Collects}
use Rattle.pg_walk.proofs.Collecting.{are_collected}
use Rattle.pg_walk.specs.Meaning.{IsOwn, state_of}

-- a place of the galley stands in it, or at its end
pub place_within : (blocks : List Block) (at : Place) → IsPlace blocks at → at.block ≤ length blocks
place_within blocks at is = elim is.within [
  | inl t ↦ let e = ap (λ (p : Place). p.block) (same_place at (end_of blocks) t) in omega (arith, e)
  | inr h ↦ by (slice_get blocks at.block) refl h
]
  where
    by : (o : Option Block) → slice_get blocks at.block ≡ o →
        at.index < length (unwrap_or (option_map (λ (block : Block). picked_items block at.variant) o) []) →
        at.block ≤ length blocks
    by None e h = absurd (omega (arith, h))
    by (Some block) e h = let l = get_lt blocks at.block block e in omega (arith, l)

pub first_own : (doc : Document) (top : ℤ) → AllByRecursion IsBlock doc.blocks → item_count doc.blocks ≤ 2 ^ 20 →
    (from : Place) → IsPlace doc.blocks from → (s : State) → s.block ≡ first_front doc.blocks from →
    IsFor doc.style s.passed → Some (view s.passed) ≡ past_stretch doc top nothing (first_items doc.blocks from) →
    s.passed.sums.count ≡ length (first_items doc.blocks from) →
    s.passed.notes.count ≡ length (first_items doc.blocks from) → IsOwn doc top s
first_own doc top all few from at s front style past sums notes =
    let left = first_left doc.blocks from in
    let same = ap (λ (b : ℕ). item_count (drop b doc.blocks)) front in
    let within = first_within doc top all from at in
    record {
      block = omega (arith, within, front);
      style = style;
      bound = (past_parts doc top nothing (view s.passed) (first_items doc.blocks from) (sym past)).1;
      sums = omega (arith, left, same, few, sums);
      notes = omega (arith, left, same, few, notes);
    }

-- ---- in the answer of the first stretch

-- a value of the first stretch, where its parts are told by equations
pub at_first : {X : Type 0} (F : ℤ → Passed → List FlatItem → ℕ → X) (doc : Document) (top z : ℤ) → z ≡ top →
    (from : Place) → (p : Passed) → p ≡ nothing → (xs : List FlatItem) → xs ≡ first_items doc.blocks from →
    (b : ℕ) → b ≡ first_front doc.blocks from →
    F z p xs b ≡ F top nothing (first_items doc.blocks from) (first_front doc.blocks from)
at_first F doc top z t from p pe xs xe b be =
    ap (λ (y : ℤ). F y p xs b) t ∙ (ap (λ (q : Passed). F top q xs b) pe
    ∙ (ap (λ (ys : List FlatItem). F top nothing ys b) xe ∙ ap (F top nothing (first_items doc.blocks from)) be))

pub first_owned : {E : Type 0} (r : Result Walked E) (doc : Document) (top z : ℤ) → z ≡ top →
    AllByRecursion IsBlock doc.blocks → item_count doc.blocks ≤ 2 ^ 20 → (from : Place) → IsPlace doc.blocks from →
    (p : Passed) → p ≡ nothing → (xs : List FlatItem) → xs ≡ first_items doc.blocks from →
    (b : ℕ) → b ≡ first_front doc.blocks from → (n m : ℕ) → n ≡ 0 → m ≡ 0 →
    IfOk r (λ w. passed_of w.state ≡ past_stretch doc z p xs) → IfOk r (λ w. IfSome w.state (λ s. s.block ≡ b)) →
    IfOk r (λ w. IfSome w.state (λ s. IsFor doc.style s.passed)) →
    IfOk r (λ w. IfSome w.state (λ s.
    (s.passed.sums.count ≡ n + length xs) × (s.passed.notes.count ≡ m + length xs))) →
    IfOk r (λ w. IfSome w.state (IsOwn doc top))
first_owned (Err e) doc top z t all few from at p pe xs xe b be n m ne me past front style counts = tt
first_owned (Ok w) doc top z t all few from at p pe xs xe b be n m ne me past front style counts =
    by w.state past front style counts
  where
    by : (o : Option State) → passed_of o ≡ past_stretch doc z p xs → IfSome o (λ s. s.block ≡ b) →
        IfSome o (λ s. IsFor doc.style s.passed) →
        IfSome o (λ s. (s.passed.sums.count ≡ n + length xs) × (s.passed.notes.count ≡ m + length xs)) →
        IfSome o (IsOwn doc top)
    by None past front style counts = tt
    by (Some s) past front style counts =
        let long = ap length xe in
        first_own doc top all few from at s (front ∙ be) style
        (past ∙ at_first (λ (y : ℤ) (q : Passed) (ys : List FlatItem) (c : ℕ). past_stretch doc y q ys)
        doc top z t from p pe xs xe b be)
        (omega (arith, long, counts.0, ne)) (omega (arith, long, counts.1, me))

-- ---- what it tells of a walk without notes

tells_quiet : (doc : Document) → AllByRecursion IsClass doc.style.classes → (top : ℤ) (from : Place) (w : Walked) →
    passed_of w.state ≡ past_stretch doc top nothing (first_items doc.blocks from) →
    w.greatest ≡ first_reach doc top from →
    w.is_quiet ≡ is_quiet doc.style (passed_along doc top nothing (first_items doc.blocks from)) →
    w.is_quiet ≡ true → TellsQuiet doc top from w
tells_quiet doc ranged top from w past reach quiet-is is =
    let items = first_items doc.blocks from in
    let still = sym quiet-is ∙ is in
    record {
      greatest = reach ∙ sym (quiet_reach doc top ranged nothing items still (first_front doc.blocks from));
      stops = λ none. quiet_stops doc top ranged nothing items still (sym past ∙ none);
    }

pub first_quiet : {E : Type 0} (r : Result Walked E) (doc : Document) → AllByRecursion IsClass doc.style.classes →
    (top z : ℤ) → z ≡ top → (from : Place) →
    (p : Passed) → p ≡ nothing → (xs : List FlatItem) → xs ≡ first_items doc.blocks from →
    (b : ℕ) → b ≡ first_front doc.blocks from →
    IfOk r (λ w. passed_of w.state ≡ past_stretch doc z p xs) →
    IfOk r (λ w. w.greatest ≡ reach_along doc z b p xs) →
    IfOk r (λ w. w.is_quiet ≡ is_quiet doc.style (passed_along doc z p xs)) →
    IfOk r (λ w. w.is_quiet ≡ true → TellsQuiet doc top from w)
first_quiet (Err e) doc ranged top z t from p pe xs xe b be past reach quiet-is = tt
first_quiet (Ok w) doc ranged top z t from p pe xs xe b be past reach quiet-is =
    tells_quiet doc ranged top from w
    (past ∙ at_first (λ (y : ℤ) (q : Passed) (ys : List FlatItem) (c : ℕ). past_stretch doc y q ys)
    doc top z t from p pe xs xe b be)
    (reach ∙ at_first (λ (y : ℤ) (q : Passed) (ys : List FlatItem) (c : ℕ). reach_along doc y c q ys)
    doc top z t from p pe xs xe b be)
    (quiet-is ∙ at_first (λ (y : ℤ) (q : Passed) (ys : List FlatItem) (c : ℕ).
    is_quiet doc.style (passed_along doc y q ys)) doc top z t from p pe xs xe b be)

-- all that it tells
pub first_walked : {E : Type 0} (r : Result Walked E) (doc : Document) (top z : ℤ) → z ≡ top → (from : Place) →
    (p : Passed) → p ≡ nothing → (xs : List FlatItem) → xs ≡ first_items doc.blocks from →
    (b : ℕ) → b ≡ first_front doc.blocks from →
    IfOk r (λ w. passed_of w.state ≡ past_stretch doc z p xs) → IfOk r (λ w. IfSome w.state (λ s. s.block ≡ b)) →
    IfOk r (λ w. IfSome w.state (IsOwn doc top)) → IfOk r (λ w. w.is_quiet ≡ true → TellsQuiet doc top from w) →
    IfOk r (HasWalked doc top from)
first_walked (Err e) doc top z t from p pe xs xe b be past front own quiet-tells = tt
first_walked (Ok w) doc top z t from p pe xs xe b be past front own quiet-tells = record {
  past = past ∙ at_first (λ (y : ℤ) (q : Passed) (ys : List FlatItem) (c : ℕ). past_stretch doc y q ys)
      doc top z t from p pe xs xe b be;
  front = subst (λ (n : ℕ). IfSome w.state (λ s. s.block ≡ n)) be front;
  own = own;
  quiet = quiet-tells;
}

told_alone : (doc : Document) (top z : ℤ) → z ≡ top → (from : Place) (w : Walked) (o : Option ℕ) →
    o ≡ (if w.is_quiet then Some w.greatest else None) → (w.is_quiet ≡ true → TellsQuiet doc z from w) →
    (passed_of w.state ≡ None) ⊎ (variants_at doc.blocks (first_front doc.blocks from) ≡ []) →
    IfSome o (IsAlone (quiet doc) top from)
told_alone doc top z t from w o is tells last =
    subst (λ (a : Option ℕ). IfSome a (IsAlone (quiet doc) top from)) (sym is) (by w.is_quiet tells)
  where
    by : (b : Bool) → (b ≡ true → TellsQuiet doc z from w) →
        IfSome (if b then Some w.greatest else None) (IsAlone (quiet doc) top from)
    by false tells = tt
    by true tells =
        let told = subst (λ (y : ℤ). TellsQuiet doc y from w) t (tells refl) in
        record {
          is = told.greatest;
          last = elim last [
            | inl none ↦ inl (told.stops none)
            | inr none ↦ inr none
          ];
        }

-- what the first stretch tells, by the state behind it and the greatest block
pub has_start : (doc : Document) (top : ℤ) (from : Place) (w : Walked) (start : Option State) → start ≡ w.state →
    HasWalked doc top from w → HasStart doc top from start
has_start doc top from w start e has = subst (HasStart doc top from) (sym e)
    (record { past = has.past; front = has.front; own = has.own })

pub tells_alone : (doc : Document) (top : ℤ) (from : Place) (w : Walked) (start : Option State) (told : Option ℕ) →
    start ≡ w.state → told ≡ (if w.is_quiet then Some w.greatest else None) → HasWalked doc top from w →
    TellsAlone doc top from start told
tells_alone doc top from w start told e t has = λ last.
    told_alone doc top top refl from w told t has.quiet
    (subst (λ (o : Option State). (passed_of o ≡ None) ⊎ (variants_at doc.blocks (first_front doc.blocks from) ≡ []))
    e last)

-- ---- what suffices

pub labels_do : (doc : Document) (top : ℤ) → LabelsSuffice doc → (from : Place) → IsPlace doc.blocks from →
    (start : State) (cs : List Candidate) → start.block ≡ first_front doc.blocks from →
    Some (view start.passed) ≡ past_stretch doc top nothing (first_items doc.blocks from) →
    Collects doc top start (first_ends doc top from) cs → AreCandidates doc from top cs
labels_do doc top law from at start cs front past all =
    law from top (state_of start) (entries_of all.es) cs at (record { block = front; past = sym past })
    (lifted doc top start all.es all.table) (are_collected doc top from start all.es all.table cs all.ends)
