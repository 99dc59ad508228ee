-- How far columns from a place may go.
use Rattle.std.proofs.Common.{◌≡◌, refl, ap, sym, ◌∙◌, subst, ℕ, ◌+◌, ◌≤◌, ◌^◌, inl, inr, List, [], ◌∷◌, length, map, take, drop, ◌-◌, arith, Bool, true, false, Some, None, Option, IfSome, Result, Ok, Err, IfOk, ℤ}
use Rattle.std.specs.Prelude.{if◌then◌else◌, int_lt, option_map, slice_index_or}
use Rattle.std.specs.Int.{int_max}
use Rattle.std.specs.List.{AllByRecursion}
use Rattle.std.proofs.lemmas.Int.{int_max_is, ints}
use Rattle.std.proofs.lemmas.List.{take_all}
use Rattle.std.proofs.lemmas.Option.{same_Some}
use Rattle.pg_column.specs.Passed.{Passed as PassedValue, nothing}
use Rattle.pg_list.specs.Flat.{FlatItem}
use Rattle.pg_list.specs.Counts.{item_count}
use Rattle.pg_list.specs.GalleyValue.{GalleyValue}
use Rattle.pg_list.specs.Shapes.{IsBlock}
use Rattle.pg_list.specs.declared.galley.Place.{Place}
use Rattle.pg_rules.specs.IsState.{IsPlace}
use Rattle.pg_rules.specs.Legal.{document}
use Rattle.pg_rules.specs.Reach.{IsReach, greatest_extra}
use Rattle.pg_rules.specs.Room.{Document}
use Rattle.pg_hops.specs.View.{IsFor, views}
use Rattle.pg_hops.specs.declared.passed.Passed.{Passed}
use Rattle.pg_hops.specs.declared.state.State.{State}
use Rattle.pg_style.specs.Values.{StyleValue}
use Rattle.pg_style.specs.declared.style.Run.{Run}
use Rattle.law_walk.specs.Laws.{LabelsTellReach, StretchTellsReach}
use Rattle.law_walk.specs.Reached.{first_reach, quiet, reach_along, tallest}
use Rattle.law_walk.specs.Walk.{first_front, first_items, past_stretch, variants_at}
use Rattle.pg_walk.specs.Furthest.{GoesTo}
use Rattle.pg_walk.proofs.Greatest.{is_greatest}
use Rattle.pg_walk.proofs.Lifted.{entries_of, lifted}
use Rattle.pg_walk.specs.Meaning.{IsOwn, state_of}
use Rattle.pg_walk.specs.Blocks.{IsBegun, IsGreatestFrom, state}
use Rattle.pg_walk.specs.Rooms.{greatest_room}
use Rattle.pg_walk.proofs.First.{first_own}

-- ---- the most that a run adds

-- a run that adds so much
abbrev pub adding : ℤ → Run
adding extra = record { extra = extra; demerits = 0 }

max_of_max : (a b c : ℤ) → int_max a (int_max b c) ≡ int_max (int_max a b) c
max_of_max a b c =
    let i = int_max_is b c in
    let j = int_max_is a (int_max b c) in
    let k = int_max_is a b in
    let l = int_max_is (int_max a b) c in omega (arith, ints, i, j, k, l)

one_run_more : (g : ℤ) (run : Run) (rest : List Run) →
    greatest_extra (adding g ∷ run ∷ rest) ≡ greatest_extra (adding (int_max g run.extra) ∷ rest)
one_run_more g run [] = refl
one_run_more g run (next ∷ rest) = max_of_max g run.extra (greatest_extra (next ∷ rest))

greater : (g h : ℤ) (b : Bool) → int_lt g h ≡ b → (if b then h else g) ≡ int_max g h
greater g h true e = let i = int_max_is g h in grind (arith, ints)
greater g h false e = let i = int_max_is g h in grind (arith, ints)

extras_with : (g : ℤ) (runs : List Run) →
    greatest_room g (map (λ (run : Run). run.extra) runs) ≡ greatest_extra (adding g ∷ runs)
extras_with g [] = refl
extras_with g (run ∷ runs) =
    ap (λ (z : ℤ). greatest_room z (map (λ (run : Run). run.extra) runs)) (greater g run.extra (int_lt g run.extra) refl)
    ∙ (extras_with (int_max g run.extra) runs ∙ sym (one_run_more g run runs))

first_run : (run : Run) (runs : List Run) → greatest_extra (adding run.extra ∷ runs) ≡ greatest_extra (run ∷ runs)
first_run run [] = refl
first_run run (next ∷ runs) = refl

pub extras_are : (runs : List Run) (other : Run) (g : ℤ) → 1 ≤ length runs → g ≡ (slice_index_or runs 0 other).extra →
    greatest_room g (map (λ (run : Run). run.extra) (take (length runs - 1) (drop 1 runs))) ≡ greatest_extra runs
extras_are [] other g h e = absurd (omega (arith, h))
extras_are (run ∷ runs) other g h e =
    let rest : take (length (run ∷ runs) - 1) runs ≡ runs = take_all (length (run ∷ runs) - 1) runs (omega arith) in
    ap (λ (z : ℤ). greatest_room z (map (λ (r : Run). r.extra) (take (length (run ∷ runs) - 1) runs))) e
    ∙ (ap (λ (rs : List Run). greatest_room run.extra (map (λ (r : Run). r.extra) rs)) rest
    ∙ (extras_with run.extra runs ∙ first_run run runs))

-- ---- the greatest block tells the reach

module _ (doc : Document) (labels : LabelsTellReach doc) (stretch : StretchTellsReach doc) (from : Place)
    (at : IsPlace doc.blocks from) where
  pub tells : (n : ℕ) → IsGreatestFrom (quiet doc) (tallest doc.style) from n → IsReach doc from (n + 1)
  tells n (inl a) = subst (λ (k : ℕ). IsReach doc from (k + 1)) (sym a.is) (stretch from at a.last)
  tells n (inr b) =
      labels from (state_of b.start) (entries_of b.goes.es) n at (record { block = b.front; past = sym b.past })
      (lifted (quiet doc) (tallest doc.style) b.start b.goes.es b.goes.table)
      (is_greatest (quiet doc) (tallest doc.style) from b.goes.es n b.goes.furthest)

-- where the style and the room are told by equations
pub greatest_quiet : (galley : GalleyValue) (style other : StyleValue) (z : ℤ) →
    other ≡ record style { classes = []; max_looseness = 100 } → z ≡ tallest style → (from : Place) → (n : ℕ) →
    IsGreatestFrom (document galley other) z from n →
    IsGreatestFrom (quiet (document galley style)) (tallest style) from n
greatest_quiet galley style other z e t from n g =
    subst (λ (s : StyleValue). IsGreatestFrom (document galley s) (tallest style) from n) e
    (subst (λ (y : ℤ). IsGreatestFrom (document galley other) y from n) t g)

-- the state before the first front
pub begun_quiet : (galley : GalleyValue) (style other : StyleValue) (z : ℤ) →
    other ≡ record style { classes = []; max_looseness = 100 } → z ≡ tallest style → (from : Place) →
    (o : Option State) → IfSome o (IsBegun (document galley other) z from) →
    IfSome o (IsBegun (quiet (document galley style)) (tallest style) from)
begun_quiet galley style other z e t from o g =
    subst (λ (s : StyleValue). IfSome o (IsBegun (document galley s) (tallest style) from)) e
    (subst (λ (y : ℤ). IfSome o (IsBegun (document galley other) y from)) t g)

-- where it is the walk's own
pub own_quiet : (galley : GalleyValue) (style other : StyleValue) (z : ℤ) →
    other ≡ record style { classes = []; max_looseness = 100 } → z ≡ tallest style → (start : State) →
    IsOwn (quiet (document galley style)) (tallest style) start → IsOwn (document galley other) z start
own_quiet galley style other z e t start own =
    subst (λ (y : ℤ). IsOwn (document galley other) y start) (sym t)
    (subst (λ (s : StyleValue). IsOwn (document galley s) (tallest style) start) (sym e) own)

-- and how far columns go behind it
pub goes_quiet : (galley : GalleyValue) (style other : StyleValue) (z : ℤ) →
    other ≡ record style { classes = []; max_looseness = 100 } → z ≡ tallest style → (start : State) (least n : ℕ) →
    GoesTo (document galley other) z start least n →
    GoesTo (quiet (document galley style)) (tallest style) start least n
goes_quiet galley style other z e t start least n g =
    subst (λ (s : StyleValue). GoesTo (document galley s) (tallest style) start least n) e
    (subst (λ (y : ℤ). GoesTo (document galley other) y start least n) t g)

-- ---- behind the first stretch

none_at : (o : Option Passed) (b : ℕ) → option_map (state b) o ≡ None → o ≡ None
none_at None b e = refl
none_at (Some p) b e = absurd cc

-- the walk from the place, where its parts are told by equations
module _ (doc : Document) (top z : ℤ) (t : z ≡ top) (from : Place) (p : PassedValue) (pe : p ≡ nothing)
    (xs : List FlatItem) (xe : xs ≡ first_items doc.blocks from) (f : ℕ) (fe : f ≡ first_front doc.blocks from)
  where
    reach_is : reach_along doc z f p xs ≡ first_reach doc top from
    reach_is = ap (λ (y : ℤ). reach_along doc y f p xs) t ∙ (ap (λ (q : PassedValue). reach_along doc top f q xs) pe
        ∙ (ap (reach_along doc top f nothing) xe
        ∙ ap (λ (b : ℕ). reach_along doc top b nothing (first_items doc.blocks from)) fe))

    past_is : past_stretch doc z p xs ≡ past_stretch doc top nothing (first_items doc.blocks from)
    past_is = ap (λ (y : ℤ). past_stretch doc y p xs) t
        ∙ (ap (λ (q : PassedValue). past_stretch doc top q xs) pe ∙ ap (past_stretch doc top nothing) xe)

    module _ (o : Option Passed) (b n : ℕ) (greatest : n ≡ reach_along doc z f p xs)
        (past : views o ≡ past_stretch doc z p xs) (front : IfSome o (λ _. b ≡ f)) where
      pub stops : option_map (state b) o ≡ None → IsGreatestFrom doc top from n
      stops e = inl (record {
        is = greatest ∙ reach_is;
        last = inl (sym past_is ∙ (sym past ∙ ap views (none_at o b e)));
      })

      pub begun : AllByRecursion IsBlock doc.blocks → item_count doc.blocks ≤ 2 ^ 20 → IsPlace doc.blocks from →
          IfSome o (λ q. IsFor doc.style q) → (k m : ℕ) → k ≡ 0 → m ≡ 0 →
          IfSome o (λ q. (q.sums.count ≡ k + length xs) × (q.notes.count ≡ m + length xs)) → (start : State) →
          option_map (state b) o ≡ Some start → IsBegun doc top from start
      begun all few at style k m ke me counts start e = by o past front style counts e
        where
          by : (o : Option Passed) → views o ≡ past_stretch doc z p xs → IfSome o (λ _. b ≡ f) →
              IfSome o (λ q. IsFor doc.style q) →
              IfSome o (λ q. (q.sums.count ≡ k + length xs) × (q.notes.count ≡ m + length xs)) →
              option_map (state b) o ≡ Some start → IsBegun doc top from start
          by None past front style counts e = absurd cc
          by (Some q) past front style counts e =
              let same : state b q ≡ start = same_Some (state b q) start e in
              let long = ap length xe in
              let there = past ∙ past_is in
              subst (IsBegun doc top from) same (record {
                own = first_own doc top all few from at (state b q) (front ∙ fe) style there
                    (omega (arith, long, counts.0, ke)) (omega (arith, long, counts.1, me));
                front = front ∙ fe;
                past = there;
              })

      pub begun_if : AllByRecursion IsBlock doc.blocks → item_count doc.blocks ≤ 2 ^ 20 → IsPlace doc.blocks from →
          IfSome o (λ q. IsFor doc.style q) → (k m : ℕ) → k ≡ 0 → m ≡ 0 →
          IfSome o (λ q. (q.sums.count ≡ k + length xs) × (q.notes.count ≡ m + length xs)) → (r : Option State) →
          r ≡ option_map (state b) o → IfSome r (IsBegun doc top from)
      begun_if all few at style k m ke me counts None e = tt
      begun_if all few at style k m ke me counts (Some start) e =
          begun all few at style k m ke me counts start (sym e)

      pub alone : (start : State) → option_map (state b) o ≡ Some start →
          variants_at doc.blocks start.block ≡ [] → IsGreatestFrom doc top from n
      alone start e none = inl (record { is = greatest ∙ reach_is; last = inr (by o front e) })
        where
          by : (o : Option Passed) → IfSome o (λ _. b ≡ f) → option_map (state b) o ≡ Some start →
              variants_at doc.blocks (first_front doc.blocks from) ≡ []
          by None front e = absurd cc
          by (Some q) front e =
              let same : state b q ≡ start = same_Some (state b q) start e in
              subst (λ (c : ℕ). variants_at doc.blocks c ≡ []) (front ∙ fe)
              (subst (λ (s : State). variants_at doc.blocks s.block ≡ []) (sym same) none)

      pub by_picks : {E : Type 0} (r : Result ℕ E) (start : State) → IsBegun doc top from start →
          IfOk r (GoesTo doc z start n) → IfOk r (IsGreatestFrom doc top from)
      by_picks (Err x) start is goes = tt
      by_picks (Ok k) start is goes = inr (record {
        start = start;
        front = is.front;
        past = is.past;
        goes = subst (λ (m : ℕ). GoesTo doc top start m k) (greatest ∙ reach_is)
            (subst (λ (y : ℤ). GoesTo doc y start n k) t goes);
      })
