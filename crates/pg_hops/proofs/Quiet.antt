-- Where notes take no room, a walk without notes goes the same way.
use Rattle.std.proofs.Common.{◌≡◌, refl, sym, ap, subst, ℕ, zero, suc, ◌+◌, ◌≤◌, List, [], ◌∷◌, arith, Bool, true, false, Option, Some, None, ℤ, pos, ◌+ℤ◌, ◌-ℤ◌}
use Rattle.std.specs.Prelude.{◌==◌, if◌then◌else◌, max, nat_abs, set, slice_index_or, unsigned_abs}
use Rattle.std.specs.Int.{int_min}
use Rattle.std.specs.List.{AllByRecursion, position}
use Rattle.std.specs.Option.{option_map_or}
use Rattle.std.proofs.lemmas.Bool.Decides.{Decides-int_eq}
use Rattle.std.proofs.lemmas.Int.{ints}
use Rattle.pg_list.specs.declared.item.Item.{Item}
use Rattle.pg_list.specs.declared.item.Item.TheVariants.{BoxItem, Rule, Glue, Kern, Penalty, Insert, Carry}
use Rattle.pg_list.specs.Flat.{FlatItem}
use Rattle.pg_style.specs.Ranges.{IsClass, IsGap, IsKind}
use Rattle.pg_style.specs.declared.style.Class.{Class}
use Rattle.pg_style.specs.declared.style.Gap.{Gap}
use Rattle.pg_style.specs.declared.style.Kind.{Kind}
use Rattle.pg_style.specs.declared.style.Kind.TheVariants.{Note, Float}
use Rattle.pg_breaks.specs.Near.{place_forced}
use Rattle.pg_rules.specs.Room.{Document}
use Rattle.pg_sums.specs.declared.totals.Totals.{Totals}
use Rattle.pg_sums.specs.Step.{counted}
use Rattle.pg_notes.specs.declared.sums.NoteSum.{NoteSum}
use Rattle.pg_rules.specs.Floats.{gap_shrink}
use Rattle.pg_notes.specs.NotesValue.{heights, note_give, note_height as class_height, skips_by, smallest_by}
use Rattle.pg_notes.specs.Step.{grown, no_note, with_insert, with_note}
use Rattle.pg_column.specs.Passed.{Passed, fits, is_end_here, least_room, pass_items, raised}
use Rattle.law_walk.specs.Reached.{quiet, reach_along}
use Rattle.law_walk.specs.Walk.{past_stretch}
use Rattle.pg_hops.specs.declared.cursor.Cursor.{Cursor}
use Rattle.pg_hops.specs.Ahead.{IsSettled, item_ahead, items_ahead}
use Rattle.pg_hops.specs.Quiet.{is_quiet, passed_along}
use Rattle.pg_hops.proofs.Along.{last, over_none}

-- ---- the height of notes does not fall

grown_more : (kind : Kind) (size : ℕ) (sum : NoteSum) → class_height kind sum ≤ class_height kind (grown size sum)
grown_more (Note skip limit) size sum = by sum.is_there
  where
    by : (b : Bool) → (if b then unsigned_abs skip.size + sum.size else 0) ≤ unsigned_abs skip.size + (sum.size + size)
    by true = omega arith
    by false = omega arith
grown_more (Float area distance) size sum = omega arith

both_more : (a b c d : ℕ) → a ≤ b → c ≤ d → a + c ≤ b + d
both_more a b c d h i = omega (arith, h, i)

set_more : (classes : List Class) (sums : List NoteSum) (k size : ℕ) →
    heights classes sums ≤ heights classes (set sums k (grown size (slice_index_or sums k no_note)))
set_more [] sums k size = omega arith
set_more (class ∷ classes) [] k size = omega arith
set_more (class ∷ classes) (sum ∷ sums) zero size =
    both_more _ _ (heights classes sums) (heights classes sums) (grown_more class.kind size sum) (omega arith)
set_more (class ∷ classes) (sum ∷ sums) (suc k) size =
    both_more (class_height class.kind sum) (class_height class.kind sum) _ _ (omega arith)
    (set_more classes sums k size)

insert_more : (classes : List Class) (sums : List NoteSum) (number size : ℕ) →
    heights classes sums ≤ heights classes (with_insert classes sums number size)
insert_more classes sums number size = by (position (λ (class : Class). class.number == number) classes)
  where
    by : (o : Option ℕ) → heights classes sums
        ≤ heights classes (option_map_or (λ (k : ℕ). set sums k (grown size (slice_index_or sums k no_note))) o sums)
    by None = omega arith
    by (Some k) = set_more classes sums k size

item_more : (classes : List Class) (sums : List NoteSum) (item : Item) →
    heights classes sums ≤ heights classes (with_note classes sums item)
item_more classes sums (BoxItem height depth body) = omega arith
item_more classes sums (Rule height depth body) = omega arith
item_more classes sums (Glue width stretch order shrink body) = omega arith
item_more classes sums (Kern width body) = omega arith
item_more classes sums (Penalty value body) = omega arith
item_more classes sums (Insert number size body) = insert_more classes sums number (unsigned_abs size)
item_more classes sums (Carry body) = omega arith

-- ---- notes of no height have skips that give nothing

rigid_none : (skip : Gap) (size : ℕ) → IsGap skip → unsigned_abs skip.size + size ≡ 0 → skip.shrink ≡ pos 0
rigid_none skip size range e =
    let low = range.shrink_from in
    let high = range.shrink_to in
    let from = range.size_in.0 in
    omega (arith, ints, low, high, from, e)

none_given : (kind : Kind) (sum : NoteSum) → IsKind kind → class_height kind sum ≡ 0 →
    note_give gap_shrink kind sum ≡ pos 0
none_given (Note skip limit) sum range e = by sum.is_there e
  where
    by : (b : Bool) → (if b then unsigned_abs skip.size + sum.size else 0) ≡ 0 → (if b then skip.shrink else pos 0) ≡ pos 0
    by true e = rigid_none skip sum.size range.0 e
    by false e = refl
none_given (Float area distance) sum range e = refl

none_give : (classes : List Class) (sums : List NoteSum) → AllByRecursion IsClass classes → heights classes sums ≡ 0 →
    skips_by gap_shrink classes sums ≡ pos 0
none_give [] sums all e = refl
none_give (class ∷ classes) [] all e = refl
none_give (class ∷ classes) (sum ∷ sums) all e =
    let one = none_given class.kind sum all.0.kind_in (omega (arith, e)) in
    let rest = none_give classes sums all.1 (omega (arith, e)) in
    omega (arith, ints, one, rest)

-- what was passed, of its parts
abbrev parts : Totals → List NoteSum → Option ℤ → Passed
parts totals notes bound = record { totals = totals; notes = notes; bound = bound }

then_more : (a b c : ℕ) → a ≤ b → b ≤ c → a ≤ c
then_more a b c h i = omega (arith, h, i)

none_of : (a b : ℕ) → a ≤ b → b ≡ 0 → a ≡ 0
none_of a b h e = omega (arith, h, e)

module _ (doc : Document) (top : ℤ) (ranged : AllByRecursion IsClass doc.style.classes) where
  -- the height of notes under the style
  abbrev high : List NoteSum → ℕ
  high notes = heights doc.style.classes notes

  -- what is passed from behind an item on
  abbrev on : List FlatItem → Passed → Passed
  on xs q = if fits q.bound top then passed_along doc top q xs else q

  -- behind an item, by whether a break before it is passed, and whether that is forced
  abbrev behind : Bool → Bool → Passed → Passed → Option Passed
  behind is_end is_forced crossed p = if is_end then (if is_forced then None else Some crossed) else Some p

  -- ---- no less than at the front

  on_more : (xs : List FlatItem) (p : Passed) (least : ℕ) → least ≤ high p.notes →
      least ≤ high (passed_along doc top p xs).notes → least ≤ high (on xs p).notes
  on_more xs p least h more = by (fits p.bound top)
    where
      by : (b : Bool) → least ≤ high (if b then passed_along doc top p xs else p).notes
      by true = more
      by false = h

  behind_more : (xs : List FlatItem) (before crossed p : Passed) (least : ℕ) → least ≤ high before.notes →
      least ≤ high (on xs crossed).notes → least ≤ high (on xs p).notes → (is_end is_forced : Bool) →
      least ≤ high (option_map_or (on xs) (behind is_end is_forced crossed p) before).notes
  behind_more xs before crossed p least old a b true true = old
  behind_more xs before crossed p least old a b true false = a
  behind_more xs before crossed p least old a b false is_forced = b

  along_more : (xs : List FlatItem) (totals : Totals) (notes : List NoteSum) (bound : Option ℤ) →
      high notes ≤ high (passed_along doc top (parts totals notes bound) xs).notes
  along_more [] totals notes bound = omega arith
  along_more (x ∷ xs) totals notes bound =
      let old = parts totals notes bound in
      let item = item_more doc.style.classes notes x.item in
      let sums = counted doc.style.topskip doc.style.maxdepth totals x.item in
      let more = with_note doc.style.classes notes x.item in
      let raise = raised bound (least_room doc.style old) in
      behind_more xs old (parts sums more raise) (parts sums more bound) (high notes) (omega arith)
      (on_more xs (parts sums more raise) (high notes) item
      (then_more (high notes) (high more) _ item (along_more xs sums more raise)))
      (on_more xs (parts sums more bound) (high notes) item
      (then_more (high notes) (high more) _ item (along_more xs sums more bound)))
      (is_end_here doc.blocks old x.place) (place_forced doc.blocks x.place)

  -- ---- without notes

  same_bound : (totals : Totals) (notes other : List NoteSum) (bound : Option ℤ) → high notes ≡ 0 →
      raised bound (least_room (quiet doc).style (parts totals other bound))
      ≡ raised bound (least_room doc.style (parts totals notes bound))
  same_bound totals notes other bound e =
      let given = none_give doc.style.classes notes ranged e in
      let none : pos 0 ≡ smallest_by doc.style.classes notes = omega (arith, ints, e, given) in
      ap (λ (h : ℤ). raised bound (int_min ((totals.total +ℤ h) +ℤ pos 1) ((totals.total +ℤ h) -ℤ totals.shrink))) none

  module _ (front : ℕ) where
    -- the greatest block from behind an item on
    abbrev reach : Document → List FlatItem → Option Passed → ℕ
    reach d xs o = option_map_or (λ (q : Passed). if fits q.bound top then reach_along d top front q xs else 0) o 0

    -- past the items from behind an item on
    abbrev past : Document → List FlatItem → Option Passed → Option Passed
    past d xs o = option_map_or (λ (q : Passed). if fits q.bound top then Some q else None)
        (option_map_or (λ (q : Passed). pass_items d q xs) o None) None

    -- the one walk comes as far as the other, and stops where it does
    abbrev Same : List FlatItem → Option Passed → Option Passed → Type 0
    Same xs still o = (reach (quiet doc) xs still ≡ reach doc xs o)
        × (past doc xs o ≡ None → past (quiet doc) xs still ≡ None)

    abbrev AreSame : List FlatItem → Passed → Passed → Type 0
    AreSame xs still p = (reach_along (quiet doc) top front still xs ≡ reach_along doc top front p xs)
        × (past_stretch doc top p xs ≡ None → past_stretch (quiet doc) top still xs ≡ None)

    on_same : (xs : List FlatItem) (totals : Totals) (notes other : List NoteSum) (bound : Option ℤ) →
        (high (passed_along doc top (parts totals notes bound) xs).notes ≡ 0 →
        AreSame xs (parts totals other bound) (parts totals notes bound)) →
        high (on xs (parts totals notes bound)).notes ≡ 0 →
        Same xs (Some (parts totals other bound)) (Some (parts totals notes bound))
    on_same xs totals notes other bound again = by (fits bound top) refl
      where
        by : (b : Bool) → fits bound top ≡ b →
            high (if b then passed_along doc top (parts totals notes bound) xs
            else parts totals notes bound).notes ≡ 0 →
            ((if b then reach_along (quiet doc) top front (parts totals other bound) xs else 0)
            ≡ (if b then reach_along doc top front (parts totals notes bound) xs else 0))
            × (past_stretch doc top (parts totals notes bound) xs ≡ None →
            past_stretch (quiet doc) top (parts totals other bound) xs ≡ None)
        by true f e = again e
        by false f e = (refl, λ none. over_none (quiet doc) top (parts totals other bound) xs f)

    behind_same : (xs : List FlatItem) (before crossed p crossed' p' : Passed) →
        (high (on xs crossed).notes ≡ 0 → Same xs (Some crossed') (Some crossed)) →
        (high (on xs p).notes ≡ 0 → Same xs (Some p') (Some p)) → (is_end is_forced : Bool) →
        high (option_map_or (on xs) (behind is_end is_forced crossed p) before).notes ≡ 0 →
        Same xs (behind is_end is_forced crossed' p') (behind is_end is_forced crossed p)
    behind_same xs before crossed p crossed' p' a b true true e = (refl, λ none. refl)
    behind_same xs before crossed p crossed' p' a b true false e = a e
    behind_same xs before crossed p crossed' p' a b false is_forced e = b e

    the_same : (xs : List FlatItem) (totals : Totals) (notes other : List NoteSum) (bound : Option ℤ) →
        high (passed_along doc top (parts totals notes bound) xs).notes ≡ 0 →
        AreSame xs (parts totals other bound) (parts totals notes bound)
    the_same [] totals notes other bound e = (refl, by (fits bound top))
      where
        by : (b : Bool) → (if b then Some (parts totals notes bound) else None) ≡ None →
            (if b then Some (parts totals other bound) else None) ≡ None
        by true h = absurd cc
        by false h = refl
    the_same (x ∷ xs) totals notes other bound e =
        let old = parts totals notes bound in
        let sums = counted doc.style.topskip doc.style.maxdepth totals x.item in
        let more = with_note doc.style.classes notes x.item in
        let raise = raised bound (least_room doc.style old) in
        let none : high notes ≡ 0 = none_of (high notes) _ (along_more (x ∷ xs) totals notes bound) e in
        let both = behind_same xs old (parts sums more raise) (parts sums more bound)
        (parts sums (with_note [] other x.item)
        (raised bound (least_room (quiet doc).style (parts totals other bound))))
        (parts sums (with_note [] other x.item) bound)
        (λ h. subst (λ (c : Option ℤ). Same xs (Some (parts sums (with_note [] other x.item) c))
        (Some (parts sums more raise))) (sym (same_bound totals notes other bound none))
        (on_same xs sums more (with_note [] other x.item) raise
        (the_same xs sums more (with_note [] other x.item) raise) h))
        (on_same xs sums more (with_note [] other x.item) bound
        (the_same xs sums more (with_note [] other x.item) bound))
        (is_end_here doc.blocks old x.place) (place_forced doc.blocks x.place) e in
        (ap (max x.place.block) both.0, both.1)

  is_none : (p : Passed) → is_quiet doc.style p ≡ true → high p.notes ≡ 0
  is_none p e = ap nat_abs ((Decides-int_eq (pos (high p.notes)) (pos 0)).0 e)

  module _ (p : Passed) (xs : List FlatItem) (quiet-is : is_quiet doc.style (passed_along doc top p xs) ≡ true) where
    pub quiet_reach : (front : ℕ) → reach_along (quiet doc) top front p xs ≡ reach_along doc top front p xs
    quiet_reach front =
        (the_same front xs p.totals p.notes p.notes p.bound (is_none (passed_along doc top p xs) quiet-is)).0

    pub quiet_stops : past_stretch doc top p xs ≡ None → past_stretch (quiet doc) top p xs ≡ None
    quiet_stops = (the_same 0 xs p.totals p.notes p.notes p.bound (is_none (passed_along doc top p xs) quiet-is)).1

-- ---- behind the last item

module _ (doc : Document) (top : ℤ) (c : Cursor) (is : IsSettled doc.blocks c) (none : None ≡ item_ahead doc.blocks c)
    (p : Passed) where
  pub end_along : p ≡ passed_along doc top p (items_ahead doc.blocks c)
  end_along = sym (ap (passed_along doc top p) (last doc top c is none p).items)
