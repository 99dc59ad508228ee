-- What is kept of the items passed says what the rules ask of them.
use Rattle.std.proofs.Common.{◌≡◌, refl, sym, ap, ◌∙◌, subst, ℕ, zero, suc, ◌+◌, ◌-◌, ◌≤◌, ◌<◌, List, [], ◌∷◌, ◌++◌, length, map, take, drop, arith, Bool, true, false, Option, Some, None, ℤ, pos, ◌+ℤ◌, ◌-ℤ◌, ◌<ℤ◌}
use Rattle.std.specs.Prelude.{◌||◌, ◌&&◌, not, if◌then◌else◌, is_some, slice_get, int_le, int_lt, unwrap_or, option_map, ◌==◌}
use Rattle.std.specs.List.{list_any, list_all, AllByRecursion, range_with_len}
use Rattle.std.specs.Int.{int_max, int_min}
use Rattle.std.specs.Option.{option_map_or}
use Rattle.std.proofs.lemmas.Int.{ints, clamps}
use Rattle.std.proofs.lemmas.List.Folds.{list_all-append}
use Rattle.pg_list.specs.declared.item.Item.{Item}
use Rattle.pg_list.specs.declared.blocks.Block.{Block}
use Rattle.pg_list.specs.declared.blocks.Block.TheVariants.{One, Choice}
use Rattle.pg_list.specs.declared.variants.Variant.{Variant}
use Rattle.pg_list.specs.declared.galley.Place.{Place}
use Rattle.pg_list.specs.Places.{picked_items, items_around}
use Rattle.pg_list.specs.Ranges.{IsItemInRange}
use Rattle.pg_list.specs.Shapes.{IsBlock, HasItemsInRange, is_box}
use Rattle.pg_list.specs.Badness.{is_over}
use Rattle.pg_list.specs.Break.{break_penalty, follows_solid, is_forced, passes_between}
use Rattle.pg_list.specs.Flat.{FlatItem, blocks_at, flat_items_at, flat_items_from, later_flat_items, picked_variants, variant_flat_items}
use Rattle.pg_list.specs.Totals.{shrink, total, trimmed}
use Rattle.pg_list.proofs.SumsLaws.{trimmed_any}
use Rattle.pg_style.specs.Ranges.{IsStyle}
use Rattle.pg_breaks.specs.Near.{place_penalty, place_forced}
use Rattle.pg_breaks.specs.Read.{items_at}
use Rattle.pg_breaks.proofs.Answers.{forced_seen, penalty_seen}
use Rattle.pg_breaks.proofs.Column.{SeenAt, column_seen}
use Rattle.pg_breaks.proofs.Listed.{are_picks}
use Rattle.pg_breaks.proofs.Lists.{follows}
use Rattle.pg_notes.proofs.Kept.{heights_are, skips_are}
use Rattle.pg_notes.proofs.Sizes.{notes_trimmed, skips_trimmed}
use Rattle.law_places.proofs.Tests.{le_int, less_int, int_le_of, int_less}
use Rattle.pg_rules.specs.Floats.{gap_shrink}
use Rattle.pg_rules.specs.Room.{Document, smallest_notes}
use Rattle.pg_column.specs.Passed.{IsPassed, Passed, crossed, fits, is_end_here, least_notes, least_room, nothing, pass_item, pass_items, raised, with_next}
use Rattle.pg_column.proofs.Sums.{passed_crossed, passed_none, passed_push}
use Rattle.pg_lemmas.proofs.Bools.{both_ways, where_neither}
use Rattle.std.proofs.Math.Bool.{and-true}
use Rattle.pg_lemmas.proofs.Lists.{range_more, all_drop}

-- ---- lists

pub taken_more : {X : Type 0} (n : ℕ) (xs : List X) (x : X) → slice_get xs n ≡ Some x →
    take (suc n) xs ≡ take n xs ++ x ∷ []
taken_more n [] x e = absurd cc
taken_more zero (y ∷ ys) x e = let same : y ≡ x = cc in ap (λ z. z ∷ []) same
taken_more (suc n) (y ∷ ys) x e = ap (λ zs. y ∷ zs) (taken_more n ys x e)

pub map_got : {X Y : Type 0} (f : X → Y) (n : ℕ) (xs : List X) (x : X) → slice_get xs n ≡ Some x →
    slice_get (map f xs) n ≡ Some (f x)
map_got f n [] x e = absurd cc
map_got f zero (y ∷ ys) x e = let same : y ≡ x = cc in ap (λ z. Some (f z)) same
map_got f (suc n) (y ∷ ys) x e = map_got f n ys x e

pub got_within : {X : Type 0} (n : ℕ) (xs : List X) → n < length xs → (x : X) × (slice_get xs n ≡ Some x)
got_within n [] h = absurd (omega (arith, h))
got_within zero (x ∷ xs) h = (x, refl)
got_within (suc n) (x ∷ xs) h = got_within n xs (omega (arith, h))

-- ---- the items are in their ranges

abbrev pub InRange : List FlatItem → Type 0
InRange xs = AllByRecursion (λ (x : FlatItem). IsItemInRange x.item) xs

all_append : (xs ys : List FlatItem) → InRange xs → InRange ys → InRange (xs ++ ys)
all_append [] ys a b = b
all_append (x ∷ xs) ys a b = (a.0, all_append xs ys a.1 b)

later_ranges : (n v i : ℕ) (items : List Item) → AllByRecursion IsItemInRange items →
    InRange (later_flat_items n v i items)
later_ranges n v i [] a = tt
later_ranges n v i (item ∷ items) a = (a.0, later_ranges n v (i + 1) items a.1)

variant_ranges : (n v : ℕ) (items : List Item) → AllByRecursion IsItemInRange items →
    InRange (variant_flat_items n v items)
variant_ranges n v [] a = tt
variant_ranges n v (item ∷ items) a = (a.0, later_ranges n v 1 items a.1)

picked_ranges : (block : Block) (v : ℕ) → IsBlock block → AllByRecursion IsItemInRange (picked_items block v)
picked_ranges (One item) v shape = by (v == 0)
  where
    by : (b : Bool) → AllByRecursion IsItemInRange (if b then item ∷ [] else [])
    by true = (shape, tt)
    by false = tt
picked_ranges (Choice variants) v shape = at variants v shape.ranges
  where
    at : (variants : List Variant) (v : ℕ) → AllByRecursion HasItemsInRange variants →
        AllByRecursion IsItemInRange (unwrap_or (option_map (λ (w : Variant). w.items) (slice_get variants v)) [])
    at [] v a = tt
    at (w ∷ ws) zero a = a.0
    at (w ∷ ws) (suc v) a = at ws v a.1

from_ranges : (n : ℕ) (blocks : List Block) (picks : List ℕ) → AllByRecursion IsBlock blocks →
    InRange (flat_items_from n blocks picks)
from_ranges n [] picks a = tt
from_ranges n (One item ∷ blocks) picks a = (a.0, from_ranges (n + 1) blocks picks a.1)
from_ranges n (Choice variants ∷ blocks) [] a =
    all_append (variant_flat_items n 0 (picked_items (Choice variants) 0)) (flat_items_from (n + 1) blocks [])
    (variant_ranges n 0 (picked_items (Choice variants) 0) (picked_ranges (Choice variants) 0 a.0))
    (from_ranges (n + 1) blocks [] a.1)
from_ranges n (Choice variants ∷ blocks) (pick ∷ picks) a =
    all_append (variant_flat_items n pick (picked_items (Choice variants) pick)) (flat_items_from (n + 1) blocks picks)
    (variant_ranges n pick (picked_items (Choice variants) pick) (picked_ranges (Choice variants) pick a.0))
    (from_ranges (n + 1) blocks picks a.1)

pub around_ranges : (blocks : List Block) (b v : ℕ) → AllByRecursion IsBlock blocks →
    AllByRecursion IsItemInRange (unwrap_or (option_map (λ (block : Block). picked_items block v)
    (slice_get blocks b)) [])
around_ranges [] b v a = tt
around_ranges (block ∷ blocks) zero v a = picked_ranges block v a.0
around_ranges (block ∷ blocks) (suc b) v a = around_ranges blocks b v a.1

pub at_ranges : (blocks : List Block) (from : Place) (picks : List ℕ) → AllByRecursion IsBlock blocks →
    InRange (flat_items_at blocks from picks)
at_ranges blocks from picks a = by (from.index == 0)
  where
    by : (b : Bool) → InRange (if b then flat_items_from from.block (drop from.block blocks) picks
        else drop from.index (variant_flat_items from.block from.variant (items_around blocks from))
        ++ flat_items_from (from.block + 1) (drop (from.block + 1) blocks) picks)
    by true = from_ranges from.block (drop from.block blocks) picks (all_drop IsBlock from.block blocks a)
    by false =
        all_append (drop from.index (variant_flat_items from.block from.variant (items_around blocks from)))
        (flat_items_from (from.block + 1) (drop (from.block + 1) blocks) picks)
        (all_drop (λ (x : FlatItem). IsItemInRange x.item) from.index
        (variant_flat_items from.block from.variant (items_around blocks from))
        (variant_ranges from.block from.variant (items_around blocks from)
        (around_ranges blocks from.block from.variant a)))
        (from_ranges (from.block + 1) (drop (from.block + 1) blocks) picks
        (all_drop IsBlock (from.block + 1) blocks a))

pub range_at : (xs : List FlatItem) (n : ℕ) (x : FlatItem) → InRange xs → slice_get xs n ≡ Some x → IsItemInRange x.item
range_at [] n x a e = absurd cc
range_at (y ∷ ys) zero x a e = let same : y ≡ x = cc in subst (λ (z : FlatItem). IsItemInRange z.item) same a.0
range_at (y ∷ ys) (suc n) x a e = range_at ys n x a.1 e

-- ---- passing one list after another

pub pass_append : (doc : Document) (p : Passed) (xs ys : List FlatItem) →
    pass_items doc p (xs ++ ys) ≡ option_map_or (λ (q : Passed). pass_items doc q ys) (pass_items doc p xs) None
pass_append doc p [] ys = refl
pass_append doc p (x ∷ xs) ys = by (pass_item doc p x) (λ q. pass_append doc q xs ys)
  where
    by : (o : Option Passed) → ((q : Passed) → pass_items doc q (xs ++ ys)
        ≡ option_map_or (λ (r : Passed). pass_items doc r ys) (pass_items doc q xs) None) →
        option_map_or (λ (q : Passed). pass_items doc q (xs ++ ys)) o None
        ≡ option_map_or (λ (r : Passed). pass_items doc r ys)
        (option_map_or (λ (q : Passed). pass_items doc q xs) o None) None
    by None more = refl
    by (Some q) more = more q

-- ---- over and the least room

pub over_least : (t s h room : ℤ) →
    is_over t s (room -ℤ h) ≡ not (int_le (int_min ((t +ℤ h) +ℤ pos 1) ((t +ℤ h) -ℤ s)) room)
over_least t s h room = both_ways (is_over t s (room -ℤ h))
    (not (int_le (int_min ((t +ℤ h) +ℤ pos 1) ((t +ℤ h) -ℤ s)) room)) there back
  where
    and_both : (a b : Bool) → (a && b) ≡ true → (a ≡ true) × (b ≡ true)
    and_both true b e = (refl, e)
    and_both false b e = absurd cc

    both : (a b : Bool) → a ≡ true → b ≡ true → (a && b) ≡ true
    both true b p q = q
    both false b p q = absurd cc

    not_le : (k l : ℤ) → l <ℤ k → not (int_le k l) ≡ true
    not_le k l h = grind (arith, ints)

    le_not : (k l : ℤ) → not (int_le k l) ≡ true → l <ℤ k
    le_not k l e = grind (arith, ints)

    there : is_over t s (room -ℤ h) ≡ true →
        not (int_le (int_min ((t +ℤ h) +ℤ pos 1) ((t +ℤ h) -ℤ s)) room) ≡ true
    there e =
        let two = and_both (int_le (room -ℤ h) t) (int_lt s (t -ℤ (room -ℤ h))) e in
        let a = le_int (room -ℤ h) t two.0 in
        let b = less_int s (t -ℤ (room -ℤ h)) two.1 in
        not_le _ room (omega (arith, ints, clamps, a, b))

    back : not (int_le (int_min ((t +ℤ h) +ℤ pos 1) ((t +ℤ h) -ℤ s)) room) ≡ true →
        is_over t s (room -ℤ h) ≡ true
    back e =
        let a = le_not _ room e in
        both (int_le (room -ℤ h) t) (int_lt s (t -ℤ (room -ℤ h)))
        (int_le_of (room -ℤ h) t (omega (arith, ints, clamps, a)))
        (int_less s (t -ℤ (room -ℤ h)) (omega (arith, ints, clamps, a)))

max_le : (x y room : ℤ) → int_le (int_max x y) room ≡ (int_le x room && int_le y room)
max_le x y room = both_ways (int_le (int_max x y) room) (int_le x room && int_le y room) there back
  where
    both : (a b : Bool) → a ≡ true → b ≡ true → (a && b) ≡ true
    both true b p q = q
    both false b p q = absurd cc

    and_both : (a b : Bool) → (a && b) ≡ true → (a ≡ true) × (b ≡ true)
    and_both true b e = (refl, e)
    and_both false b e = absurd cc

    there : int_le (int_max x y) room ≡ true → (int_le x room && int_le y room) ≡ true
    there e = let a = le_int (int_max x y) room e in
        both (int_le x room) (int_le y room) (int_le_of x room (omega (arith, ints, clamps, a)))
        (int_le_of y room (omega (arith, ints, clamps, a)))

    back : (int_le x room && int_le y room) ≡ true → int_le (int_max x y) room ≡ true
    back e = let two = and_both (int_le x room) (int_le y room) e in
        let a = le_int x room two.0 in let b = le_int y room two.1 in
        int_le_of (int_max x y) room (omega (arith, ints, clamps, a, b))

pub fits_raised : (o : Option ℤ) (least room : ℤ) → fits (raised o least) room ≡ (fits o room && int_le least room)
fits_raised None least room = refl
fits_raised (Some x) least room = max_le x least room

-- ---- inner breaks, one after another

abbrev pub is_passable : List Item → (ℕ → Bool) → ℕ → Bool
is_passable flat over k =
    not (is_some (break_penalty flat k) && list_any is_box (take k flat)) || not (is_forced flat k || over k)

pub passes_more : (flat : List Item) (over : ℕ → Bool) (n : ℕ) →
    passes_between flat over (suc n) ≡ (passes_between flat over n && is_passable flat over n)
passes_more flat over zero = sym (where_neither (is_some (break_penalty flat 0)) (not (is_forced flat 0 || over 0)))
passes_more flat over (suc m) =
    let less : suc m - 1 ≡ m = omega arith in
    let more : suc (suc m) - 1 ≡ suc m = omega arith in
    let next : 1 + m ≡ suc m = omega arith in
    ap (λ (k : ℕ). list_all (is_passable flat over) (range_with_len 1 k)) more
    ∙ (ap (list_all (is_passable flat over)) (range_more 1 m)
    ∙ (list_all-append (is_passable flat over) (range_with_len 1 m) ((1 + m) ∷ [])
    ∙ (ap (λ (k : ℕ). list_all (is_passable flat over) (range_with_len 1 m) && list_all (is_passable flat over)
    (k ∷ [])) next
    ∙ (ap (λ (b : Bool). list_all (is_passable flat over) (range_with_len 1 m) && b)
    (and-true (is_passable flat over (suc m)))
    ∙ ap (λ (k : ℕ). list_all (is_passable flat over) (range_with_len 1 k) && is_passable flat over (suc m))
    (sym less)))))

follows_more : (s : Bool) (list : List Item) (k : ℕ) → 1 ≤ k → follows s list k ≡ follows_solid list k
follows_more s list zero h = absurd (omega (arith, h))
follows_more s list (suc k) h = refl

-- ---- a column's items

module _ (doc : Document) (all : AllByRecursion IsBlock doc.blocks) (is-style : IsStyle doc.style) (from : Place)
    (picks : List ℕ) (named : length (picked_variants (blocks_at doc.blocks from) picks) ≡ length picks) where
  abbrev pub passing : List FlatItem
  passing = flat_items_at doc.blocks from picks

  abbrev pub read : List Item
  read = items_at doc.blocks from picks

  -- the first k items are over in a room whose gaps are shrunk
  abbrev pub over_in : ℤ → ℕ → Bool
  over_in room k =
      is_over (total doc.style.topskip doc.style.maxdepth (trimmed (take k read))) (shrink (trimmed (take k read)))
      (room -ℤ smallest_notes doc.style (trimmed (take k read)))

  seen_at : (n : ℕ) (x : FlatItem) → slice_get passing n ≡ Some x → SeenAt read n doc.blocks x.place
  seen_at n x got =
      column_seen doc.blocks from picks n x all (are_picks (blocks_at doc.blocks from) picks named) got

  pub forced_at : (n : ℕ) (x : FlatItem) → slice_get passing n ≡ Some x →
      is_forced read n ≡ place_forced doc.blocks x.place
  forced_at n x got = let it = seen_at n x got in forced_seen it.s read n doc.blocks x.place it.seen

  pub penalty_at : (n : ℕ) (x : FlatItem) → slice_get passing n ≡ Some x → 1 ≤ n →
      break_penalty read n ≡ place_penalty doc.blocks x.place
  penalty_at n x got h =
      let it = seen_at n x got in
      penalty_seen it.s read n doc.blocks x.place (follows_more it.s read n h) it.seen

  pub box_is : (n : ℕ) (p : Passed) → IsPassed doc.style (take n read) p →
      p.totals.has_box ≡ list_any is_box (take n read)
  box_is n p is = is.totals_are.has_box_is ∙ trimmed_any (take n read)

  pub notes_is : (n : ℕ) (p : Passed) → IsPassed doc.style (take n read) p →
      smallest_notes doc.style (trimmed (take n read)) ≡ least_notes doc.style p
  notes_is n p is = less _ _ _ _ (notes_trimmed doc.style (take n read)
      ∙ sym (heights_are (take n read) doc.style.classes p.notes is-style.classes_in.each is.notes_are))
      (skips_trimmed gap_shrink doc.style (take n read)
      ∙ sym (skips_are gap_shrink (take n read) doc.style.classes p.notes is.notes_are))
    where
      less : (a a' b b' : ℤ) → a ≡ a' → b ≡ b' → (a -ℤ b) ≡ (a' -ℤ b')
      less a a' b b' p q = rw (p, q) refl

  over_by : (t s h t' s' h' room : ℤ) → t ≡ t' → s ≡ s' → h ≡ h' →
      is_over t' s' (room -ℤ h') ≡ is_over t s (room -ℤ h)
  over_by t s h t' s' h' room p q r = cc

  pub over_is : (n : ℕ) (p : Passed) (room : ℤ) → IsPassed doc.style (take n read) p →
      over_in room n ≡ is_over p.totals.total p.totals.shrink (room -ℤ least_notes doc.style p)
  over_is n p room is = over_by _ _ _ _ _ _ room is.totals_are.total_is is.totals_are.shrink_is (sym (notes_is n p is))

  -- ---- past one item

  pub end_test : (n : ℕ) (x : FlatItem) (p : Passed) → slice_get passing n ≡ Some x →
      IsPassed doc.style (take n read) p →
      (is_some (break_penalty read n) && list_any is_box (take n read)) ≡ is_end_here doc.blocks p x.place
  end_test zero x p got is = none (is_some (break_penalty read 0)) (is_some (place_penalty doc.blocks x.place))
      p.totals.has_box (box_is 0 p is)
    where
      none : (a b c : Bool) → c ≡ false → (a && false) ≡ (c && b)
      none true b c e = ap (λ (d : Bool). d && b) (sym e)
      none false b c e = ap (λ (d : Bool). d && b) (sym e)
  end_test (suc n) x p got is =
      let a = penalty_at (suc n) x got (omega arith) in
      let b = box_is (suc n) p is in
      turned (is_some (break_penalty read (suc n))) (list_any is_box (take (suc n) read)) p.totals.has_box
      (is_some (place_penalty doc.blocks x.place)) (ap is_some a) b
    where
      turned : (a b c d : Bool) → a ≡ d → c ≡ b → (a && b) ≡ (c && d)
      turned true b c d p q = rw (← p, q) (sym (and-true b))
      turned false b c d p q = rw (← p, q) (sym (none b))
        where
          none : (b : Bool) → (b && false) ≡ false
          none true = refl
          none false = refl

  pub test_is : (a e f g o : Bool) → a ≡ e → f ≡ g → (not a || not (f || o)) ≡ (not e || not (g || o))
  test_is a e f g o p q = cc

  abbrev Went : ℕ → Passed → Option Passed → Type 0
  Went n p o = ((q : Passed) → o ≡ Some q → IsPassed doc.style (take (suc n) read) q)
      × ((room : ℤ) → (fits p.bound room && is_passable read (over_in room) n)
      ≡ option_map_or (λ (q : Passed). fits q.bound room) o false)

  went : (n : ℕ) (x : FlatItem) (p : Passed) → slice_get passing n ≡ Some x →
      IsPassed doc.style (take n read) p → Went n p (pass_item doc p x)
  went n x p got is = by (is_end_here doc.blocks p x.place) (place_forced doc.blocks x.place) refl refl
    where
      range : IsItemInRange x.item
      range = range_at passing n x (at_ranges doc.blocks from picks all) got

      next : take (suc n) read ≡ take n read ++ x.item ∷ []
      next = taken_more n read x.item (map_got (λ (y : FlatItem). y.item) n passing x got)

      pushed : (r : Passed) → IsPassed doc.style (take n read) r →
          IsPassed doc.style (take (suc n) read) (with_next doc.style r x.item)
      pushed r h = subst (λ (ys : List Item). IsPassed doc.style ys (with_next doc.style r x.item)) (sym next)
          (passed_push doc.style is-style (take n read) x.item r range h)

      test : (room : ℤ) → is_passable read (over_in room) n
          ≡ (not (is_end_here doc.blocks p x.place) || not (place_forced doc.blocks x.place || over_in room n))
      test room = test_is _ _ _ _ (over_in room n) (end_test n x p got is) (forced_at n x got)

      same_some : (r q : Passed) → Some r ≡ Some q → r ≡ q
      same_some r q e = cc

      least : (room : ℤ) → not (over_in room n) ≡ int_le (least_room doc.style p) room
      least room =
          ap not (over_is n p room is ∙ over_least p.totals.total p.totals.shrink (least_notes doc.style p) room)
          ∙ twice (int_le (least_room doc.style p) room)
        where
          twice : (b : Bool) → not (not b) ≡ b
          twice true = refl
          twice false = refl

      by : (e f : Bool) → is_end_here doc.blocks p x.place ≡ e → place_forced doc.blocks x.place ≡ f →
          Went n p (if e then (if f then None else Some (with_next doc.style (crossed doc.style p) x.item))
          else Some (with_next doc.style p x.item))
      by true true i j = (
        λ q w. absurd cc,
        λ room. ap (λ (b : Bool). fits p.bound room && b) (test room
            ∙ rw (i, j) refl) ∙ none (fits p.bound room),
      )
        where
          none : (b : Bool) → (b && false) ≡ false
          none true = refl
          none false = refl
      by true false i j = (
        λ q w. subst (IsPassed doc.style (take (suc n) read)) (same_some _ _ w)
            (pushed (crossed doc.style p) (passed_crossed doc.style is-style (take n read) p is)),
        λ room. ap (λ (b : Bool). fits p.bound room && b) (test room ∙ (rw (i, j) refl ∙ least room))
            ∙ sym (fits_raised p.bound (least_room doc.style p) room),
      )
      by false f i j = (
        λ q w. subst (IsPassed doc.style (take (suc n) read)) (same_some _ _ w) (pushed p is),
        λ room. ap (λ (b : Bool). fits p.bound room && b) (test room ∙ rw i refl) ∙ and-true (fits p.bound room),
      )

  -- ---- past all

  abbrev pub Agrees : ℕ → Option Passed → Type 0
  Agrees n o = ((p : Passed) → o ≡ Some p → IsPassed doc.style (take n read) p)
      × ((room : ℤ) → passes_between read (over_in room) n
      ≡ option_map_or (λ (p : Passed). fits p.bound room) o false)

  pub agrees : (n : ℕ) → n ≤ length passing → Agrees n (pass_items doc nothing (take n passing))
  agrees zero h = (
    λ p e. subst (IsPassed doc.style []) (same_some nothing p e) (passed_none doc.style is-style),
    λ room. refl,
  )
    where
      same_some : (r q : Passed) → Some r ≡ Some q → r ≡ q
      same_some r q e = cc
  agrees (suc n) h =
      let it = got_within n passing (omega (arith, h)) in
      let way : pass_items doc nothing (take (suc n) passing)
      ≡ option_map_or (λ (q : Passed). pass_items doc q (it.0 ∷ [])) (pass_items doc nothing (take n passing)) None =
      ap (pass_items doc nothing) (taken_more n passing it.0 it.1)
      ∙ pass_append doc nothing (take n passing) (it.0 ∷ []) in
      subst (Agrees (suc n)) (sym way)
      (by it.0 it.1 (pass_items doc nothing (take n passing)) (agrees n (omega (arith, h))))
    where
      by : (x : FlatItem) → slice_get passing n ≡ Some x → (o : Option Passed) → Agrees n o →
          Agrees (suc n) (option_map_or (λ (q : Passed). pass_items doc q (x ∷ [])) o None)
      by x got None a = (
        λ p e. absurd cc,
        λ room. passes_more read (over_in room) n
            ∙ ap (λ (b : Bool). b && is_passable read (over_in room) n) (a.1 room),
      )
      by x got (Some p) a =
          let w = went n x p got (a.0 p refl) in
          let one : option_map_or (λ (q : Passed). pass_items doc q []) (pass_item doc p x) None ≡ pass_item doc p x =
          only (pass_item doc p x) in
          subst (Agrees (suc n)) (sym one) (
            w.0,
            λ room. passes_more read (over_in room) n
                ∙ (ap (λ (b : Bool). b && is_passable read (over_in room) n) (a.1 room) ∙ w.1 room),
          )
        where
          only : (o : Option Passed) → option_map_or (λ (q : Passed). Some q) o None ≡ o
          only None = refl
          only (Some q) = refl
