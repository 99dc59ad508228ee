-- From a break past the items and breaks of a leap, one after another.
use Rattle.std.proofs.Common.{◌≡◌, refl, sym, ap, subst, ◌∙◌, ℕ, ◌+◌, ◌-◌, ◌≤◌, List, [], ◌∷◌, length, arith, Bool, true, false, Option, Some, None, ℤ, pos, ◌+ℤ◌, ◌-ℤ◌}
use lib.Signed.{le_z_yes}
use Rattle.std.specs.Prelude.{◌&&◌, not, if◌then◌else◌, is_some, max, unwrap_or, int_le, ◌≤ℤ◌, T}
use Rattle.std.specs.Int.{int_max, int_min}
use Rattle.std.specs.List.{AllByRecursion}
use Rattle.std.specs.Option.{option_map_or}
use Rattle.std.proofs.lemmas.Int.{clamps, ints}
use Rattle.pg_list.specs.declared.item.Item.{Item}
use Rattle.pg_list.specs.declared.blocks.Block.{Block}
use Rattle.pg_list.specs.Shapes.{IsBlock, is_insert}
use Rattle.pg_list.specs.Break.{is_forcing}
use Rattle.pg_list.specs.Flat.{FlatItem}
use Rattle.pg_lemmas.proofs.Bools.{both_of, by_bool, if_true, not_true}
use Rattle.pg_rules.specs.Room.{Document}
use Rattle.pg_column.specs.Passed.{Passed, crossed, fits, least_notes, least_room, pass_item, pass_items, raised, with_next}
use Rattle.law_walk.specs.Reached.{reach_along}
use Rattle.law_walk.specs.Walk.{past_stretch}
use Rattle.law_walk.proofs.Stretches.{items_fit}
use Rattle.pg_hops.specs.declared.shift.Shift.{Shift}
use Rattle.pg_hops.specs.Shift.{with_shift}
use Rattle.pg_hops.specs.declared.cursor.Cursor.{Cursor}
use Rattle.pg_hops.specs.Ahead.{front_ahead, item_ahead, items_ahead, settled, stepped}
use Rattle.pg_hops.specs.Goes.{Goes}
use Rattle.pg_hops.specs.Hop.{moved}
use Rattle.pg_hops.specs.Leap.{GoesFar, IsLeap, IsLeapAt, IsLeapOver, LeapValue, Leaping, Serves, asked, asked_before, is_break_ahead, leap_begun, leap_one, leapt, may_cross, may_leap}
use Rattle.pg_hops.proofs.LeapOne.{leap_all}
use Rattle.pg_hops.proofs.OneStep.{goes_one, greater_is, one, reach_least}
use Rattle.pg_hops.proofs.PlainOn.{AreCounted, first_counted, first_passed, free_passed, more_counted, next_moved, on_block, plain_passed}

-- a leap, with the item ahead at hand
record IsOver (blocks : List Block) (maxdepth : ℤ) (from : Cursor) (leap : LeapValue) : Type 0 where
  pub item : Item
  pub ahead : Some item ≡ item_ahead blocks from
  pub over : IsLeapOver blocks maxdepth from leap item

is_over : (blocks : List Block) (maxdepth : ℤ) (from : Cursor) (leap : LeapValue) → IsLeap blocks maxdepth from leap →
    IsOver blocks maxdepth from leap
is_over blocks maxdepth from leap is = by (item_ahead blocks from) refl is
  where
    by : (o : Option Item) → item_ahead blocks from ≡ o → IsLeapAt blocks maxdepth from leap o →
        IsOver blocks maxdepth from leap
    by None a z = absurd z
    by (Some x) a z = record { item = x; ahead = sym a; over = z }

-- as many are passed as are counted
pub leap_counts : (doc : Document) (from : Cursor) (leap : LeapValue) → IsLeap doc.blocks doc.style.maxdepth from leap →
    (leap.way.added.count + length (items_ahead doc.blocks leap.way.to) ≡ length (items_ahead doc.blocks from))
    × (1 ≤ leap.way.added.count)
leap_counts doc from leap is =
    let o = is_over doc.blocks doc.style.maxdepth from leap is in
    leap_all doc.blocks doc.style.maxdepth
    (λ (l : Leaping). AreCounted doc.blocks doc.style.maxdepth from l.way)
    (λ l x a may are. more_counted doc.blocks doc.style.maxdepth from l.way x a are)
    (record { way = leap.way; highest = Some leap.highest })
    (leap.way.added.count - 1) (leap_begun doc.blocks doc.style.maxdepth from o.item) o.over.on
    (first_counted doc.blocks doc.style.maxdepth from o.item (sym o.ahead))

-- ---- the bound, with the most that a break on the way asks

abbrev raised_by : Option ℤ → ℤ → Option ℤ → Option ℤ
raised_by bound base None = bound
raised_by bound base (Some highest) = raised bound (base +ℤ highest)

greater_of : (a b : ℤ) (base : ℤ) → int_max (base +ℤ a) (base +ℤ b) ≡ base +ℤ int_max a b
greater_of a b base = omega (arith, ints, clamps)

greatest_of : (bound a b base : ℤ) →
    int_max (int_max bound (base +ℤ a)) (base +ℤ b) ≡ int_max bound (base +ℤ int_max a b)
greatest_of bound a b base = omega (arith, ints, clamps)

raised_more : (bound : Option ℤ) (base : ℤ) (highest : Option ℤ) (a : ℤ) →
    raised (raised_by bound base highest) (base +ℤ a) ≡ raised_by bound base (raised highest a)
raised_more bound base None a = refl
raised_more None base (Some h) a = ap Some (greater_of h a base)
raised_more (Some b) base (Some h) a = ap Some (greatest_of b h a base)

-- what a break asks behind what was added is what was asked before it, and what these items ask
least_asked : (t d h n s f e : ℤ) → pos 0 ≤ℤ s → pos 0 ≤ℤ f →
    int_min (((((t +ℤ d) +ℤ h) -ℤ e) +ℤ n) +ℤ pos 1) (((((t +ℤ d) +ℤ h) -ℤ e) +ℤ n) -ℤ (s +ℤ f))
    ≡ (((t +ℤ d) +ℤ n) -ℤ s) +ℤ ((h -ℤ e) -ℤ f)
least_asked t d h n s f e p q = omega (arith, ints, clamps, p, q)

hanging : (o : Option ℤ) (d : ℤ) → is_some o ≡ true → unwrap_or o d ≡ unwrap_or o (pos 0)
hanging None d e = absurd cc
hanging (Some x) d e = refl

-- ---- past one item and past another

module _ (doc : Document) (top : ℤ) where
  abbrev reach : Cursor → Passed → ℕ
  reach c p = reach_along doc top (front_ahead doc.blocks c) p (items_ahead doc.blocks c)

  goes_far : (a b : Cursor) (p q : Passed) → Goes doc a b p q → a.block ≤ b.block → fits q.bound top ≡ true →
      GoesFar doc top a b p q
  goes_far a b p q goes block f =
      let least = reach_least doc top b q goes.settled in
      record {
        settled = goes.settled;
        front = goes.front;
        past = goes.past top ∙ if_true (fits q.bound top) (past_stretch doc top q (items_ahead doc.blocks b)) None f;
        reach = goes.reach top ∙ (ap (max a.block) (if_true (fits q.bound top) (reach b q) 0 f)
            ∙ greater_is a.block (reach b q) (omega (arith, least, block)));
      }

  far_on : (a b c : Cursor) (p q r : Passed) → GoesFar doc top a b p q → GoesFar doc top b c q r →
      GoesFar doc top a c p r
  far_on a b c p q r first second = record {
    settled = second.settled;
    front = second.front ∙ first.front;
    past = first.past ∙ second.past;
    reach = first.reach ∙ second.reach;
  }

  -- what fits behind an item did so before it
  fits_before : (p q : Passed) (x : FlatItem) → pass_item doc p x ≡ Some q → fits q.bound top ≡ true →
      fits p.bound top ≡ true
  fits_before p q x e f = items_fit doc top p q (x ∷ [])
      (ap (λ (o : Option Passed). option_map_or (λ (r : Passed). pass_items doc r []) o None) e) f

-- ---- all items of a leap

module _ (doc : Document) (top : ℤ) (from : Cursor) (p : Passed) (all : AllByRecursion IsBlock doc.blocks)
    (box : p.totals.has_box ≡ true) (positive : pos 0 ≤ℤ p.totals.shrink) where
  -- past the break, with the most that those on the way ask
  abbrev over : Option ℤ → Passed
  over highest = record {
    totals = p.totals;
    notes = p.notes;
    bound = raised_by (raised p.bound (least_room doc.style p)) (asked_before doc.style p) highest;
  }

  -- what was passed so far
  abbrev so_far : Leaping → Passed
  so_far l = moved (over l.highest) l.way.added.shift

  abbrev Reaches : Leaping → Type 0
  Reaches l = fits (so_far l).bound top ≡ true → GoesFar doc top from l.way.to p (so_far l)

  -- a break on the way raises the bound by what it asks
  cross_asked : (highest : Option ℤ) (s : Shift) → is_some s.depth ≡ true → pos 0 ≤ℤ s.shrink →
      crossed doc.style (moved (over highest) s) ≡ moved (over (raised highest (asked s))) s
  cross_asked highest s there shrink =
      let q = moved (over highest) s in
      let least : least_room doc.style q ≡ asked_before doc.style p +ℤ asked s =
      least_asked p.totals.total p.totals.depth s.height (least_notes doc.style p) p.totals.shrink s.shrink
      (unwrap_or s.depth p.totals.depth) positive shrink
      ∙ ap (λ (e : ℤ). asked_before doc.style p +ℤ ((s.height -ℤ e) -ℤ s.shrink)) (hanging s.depth p.totals.depth there)
      in
      ap (λ (o : Option ℤ). record { totals = q.totals; notes = q.notes; bound = o })
      (ap (raised q.bound) least
      ∙ raised_more (raised p.bound (least_room doc.style p)) (asked_before doc.style p) highest (asked s))

  -- past one item more
  module _ (l : Leaping) (x : Item) (ahead : item_ahead doc.blocks l.way.to ≡ Some x)
      (may : may_leap doc.blocks l.way x ≡ true) where
    abbrev next : Leaping
    next = leap_one doc.blocks doc.style.maxdepth l x

    no_insert : is_insert x ≡ false
    no_insert = not_true (is_insert x) (both_of (not (is_insert x))
        (if is_break_ahead doc.blocks l.way.to then may_cross l.way.added.shift x else true) may).0

    abbrev passed_by : Bool → Passed
    passed_by b = moved (over (if b then raised l.highest (asked l.way.added.shift) else l.highest))
        (with_shift doc.style.maxdepth l.way.added.shift x)

    at_none : is_break_ahead doc.blocks l.way.to ≡ false →
        pass_item doc (so_far l) (one doc l.way.to x (sym ahead) (so_far l)) ≡ Some (so_far next)
    at_none none = plain_passed doc l.way.to x (sym ahead) (so_far l) box none
        ∙ ap Some (next_moved doc (over l.highest) box x no_insert l.way.added.shift
        ∙ ap passed_by (sym none))

    at_break : is_break_ahead doc.blocks l.way.to ≡ true →
        pass_item doc (so_far l) (one doc l.way.to x (sym ahead) (so_far l)) ≡ Some (so_far next)
    at_break is =
        let s = l.way.added.shift in
        let cross : may_cross s x ≡ true =
        sym (if_true (is_break_ahead doc.blocks l.way.to) (may_cross s x) true is)
        ∙ (both_of (not (is_insert x)) (if is_break_ahead doc.blocks l.way.to then may_cross s x else true) may).1 in
        let free = both_of (not (is_forcing x)) (is_some s.depth && int_le (pos 0) s.shrink) cross in
        let sized = both_of (is_some s.depth) (int_le (pos 0) s.shrink) free.1 in
        free_passed doc all l.way.to x (sym ahead) is (not_true (is_forcing x) free.0) (so_far l) box
        ∙ ap Some (ap (λ (q : Passed). with_next doc.style q x)
        (cross_asked l.highest s sized.0 (le_z_yes (subst T (sym sized.1) tt)))
        ∙ (next_moved doc (over (raised l.highest (asked s))) box x no_insert s
        ∙ ap passed_by (sym is)))

    passes : pass_item doc (so_far l) (one doc l.way.to x (sym ahead) (so_far l)) ≡ Some (so_far next)
    passes = by_bool (is_break_ahead doc.blocks l.way.to) at_break at_none

    reaches_on : Reaches l → Reaches next
    reaches_on went f =
        let to = settled doc.blocks (stepped l.way.to) in
        far_on doc top from l.way.to to p (so_far l) (so_far next)
        (went (fits_before doc top (so_far l) (so_far next) (one doc l.way.to x (sym ahead) (so_far l)) passes f))
        (goes_far doc top l.way.to to (so_far l) (so_far next)
        (goes_one doc l.way.to x (sym ahead) (so_far l) (so_far next) passes)
        (on_block doc.blocks l.way.to) f)

  module _ (leap : LeapValue) (is : IsOver doc.blocks doc.style.maxdepth from leap) where
    abbrev begun : Leaping
    begun = leap_begun doc.blocks doc.style.maxdepth from is.item

    reaches_first : Reaches begun
    reaches_first = goes_far doc top from begun.way.to p (so_far begun)
        (goes_one doc from is.item is.ahead p (so_far begun)
        (first_passed doc all from is.item is.ahead is.over.is_break is.over.is_free p box))
        (on_block doc.blocks from)

    reaches_all : Reaches (record { way = leap.way; highest = Some leap.highest })
    reaches_all = leap_all doc.blocks doc.style.maxdepth Reaches reaches_on
        (record { way = leap.way; highest = Some leap.highest })
        (leap.way.added.count - 1) begun is.over.on reaches_first

-- past a break, and the items and breaks behind it
pub leap_goes : (doc : Document) (top : ℤ) (from : Cursor) (p : Passed) (leap : LeapValue) →
    AllByRecursion IsBlock doc.blocks → Serves doc.blocks doc.style.maxdepth p from leap →
    fits (leapt doc.style p leap).bound top ≡ true → GoesFar doc top from leap.way.to p (leapt doc.style p leap)
leap_goes doc top from p leap all serves f = reaches_all doc top from p all serves.box serves.shrink leap
    (is_over doc.blocks doc.style.maxdepth from leap serves.is) f
