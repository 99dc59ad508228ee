-- From a break past the items of a hop, one after another.
use Rattle.std.proofs.Common.{◌≡◌, refl, sym, ap, ◌∙◌, subst, ℕ, zero, suc, ◌+◌, ◌-◌, ◌≤◌, List, length, arith, Bool, true, false, Option, Some, None, ℤ}
use Rattle.std.specs.Prelude.{◌&&◌, if◌then◌else◌, is_some}
use Rattle.std.specs.List.{AllByRecursion}
use Rattle.std.specs.Option.{option_map_or}
use Rattle.std.proofs.lemmas.Bool.{or_parts}
use Rattle.std.proofs.lemmas.Option.{same_Some}
use Rattle.pg_list.specs.declared.item.Item.{Item}
use Rattle.pg_list.specs.declared.item.Item.TheVariants.{BoxItem, Rule, Glue, Kern, Penalty, Insert, Carry}
use Rattle.pg_list.specs.declared.blocks.Block.{Block}
use Rattle.pg_list.specs.Shapes.{IsBlock, is_insert}
use Rattle.pg_style.specs.declared.style.Class.{Class}
use Rattle.pg_list.specs.Break.{is_forcing}
use Rattle.pg_breaks.specs.Near.{place_forced, place_penalty}
use Rattle.pg_lemmas.proofs.Bools.{both, if_false, if_true}
use Rattle.pg_list.specs.declared.galley.Place.{Place}
use Rattle.pg_notes.specs.declared.sums.NoteSum.{NoteSum}
use Rattle.pg_notes.specs.Step.{with_note}
use Rattle.pg_rules.specs.Room.{Document}
use Rattle.pg_sums.specs.declared.totals.Totals.{Totals}
use Rattle.pg_column.specs.Passed.{Passed, crossed, is_end_here, pass_item, with_next}
use Rattle.pg_hops.specs.declared.shift.Shift.{Shift}
use Rattle.pg_hops.specs.Shift.{no_shift, with_shift}
use Rattle.pg_hops.proofs.Shifting.{shift_none, shift_step}
use Rattle.pg_hops.specs.declared.cursor.Cursor.{Cursor}
use Rattle.pg_hops.specs.Ahead.{before, item_ahead, items_ahead, place_ahead, settled, stepped, is_behind}
use Rattle.pg_hops.proofs.Cursors.{ahead_is}
use Rattle.pg_hops.specs.Goes.{Goes}
use Rattle.pg_hops.specs.Hop.{HopValue, IsHop, IsHopAt, IsHopOver, MayHop, ends_hop, moved, past_one, past_plain, standing}
use Rattle.pg_hops.proofs.FreeBreak.{break_free, break_insert}
use Rattle.pg_hops.proofs.OneStep.{goes_on, goes_one, one}

-- what a hop leads past, where the item ahead is at hand
hop_over : (blocks : List Block) (maxdepth : ℤ) (from : Cursor) (hop : HopValue) (item : Item) →
    item_ahead blocks from ≡ Some item → IsHop blocks maxdepth from hop → IsHopOver blocks maxdepth from hop item
hop_over blocks maxdepth from hop item e is = rw e at is

-- ---- what holds past each item holds past all

module _ (blocks : List Block) (maxdepth : ℤ) (P : HopValue → Type 0)
    (step : (h : HopValue) (item : Item) → item_ahead blocks h.to ≡ Some item → ends_hop blocks h.to item ≡ false →
    P h → P (past_one blocks maxdepth h item)) (hop : HopValue) where
  plain_next : (h : HopValue) (more : HopValue → Option HopValue) →
      ((k : HopValue) → more k ≡ Some hop → P k → P hop) →
      option_map_or (λ (item : Item). if ends_hop blocks h.to item then None else more (past_one blocks maxdepth h item))
      (item_ahead blocks h.to) None ≡ Some hop → P h → P hop
  plain_next h more again e held = by (item_ahead blocks h.to) refl e
    where
      by : (o : Option Item) → item_ahead blocks h.to ≡ o →
          option_map_or (λ (item : Item). if ends_hop blocks h.to item then None
          else more (past_one blocks maxdepth h item)) o None ≡ Some hop → P hop
      by None a e = absurd cc
      by (Some item) a e = inside (ends_hop blocks h.to item) refl e
        where
          inside : (t : Bool) → ends_hop blocks h.to item ≡ t →
              (if t then None else more (past_one blocks maxdepth h item)) ≡ Some hop → P hop
          inside true g e = absurd cc
          inside false g e = again (past_one blocks maxdepth h item) e (step h item a g held)

  pub past_all : (n : ℕ) (h : HopValue) → past_plain blocks maxdepth n h ≡ Some hop → P h → P hop
  past_all zero h e held = subst P (same_Some h hop e) held
  past_all (suc n) h e held =
      plain_next h (past_plain blocks maxdepth n) (λ k f there. past_all n k f there) e held

-- ---- one item

pub on_block : (blocks : List Block) (c : Cursor) → c.block ≤ (settled blocks (stepped c)).block
on_block blocks c =
    let more = behind (stepped c) (is_behind blocks (stepped c)) in
    let least = step c.is_inner in
    omega (arith, more, least)
  where
    behind : (d : Cursor) (t : Bool) → d.block ≤ (if t then before (d.block + 1) else d).block
    behind d true = omega arith
    behind d false = omega arith

    step : (t : Bool) →
        c.block ≤ (if t then record { block = c.block; variant = c.variant; index = c.index + 1; is_inner = true }
        else before (c.block + 1)).block
    step true = omega arith
    step false = omega arith

keep_notes : (classes : List Class) (notes : List NoteSum) (item : Item) → is_insert item ≡ false →
    with_note classes notes item ≡ notes
keep_notes classes notes (BoxItem height depth body) e = refl
keep_notes classes notes (Rule height depth body) e = refl
keep_notes classes notes (Glue width stretch order shrink body) e = refl
keep_notes classes notes (Kern width body) e = refl
keep_notes classes notes (Penalty value body) e = refl
keep_notes classes notes (Insert class size body) e = absurd cc
keep_notes classes notes (Carry body) e = refl

-- the same with other sums and notes
abbrev with_sums : Passed → Totals → List NoteSum → Passed
with_sums p t notes = record { totals = t; notes = notes; bound = p.bound }

same_sums : (p : Passed) (t u : Totals) (m n : List NoteSum) → t ≡ u → m ≡ n → with_sums p t m ≡ with_sums p u n
same_sums p t u m n e f = ap (λ (v : Totals). with_sums p v m) e ∙ ap (λ (v : List NoteSum). with_sums p u v) f

module _ (doc : Document) (p : Passed) (box : p.totals.has_box ≡ true) (item : Item) (plain : is_insert item ≡ false) where
  -- behind a box an item that is no insert shifts the sums alone
  pub next_moved : (s : Shift) → with_next doc.style (moved p s) item ≡ moved p (with_shift doc.style.maxdepth s item)
  next_moved s = same_sums p _ _ _ _ (shift_step doc.style.topskip doc.style.maxdepth p.totals s box item)
      (keep_notes doc.style.classes p.notes item plain)

  next_first : with_next doc.style p item ≡ moved p (with_shift doc.style.maxdepth no_shift item)
  next_first = ap (λ (t : Totals). with_next doc.style (with_sums p t p.notes) item) (sym (shift_none p.totals))
      ∙ next_moved no_shift

-- past an item at no break
pub plain_passed : (doc : Document) (c : Cursor) (item : Item) (ahead : Some item ≡ item_ahead doc.blocks c)
    (q : Passed) → q.totals.has_box ≡ true → is_some (place_penalty doc.blocks (place_ahead c)) ≡ false →
    pass_item doc q (one doc c item ahead q) ≡ Some (with_next doc.style q item)
plain_passed doc c item ahead q box none =
    let at = place_ahead c in
    let no_end : is_end_here doc.blocks q at ≡ false =
    ap (λ (t : Bool). t && is_some (place_penalty doc.blocks at)) box ∙ none in
    if_false (is_end_here doc.blocks q at)
    (if place_forced doc.blocks at then None else Some (with_next doc.style (crossed doc.style q) item))
    (Some (with_next doc.style q item)) no_end

-- past one at a break that it does not force
pub free_passed : (doc : Document) → AllByRecursion IsBlock doc.blocks → (c : Cursor) (item : Item)
    (ahead : Some item ≡ item_ahead doc.blocks c) → is_some (place_penalty doc.blocks (place_ahead c)) ≡ true →
    is_forcing item ≡ false → (q : Passed) → q.totals.has_box ≡ true →
    pass_item doc q (one doc c item ahead q) ≡ Some (with_next doc.style (crossed doc.style q) item)
free_passed doc all c item ahead is_break is_free q box =
    let at = place_ahead c in
    let is_end : is_end_here doc.blocks q at ≡ true =
    ap (λ (t : Bool). t && is_some (place_penalty doc.blocks at)) box ∙ is_break in
    if_true (is_end_here doc.blocks q at)
    (if place_forced doc.blocks at then None else Some (with_next doc.style (crossed doc.style q) item))
    (Some (with_next doc.style q item)) is_end
    ∙ if_false (place_forced doc.blocks at) None (Some (with_next doc.style (crossed doc.style q) item))
    (break_free doc.blocks all c item (sym ahead) is_break is_free)

-- past the first one, from such a break
pub first_passed : (doc : Document) → AllByRecursion IsBlock doc.blocks → (c : Cursor) (item : Item)
    (ahead : Some item ≡ item_ahead doc.blocks c) → is_some (place_penalty doc.blocks (place_ahead c)) ≡ true →
    is_forcing item ≡ false → (p : Passed) → p.totals.has_box ≡ true →
    pass_item doc p (one doc c item ahead p)
    ≡ Some (moved (crossed doc.style p) (with_shift doc.style.maxdepth no_shift item))
first_passed doc all c item ahead is_break is_free p box = free_passed doc all c item ahead is_break is_free p box
    ∙ ap Some (next_first doc (crossed doc.style p) box item
    (break_insert doc.blocks all c item (sym ahead) is_break))

-- ---- as many are passed as are counted

module _ (blocks : List Block) (maxdepth : ℤ) (from : Cursor) where
  abbrev pub AreCounted : HopValue → Type 0
  AreCounted h = (h.added.count + length (items_ahead blocks h.to) ≡ length (items_ahead blocks from))
      × (1 ≤ h.added.count)

  pub first_counted : (item : Item) → item_ahead blocks from ≡ Some item →
      AreCounted (past_one blocks maxdepth (standing from) item)
  first_counted item a = let long = ap length (ahead_is blocks from item a) in (omega (arith, long), omega arith)

  pub more_counted : (h : HopValue) (item : Item) → item_ahead blocks h.to ≡ Some item → AreCounted h →
      AreCounted (past_one blocks maxdepth h item)
  more_counted h item a are =
      let long = ap length (ahead_is blocks h.to item a) in
      (omega (arith, long, are.0), omega (arith, are.1))

-- ---- all items of a hop

module _ (doc : Document) (from : Cursor) (item : Item) (ahead : Some item ≡ item_ahead doc.blocks from) (hop : HopValue)
    (is : IsHop doc.blocks doc.style.maxdepth from hop) where
  over : IsHopOver doc.blocks doc.style.maxdepth from hop item
  over = hop_over doc.blocks doc.style.maxdepth from hop item (sym ahead) is

  abbrev begun : HopValue
  begun = past_one doc.blocks doc.style.maxdepth (standing from) item

  pub hop_counts : AreCounted doc.blocks doc.style.maxdepth from hop
  hop_counts = past_all doc.blocks doc.style.maxdepth (AreCounted doc.blocks doc.style.maxdepth from)
      (λ h x a free are. more_counted doc.blocks doc.style.maxdepth from h x a are)
      hop (hop.added.count - 1) begun over.plain
      (first_counted doc.blocks doc.style.maxdepth from item (sym ahead))

  module _ (all : AllByRecursion IsBlock doc.blocks) (p : Passed) (box : p.totals.has_box ≡ true) where
    abbrev over_it : Passed
    over_it = crossed doc.style p

    abbrev Reaches : HopValue → Type 0
    Reaches h = Goes doc from h.to p (moved over_it h.added.shift)

    plain_step : (h : HopValue) (x : Item) → item_ahead doc.blocks h.to ≡ Some x → ends_hop doc.blocks h.to x ≡ false →
        Reaches h → Reaches (past_one doc.blocks doc.style.maxdepth h x)
    plain_step h x a free went =
        let at = place_ahead h.to in
        let q = moved over_it h.added.shift in
        let none = or_parts (is_insert x) (is_some (place_penalty doc.blocks at)) free in
        let no_end : is_end_here doc.blocks q at ≡ false =
        ap (λ (t : Bool). t && is_some (place_penalty doc.blocks at)) box ∙ none.1 in
        let passed : pass_item doc q (one doc h.to x (sym a) q)
        ≡ Some (moved over_it (with_shift doc.style.maxdepth h.added.shift x)) =
        plain_passed doc h.to x (sym a) q box none.1
        ∙ ap Some (next_moved doc over_it box x none.0 h.added.shift) in
        goes_on doc from h.to (settled doc.blocks (stepped h.to)) p q
        (moved over_it (with_shift doc.style.maxdepth h.added.shift x)) went
        (goes_one doc h.to x (sym a) q (moved over_it (with_shift doc.style.maxdepth h.added.shift x)) passed)
        no_end refl refl (on_block doc.blocks h.to)

    -- past a break and the plain items behind it
    pub hop_goes : Goes doc from hop.to p (moved over_it hop.added.shift)
    hop_goes = past_all doc.blocks doc.style.maxdepth Reaches plain_step hop (hop.added.count - 1) begun over.plain
        (goes_one doc from item ahead p (moved over_it begun.added.shift)
        (first_passed doc all from item ahead over.is_break over.is_free p box))

-- an item stands ahead of a hop
pub hop_item : (blocks : List Block) (maxdepth : ℤ) (from : Cursor) (hop : HopValue) (o : Option Item) →
    IsHopAt blocks maxdepth from hop o → (item : Item) × (o ≡ Some item)
hop_item blocks maxdepth from hop None is = absurd is
hop_item blocks maxdepth from hop (Some item) is = (item, refl)

-- a hop leads on from a break behind a box
pub hop_end : (blocks : List Block) (maxdepth : ℤ) (p : Passed) (from : Cursor) (here : Place) (hop : HopValue) →
    here ≡ place_ahead from → MayHop blocks maxdepth p from (Some hop) → true ≡ is_end_here blocks p here
hop_end blocks maxdepth p from here hop e may = sym (both p.totals.has_box (is_some (place_penalty blocks here)) may.0
    (ap (λ (at : Place). is_some (place_penalty blocks at)) e ∙ breaks (item_ahead blocks from) may.1))
  where
    breaks : (o : Option Item) → IsHopAt blocks maxdepth from hop o →
        is_some (place_penalty blocks (place_ahead from)) ≡ true
    breaks None is = absurd is
    breaks (Some item) is = is.is_break
