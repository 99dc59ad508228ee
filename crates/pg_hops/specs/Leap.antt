-- From a break past several more breaks, up to a front, an insert or a forced break: what lies on the way, added once.
use Rattle.std.specs.Prelude.{◌≡◌, ℕ, zero, suc, ◌-◌, ◌≤◌, Bool, true, false, ◌&&◌, not, if◌then◌else◌, is_some, List, Option, Some, None, unwrap_or, ℤ, pos, ◌+ℤ◌, ◌-ℤ◌, ◌≤ℤ◌, int_le}
use Rattle.std.specs.Option.{option_map_or}
use Rattle.pg_list.specs.declared.item.Item.{Item}
use Rattle.pg_list.specs.declared.blocks.Block.{Block}
use Rattle.pg_list.specs.Shapes.{is_insert}
use Rattle.pg_list.specs.Break.{is_forcing}
use Rattle.pg_breaks.specs.Near.{place_penalty}
use Rattle.pg_column.specs.Passed.{Passed, least_notes, least_room, raised}
use Rattle.pg_rules.specs.Room.{Document}
use Rattle.pg_hops.specs.declared.shift.Shift.{Shift}
use Rattle.pg_hops.specs.Shift.{shifted}
use Rattle.pg_style.specs.Values.{StyleValue}
use Rattle.pg_hops.specs.declared.cursor.Cursor.{Cursor}
use Rattle.pg_hops.specs.Ahead.{IsSettled, front_ahead, item_ahead, items_ahead, place_ahead}
use Rattle.law_walk.specs.Reached.{reach_along}
use Rattle.law_walk.specs.Walk.{past_stretch}
use Rattle.pg_hops.specs.Hop.{HopValue, past_one, standing}

-- where it leads and what the items on the way add, and the most that a break behind the first one asks of a room
pub record LeapValue : Type 0 where
  pub way : HopValue
  pub highest : ℤ

-- on the way; where no break behind the first one was passed, none has asked
pub record Leaping : Type 0 where
  pub way : HopValue
  pub highest : Option ℤ

-- whether a break is before the next item
abbrev pub is_break_ahead : List Block → Cursor → Bool
is_break_ahead blocks c = is_some (place_penalty blocks (place_ahead c))

-- what a break asks of a room behind items that add so much: their size without the depth that hangs, less their shrink
abbrev pub asked : Shift → ℤ
asked s = (s.height -ℤ unwrap_or s.depth (pos 0)) -ℤ s.shrink

-- a break that a leap passes behind what was added: it is not forced, an item has a size, and no shrink is negative
abbrev pub may_cross : Shift → Item → Bool
may_cross s item = not (is_forcing item) && (is_some s.depth && int_le (pos 0) s.shrink)

-- an item that a leap passes
abbrev pub may_leap : List Block → HopValue → Item → Bool
may_leap blocks way item =
    not (is_insert item) && (if is_break_ahead blocks way.to then may_cross way.added.shift item else true)

-- past one item more, and past the break before it
abbrev pub leap_one : List Block → ℤ → Leaping → Item → Leaping
leap_one blocks maxdepth l item = record {
  way = past_one blocks maxdepth l.way item;
  highest = if is_break_ahead blocks l.way.to then raised l.highest (asked l.way.added.shift) else l.highest;
}

-- past so many items more
abbrev pub leap_on : List Block → ℤ → ℕ → Leaping → Option Leaping
leap_on blocks maxdepth zero l = Some l
leap_on blocks maxdepth (suc n) l =
    option_map_or
    (λ item. if may_leap blocks l.way item then leap_on blocks maxdepth n (leap_one blocks maxdepth l item) else None)
    (item_ahead blocks l.way.to) None

-- past the first item
abbrev pub leap_begun : List Block → ℤ → Cursor → Item → Leaping
leap_begun blocks maxdepth from item = record {
  way = past_one blocks maxdepth (standing from) item;
  highest = None;
}

-- from a break that its item does not force, past this item and several more, with a break among them
pub record IsLeapOver (blocks : List Block) (maxdepth : ℤ) (from : Cursor) (leap : LeapValue) (item : Item) : Type 0
  where
    pub is_break : is_break_ahead blocks from ≡ true
    pub is_free : is_forcing item ≡ false
    pub few : leap.way.added.count ≤ 256
    pub on : leap_on blocks maxdepth (leap.way.added.count - 1) (leap_begun blocks maxdepth from item)
        ≡ Some (record { way = leap.way; highest = Some leap.highest })

abbrev pub IsLeapAt : List Block → ℤ → Cursor → LeapValue → Option Item → Type 0
IsLeapAt blocks maxdepth from leap None = ⊥
IsLeapAt blocks maxdepth from leap (Some item) = IsLeapOver blocks maxdepth from leap item

-- from the break at a cursor
abbrev pub IsLeap : List Block → ℤ → Cursor → LeapValue → Type 0
IsLeap blocks maxdepth from leap = IsLeapAt blocks maxdepth from leap (item_ahead blocks from)

-- ---- what is passed by it

-- what the items passed ask of a room before a leap, with the depth that hangs, less their shrink
abbrev pub asked_before : StyleValue → Passed → ℤ
asked_before style p = ((p.totals.total +ℤ p.totals.depth) +ℤ least_notes style p) -ℤ p.totals.shrink

-- past a break, and past the items and breaks of a leap from it
abbrev pub leapt : StyleValue → Passed → LeapValue → Passed
leapt style p leap = record {
  totals = shifted p.totals leap.way.added.shift;
  notes = p.notes;
  bound = raised (raised p.bound (least_room style p)) (asked_before style p +ℤ leap.highest);
}

-- a leap serves where a box was passed and the shrink is not negative
pub record Serves (blocks : List Block) (maxdepth : ℤ) (p : Passed) (from : Cursor) (leap : LeapValue) : Type 0 where
  pub box : p.totals.has_box ≡ true
  pub shrink : pos 0 ≤ℤ p.totals.shrink
  pub is : IsLeap blocks maxdepth from leap

-- for rooms up to a greatest one the items from one cursor on, with p passed, are those from another on with q passed
pub record GoesFar (doc : Document) (top : ℤ) (from to : Cursor) (p q : Passed) : Type 0 where
  pub settled : IsSettled doc.blocks to
  pub front : front_ahead doc.blocks to ≡ front_ahead doc.blocks from
  pub past : past_stretch doc top p (items_ahead doc.blocks from) ≡ past_stretch doc top q (items_ahead doc.blocks to)
  pub reach : reach_along doc top (front_ahead doc.blocks from) p (items_ahead doc.blocks from)
      ≡ reach_along doc top (front_ahead doc.blocks to) q (items_ahead doc.blocks to)
