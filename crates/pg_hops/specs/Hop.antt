-- From a break past the items behind it, up to the next break or insert.
use Rattle.std.specs.Prelude.{◌≡◌, ℕ, zero, suc, ◌+◌, ◌-◌, ◌≤◌, Bool, true, false, ◌||◌, if◌then◌else◌, is_some, List, Option, Some, None, IfSome, ℤ}
use Rattle.std.specs.Option.{option_map_or}
use Rattle.pg_list.specs.declared.item.Item.{Item}
use Rattle.pg_list.specs.declared.blocks.Block.{Block}
use Rattle.pg_list.specs.Shapes.{is_insert}
use Rattle.pg_list.specs.Break.{is_forcing}
use Rattle.pg_breaks.specs.Near.{place_penalty}
use Rattle.pg_column.specs.Passed.{Passed}
use Rattle.pg_hops.specs.Bounds.{AddedValue}
use Rattle.pg_hops.specs.declared.shift.Shift.{Shift}
use Rattle.pg_hops.specs.Shift.{no_shift, shifted, with_shift}
use Rattle.pg_hops.specs.declared.cursor.Cursor.{Cursor}
use Rattle.pg_hops.specs.Ahead.{item_ahead, place_ahead, settled, stepped}

-- where it leads, and what the items on the way add
pub record HopValue : Type 0 where
  pub to : Cursor
  pub added : AddedValue

-- a hop ends before a break or an insert
abbrev pub ends_hop : List Block → Cursor → Item → Bool
ends_hop blocks c item = is_insert item || is_some (place_penalty blocks (place_ahead c))

-- past no item
abbrev pub standing : Cursor → HopValue
standing c = record { to = c; added = record { count = 0; shift = no_shift } }

-- past one item more
abbrev pub past_one : List Block → ℤ → HopValue → Item → HopValue
past_one blocks maxdepth h item = record {
  to = settled blocks (stepped h.to);
  added = record { count = h.added.count + 1; shift = with_shift maxdepth h.added.shift item };
}

-- past so many items more, of which none is a break or an insert
abbrev pub past_plain : List Block → ℤ → ℕ → HopValue → Option HopValue
past_plain blocks maxdepth zero h = Some h
past_plain blocks maxdepth (suc n) h =
    option_map_or
    (λ item. if ends_hop blocks h.to item then None else past_plain blocks maxdepth n (past_one blocks maxdepth h item))
    (item_ahead blocks h.to) None

-- from a break that its item does not force, past this item and a few plain ones
pub record IsHopOver (blocks : List Block) (maxdepth : ℤ) (from : Cursor) (hop : HopValue) (item : Item) : Type 0 where
  pub is_break : is_some (place_penalty blocks (place_ahead from)) ≡ true
  pub is_free : is_forcing item ≡ false
  pub few : hop.added.count ≤ 64
  pub plain : past_plain blocks maxdepth (hop.added.count - 1) (past_one blocks maxdepth (standing from) item) ≡ Some hop

abbrev pub IsHopAt : List Block → ℤ → Cursor → HopValue → Option Item → Type 0
IsHopAt blocks maxdepth from hop None = ⊥
IsHopAt blocks maxdepth from hop (Some item) = IsHopOver blocks maxdepth from hop item

-- from the break at a cursor
abbrev pub IsHop : List Block → ℤ → Cursor → HopValue → Type 0
IsHop blocks maxdepth from hop = IsHopAt blocks maxdepth from hop (item_ahead blocks from)

-- where one is known, a box was passed, and it leads on from the cursor
abbrev pub MayHop : List Block → ℤ → Passed → Cursor → Option HopValue → Type 0
MayHop blocks maxdepth p from hop =
    IfSome hop (λ (h : HopValue). (p.totals.has_box ≡ true) × IsHop blocks maxdepth from h)

-- what was passed, with what more items add
abbrev pub moved : Passed → Shift → Passed
moved p s = record { totals = shifted p.totals s; notes = p.notes; bound = p.bound }
