-- One step along a stretch: past an item, or past all items of a hop.
use Rattle.std.specs.Prelude.{◌≡◌, ℕ, ◌+◌, ◌≤◌, if◌then◌else◌, List, [], ◌++◌, length, max, None, ℤ}
use Rattle.pg_list.specs.declared.blocks.Block.{Block}
use Rattle.pg_rules.specs.Room.{Document}
use Rattle.pg_column.specs.Passed.{Passed, fits}
use Rattle.law_walk.specs.Reached.{reach_along}
use Rattle.law_walk.specs.Walk.{end_here, ends_along, past_stretch}
use Rattle.pg_list.specs.declared.galley.Place.{Place}
use Rattle.pg_hops.specs.declared.cursor.Cursor.{Cursor}
use Rattle.pg_hops.specs.Ahead.{IsSettled, front_ahead, items_ahead, place_ahead}
use Rattle.pg_hops.specs.Quiet.{is_quiet, passed_along}

-- the items from one cursor on, with p passed, are those from another on with q passed, if some room up to the greatest one
-- lets pass
pub record Goes (doc : Document) (from to : Cursor) (p q : Passed) : Type 0 where
  pub settled : IsSettled doc.blocks to
  pub front : front_ahead doc.blocks to ≡ front_ahead doc.blocks from
  pub past : (top : ℤ) → past_stretch doc top p (items_ahead doc.blocks from)
      ≡ (if fits q.bound top then past_stretch doc top q (items_ahead doc.blocks to) else None)
  pub ends : (top : ℤ) (picks : List ℕ) (demerits : ℤ) (last : Place) →
      ends_along doc top picks demerits last p (items_ahead doc.blocks from)
      ≡ end_here doc picks demerits (place_ahead from) p
      ++ (if fits q.bound top then ends_along doc top picks demerits last q (items_ahead doc.blocks to) else [])
  pub reach : (top : ℤ) → reach_along doc top (front_ahead doc.blocks from) p (items_ahead doc.blocks from)
      ≡ max from.block
      (if fits q.bound top then reach_along doc top (front_ahead doc.blocks to) q (items_ahead doc.blocks to) else 0)
  pub quiet : (top : ℤ) → is_quiet doc.style (passed_along doc top p (items_ahead doc.blocks from))
      ≡ is_quiet doc.style (if fits q.bound top then passed_along doc top q (items_ahead doc.blocks to) else q)

-- at a forced break nothing more is passed
pub record Stops (doc : Document) (from : Cursor) (p : Passed) : Type 0 where
  pub past : (top : ℤ) → past_stretch doc top p (items_ahead doc.blocks from) ≡ None
  pub ends : (top : ℤ) (picks : List ℕ) (demerits : ℤ) (last : Place) →
      ends_along doc top picks demerits last p (items_ahead doc.blocks from)
      ≡ end_here doc picks demerits (place_ahead from) p
  pub reach : (top : ℤ) (b : ℕ) → reach_along doc top b p (items_ahead doc.blocks from) ≡ from.block
  pub quiet : (top : ℤ) → is_quiet doc.style (passed_along doc top p (items_ahead doc.blocks from))
      ≡ is_quiet doc.style p

-- so many items were passed
pub record Counts (blocks : List Block) (from to : Cursor) (before behind : ℕ) : Type 0 where
  pub passed : behind + length (items_ahead blocks to) ≡ before + length (items_ahead blocks from)
  pub more : before + 1 ≤ behind
