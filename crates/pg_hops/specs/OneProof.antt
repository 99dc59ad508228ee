-- That hops and leaps lead on has one proof at most.
use Rattle.std.specs.Prelude.{List, Option, Some, None, IfSome, ℤ}
use Rattle.std.proofs.Props.{props}
use Rattle.pg_list.specs.declared.blocks.Block.{Block}
use Rattle.pg_list.specs.declared.item.Item.{Item}
use Rattle.pg_hops.specs.Ahead.{item_ahead}
use Rattle.pg_hops.specs.declared.cursor.Cursor.{Cursor}
use Rattle.pg_hops.specs.Hop.{HopValue, IsHop, IsHopAt}
use Rattle.pg_hops.specs.Index.{AreHops}
use Rattle.pg_hops.specs.Leap.{IsLeap, IsLeapAt, LeapValue}
use Rattle.pg_hops.specs.declared.index.Row.{Row}

at_prop : (blocks : List Block) (maxdepth : ℤ) (from : Cursor) (hop : HopValue) (item : Option Item) →
    IsProp (IsHopAt blocks maxdepth from hop item)
at_prop blocks maxdepth from hop None = hlevel props
at_prop blocks maxdepth from hop (Some item) = hlevel props

hop_prop : (blocks : List Block) (maxdepth : ℤ) (from : Cursor) (hop : Option HopValue) →
    IsProp (IfSome hop (IsHop blocks maxdepth from))
hop_prop blocks maxdepth from None = hlevel props
hop_prop blocks maxdepth from (Some hop) = at_prop blocks maxdepth from hop (item_ahead blocks from)

leap_at_prop : (blocks : List Block) (maxdepth : ℤ) (from : Cursor) (leap : LeapValue) (item : Option Item) →
    IsProp (IsLeapAt blocks maxdepth from leap item)
leap_at_prop blocks maxdepth from leap None = hlevel props
leap_at_prop blocks maxdepth from leap (Some item) = hlevel props

leap_prop : (blocks : List Block) (maxdepth : ℤ) (from : Cursor) (leap : Option LeapValue) →
    IsProp (IfSome leap (IsLeap blocks maxdepth from))
leap_prop blocks maxdepth from None = hlevel props
leap_prop blocks maxdepth from (Some leap) = leap_at_prop blocks maxdepth from leap (item_ahead blocks from)

pub AreHops_prop : (blocks : List Block) (maxdepth : ℤ) (rows : List Row) → IsProp (AreHops blocks maxdepth rows)
AreHops_prop blocks maxdepth rows = hlevel (props, hop_prop, leap_prop)
