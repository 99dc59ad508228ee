-- How the builder looks ahead. It is proved to find first fit; nobody need believe what stands here.
use Rattle.std.specs.Prelude.{◌≡◌, ℕ, suc, ◌+◌, ◌≤◌, ◌<◌, ◌^◌, if◌then◌else◌, List, length, take, drop, is_some, nat_abs, Option, Some, None, IfSome, option_map, ℤ, ◌+ℤ◌}
use Rattle.pg_list.specs.declared.item.Item.{Item}
use Rattle.pg_list.specs.Break.{break_penalty}
use Rattle.pg_style.specs.Values.{StyleValue}
use Rattle.pg_rules.specs.Room.{extra}
use Rattle.pg_notes.specs.AreNotes.{AreNotes}
use Rattle.pg_sums.specs.AreSums.{AreSums}
use Rattle.pg_greedy.specs.Ahead.{look}
use Rattle.pg_greedy.specs.Breaks.{break_cost, is_seen, penalty_at, stops_at}
use Rattle.pg_greedy.specs.Single.{AreSingle, singles}
use Rattle.pg_greedy.specs.declared.judged.Judged.{Judged}
use Rattle.pg_greedy.specs.declared.look.Builder.{Builder}
use Rattle.pg_greedy.specs.declared.look.Candidate.{Candidate}
use Rattle.pg_greedy.specs.declared.look.Looked.{Looked}
use Rattle.pg_greedy.specs.declared.look.Looked.TheVariants.{GoesOn, Ends}
use Rattle.pg_greedy.specs.declared.read.Read.{Read}

-- the first of these items, so many, are those of which the sums and the notes are kept
pub record AreRead (style : StyleValue) (items : List Item) (read : Read) : Type 0 where
  pub within : read.count ≤ length items
  pub sums : AreSums style.topskip style.maxdepth (take read.count items) read.sums
  pub notes : AreNotes style (take read.count items) read.notes

-- the galley has no choice, and the room is that of run 0
pub record IsBuilder (builder : Builder) : Type 0 where
  pub single : AreSingle builder.galley.now.blocks
  pub room : builder.room ≡ builder.style.now.height +ℤ extra builder.style.now 0
  pub small : nat_abs builder.room < 2 ^ 40

abbrev pub style_of : Builder → StyleValue
style_of builder = builder.style.now

-- the items from a block on
abbrev pub items_from : Builder → ℕ → List Item
items_from builder from = drop from (singles builder.galley.now.blocks)

-- the penalty of a break, where it is one
abbrev pub seen_penalty : List Item → ℕ → Option ℤ
seen_penalty items k = if is_some (break_penalty items k) then Some (penalty_at items k) else None

-- a break behind a box, judged
abbrev pub judged_at : StyleValue → List Item → ℕ → Option Judged
judged_at style items k =
    if is_seen items k then Some (record { cost = break_cost style items k; stops = stops_at style items k }) else None

abbrev pub counted : Option Candidate → Option ℕ
counted best = option_map (λ (it : Candidate). it.count) best

-- the kept cost is that of the kept break
abbrev pub IsPriced : StyleValue → List Item → Option Candidate → Type 0
IsPriced style items best = IfSome best (λ (it : Candidate). it.cost ≡ break_cost style items it.count)

-- a look at one place is one step of the look
abbrev pub IsLook : StyleValue → List Item → ℕ → Option Candidate → Looked → Type 0
IsLook style items k best (Ends count) = (n : ℕ) → look style items k (suc n) (counted best) ≡ Some count
IsLook style items k best (GoesOn kept) = IsPriced style items kept
    × ((n : ℕ) → look style items k (suc n) (counted best) ≡ look style items (k + 1) n (counted kept))
