-- What two galleys that agree below a block have in common, and what an edit changes, in the words of the contracts.
use Rattle.std.specs.Prelude.{◌≡◌, ℕ, ◌+◌, ◌≤◌, ◌<◌, List}
use Rattle.pg_list.specs.GalleyValue.{GalleyValue}
use Rattle.pg_list.specs.Places.{spliced}
use Rattle.pg_list.specs.declared.blocks.Block.{Block}
use Rattle.pg_list.specs.declared.galley.Edit.{Edit}
use Rattle.pg_plan.specs.declared.pages.Pagination.{Pagination}
use Rattle.pg_style.specs.Values.{StyleValue}
use Rattle.pg_rules.specs.Cost.{cost}
use Rattle.pg_rules.specs.Legal.{document}
use Rattle.pg_rules.specs.Reach.{AgreeBelow, touched}
use Rattle.pg_rules.specs.States.{Prefix, state_of}
use Rattle.law_space.specs.ReachAt.{reach_at}
use Rattle.law_space.specs.PageSpace.{page_meaning}
use Rattle.pg_table.specs.Below as below
use Rattle.pg_table.specs.Below.{SameBelow}

-- the pagination is a beginning of the other galley too, with the same state and cost, and from its end columns reach as
-- far in both, or to t at least
pub record SameBeginning (galley other : GalleyValue) (style : StyleValue) (t : ℕ) (plan : Pagination) : Type 0 where
  pub prefix : Prefix other style plan
  pub state : state_of other style plan ≡ state_of galley style plan
  pub cost : cost other style plan ≡ cost galley style plan
  pub reach : SameBelow t (reach_at (document galley style) (state_of galley style plan).place)
      (reach_at (document other style) (state_of galley style plan).place)

-- where the galleys agree below t, a beginning of the one that ends in a block b with b + 1 below t is one of the other
abbrev pub BeginningsAgree : GalleyValue → GalleyValue → StyleValue → Type 0
BeginningsAgree galley other style = (t : ℕ) (plan : Pagination) → AgreeBelow t galley.blocks other.blocks →
    Prefix galley style plan → (state_of galley style plan).place.block + 1 < t →
    SameBeginning galley other style t plan

-- where the galleys agree below t, so do their spaces of pages
abbrev pub PagesAgree : GalleyValue → GalleyValue → StyleValue → Type 0
PagesAgree galley other style = (t : ℕ) → AgreeBelow t galley.blocks other.blocks →
    below.AgreeBelow (page_meaning (document galley style)) (page_meaning (document other style)) t

-- an edit changes nothing below the block that it touches
abbrev pub EditsAgree : List Block → Type 0
EditsAgree blocks = (edit : Edit) → AgreeBelow (touched blocks edit) blocks (spliced blocks edit)

-- what agrees below a block agrees below each smaller one
abbrev pub AgreeLess : List Block → List Block → Type 0
AgreeLess blocks others = (t u : ℕ) → u ≤ t → AgreeBelow t blocks others → AgreeBelow u blocks others

-- to agree goes both ways
abbrev pub AgreeBack : List Block → List Block → Type 0
AgreeBack blocks others = (t : ℕ) → AgreeBelow t blocks others → AgreeBelow t others blocks

-- and on to what agrees with the other
abbrev pub AgreeOn : List Block → List Block → List Block → Type 0
AgreeOn blocks others thirds = (t : ℕ) → AgreeBelow t blocks others → AgreeBelow t others thirds →
    AgreeBelow t blocks thirds
