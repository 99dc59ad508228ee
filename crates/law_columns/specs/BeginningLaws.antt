-- The laws of beginnings, faults and order, each in the words of its contract.
use Rattle.std.specs.Prelude.{◌≡◌, ◌⊎◌, ◌↔◌, true, None, [], ◌∷◌, reverse, ℤ, ◌+ℤ◌}
use Rattle.std.specs.declared.cmp.Ordering.TheVariants.{Equal}
use Rattle.pg_list.specs.GalleyValue.{GalleyValue}
use Rattle.pg_plan.specs.declared.pages.PageMove.{PageMove}
use Rattle.pg_plan.specs.declared.pages.Pagination.{Pagination}
use Rattle.pg_plan.specs.declared.states.State.{State}
use Rattle.pg_plan.specs.Order.{columns, plan_cmp}
use Rattle.pg_style.specs.Values.{StyleValue}
use Rattle.pg_rules.specs.Cost.{cost}
use Rattle.pg_rules.specs.Follow.{Follow}
use Rattle.pg_rules.specs.Legal.{Legal, breach, document, misfilled, ends_spent, has_dealt_all}
use Rattle.pg_rules.specs.History.{placed_of}
use Rattle.pg_rules.specs.States.{Prefix, state_of, can_wait, is_done}
use Rattle.law_columns.specs.Stands.{Stand}

-- ---- a column more

-- the beginning with one column more is a beginning, in this state and at so much more
pub record IsPushed (galley : GalleyValue) (style : StyleValue) (plan : Pagination) (m : PageMove) (v : State)
    (c : ℤ) : Type 0 where
  pub longer : Pagination
  pub prefix : Prefix galley style longer
  pub columns : columns longer ≡ m ∷ columns plan
  pub state : state_of galley style longer ≡ v
  pub cost : cost galley style longer ≡ cost galley style plan +ℤ c

-- a column that follows a beginning's state makes a longer beginning, in the state and at the cost that it gives
abbrev pub FollowersArePushed : GalleyValue → StyleValue → Type 0
FollowersArePushed galley style = (plan : Pagination) (m : PageMove) (v : State) (c : ℤ) →
    Prefix galley style plan → Follow (document galley style) (state_of galley style plan) m v c →
    IsPushed galley style plan m v c

-- the last column follows the state of the beginning before it
pub record Follows (galley : GalleyValue) (style : StyleValue) (longer : Pagination) : Type 0 where
  pub plan : Pagination
  pub prefix : Prefix galley style plan
  pub last : PageMove
  pub pays : ℤ
  pub columns : columns longer ≡ last ∷ columns plan
  pub follow : Follow (document galley style) (state_of galley style plan) last (state_of galley style longer)
      pays
  pub cost : cost galley style longer ≡ cost galley style plan +ℤ pays

-- each beginning has no page, or its last column follows the beginning before it
abbrev pub BeginningsFollow : GalleyValue → StyleValue → Type 0
BeginningsFollow galley style = (longer : Pagination) → Prefix galley style longer →
    (longer.pages ≡ []) ⊎ Follows galley style longer

-- ---- faults

-- the pages are filled, each column may stand after those before it, the end is spent and all floats are placed
pub record KeepsRules (galley : GalleyValue) (style : StyleValue) (plan : Pagination) : Type 0 where
  pub filled : misfilled style.columns (reverse plan.pages) ≡ None
  pub stand : Stand (document galley style) (columns plan)
  pub spent : ends_spent (document galley style) (columns plan) ≡ true
  pub dealt : has_dealt_all (document galley style) (placed_of style (columns plan)) ≡ true

-- the same of a beginning, whose floats may wait on
pub record KeepsBeginningRules (galley : GalleyValue) (style : StyleValue) (plan : Pagination) : Type 0 where
  pub filled : misfilled style.columns (reverse plan.pages) ≡ None
  pub stand : Stand (document galley style) (columns plan)
  pub waits : can_wait (document galley style) (columns plan) ≡ true

abbrev pub UnbrokenKeepRules : GalleyValue → StyleValue → Type 0
UnbrokenKeepRules galley style = (plan : Pagination) →
    (breach galley style plan ≡ None) ↔ KeepsRules galley style plan

abbrev pub PrefixesKeepRules : GalleyValue → StyleValue → Type 0
PrefixesKeepRules galley style = (plan : Pagination) →
    Prefix galley style plan ↔ KeepsBeginningRules galley style plan

-- a pagination is legal exactly where it is a beginning with nothing left to do
abbrev pub LegalAreDone : GalleyValue → StyleValue → Type 0
LegalAreDone galley style = (plan : Pagination) →
    Legal galley style plan
    ↔ (Prefix galley style plan × (is_done (document galley style) (state_of galley style plan) ≡ true))

-- ---- order

-- paginations that fill their pages are equal where the order says so
abbrev pub OrderTellsApart : StyleValue → Type 0
OrderTellsApart style = (p q : Pagination) → misfilled style.columns (reverse p.pages) ≡ None →
    misfilled style.columns (reverse q.pages) ≡ None → plan_cmp p q ≡ Equal → p ≡ q
