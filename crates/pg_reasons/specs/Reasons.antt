-- Why a column may not follow a state.
use Rattle.std.specs.Prelude.{◌≡◌, ◌↔◌, ℕ, List, true, Option, None, ℤ}
use Rattle.std.specs.Option.{option_or}
use Rattle.pg_list.specs.GalleyValue.{GalleyValue}
use Rattle.pg_plan.specs.declared.pages.PageMove.{PageMove}
use Rattle.pg_plan.specs.declared.states.State.{State}
use Rattle.pg_style.specs.Values.{StyleValue}
use Rattle.pg_list.specs.Flat.{is_same_place}
use Rattle.pg_column.specs.Judged.{text_fault}
use Rattle.pg_column.specs.Numbers.{text_room}
use Rattle.pg_column.specs.declared.cost.TextRoom.{TextRoom}
use Rattle.pg_rules.specs.ColumnRules.{does_fit, has_counts}
use Rattle.pg_rules.specs.Follow.{Follow, context_in, may_turn}
use Rattle.pg_rules.specs.Legal.{deals_floats, document, has_callouts, has_run, has_wide_counts, keeps_barriers, unless}
use Rattle.pg_list.specs.declared.galley.Place.{Place}
use Rattle.pg_rules.specs.Room.{ColumnContext, Document, is_text}

-- a column behind a state that starts there, on a page of a run that it may have, with counts that are allowed, floats
-- that are there and picks that fit: what may keep it from following is its text, and how its floats and those that wait
-- stand to their calls
pub record IsCase (doc : Document) (u : State) (m : PageMove) : Type 0 where
  pub starts : is_same_place m.column.from u.place ≡ true
  pub takes_run : has_run doc.style u.run m ≡ true
  pub wide : has_wide_counts doc u.column m ≡ true
  pub deals : deals_floats doc u.placed m (context_in doc u m) ≡ true
  pub fits : does_fit (context_in doc u m) ≡ true
  pub counts : has_counts (context_in doc u m) ≡ true

-- the least rule that a case breaks: on its text; or 9, where a float stands before its call; or 10, where one would wait
-- too long; or 14, where one would wait past a barrier
abbrev pub fault_behind : Document → State → PageMove → Option ℕ
fault_behind doc u m = option_or (text_fault (context_in doc u m))
    (option_or (unless (has_callouts doc u.placed m) 9)
    (option_or (unless (may_turn doc u m) 10) (unless (keeps_barriers doc u.placed m) 14)))

-- the column may follow
abbrev pub MayFollow : Document → State → PageMove → Type 0
MayFollow doc u m = (v : State) × ((c : ℤ) × Follow doc u m v c)

-- a case that breaks no rule may follow, and one that follows breaks none
abbrev pub CasesFollow : GalleyValue → StyleValue → Type 0
CasesFollow galley style = (u : State) (m : PageMove) → IsCase (document galley style) u m →
    (fault_behind (document galley style) u m ≡ None) ↔ MayFollow (document galley style) u m

-- what follows is a case
abbrev pub FollowersAreCases : GalleyValue → StyleValue → Type 0
FollowersAreCases galley style = (u : State) (m : PageMove) → MayFollow (document galley style) u m →
    IsCase (document galley style) u m

-- what is told of a text in a room: the least rule on it that a column of it breaks, where it fits the galley and its
-- places differ
abbrev pub TellsFault : GalleyValue → StyleValue → Place → List ℕ → Place → TextRoom → Option ℕ → Type 0
TellsFault galley style from picks to held told = (it : ColumnContext) → it.document ≡ document galley style →
    it.column.from ≡ from → it.column.picks ≡ picks → it.column.to ≡ to → text_room it ≡ held → does_fit it ≡ true →
    is_text it ≡ true → text_fault it ≡ told
