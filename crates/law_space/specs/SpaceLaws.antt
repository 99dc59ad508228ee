-- What a table of pages says of all paginations, in the words of its contracts.
use Rattle.std.specs.Prelude.{◌≡◌, ◌<◌, ◌^◌, true, ℕ, Some, List, ◌∷◌, map, slice_get, ℤ}
use Rattle.std.specs.List.Sorted.{IsPermutation, IsSortedByKey}
use Rattle.pg_list.specs.GalleyValue.{GalleyValue}
use Rattle.pg_plan.specs.declared.pages.PageMove.{PageMove}
use Rattle.pg_plan.specs.declared.pages.Pagination.{Pagination}
use Rattle.pg_plan.specs.declared.states.Label.{Label}
use Rattle.pg_plan.specs.declared.states.State.{State}
use Rattle.pg_plan.specs.Order.{columns}
use Rattle.pg_style.specs.Values.{StyleValue}
use Rattle.pg_rules.specs.Best.{Best}
use Rattle.pg_rules.specs.Cost.{cost}
use Rattle.pg_rules.specs.Follow.{Follow, context_in}
use Rattle.pg_rules.specs.History.{column_fitness}
use Rattle.pg_rules.specs.Room.{is_text}
use Rattle.pg_rules.specs.Frontier.{Better, Frontier, state_cmp}
use Rattle.pg_rules.specs.Legal.{Legal, document}
use Rattle.pg_rules.specs.IsState.{IsState}
use Rattle.pg_rules.specs.States.{Prefix, state_of}
use Rattle.pg_table.specs.Label.{RunOf, IsBestOf, NoneDone}
use Rattle.pg_table.specs.Narrower.{BetteredBy, Instead}
use Rattle.pg_table.specs.Space.{IsRun, Reached, Run}
use Rattle.pg_table.specs.declared.table.Entry.{Entry}
use Rattle.law_columns.specs.Pages.{plan_of}
use Rattle.pg_rules.specs.BestPicks.{repicked}
use Rattle.law_space.specs.PageSpace.{FollowBest, page_meaning, rank, wide_meaning}

-- the pagination that fills its pages with these columns is a beginning with this state and cost
pub record IsBeginningOf (galley : GalleyValue) (style : StyleValue) (ms : List PageMove) (v : State)
    (c : ℤ) : Type 0 where
  pub columns : columns (plan_of style ms) ≡ ms
  pub prefix : Prefix galley style (plan_of style ms)
  pub state : state_of galley style (plan_of style ms) ≡ v
  pub cost : cost galley style (plan_of style ms) ≡ c

-- the rank of each state is below 2 ^ 64
abbrev pub RanksFit : GalleyValue → StyleValue → Type 0
RanksFit galley style = (u : State) → IsState (document galley style) u → rank (document galley style) u < 2 ^ 64

-- each run of columns is a beginning
abbrev pub RunsAreBeginnings : GalleyValue → StyleValue → Type 0
RunsAreBeginnings galley style = (ms : List PageMove) (v : State) (c : ℤ) →
    Run (wide_meaning (document galley style)) ms v c → IsBeginningOf galley style ms v c

-- each beginning is a run of its columns, and the pagination that these columns fill
pub record IsRunOfColumns (galley : GalleyValue) (style : StyleValue) (plan : Pagination) : Type 0 where
  pub run : Run (wide_meaning (document galley style)) (columns plan) (state_of galley style plan)
      (cost galley style plan)
  pub plan_is : plan_of style (columns plan) ≡ plan

abbrev pub BeginningsAreRuns : GalleyValue → StyleValue → Type 0
BeginningsAreRuns galley style = (plan : Pagination) → Prefix galley style plan →
    IsRunOfColumns galley style plan

-- the better of two beginnings is better still with one column more
pub record GoesOnBetter (galley : GalleyValue) (style : StyleValue) (a b : Pagination) (m : PageMove) : Type 0
  where
    pub left : Pagination
    pub right : Pagination
    pub left_columns : columns left ≡ m ∷ columns a
    pub right_columns : columns right ≡ m ∷ columns b
    pub left_prefix : Prefix galley style left
    pub right_prefix : Prefix galley style right
    pub better : Better galley style left right

abbrev pub BetterGoOn : GalleyValue → StyleValue → Type 0
BetterGoOn galley style = (a b : Pagination) (m : PageMove) (v : State) (c : ℤ) → Prefix galley style a →
    Prefix galley style b → Better galley style a b →
    Follow (document galley style) (state_of galley style b) m v c → GoesOnBetter galley style a b m

-- of the columns that follow a state with best picks, those of one end, fitness, run and counts are one
abbrev pub BestPicksAreOne : GalleyValue → StyleValue → Type 0
BestPicksAreOne galley style = (u : State) (m : PageMove) (v x : State) (c d : ℤ) (picks : List ℕ) →
    is_text (context_in (document galley style) u m) ≡ true → FollowBest (document galley style) u m v c →
    FollowBest (document galley style) u (repicked m picks) x d →
    column_fitness (context_in (document galley style) u (repicked m picks))
    ≡ column_fitness (context_in (document galley style) u m) → m.column.picks ≡ picks

-- for each column that may follow a state, one with best picks may stand in its place
abbrev pub BestPicksStandIn : GalleyValue → StyleValue → Type 0
BestPicksStandIn galley style = (state : State) (move : PageMove) (next : State) (cost : ℤ) →
    Follow (document galley style) state move next cost →
    Instead (wide_meaning (document galley style)) (FollowBest (document galley style)) state move next cost

-- each run has one of columns with best picks that betters it
abbrev pub BestPicksBetter : GalleyValue → StyleValue → Type 0
BestPicksBetter galley style = (run : Reached State PageMove) → IsRun (wide_meaning (document galley style)) run →
    BetteredBy (wide_meaning (document galley style)) (FollowBest (document galley style)) run

-- ---- from a table

abbrev pub label_of : Entry State PageMove → Label
label_of entry = record { state = entry.state; cost = entry.cost }

-- the columns of a best label fill the best pagination, at the label's cost
abbrev pub BestLabelsAreBest : GalleyValue → StyleValue → List (Entry State PageMove) → Type 0
BestLabelsAreBest galley style es = (i : ℕ) (e : Entry State PageMove) (ms : List PageMove) →
    IsBestOf (page_meaning (document galley style)) es es i → slice_get es i ≡ Some e → RunOf es e ms →
    Best galley style (plan_of style ms) × (cost galley style (plan_of style ms) ≡ e.cost)

-- where no label is done, no pagination is legal
abbrev pub NoneDoneNoneLegal : GalleyValue → StyleValue → List (Entry State PageMove) → Type 0
NoneDoneNoneLegal galley style es = NoneDone (page_meaning (document galley style)) es → (plan : Pagination) →
    Legal galley style plan → ⊥

-- the labels, sorted by their states, are the frontier
abbrev pub SortedLabelsAreFrontier : GalleyValue → StyleValue → List (Entry State PageMove) → Type 0
SortedLabelsAreFrontier galley style es = (labels : List Label) → IsPermutation (map label_of es) labels →
    IsSortedByKey (λ (label : Label). label.state) state_cmp labels → Frontier galley style labels

-- what a filled table says
pub record TellsAll (galley : GalleyValue) (style : StyleValue) (es : List (Entry State PageMove)) : Type 0
  where
    pub best : BestLabelsAreBest galley style es
    pub none : NoneDoneNoneLegal galley style es
    pub frontier : SortedLabelsAreFrontier galley style es
