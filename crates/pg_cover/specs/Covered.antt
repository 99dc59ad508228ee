-- Labels that cover states of a space.
use Rattle.std.specs.Prelude.{◌≡◌, ◌<◌, ◌+◌, ◌⊎◌, ◌++◌, ◌&&◌, ◌||◌, ℕ, Bool, true, false, if◌then◌else◌, List, Option, Some, None, slice_get, ℤ, ◌+ℤ◌, ◌≤ℤ◌, ◌<ℤ◌, pos, int_le, Contains}
use Rattle.std.specs.List.{list_any}
use Rattle.std.specs.Ordering.{is_lt}
use Rattle.std.specs.declared.cmp.Ordering.TheVariants.{Less}
use Rattle.pg_list.specs.declared.galley.Place.{Place}
use Rattle.pg_plan.specs.Order.{place_cmp}
use Rattle.pg_plan.specs.declared.pages.PageMove.{PageMove}
use Rattle.pg_plan.specs.declared.states.Label.{Label}
use Rattle.pg_plan.specs.declared.states.State.{State}
use Rattle.pg_table.specs.Space.{Meaning}
use Rattle.pg_table.specs.declared.step.Step.{Step}
use Rattle.pg_cover.specs.declared.cover.Open.{Open}

-- each label is a state of the space
abbrev pub AreOwn : {M K : Type 0} → Meaning State M K → List Label → Type 0
AreOwn sp labels = (label : Label) → Contains labels label → sp.Own label.state

-- the label's state is no worse, at no greater cost
pub record DoesCover {M K : Type 0} (sp : Meaning State M K) (label : Label) (state : State)
    (cost : ℤ) : Type 0 where
  pub no_worse : sp.no_worse label.state state ≡ true
  pub no_dearer : label.cost ≤ℤ cost

-- some label has a state that is no worse, at no greater cost
pub record CoveredBy {M K : Type 0} (sp : Meaning State M K) (labels : List Label) (state : State)
    (cost : ℤ) : Type 0 where
  pub label : Label
  pub listed : Contains labels label
  pub does : DoesCover sp label state cost

-- the same as a test
unfoldable pub has_cover : {M K : Type 0} → Meaning State M K → List Label → State → ℤ → Bool
has_cover sp labels state cost = list_any (λ label. sp.no_worse label.state state && int_le label.cost cost) labels

-- a label covers the state, or what is remembered tells that it was reached at no greater cost
unfoldable pub is_spared : {M K : Type 0} → Meaning State M K → List Label → (State → ℤ → Bool) → State → ℤ → Bool
is_spared sp labels outdone state cost = has_cover sp labels state cost || outdone state (cost +ℤ pos 1)

-- a label has a state that is no worse, at a lower cost
pub record IsLowered (NoWorse : State → State → Type 0) (labels : List Label) (state : State) (cost : ℤ) : Type 0 where
  pub label : Label
  pub listed : Contains labels label
  pub no_worse : NoWorse label.state state
  pub cheaper : label.cost <ℤ cost

-- of each state that is remembered there is a label that is no worse and costs less; it speaks of a list and of the
-- trait's own relation, so that the law of the space comes in once, where moves are offered
pub record AreMarksOf (NoWorse : State → State → Type 0) (labels : List Label) (outdone : State → ℤ → Bool) : Type 0 where
  pub known : (state : State) (cost : ℤ) → outdone state cost ≡ true → IsLowered NoWorse labels state cost

-- a label covers what the step of a label leads to
abbrev pub CoversStep : {K : Type 0} → Meaning State PageMove K → List Label → Label → Step State PageMove → Type 0
CoversStep sp labels label step = CoveredBy sp labels step.to (label.cost +ℤ step.cost)

-- the lesser of two places
abbrev pub lesser : Place → Place → Place
lesser to old = if is_lt (place_cmp to old) then to else old

-- the least of places, with one more unless what ends there is covered
abbrev pub least_with : Bool → Option Place → Place → Option Place
least_with true least to = least
least_with false None to = Some to
least_with false (Some old) to = Some (lesser to old)

-- the place is not before the least
abbrev pub IsNotBefore : Option Place → Place → Type 0
IsNotBefore None to = ⊥
IsNotBefore (Some least) to = place_cmp to least ≡ Less → ⊥

-- one of the steps is open and ends there
pub record IsOpenEnd {K : Type 0} (sp : Meaning State PageMove K) (labels : List Label) (label : Label)
    (steps : List (Step State PageMove)) (to : Place) : Type 0 where
  pub step : Step State PageMove
  pub listed : Contains steps step
  pub ends : step.by.column.to ≡ to
  pub uncovered : CoversStep sp labels label step → ⊥

-- the least place where one of these steps ends that is not covered
pub record LeastOf {K : Type 0} (sp : Meaning State PageMove K) (labels : List Label) (label : Label)
    (steps : List (Step State PageMove)) (least : Option Place) : Type 0 where
  pub found : (to : Place) → least ≡ Some to → IsOpenEnd sp labels label steps to
  pub bound : (step : Step State PageMove) → Contains steps step →
      CoversStep sp labels label step ⊎ IsNotBefore least step.by.column.to

-- none of the first n labels covers
pub record NoneCovers {M K : Type 0} (sp : Meaning State M K) (labels : List Label) (n : ℕ) (state : State)
    (cost : ℤ) : Type 0 where
  pub none : (i : ℕ) (label : Label) → i < n → slice_get labels i ≡ Some label →
      DoesCover sp label state cost → ⊥

-- the least of the steps that were taken from the end
pub record LeastBehind {K : Type 0} (sp : Meaning State PageMove K) (labels : List Label) (label : Label)
    (all rest : List (Step State PageMove)) (least : Option Place) : Type 0 where
  pub done : List (Step State PageMove)
  pub all_is : all ≡ rest ++ done
  pub least_of : LeastOf sp labels label done least

-- a move of the label ends here and leads to what no label covers
pub record OpenTo {K : Type 0} (sp : Meaning State PageMove K) (labels : List Label) (label : Label)
    (to : Place) : Type 0 where
  pub move : PageMove
  pub next : State
  pub pays : ℤ
  pub follow : sp.Follow label.state move next pays
  pub ends : move.column.to ≡ to
  pub uncovered : CoveredBy sp labels next (label.cost +ℤ pays) → ⊥

-- the least place where such a move ends, if there is one
abbrev pub IsOpenOf : {K : Type 0} → Meaning State PageMove K → List Label → Label → Option Place → Type 0
IsOpenOf sp labels label None = (to : Place) → OpenTo sp labels label to → ⊥
IsOpenOf sp labels label (Some to) = OpenTo sp labels label to
    × ((other : Place) → place_cmp other to ≡ Less → OpenTo sp labels label other → ⊥)

-- no move of the first n labels is such
abbrev pub NoneOpenBefore : {K : Type 0} → Meaning State PageMove K → List Label → ℕ → Type 0
NoneOpenBefore sp labels n = (i : ℕ) (label : Label) → i < n → slice_get labels i ≡ Some label →
    IsOpenOf sp labels label None

-- the first label with such a move, and the least place where one ends
pub record IsFirstOpen {K : Type 0} (sp : Meaning State PageMove K) (labels : List Label) (index : ℕ)
    (to : Place) : Type 0 where
  pub label : Label
  pub at : slice_get labels index ≡ Some label
  pub is_open : IsOpenOf sp labels label (Some to)
  pub before : NoneOpenBefore sp labels index

-- how many labels were opened: those up to the one that was found, or all
abbrev pub opened_count : ℕ → Option Open → ℕ
opened_count all None = all
opened_count all (Some found) = found.index + 1
