-- Of several ends the best for each place and fitness, in order.
use Rattle.std.specs.Prelude.{◌≡◌, ◌⊎◌, ◌<ℤ◌, ℕ, false, Bool, ◌&&◌, ◌||◌, not, if◌then◌else◌, List, [], ◌∷◌, ℤ, ◌+ℤ◌, int_lt, int_le}
use Rattle.std.specs.Ordering.{is_gt, nat_cmp, ordering_then}
use Rattle.std.specs.declared.cmp.Ordering.{Ordering}
use Rattle.std.specs.declared.cmp.Ordering.TheVariants.{Less, Equal, Greater}
use Rattle.pg_plan.specs.Order.{picks_cmp, place_cmp}
use Rattle.pg_column.specs.declared.end.End.{End}

-- an element of a list
abbrev pub IsAmong : {X : Type 0} → X → List X → Type 0
IsAmong x [] = ⊥
IsAmong x (y ∷ ys) = (y ≡ x) ⊎ IsAmong x ys

-- by place, and at one place by fitness
abbrev pub end_cmp : End → End → Ordering
end_cmp a b = ordering_then (place_cmp a.to b.to) (nat_cmp a.cost.fitness b.cost.fitness)

-- at a lower price, or at the same and with picks that are not after
abbrev pub IsCheaper : ℤ → List ℕ → ℤ → List ℕ → Type 0
IsCheaper c picks d others = (c <ℤ d) ⊎ ((c ≡ d) × (is_gt (picks_cmp picks others) ≡ false))

-- the demerits of the text and of the variants picked
abbrev pub end_cost : End → ℤ
end_cost end = end.cost.demerits +ℤ end.pick_demerits

-- it costs less, or the same and its picks are not after the other's
abbrev pub is_better : End → End → Bool
is_better a b =
    int_lt (end_cost a) (end_cost b)
    || (int_le (end_cost a) (end_cost b) && not (is_gt (picks_cmp a.picks b.picks)))

-- the better one; the first where neither is
abbrev pub better_of : End → End → End
better_of a b = if is_better a b then a else b

-- an end before others: in front of them, in place of the first or instead of it, or behind it
abbrev pub placed_by : Ordering → End → End → List End → List End → List End
placed_by Less e f fs rest = e ∷ f ∷ fs
placed_by Equal e f fs rest = better_of e f ∷ fs
placed_by Greater e f fs rest = f ∷ rest

-- with one more end, of which the better stays where one of its place and fitness is there
abbrev pub insert_end : End → List End → List End
insert_end e [] = e ∷ []
insert_end e (f ∷ fs) = placed_by (end_cmp e f) e f fs (insert_end e fs)

-- the best for each place and fitness
abbrev pub best_of : List End → List End
best_of [] = []
best_of (e ∷ es) = insert_end e (best_of es)

-- ---- what the best of several ends are, however they are found

-- at a lower cost, or at the same and with picks that are not after
abbrev pub IsUnder : End → End → Type 0
IsUnder a b = IsCheaper (end_cost a) a.picks (end_cost b) b.picks

-- the end is before all of these
abbrev pub IsFirst : End → List End → Type 0
IsFirst e [] = Unit {0}
IsFirst e (f ∷ fs) = (end_cmp e f ≡ Less) × IsFirst e fs

-- each end is before those behind it
abbrev pub Ascend : List End → Type 0
Ascend [] = Unit {0}
Ascend (f ∷ fs) = IsFirst f fs × Ascend fs

-- some of the ends, in order, one for each place and fitness, than which no other there is better
pub record AreBest (es bs : List End) : Type 0 where
  pub ascend : Ascend bs
  pub among : (x : End) → IsAmong x bs → IsAmong x es
  pub under : (x y : End) → IsAmong x bs → IsAmong y es → end_cmp x y ≡ Equal → IsUnder x y
  pub there : (y : End) → IsAmong y es → (x : End) × (IsAmong x bs × (end_cmp x y ≡ Equal))
