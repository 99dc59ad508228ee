-- Which candidates are in groups, and that one was added to them.
use Rattle.std.specs.Prelude.{ℕ, List, ◌∷◌, map}
use Rattle.std.specs.List.{flat_map}
use Rattle.law_walk.specs.Best.{IsAmong}
use Rattle.pg_candidates.specs.declared.order.Group.{Group}
use Rattle.pg_candidates.specs.declared.order.Ranked.{Ranked}

abbrev pub indices_of : Group → List ℕ
indices_of group = group.first.at ∷ map (λ (it : Ranked). it.at) group.others.items

abbrev pub indices_in : List Group → List ℕ
indices_in groups = flat_map indices_of groups

-- it is there, and so are all that were
pub record IsAdded (i : ℕ) (old new : List ℕ) : Type 0 where
  pub there : IsAmong i new
  pub stay : (k : ℕ) → IsAmong k old → IsAmong k new
