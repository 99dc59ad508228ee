-- Members of lists.
use Rattle.std.proofs.Common.{◌≡◌, refl, sym, subst, ℕ, zero, suc, ◌+◌, ◌≤◌, ◌<◌, ◌⊎◌, inl, inr, List, [], ◌∷◌, ◌++◌, map, Bool, true, false, arith}
use Rattle.std.specs.Prelude.{cond}
use Rattle.std.specs.Ordering.{nat_cmp}
use Rattle.std.specs.declared.cmp.Ordering.{Ordering}
use Rattle.std.proofs.lemmas.Cmp.{by_ranked, ranked}
use Rattle.std.specs.List.{filter, flat_map, range_with_len}
use Rattle.law_places.proofs.Among.{among_cases, Among, among_left, among_right}

-- where a member of a mapped list comes from
pub map_from : {X Y : Type 0} (f : X → Y) (xs : List X) (y : Y) → Among y (map f xs) →
    (x : X) × (Among x xs × (f x ≡ y))
map_from f [] y a = absurd a
map_from f (x ∷ xs) y (inl e) = (x, (inl refl, e))
map_from f (x ∷ xs) y (inr a) = let r = map_from f xs y a in (r.0, (inr r.1.0, r.1.1))

pub flat_from : {X Y : Type 0} (f : X → List Y) (xs : List X) (y : Y) → Among y (flat_map f xs) →
    (x : X) × (Among x xs × Among y (f x))
flat_from f [] y a = absurd a
flat_from f (z ∷ xs) y a = elim (among_cases y (f z) (flat_map f xs) a) [
  | inl h ↦ (z, (inl refl, h))
  | inr h ↦ (let r = flat_from f xs y h in (r.0, (inr r.1.0, r.1.1)))
]
