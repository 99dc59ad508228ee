use Rattle.std.proofs.Common.{◌≡◌, ◌∙◌, refl, sym, ap, ℕ, zero, suc, ◌+◌, ◌<◌, List, [], ◌∷◌, ◌++◌, take, drop, length, get_or, add-one, arith}
use Rattle.std.specs.Prelude.{map, slice_set}
use Rattle.pg_plan.proofs.ages.raise.Goals as goal

abbrev risen : ℕ → List ℕ → List ℕ
risen i xs = map (λ (age : ℕ). age + 1) (take i xs) ++ drop i xs

step : (xs : List ℕ) (i : ℕ) → i < length xs → slice_set (risen i xs) i (get_or (risen i xs) i 0 + 1) ≡ risen (suc i) xs
step [] i h = absurd (omega (arith, h))
step (x ∷ xs) zero h = refl
step (x ∷ xs) (suc i) h = ap (λ (ys : List ℕ). (x + 1) ∷ ys) (step xs i (omega (arith, h)))

pub loop-age-preserved : goal.loop-age-preserved
loop-age-preserved c =
    ap (λ (ys : List ℕ). slice_set ys c.loop-age.age-index (get_or ys c.loop-age.age-index 0 + 1)) c.loop-age.invariant
    ∙ step c.args.ages.now c.loop-age.age-index (omega arith)
    ∙ ap (λ i. risen i c.args.ages.now) (sym (add-one c.loop-age.age-index))
