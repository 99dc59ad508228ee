-- The first line of a body has no line feed.
use Rattle.std.proofs.Common.{◌≡◌, refl, sym, ap, ◌∙◌, subst, ℕ, suc, ◌+◌, arith, List, [], ◌∷◌, ◌++◌, take, Bool, true, false}
use Rattle.std.specs.Prelude.{◌==◌, not, if◌then◌else◌}
use Rattle.std.specs.List.{prefix_len}
use Rattle.pg_scan.specs.Lines.{dotted, is_no_feed}

abbrev AsItIs : List ℕ → ℕ → Type 0
AsItIs body n = dotted (take n body) ≡ take n body

first_by : (b : Bool) (c : ℕ) (body : List ℕ) (n : ℕ) → (c == 10) ≡ b → AsItIs body n →
    AsItIs (c ∷ body) (if not b then 1 + n else 0)
first_by true c body n e is = refl
first_by false c body n e is =
    let next : 1 + n ≡ suc n = omega arith in
    subst (AsItIs (c ∷ body)) (sym next)
    (ap (λ (b : Bool). (if b then 10 ∷ 46 ∷ [] else c ∷ []) ++ dotted (take n body)) e
    ∙ ap (λ (line : List ℕ). c ∷ line) is)

pub first_as_it_is : (body : List ℕ) →
    dotted (take (prefix_len is_no_feed body) body) ≡ take (prefix_len is_no_feed body) body
first_as_it_is [] = refl
first_as_it_is (c ∷ body) =
    first_by (c == 10) c body (prefix_len is_no_feed body) refl (first_as_it_is body)
