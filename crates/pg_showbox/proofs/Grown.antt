-- Texts of lists, as they grow.
use Rattle.std.proofs.Common.{◌≡◌, ◌∙◌, sym, ap, ℕ, ◌+◌, ◌<◌, ◌≤◌, List, ◌++◌, take, length, get_or}
use Rattle.std.specs.List.{flat_map}
use Rattle.std.proofs.lemmas.List.{take_all, flat_map_more}
use Rattle.pg_lemmas.proofs.Lists.{one_more}
pub use Rattle.pg_scaled.proofs.Grown.{grown, grows_by, grows_no_more, grows_on, grows_same, on_ok, on_same, two_parts}

-- the texts of a list, one more of them, and all
pub text_more : {X : Type 0} (f : X → List ℕ) (xs : List X) (i : ℕ) (x : X) (old mid new : List ℕ) →
    i < length xs → x ≡ get_or xs i x → mid ≡ old ++ flat_map f (take i xs) → new ≡ mid ++ f x →
    new ≡ old ++ flat_map f (take (i + 1) xs)
text_more f xs i x old mid new within is m n =
    n ∙ ap (λ (text : List ℕ). text ++ f x) m ∙ flat_map_more f old (take i xs) x
    ∙ ap (λ ys. old ++ flat_map f ys) (sym (one_more xs i x within is))

pub text_all : {X : Type 0} (f : X → List ℕ) (xs : List X) (i : ℕ) (old new : List ℕ) →
    length xs ≤ i → new ≡ old ++ flat_map f (take i xs) → new ≡ old ++ flat_map f xs
text_all f xs i old new all n = n ∙ ap (λ ys. old ++ flat_map f ys) (take_all i xs all)
