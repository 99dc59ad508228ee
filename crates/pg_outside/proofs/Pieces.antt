-- What a sink holds after a piece of the bytes, and then one more.
use Rattle.std.proofs.Common.{◌≡◌, ◌∙◌, ◌≤◌, ◌+◌, ◌-◌, ℕ, zero, suc, ap, sym, subst, arith, List, [], ◌∷◌, ◌++◌}
use Rattle.std.proofs.Common.{length, append_assoc, take, drop}
use Rattle.std.specs.Prelude.{Option, Some, None}
use Rattle.std.specs.Io.KnownBytes.{Appends, Keeps}
use Rattle.std.proofs.lemmas.List.{take_all, length-drop}

-- the first n + m are the first n, and then m of the rest
take_further : (n m : ℕ) (xs : List ℕ) → take (n + m) xs ≡ take n xs ++ take m (drop n xs)
take_further zero m xs = let on : zero + m ≡ m = omega arith in ap (λ (k : ℕ). take k xs) on
take_further (suc n) m [] = take_all (suc n + m) [] (omega arith) ∙ sym (take_all m [] (omega arith))
take_further (suc n) m (x ∷ xs) = let on : suc n + m ≡ suc (n + m) = omega arith in
    ap (λ (k : ℕ). take k (x ∷ xs)) on ∙ ap (λ (ys : List ℕ). x ∷ ys) (take_further n m xs)

appends_more : (old mid new : Option (List ℕ)) (n m : ℕ) (xs : List ℕ)
    → Appends old mid (take n xs) → Appends mid new (take m (drop n xs)) → Appends old new (take (n + m) xs)
appends_more None mid new n m xs first second = tt
appends_more (Some ys) None new n m xs first second = absurd first
appends_more (Some ys) (Some zs) None n m xs first second = absurd second
appends_more (Some ys) (Some zs) (Some ws) n m xs first second =
    second ∙ ap (λ (l : List ℕ). l ++ take m (drop n xs)) first ∙ append_assoc ys (take n xs) (take m (drop n xs))
    ∙ ap (λ (l : List ℕ). ys ++ l) (sym (take_further n m xs))

-- the slice from n on
pub appends_next : (old mid new : Option (List ℕ)) (n m : ℕ) (xs : List ℕ)
    → Appends old mid (take n xs) → Appends mid new (take m (take (length xs - n) (drop n xs)))
    → Appends old new (take (n + m) xs)
appends_next old mid new n m xs first second =
    let whole : take (length xs - n) (drop n xs) ≡ drop n xs = take_all (length xs - n) (drop n xs)
    (omega (arith, length-drop n xs)) in
    appends_more old mid new n m xs first (subst (λ (ys : List ℕ). Appends mid new (take m ys)) whole second)

-- all of the bytes are written, once none is left
pub appends_all : (old new : Option (List ℕ)) (n : ℕ) (xs : List ℕ) → length xs ≤ n
    → Appends old new (take n xs) → Appends old new xs
appends_all old new n xs all appends = subst (Appends old new) (take_all n xs all) appends

-- nothing more was written
pub appends_no_more : (old mid new : Option (List ℕ)) (xs : List ℕ) → Appends old mid xs → Keeps mid new
    → Appends old new xs
appends_no_more None mid new xs first keeps = tt
appends_no_more (Some ys) None new xs first keeps = absurd first
appends_no_more (Some ys) (Some zs) None xs first keeps = absurd keeps
appends_no_more (Some ys) (Some zs) (Some ws) xs first keeps = keeps ∙ first
