-- The lines of a body in a listing: a point stands behind each feed, and all else as it is.
use Rattle.std.proofs.Common.{◌≡◌, ◌≤◌, ◌<◌, ◌+◌, ◌∙◌, refl, ap, sym, subst, arith, ℕ, suc, List, [], ◌∷◌, ◌++◌, false, true, Bool, length, take, drop, inl, inr, append_assoc}
use Rattle.std.specs.Prelude.{◌==◌, ◌||◌, if◌then◌else◌}
use Rattle.std.specs.List.{list_any, prefix_len}
use Rattle.std.proofs.lemmas.Bool.{cases_Bool, eqb-true}
use Rattle.pg_scan.specs.Lines.{dotted, is_no_feed}

dotted_at : (b : Bool) (c : ℕ) (rest front : List ℕ) (any : Bool) → (b || any) ≡ false → (any ≡ false → rest ≡ front) →
    (if b then 10 ∷ 46 ∷ [] else c ∷ []) ++ rest ≡ c ∷ front
dotted_at true c rest front any e k = absurd cc
dotted_at false c rest front any e k = ap (λ (l : List ℕ). c ∷ l) (k e)

pub line_as_it_is : (body : List ℕ) → list_any (λ (byte : ℕ). byte == 10) body ≡ false → dotted body ≡ body
line_as_it_is [] e = refl
line_as_it_is (c ∷ body) e =
    dotted_at (c == 10) c (dotted body) body (list_any (λ (byte : ℕ). byte == 10) body) e (line_as_it_is body)

-- ---- line for line

feed_step : (c : ℕ) (cs : List ℕ) → (c == 10) ≡ true →
    (prefix_len is_no_feed (c ∷ cs) ≡ 0) × (dotted (c ∷ cs) ≡ 10 ∷ 46 ∷ dotted cs)
feed_step c cs e = (rw e refl, rw e refl)

other_step : (c : ℕ) (cs : List ℕ) → (c == 10) ≡ false →
    (prefix_len is_no_feed (c ∷ cs) ≡ 1 + prefix_len is_no_feed cs)
    × ((dotted (c ∷ cs) ≡ c ∷ dotted cs) × (list_any (λ (byte : ℕ). byte == 10) (c ∷ cs)
    ≡ list_any (λ (byte : ℕ). byte == 10) cs))
other_step c cs e = (rw e refl, (rw e refl, rw e refl))

-- where the first line is all, no feed stands there
pub one_line : (body : List ℕ) → length body ≤ prefix_len is_no_feed body →
    list_any (λ (byte : ℕ). byte == 10) body ≡ false
one_line [] none = refl
one_line (c ∷ cs) none = elim (cases_Bool (c == 10)) [
  | inl feed ↦ let s = feed_step c cs feed in absurd (omega (arith, s.0))
  | inr other ↦ let s = other_step c cs other in s.1.1 ∙ one_line cs (omega (arith, s.0))
]

-- the first line with its feed, and a point in front of the next
pub first_line : (body : List ℕ) (n : ℕ) → n ≡ prefix_len is_no_feed body → n < length body →
    dotted body ≡ take (suc n) body ++ 46 ∷ dotted (drop (suc n) body)
first_line [] n e some = absurd (omega arith)
first_line (c ∷ cs) n e some = elim (cases_Bool (c == 10)) [
  | inl feed ↦ let s = feed_step c cs feed in let none : n ≡ 0 = e ∙ s.0 in
      subst (λ (k : ℕ). dotted (c ∷ cs) ≡ take (suc k) (c ∷ cs) ++ 46 ∷ dotted (drop (suc k) (c ∷ cs))) (sym none)
      (s.1 ∙ ap (λ (k : ℕ). k ∷ 46 ∷ dotted cs) (sym (eqb-true c 10 feed)))
  | inr other ↦ let s = other_step c cs other in let k = prefix_len is_no_feed cs in let here : n ≡ suc k =
      omega (arith, e, s.0) in
      let more = first_line cs k refl (omega arith) in
      subst (λ (j : ℕ). dotted (c ∷ cs) ≡ take (suc j) (c ∷ cs) ++ 46 ∷ dotted (drop (suc j) (c ∷ cs))) (sym here)
      (s.1.0 ∙ ap (λ (l : List ℕ). c ∷ l) more)
]

-- with the first line, its feed and the point printed, what follows is left
pub printed : (out mid new body front back : List ℕ) (n : ℕ) → mid ≡ out ++ front → new ≡ mid ++ 46 ∷ [] →
    front ≡ take (n + 1) body → back ≡ drop (n + 1) body → n ≡ prefix_len is_no_feed body → n < length body →
    new ++ dotted back ≡ out ++ dotted body
printed out mid new body front back n m e f b is some =
    ap (λ (xs : List ℕ). xs ++ dotted back) (e ∙ ap (λ (xs : List ℕ). xs ++ 46 ∷ []) m)
    ∙ (append_assoc (out ++ front) (46 ∷ []) (dotted back)
    ∙ (append_assoc out front (46 ∷ dotted back) ∙ ap (λ (xs : List ℕ). out ++ xs) whole))
  where
    next : n + 1 ≡ suc n
    next = omega arith

    whole : front ++ 46 ∷ dotted back ≡ dotted body
    whole = ap (λ (xs : List ℕ). xs ++ 46 ∷ dotted back) (f ∙ ap (λ (k : ℕ). take k body) next)
        ∙ (ap (λ (xs : List ℕ). take (suc n) body ++ 46 ∷ dotted xs) (b ∙ ap (λ (k : ℕ). drop k body) next)
        ∙ sym (first_line body n is some))
