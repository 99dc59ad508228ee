-- Of the floats of a class, those that are placed and those that are left, where some are called only now.
use Rattle.std.proofs.Common.{◌≡◌, refl, sym, ap, ◌∙◌, ℕ, zero, suc, ◌+◌, ◌-◌, ◌*◌, List, [], ◌∷◌, ◌++◌, append_assoc, length, take, drop, true, false, Bool, arith}
use Rattle.std.specs.Prelude.{◌&&◌, min, nat_lt, replicate, slice_index, ℤ, pos, ◌+ℤ◌}
use Rattle.std.proofs.lemmas.Int.{ints}
use Rattle.std.proofs.lemmas.List.{map-append}
use Rattle.pg_list.specs.Whole.{whole_sum_by}
use Rattle.pg_floats.proofs.Ranges.{all_append_is}
use Rattle.pg_states.specs.Lines.{are_young, later, paid_by, with_zeros}
use Rattle.law_places.proofs.Among.{sum_append}

take_zeros : (n m : ℕ) → take n (replicate {A = ℕ} m 0) ≡ replicate (min m n) 0
take_zeros zero m = let e : min m 0 ≡ 0 = omega arith in ap (λ (k : ℕ). replicate {A = ℕ} k 0) (sym e)
take_zeros (suc n) zero = let e : min 0 (suc n) ≡ 0 = omega arith in ap (λ (k : ℕ). replicate {A = ℕ} k 0) (sym e)
take_zeros (suc n) (suc m) =
    let e : suc (min m n) ≡ min (suc m) (suc n) = omega arith in
    ap (λ (xs : List ℕ). 0 ∷ xs) (take_zeros n m) ∙ ap (λ (k : ℕ). replicate {A = ℕ} k 0) e

drop_zeros : (n m : ℕ) → drop n (replicate {A = ℕ} m 0) ≡ replicate (m - n) 0
drop_zeros zero m = let e : m ≡ m - 0 = omega arith in ap (λ (k : ℕ). replicate {A = ℕ} k 0) e
drop_zeros (suc n) zero = let e : 0 ≡ 0 - suc n = omega arith in ap (λ (k : ℕ). replicate {A = ℕ} k 0) e
drop_zeros (suc n) (suc m) =
    let e : m - n ≡ suc m - suc n = omega arith in
    drop_zeros n m ∙ ap (λ (k : ℕ). replicate {A = ℕ} k 0) e

-- the first of a line
take_line : (n : ℕ) (waited : List ℕ) (m : ℕ) →
    take n (with_zeros waited m) ≡ with_zeros (take n waited) (min m (n - length waited))
take_line zero [] m = take_zeros 0 m
take_line (suc n) [] m =
    let e : suc n ≡ suc n - 0 = omega arith in
    take_zeros (suc n) m ∙ ap (λ (k : ℕ). replicate {A = ℕ} (min m k) 0) e
take_line zero (age ∷ waited) m =
    let e : 0 ≡ min m (0 - suc (length waited)) = omega arith in ap (λ (k : ℕ). replicate {A = ℕ} k 0) e
take_line (suc n) (age ∷ waited) m =
    let e : n - length waited ≡ suc n - suc (length waited) = omega arith in
    ap (λ (xs : List ℕ). age ∷ xs) (take_line n waited m)
    ∙ ap (λ (k : ℕ). age ∷ with_zeros (take n waited) (min m k)) e

-- those behind them
drop_line : (n : ℕ) (waited : List ℕ) (m : ℕ) →
    drop n (with_zeros waited m) ≡ with_zeros (drop n waited) (m - min m (n - length waited))
drop_line zero [] m =
    let e : m ≡ m - min m (0 - 0) = omega arith in ap (λ (k : ℕ). replicate {A = ℕ} k 0) e
drop_line (suc n) [] m =
    let e : m - suc n ≡ m - min m (suc n - 0) = omega arith in
    drop_zeros (suc n) m ∙ ap (λ (k : ℕ). replicate {A = ℕ} k 0) e
drop_line zero (age ∷ waited) m =
    let e : m ≡ m - min m (0 - suc (length waited)) = omega arith in
    ap (λ (k : ℕ). with_zeros (age ∷ waited) k) e
drop_line (suc n) (age ∷ waited) m =
    let e : n - length waited ≡ suc n - suc (length waited) = omega arith in
    drop_line n waited m ∙ ap (λ (k : ℕ). with_zeros (drop n waited) (m - min m k)) e

-- ---- what the first pay

times_more : (m p : ℕ) → suc m * p ≡ p + m * p
times_more m p = omega arith

zeros_pay : (f : ℕ → ℤ) (p m : ℕ) → f 0 ≡ pos p → whole_sum_by f (replicate m 0) ≡ pos (m * p)
zeros_pay f p zero e = let z : 0 * p ≡ 0 = omega arith in ap pos (sym z)
zeros_pay f p (suc m) e = sums (f 0) (whole_sum_by f (replicate m 0)) p (m * p) (suc m * p) e
    (zeros_pay f p m e) (times_more m p)
  where
    sums : (x y : ℤ) (p q r : ℕ) → x ≡ pos p → y ≡ pos q → r ≡ p + q → x +ℤ y ≡ pos r
    sums x y p q r a b c = omega (arith, ints, a, b, c)

pub line_pays : (table waited first : List ℕ) (fresh count price among own result : ℕ) →
    pos price ≡ paid_by table first → first ≡ take count waited → among ≡ min fresh (count - length waited) →
    own ≡ slice_index table 0 → result ≡ price + among * own →
    pos result ≡ paid_by table (take count (with_zeros waited fresh))
line_pays table waited first fresh count price among own result p f a z r =
    sums price (among * own) result (paid_by table (take count waited)) (paid_by table (replicate among 0))
    (p ∙ ap (paid_by table) f)
    (zeros_pay (λ (age : ℕ). pos (slice_index table age)) own among (ap pos (sym z))) r
    ∙ (sym (sum_append (λ (age : ℕ). pos (slice_index table age)) (take count waited) (replicate among 0))
    ∙ (ap (λ (k : ℕ). paid_by table (with_zeros (take count waited) k)) a
    ∙ ap (paid_by table) (sym (take_line count waited fresh))))
  where
    sums : (p q r : ℕ) (x y : ℤ) → pos p ≡ x → y ≡ pos q → r ≡ p + q → pos r ≡ x +ℤ y
    sums p q r x y a b c = omega (arith, ints, a, b, c)

-- ---- those that are left

pub young_behind : (limit pages count fresh among : ℕ) (waited rest : List ℕ) (young : Bool) →
    rest ≡ drop count waited → among ≡ min fresh (count - length waited) → are_young limit pages rest ≡ true →
    young ≡ are_young limit pages (replicate (fresh - among) 0) →
    young ≡ are_young limit pages (drop count (with_zeros waited fresh))
young_behind limit pages count fresh among waited rest young e a t y =
    y ∙ (by (are_young limit pages (drop count waited)) (are_young limit pages (replicate (fresh - among) 0))
    (ap (are_young limit pages) (sym e) ∙ t)
    ∙ (sym (all_append_is (λ (age : ℕ). nat_lt (age + pages) limit) (drop count waited) (replicate (fresh - among) 0))
    ∙ (ap (λ (m : ℕ). are_young limit pages (with_zeros (drop count waited) (fresh - m))) a
    ∙ ap (are_young limit pages) (sym (drop_line count waited fresh)))))
  where
    by : (a b : Bool) → a ≡ true → b ≡ (a && b)
    by true b e = refl
    by false b e = absurd cc

pub left_behind : (pages count fresh among : ℕ) (waited rest old mid new : List ℕ) → rest ≡ drop count waited →
    among ≡ min fresh (count - length waited) → mid ≡ old ++ later pages rest →
    new ≡ mid ++ later pages (replicate (fresh - among) 0) →
    new ≡ old ++ later pages (drop count (with_zeros waited fresh))
left_behind pages count fresh among waited rest old mid new e a m h =
    h ∙ (ap (λ (xs : List ℕ). xs ++ later pages (replicate (fresh - among) 0))
    (m ∙ ap (λ (xs : List ℕ). old ++ later pages xs) e)
    ∙ (append_assoc old (later pages (drop count waited)) (later pages (replicate (fresh - among) 0))
    ∙ (ap (λ (xs : List ℕ). old ++ xs)
    (sym (map-append (λ (age : ℕ). age + pages) (drop count waited) (replicate (fresh - among) 0)))
    ∙ (ap (λ (m : ℕ). old ++ later pages (with_zeros (drop count waited) (fresh - m))) a
    ∙ ap (λ (xs : List ℕ). old ++ later pages xs) (sym (drop_line count waited fresh))))))
