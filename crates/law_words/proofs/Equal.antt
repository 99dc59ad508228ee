-- Bytes that are the same, and bytes that are not.
use Rattle.std.proofs.Common.{◌≡◌, refl, ◌≤◌, ◌<◌, ℕ, true, false, List, [], ◌∷◌, ◌++◌, length, arith}
use Rattle.std.proofs.lemmas.Bool.Decides.{nat_tests}
use Rattle.std.specs.Prelude.{◌==◌, codes}
use Rattle.std.specs.Str.{bytes_eq}
use Rattle.pg_lemmas.proofs.Numbers.{eq_refl}
use Rattle.std.proofs.lemmas.Bool.{eqb-true}
use Rattle.pg_lemmas.proofs.Bools.{both_of}
use Rattle.pg_scaled.proofs.ReadsBack.{AreDigits}

pub same_bytes : (text : List ℕ) → bytes_eq text text ≡ true
same_bytes [] = refl
same_bytes (c ∷ cs) = rw (eq_refl c, same_bytes cs) refl

-- what begins with a digit is no minus
pub no_dash : (ds rest : List ℕ) → AreDigits ds → 0 < length ds → bytes_eq (ds ++ rest) (codes "-") ≡ false
no_dash [] rest each some = absurd (omega arith)
no_dash (d ∷ ds) rest each some =
    let e : (d == 45) ≡ false = differ d each.0 in rw e refl
  where
    differ : (d : ℕ) → 48 ≤ d → (d == 45) ≡ false
    differ d low = grind (arith, nat_tests)

pub bytes_same : (a b : List ℕ) → bytes_eq a b ≡ true → a ≡ b
bytes_same [] [] h = refl
bytes_same [] (d ∷ ds) h = absurd cc
bytes_same (c ∷ cs) [] h = absurd cc
bytes_same (c ∷ cs) (d ∷ ds) h =
    let t = both_of (c == d) (bytes_eq cs ds) h in
    let p : c ≡ d = eqb-true c d t.0 in
    let q = bytes_same cs ds t.1 in
    cc
