-- The steps of a script, show by show.
use Rattle.std.proofs.Common.{◌≡◌, refl, sym, ap, subst, ℕ, ◌+◌, ◌≤◌, List, [], ◌∷◌, ◌++◌, length, take, arith}
use Rattle.pg_style.specs.Values.{StyleValue}
use Rattle.pg_session.specs.SessionValue.{SessionValue}
use Rattle.pg_session.specs.Shows.{AreAllCounted, AreCounted, Counts, Show, SumsTo, show_of}

sums_more : (style : StyleValue) (shown : List Show) (show : Show) (k n : ℕ) → SumsTo style shown k →
    Counts style show n → SumsTo style (shown ++ show ∷ []) (k + n)
sums_more style [] show k n z c = (n, 0, (c, refl, let e : k ≡ 0 = z in omega (arith, e)))
sums_more style (x ∷ shown) show k n (i, j, (own, rest, sum)) c =
    (i, j + n, (own, sums_more style shown show j n rest c, omega (arith, sum)))

-- ---- how many steps

-- no step
pub none_counted : (style : StyleValue) (before : ℕ) → AreAllCounted style [] before before
none_counted style before = record { total = 0; sums = refl; bounded = omega arith }

-- a show adds its number
pub show_counted : (style : StyleValue) (shown : List Show) (old : SessionValue) (number before middle after : ℕ) →
    old.style ≡ style → AreAllCounted style shown before middle → Counts old.style (show_of old) number →
    after ≤ middle + number → AreAllCounted style (shown ++ show_of old ∷ []) before after
show_counted style shown old number before middle after e all counts bounded = record {
  total = all.total + number;
  sums = sums_more style shown (show_of old) _ _ all.sums
      (subst (λ (x : StyleValue). Counts x (show_of old) number) e counts);
  bounded = let b = all.bounded in omega (arith, b, bounded);
}

-- what is counted for the first shows is counted for all of them
pub firsts_counted : (style : StyleValue) (shown rest : List Show) (before after : ℕ) →
    AreAllCounted style shown before after → AreCounted style (shown ++ rest) before after
firsts_counted style shown rest before after all = record {
  count = length shown;
  firsts = subst (λ (xs : List Show). AreAllCounted style xs before after) (sym (first shown)) all;
}
  where
    first : (xs : List Show) → take (length xs) (xs ++ rest) ≡ xs
    first [] = refl
    first (x ∷ xs) = ap (λ (ys : List Show). x ∷ ys) (first xs)

pub all_counted : (style : StyleValue) (shown : List Show) (before after : ℕ) →
    AreAllCounted style shown before after → AreCounted style shown before after
all_counted style shown before after all =
    subst (λ (xs : List Show). AreCounted style xs before after) (same shown)
    (firsts_counted style shown [] before after all)
  where
    same : (xs : List Show) → xs ++ [] ≡ xs
    same [] = refl
    same (x ∷ xs) = ap (λ (ys : List Show). x ∷ ys) (same xs)
