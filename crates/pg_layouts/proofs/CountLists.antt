-- The lists of counts are all that keep their limits and their sum, each once.
use Rattle.std.proofs.Common.{◌≡◌, ◌≢◌, refl, sym, ap, subst, ◌∙◌, ℕ, suc, ◌+◌, ◌-◌, ◌≤◌, ◌<◌, inl, inr, List, [], ◌∷◌, ◌++◌, length, length-append, arith}
use Rattle.std.specs.Prelude.{min}
use Rattle.std.specs.List.{flat_map, range_with_len}
use Rattle.pg_rules.specs.Floats.{total_count}
use Rattle.law_columns.proofs.ColumnCounts.{total_cons}
use Rattle.law_columns.proofs.Waiting.{slot_below}
use Rattle.law_places.proofs.Among.{Among}
use Rattle.pg_layouts.specs.Counts.{Within, count_lists, grown, grown_by}
use Rattle.law_places.proofs.Members.{below_in, in_flat, in_map, of_flat, of_map}
use Rattle.law_places.proofs.Pairs.{Pairs, pairs_flat, pairs_map, pairs_weaker, range_apart}

total_behind : (xs : List ℕ) (n : ℕ) → total_count (xs ++ n ∷ []) ≡ total_count xs + n
total_behind [] n = let e : total_count (n ∷ []) ≡ n + total_count [] = total_cons n [] in omega arith
total_behind (x ∷ xs) n =
    let r : total_count (xs ++ n ∷ []) ≡ total_count xs + n = total_behind xs n in
    let a : total_count (x ∷ (xs ++ n ∷ [])) ≡ x + total_count (xs ++ n ∷ []) = total_cons x (xs ++ n ∷ []) in
    let b : total_count (x ∷ xs) ≡ x + total_count xs = total_cons x xs in
    omega arith

append_none : (xs : List ℕ) → xs ++ [] ≡ xs
append_none [] = refl
append_none (x ∷ xs) = ap (λ zs. x ∷ zs) (append_none xs)

behind_first : {X : Type 0} (xs ys : List X) (x : X) → xs ++ (x ∷ ys) ≡ (xs ++ x ∷ []) ++ ys
behind_first [] ys x = refl
behind_first (z ∷ xs) ys x = ap (λ zs. z ∷ zs) (behind_first xs ys x)

-- a list in front, and counts within the limits behind it
record IsGrown (most : ℕ) (limits : List ℕ) (lists : List (List ℕ)) (counts : List ℕ) : Type 0 where
  front : List ℕ
  back : List ℕ
  listed : Among front lists
  is : counts ≡ front ++ back
  within : Within limits back
  few : total_count counts ≤ most

in_grown : (most limit n : ℕ) (front : List ℕ) → n ≤ limit → total_count front + n ≤ most →
    Among (front ++ n ∷ []) (grown most limit front)
in_grown most limit n front h k = in_map (λ (n : ℕ). front ++ n ∷ [])
    (range_with_len 0 (min limit (most - total_count front) + 1)) n
    (below_in (min limit (most - total_count front) + 1) n (omega arith))

in_grown_by : (most : ℕ) (limits : List ℕ) (lists : List (List ℕ)) (front back : List ℕ) → Among front lists →
    Within limits back → total_count (front ++ back) ≤ most → Among (front ++ back) (grown_by most limits lists)
in_grown_by most [] lists front [] a w h = subst (λ zs. Among zs lists) (sym (append_none front)) a
in_grown_by most [] lists front (n ∷ back) a w h = absurd w
in_grown_by most (limit ∷ limits) lists front [] a w h = absurd w
in_grown_by most (limit ∷ limits) lists front (n ∷ back) a w h =
    let e : front ++ (n ∷ back) ≡ (front ++ n ∷ []) ++ back = behind_first front back n in
    let s : total_count ((front ++ n ∷ []) ++ back) ≤ most = subst (λ zs. total_count zs ≤ most) e h in
    let t : total_count (front ++ n ∷ []) ≡ total_count front + n = total_behind front n in
    let u : total_count (front ++ n ∷ []) ≤ total_count ((front ++ n ∷ []) ++ back) =
    total_front (front ++ n ∷ []) back in
    subst (λ zs. Among zs (grown_by most (limit ∷ limits) lists)) (sym e)
    (in_grown_by most limits (flat_map (grown most limit) lists) (front ++ n ∷ []) back
    (in_flat (grown most limit) lists front (front ++ n ∷ []) a
    (in_grown most limit n front w.0 (omega arith))) w.1 s)
  where
    total_front : (xs ys : List ℕ) → total_count xs ≤ total_count (xs ++ ys)
    total_front [] ys = omega arith
    total_front (x ∷ xs) ys =
        let r : total_count xs ≤ total_count (xs ++ ys) = total_front xs ys in
        let p : total_count (x ∷ xs) ≡ x + total_count xs = total_cons x xs in
        let q : total_count (x ∷ (xs ++ ys)) ≡ x + total_count (xs ++ ys) = total_cons x (xs ++ ys) in
        omega arith

of_grown_by : (most : ℕ) (limits : List ℕ) (lists : List (List ℕ)) (counts : List ℕ) →
    ((front : List ℕ) → Among front lists → total_count front ≤ most) →
    Among counts (grown_by most limits lists) → IsGrown most limits lists counts
of_grown_by most [] lists counts few a = record {
  front = counts;
  back = [];
  listed = a;
  is = sym (append_none counts);
  within = tt;
  few = few counts a;
}
of_grown_by most (limit ∷ limits) lists counts few a =
    by (of_grown_by most limits (flat_map (grown most limit) lists) counts few' a)
  where
    few' : (front : List ℕ) → Among front (flat_map (grown most limit) lists) → total_count front ≤ most
    few' front b = of_flat (grown most limit) lists front b
        (λ x c d. of_map (λ (n : ℕ). x ++ n ∷ []) (range_with_len 0 (min limit (most - total_count x) + 1)) front d
        (λ n g e. (let r = slot_below 0 (min limit (most - total_count x) + 1) n g in
        let p : n < 0 + (min limit (most - total_count x) + 1) = r.1 in
        let q : total_count x ≤ most = few x c in
        let t : total_count (x ++ n ∷ []) ≡ total_count x + n = total_behind x n in
        subst (λ zs. total_count zs ≤ most) e (omega arith))))

    by : IsGrown most limits (flat_map (grown most limit) lists) counts →
        IsGrown most (limit ∷ limits) lists counts
    by g = of_flat (grown most limit) lists g.front g.listed
        (λ x c d. of_map (λ (n : ℕ). x ++ n ∷ []) (range_with_len 0 (min limit (most - total_count x) + 1)) g.front d
        (λ n k e. (let r = slot_below 0 (min limit (most - total_count x) + 1) n k in
        let p : n < 0 + (min limit (most - total_count x) + 1) = r.1 in
        record {
          front = x;
          back = n ∷ g.back;
          listed = c;
          is = g.is ∙ ap (λ zs. zs ++ g.back) (sym e) ∙ sym (behind_first x g.back n);
          within = (omega arith, g.within);
          few = g.few;
        })))

last_same : (xs ys : List ℕ) (n m : ℕ) → length xs ≡ length ys → xs ++ n ∷ [] ≡ ys ++ m ∷ [] →
    (xs ≡ ys) × (n ≡ m)
last_same [] [] n m l e = (refl, let h : n ∷ [] ≡ m ∷ [] = e in cc)
last_same [] (y ∷ ys) n m l e = absurd (omega arith)
last_same (x ∷ xs) [] n m l e = absurd (omega arith)
last_same (x ∷ xs) (y ∷ ys) n m l e =
    let h : x ∷ (xs ++ n ∷ []) ≡ y ∷ (ys ++ m ∷ []) = e in
    let p : x ≡ y = cc in
    let q : xs ++ n ∷ [] ≡ ys ++ m ∷ [] = cc in
    let r = last_same xs ys n m (omega arith) q in
    let s : xs ≡ ys = r.0 in
    (cc, r.1)

grown_apart : (most : ℕ) (limits : List ℕ) (lists : List (List ℕ)) (k : ℕ) →
    ((xs : List ℕ) → Among xs lists → length xs ≡ k) → Pairs (λ a b. a ≢ b) lists →
    Pairs (λ a b. a ≢ b) (grown_by most limits lists)
grown_apart most [] lists k long p = p
grown_apart most (limit ∷ limits) lists k long p =
    grown_apart most limits (flat_map (grown most limit) lists) (suc k) long'
    (pairs_flat (λ a b. a ≢ b) (grown most limit) lists
    (λ x a. pairs_map (λ c d. c ≢ d) (λ (n : ℕ). x ++ n ∷ [])
    (range_with_len 0 (min limit (most - total_count x) + 1))
    (pairs_weaker (λ (n m : ℕ). n < m) (λ n m. x ++ n ∷ [] ≢ x ++ m ∷ []) _
    (λ n m _ _ h e. (let r : n ≡ m = (last_same x x n m refl e).1 in omega arith))
    (range_apart 0 (min limit (most - total_count x) + 1))))
    (pairs_weaker (λ a b. a ≢ b) _ lists
    (λ x y a b h c d e f. of_map (λ (n : ℕ). x ++ n ∷ []) _ c e
    (λ n _ i. of_map (λ (n : ℕ). y ++ n ∷ []) _ d f
    (λ m _ j g. h (last_same x y n m (long x a ∙ sym (long y b)) (i ∙ g ∙ sym j)).0))) p))
  where
    long' : (xs : List ℕ) → Among xs (flat_map (grown most limit) lists) → length xs ≡ suc k
    long' xs a = of_flat (grown most limit) lists xs a
        (λ x c d. of_map (λ (n : ℕ). x ++ n ∷ []) _ xs d
        (λ n _ e. (let l : length (x ++ n ∷ []) ≡ length x + length (n ∷ []) = length-append x (n ∷ []) in
        let q : length x ≡ k = long x c in
        subst (λ zs. length zs ≡ suc k) e (omega arith))))

-- ---- from no counts

pub in_count_lists : (most : ℕ) (limits counts : List ℕ) → Within limits counts → total_count counts ≤ most →
    Among counts (count_lists most limits)
in_count_lists most limits counts w h = in_grown_by most limits ([] ∷ []) [] counts (inl refl) w h

pub record AreCounts (most : ℕ) (limits counts : List ℕ) : Type 0 where
  pub within : Within limits counts
  pub few : total_count counts ≤ most

pub of_count_lists : (most : ℕ) (limits counts : List ℕ) → Among counts (count_lists most limits) →
    AreCounts most limits counts
of_count_lists most limits counts a = by (of_grown_by most limits ([] ∷ []) counts none a)
  where
    none : (front : List ℕ) → Among front ([] ∷ []) → total_count front ≤ most
    none front (inl e) = subst (λ zs. total_count zs ≤ most) e (omega arith)
    none front (inr a) = absurd a

    by : IsGrown most limits ([] ∷ []) counts → AreCounts most limits counts
    by g = record {
      within = subst (Within limits) (only g.front g.listed g.is) g.within;
      few = g.few;
    }
      where
        only : (front : List ℕ) → Among front ([] ∷ []) → counts ≡ front ++ g.back → g.back ≡ counts
        only front (inl e) h = ap (λ zs. zs ++ g.back) e ∙ sym h
        only front (inr a) h = absurd a

pub count_lists_apart : (most : ℕ) (limits : List ℕ) → Pairs (λ a b. a ≢ b) (count_lists most limits)
count_lists_apart most limits = grown_apart most limits ([] ∷ []) 0 none (λ y a. absurd a, tt)
  where
    none : (xs : List ℕ) → Among xs ([] ∷ []) → length xs ≡ 0
    none xs (inl e) = subst (λ zs. length zs ≡ 0) e refl
    none xs (inr a) = absurd a
