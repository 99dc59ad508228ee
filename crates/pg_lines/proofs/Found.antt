-- What is found of the ways of a paragraph makes its variants.
use Rattle.std.proofs.Common.{◌≡◌, refl, sym, ap, subst, ◌∙◌, ℕ, zero, suc, ◌+◌, ◌^◌, ◌≤◌, ◌<◌, ◌⊎◌, inl, inr, List, [], ◌∷◌, ◌++◌, length, Option, Some, None, append-nil, append_assoc, arith}
use Rattle.std.specs.Prelude.{◌-◌, ℤ, pos, negsuc, ◌+ℤ◌, ◌<ℤ◌, ◌≤ℤ◌, take, drop, get_or}
use Rattle.std.specs.List.{AllByRecursion, flat_map}
use Rattle.std.proofs.lemmas.Int.{ints}
use Rattle.std.proofs.lemmas.List.{take_rest}
use Rattle.pg_list.specs.declared.variants.Variant.{Variant}
use Rattle.pg_hlist.specs.declared.item.HItem.{HItem}
use Rattle.law_lines.specs.declared.rule.LineRule.{LineRule}
use Rattle.law_lines.specs.Listing.{least_way}
use Rattle.law_lines.specs.Variants.{AreVariantsOf, found_at, loosenesses, variant_at, variant_of}
use Rattle.law_lines.specs.Ways.{IsBestWay, IsLeastOf, IsLeastWay, demerits}
use Rattle.law_lines.proofs.Broken.{one_least}
use Rattle.law_lines.proofs.Listed.{least_is}
use Rattle.law_lines.specs.BestSpace.{IsBestCount}
use Rattle.pg_hlist.specs.Items.{IsPara}
use Rattle.pg_lines.specs.Found.{IsBestNumber, IsFound}
use Rattle.pg_lines.specs.declared.ways.Way.{Way}
use Rattle.pg_lines.proofs.Counted.{way_short}
use Rattle.pg_lines.specs.Answers.{IsCount, variant_by}

-- ---- counts

is_count : (z : ℤ) (n : ℕ) → 0 < n → IsCount z n → z ≡ pos n
is_count (pos m) n h e = ap pos (sym e)
is_count (negsuc m) n h e = absurd (omega (arith, h, e))

-- ---- how many lines more

near_all : (lines around most : ℕ) → around ≤ 2 → most ≡ lines + around →
    AllByRecursion (λ (o : ℤ). (pos lines +ℤ o) ≤ℤ pos most) (loosenesses around)
near_all lines zero most h e = (omega (arith, ints, e), tt)
near_all lines (suc zero) most h e = (omega (arith, ints, e), (omega (arith, ints, e), (omega (arith, ints, e), tt)))
near_all lines (suc (suc zero)) most h e = (
  omega (arith, ints, e),
  (
    omega (arith, ints, e),
    (
      omega (arith, ints, e),
      (omega (arith, ints, e), (omega (arith, ints, e), tt)),
    ),
  ),
)
near_all lines (suc (suc (suc n))) most h e = absurd (omega (arith, h))

-- what is left of these
pub near_of : (lines around most : ℕ) (os : List ℤ) → os ≡ loosenesses around → around ≤ 2 → most ≡ lines + around →
    AllByRecursion (λ (o : ℤ). (pos lines +ℤ o) ≤ℤ pos most) os
near_of lines around most os e h f =
    subst (AllByRecursion (λ (o : ℤ). (pos lines +ℤ o) ≤ℤ pos most)) (sym e) (near_all lines around most h f)

-- one more of a list that is walked
pub one_further : {X Y : Type 0} (f : X → List Y) (xs : List X) (d : X) (old new whole : List Y) → 0 < length xs →
    new ≡ old ++ f (get_or xs 0 d) → old ++ flat_map f xs ≡ whole →
    new ++ flat_map f (take (length xs - 1) (drop 1 xs)) ≡ whole
one_further f [] d old new whole h n w = absurd (omega (arith, h))
one_further f (x ∷ xs) d old new whole h n w =
    ap (λ ys. new ++ flat_map f ys) (take_rest (x ∷ xs) 1)
    ∙ (ap (λ ys. ys ++ flat_map f xs) n ∙ (append_assoc old (f x) (flat_map f xs) ∙ w))

pub moved : (F : LineRule → List HItem → Type 0) (rule rule' : LineRule) (para para' : List HItem) → rule ≡ rule' →
    para ≡ para' → F rule para → F rule' para'
moved F rule rule' para para' e f h =
    subst (λ (r : LineRule). F r para') e (subst (λ (p : List HItem). F rule p) f h)

module _ (rule : LineRule) (para : List HItem) where
  none_at : (z : ℤ) → IsCount z 0 → found_at (least_way rule para) z ≡ None
  none_at (pos zero) h = refl
  none_at (pos (suc n)) h = absurd (omega (arith, h))
  none_at (negsuc n) h = refl

  -- ---- one number of lines, told of an equal looseness

  found_by : (best : List ℕ) (o : ℤ) (n : ℕ) (found : Option (List ℕ)) → pos (length best) +ℤ o ≡ pos n →
      IsLeastOf rule para n found → variant_by rule para best o ≡ variant_at rule para best o found
  found_by best o n found e h =
      ap (λ (z : ℤ). variant_at rule para best o (found_at (least_way rule para) z)) e
      ∙ ap (variant_at rule para best o) (one_least rule para n (least_way rule para n) found (least_is rule para n) h)

  module _ (best : List ℕ) (o p : ℤ) (n : ℕ) (same : p ≡ o) (count : IsCount (pos (length best) +ℤ p) n) where
    counted : IsCount (pos (length best) +ℤ o) n
    counted = subst (λ (z : ℤ). IsCount (pos (length best) +ℤ z) n) same count

    -- no line is too few
    pub no_lines : n ≡ 0 → variant_by rule para best o ≡ []
    no_lines e = ap (variant_at rule para best o)
        (none_at (pos (length best) +ℤ o) (subst (IsCount (pos (length best) +ℤ o)) e counted))

    pub no_variant : 0 < n → IsFound rule para n None → variant_by rule para best o ≡ []
    no_variant h f = found_by best o n None (is_count (pos (length best) +ℤ o) n h counted) f

  pub one_variant : (best : List ℕ) (o p : ℤ) (n : ℕ) (way : Way) → p ≡ o → IsCount (pos (length best) +ℤ p) n → 0 < n →
      IsFound rule para n (Some way) → variant_by rule para best o ≡ variant_of rule para best o way.ends.items ∷ []
  one_variant best o p n way same count h f = found_by best o n (Some way.ends.items)
      (is_count (pos (length best) +ℤ o) n h (counted best o p n same count)) f.0

  pub count_few : (n : ℕ) → IsPara para → IsBestNumber rule para (Some n) → n ≤ 2 ^ 11
  count_few n p b =
      let s = way_short rule para b.0 b.1.0.legal in
      let f = p.few in
      let l : length b.0 ≡ n = b.1.1 in
      omega (arith, s, f, l)

  -- ---- the best

  no_more : (c d e : ℤ) (l m n : ℕ) (tie : Type 0) → (c <ℤ d) ⊎ ((c ≡ d) × tie) → l ≡ m →
      (d <ℤ e) ⊎ ((d ≡ e) × (m ≤ n)) → (c <ℤ e) ⊎ ((c ≡ e) × (l ≤ n))
  no_more c d e l m n tie (inl p) s (inl q) = inl (omega (arith, ints, p, q))
  no_more c d e l m n tie (inl p) s (inr q) = inl (let t : d ≡ e = q.0 in omega (arith, ints, p, t))
  no_more c d e l m n tie (inr p) s (inl q) = inl (let t : c ≡ d = p.0 in omega (arith, ints, q, t))
  no_more c d e l m n tie (inr p) s (inr q) = inr (p.0 ∙ q.0, (let t : m ≤ n = q.1 in omega (arith, s, t)))

  -- the least way of the best number of lines is the best way
  pub best_is : (n : ℕ) (way best : List ℕ) → IsBestCount rule para way → length way ≡ n → IsLeastWay rule para n best →
      IsBestWay rule para best
  best_is n way best b e l = record {
    least = subst (λ (m : ℕ). IsLeastWay rule para m best) (sym l.lines) l;
    best = λ other h. no_more (demerits rule para best) (demerits rule para way) (demerits rule para other)
        (length best) (length way) (length other) _ (l.least way b.legal e) (l.lines ∙ sym e) (b.best other h);
  }

  pub best_found : (n : ℕ) (best : Way) → IsBestNumber rule para (Some n) → IsFound rule para n (Some best) →
      IsBestWay rule para best.ends.items
  best_found n best b f = best_is n b.0 best.ends.items b.1.0 b.1.1 f.0

  -- ---- the variants around it

  pub all_around : (best : List ℕ) (variants : List Variant) → IsBestWay rule para best →
      variants ++ [] ≡ flat_map (variant_by rule para best) (loosenesses rule.around) → AreVariantsOf rule para variants
  all_around best variants b e = record {
    found = least_way rule para;
    best = best;
    least = least_is rule para;
    is_best = b;
    are = sym (append-nil variants) ∙ e;
  }
