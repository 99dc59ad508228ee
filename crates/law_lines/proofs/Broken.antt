-- The listing's galley is the one that the paragraphs make, and there is but one.
use Rattle.std.proofs.Common.{◌≡◌, refl, sym, ap, subst, ◌∙◌, ℕ, ◌+◌, ◌≤◌, ◌<◌, ◌⊎◌, inl, inr, List, [], ◌∷◌, ◌++◌, length, Bool, true, false, Option, Some, None, arith}
use Rattle.std.specs.Prelude.{if◌then◌else◌, ℤ, pos, negsuc, ◌+ℤ◌, ◌<ℤ◌, nat_lt, Result, Err}
use Rattle.std.specs.List.{AllByRecursion, flat_map}
use Rattle.std.specs.Option.{option_map_or}
use Rattle.std.specs.Ordering.{is_gt, nat_cmp, ordering_reverse, ordering_then}
use Rattle.std.specs.declared.cmp.Ordering.{Ordering}
use Rattle.std.specs.declared.cmp.Ordering.TheVariants.{Less, Equal, Greater}
use Rattle.std.specs.Cmp.Lexicographic.{slice_cmp}
use Rattle.std.proofs.lemmas.Cmp.{by_ranked, ranked, lists_total, nat_cmp_total}
use Rattle.std.proofs.lemmas.Int.{ints}
use Rattle.pg_list.specs.Counts.{item_count, item_limit}
use Rattle.pg_list.specs.GalleyValue.{GalleyValue}
use Rattle.pg_list.specs.declared.blocks.Block.{Block}
use Rattle.pg_list.specs.declared.variants.Variant.{Variant}
use Rattle.pg_hlist.specs.declared.item.HItem.{HItem}
use Rattle.law_lines.specs.declared.rule.LineRule.{LineRule}
use Rattle.law_lines.specs.declared.rule.LineFault.{LineFault}
use Rattle.law_lines.specs.declared.rule.LineFault.TheVariants.{Limit}
use Rattle.law_lines.specs.Ways.{demerits, IsNoLater, IsLeastOf, IsLeastWay, CannotBreak, IsBestWay}
use Rattle.law_lines.specs.Variants.{variants_of, variant_at, found_at, loosenesses, AreVariantsOf}
use Rattle.law_lines.specs.Galleys.{Breaks, with_choice}
use Rattle.law_lines.specs.Listing.{least_way, best_way, or_no_break, broken_on}
use Rattle.pg_lemmas.proofs.Numbers.{less_true, not_less}
use Rattle.law_lines.proofs.Listed.{least_is}
use Rattle.law_lines.proofs.Best.{IsBestOf, best_way_is}
use Rattle.pg_lemmas.proofs.Orders.{tied, nat_equal}
use Rattle.pg_plan.proofs.OrderLaws.{list_equal}

-- ---- one way

no_later_same : (c d : ℤ) (ms ns : List ℕ) → IsNoLater c ms d ns → IsNoLater d ns c ms → ms ≡ ns
no_later_same c d ms ns (inl p) (inl q) = absurd (omega (arith, ints))
no_later_same c d ms ns (inl p) (inr q) = absurd (let s : d ≡ c = q.0 in omega (arith, ints))
no_later_same c d ms ns (inr p) (inl q) = absurd (let s : c ≡ d = p.0 in omega (arith, ints))
no_later_same c d ms ns (inr p) (inr q) = list_equal ms ns (tied (slice_cmp nat_cmp ms ns) (slice_cmp nat_cmp ns ms)
    ((lists_total nat_cmp_total).antisymm ms ns) p.1 q.1)

module _ (rule : LineRule) (para : List HItem) where
  pub one_least : (n : ℕ) (o p : Option (List ℕ)) → IsLeastOf rule para n o → IsLeastOf rule para n p → o ≡ p
  one_least n None None h k = refl
  one_least n None (Some way) h k = absurd (h way k.legal k.lines)
  one_least n (Some way) None h k = absurd (k way h.legal h.lines)
  one_least n (Some way) (Some other) h k = ap Some (no_later_same (demerits rule para way) (demerits rule para other)
      way other (h.least other k.legal k.lines) (k.least way h.legal h.lines))

  pub one_best : (way other : List ℕ) → IsBestWay rule para way → IsBestWay rule para other → way ≡ other
  one_best way other h k =
      let n : length way ≡ length other = lengths (demerits rule para way) (demerits rule para other) (length way)
      (length other) (h.best other k.least.legal) (k.best way h.least.legal) in
      some_same way other (one_least (length way) (Some way) (Some other) h.least
      (subst (λ (j : ℕ). IsLeastWay rule para j other) (sym n) k.least))
    where
      some_same : (x y : List ℕ) → Some x ≡ Some y → x ≡ y
      some_same x y e = cc

      lengths : (c d : ℤ) (l m : ℕ) → (c <ℤ d) ⊎ ((c ≡ d) × (l ≤ m)) → (d <ℤ c) ⊎ ((d ≡ c) × (m ≤ l)) → l ≡ m
      lengths c d l m (inl p) (inl q) = absurd (omega (arith, ints))
      lengths c d l m (inl p) (inr q) = absurd (let s : d ≡ c = q.0 in omega (arith, ints))
      lengths c d l m (inr p) (inl q) = absurd (let s : c ≡ d = p.0 in omega (arith, ints))
      lengths c d l m (inr p) (inr q) = let a : l ≤ m = p.1 in let b : m ≤ l = q.1 in omega arith

  flat_same : {X Y : Type 0} (f g : X → List Y) (xs : List X) → ((x : X) → f x ≡ g x) → flat_map f xs ≡ flat_map g xs
  flat_same f g [] h = refl
  flat_same f g (x ∷ xs) h =
      let a : f x ≡ g x = h x in let b : flat_map f xs ≡ flat_map g xs = flat_same f g xs h in
      ap (λ z. z ++ flat_map f xs) a ∙ ap (λ z. g x ++ z) b

  flat_same_on : {X Y : Type 0} (Q : X → Type 0) (f g : X → List Y) (xs : List X) → AllByRecursion Q xs →
      ((x : X) → Q x → f x ≡ g x) → flat_map f xs ≡ flat_map g xs
  flat_same_on Q f g [] q h = refl
  flat_same_on Q f g (x ∷ xs) (q, r) h =
      let a : f x ≡ g x = h x q in let b : flat_map f xs ≡ flat_map g xs = flat_same_on Q f g xs r h in
      ap (λ z. z ++ flat_map f xs) a ∙ ap (λ z. g x ++ z) b

  -- it is enough to know the least ways of the numbers of lines around the best
  pub known_variants : (found : ℕ → Option (List ℕ)) (best : List ℕ) → IsBestWay rule para best →
      AllByRecursion (λ (o : ℤ). (n : ℕ) → pos (length best) +ℤ o ≡ pos n → IsLeastOf rule para n (found n))
      (loosenesses rule.around) → AreVariantsOf rule para (variants_of rule para found best)
  known_variants found best b known = record {
    found = least_way rule para;
    best = best;
    least = least_is rule para;
    is_best = b;
    are = flat_same_on (λ (o : ℤ). (n : ℕ) → pos (length best) +ℤ o ≡ pos n → IsLeastOf rule para n (found n)) _ _
        (loosenesses rule.around) known
        (λ (o : ℤ) q. ap (variant_at rule para best o) (at (pos (length best) +ℤ o) q));
  }
    where
      at : (z : ℤ) → ((n : ℕ) → z ≡ pos n → IsLeastOf rule para n (found n)) →
          found_at found z ≡ found_at (least_way rule para) z
      at (pos n) q = one_least n (found n) (least_way rule para n) (q n refl) (least_is rule para n)
      at (negsuc n) q = refl

  pub one_variants : (a b : List Variant) → AreVariantsOf rule para a → AreVariantsOf rule para b → a ≡ b
  one_variants a b h k =
      let best : h.best ≡ k.best = one_best h.best k.best h.is_best k.is_best in
      h.are ∙ (same ∙ (ap (variants_of rule para k.found) best ∙ sym k.are))
    where
      found : (z : ℤ) → found_at h.found z ≡ found_at k.found z
      found (pos n) = one_least n (h.found n) (k.found n) (h.least n) (k.least n)
      found (negsuc n) = refl

      same : variants_of rule para h.found h.best ≡ variants_of rule para k.found h.best
      same = flat_same _ _ (loosenesses rule.around)
          (λ (o : ℤ). ap (variant_at rule para h.best o) (found (pos (length h.best) +ℤ o)))

  pub not_both : (variants : List Variant) → CannotBreak rule para → AreVariantsOf rule para variants → ⊥
  not_both variants h k = h k.best k.is_best.least.legal

module _ (rule : LineRule) where
  -- ---- the listing

  pub broken_is : (number : ℕ) (blocks : List Block) (paras : List (List HItem)) →
      Breaks rule number blocks paras (broken_on rule number blocks paras)
  broken_is number blocks [] = refl
  broken_is number blocks (para ∷ paras) =
      by (best_way rule para) (best_way_is rule para) (λ (more : List Block). broken_is (number + 1) more paras)
    where
      few : (blocks' : List Block) (result : Result GalleyValue LineFault) (b : Bool) →
          b ≡ nat_lt item_limit (item_count blocks') →
          ((item_limit < item_count blocks') × ((if b then Err (Limit (item_count blocks')) else result)
          ≡ Err (Limit (item_count blocks'))))
          ⊎ ((item_count blocks' ≤ item_limit) × ((if b then Err (Limit (item_count blocks')) else result) ≡ result))
      few blocks' result true e = inl (less_true item_limit (item_count blocks') (sym e), refl)
      few blocks' result false e = inr (not_less item_limit (item_count blocks') (sym e), refl)

      by : (o : Option (List ℕ)) → IsBestOf rule para o →
          ((more : List Block) → Breaks rule (number + 1) more paras (broken_on rule (number + 1) more paras)) →
          Breaks rule number blocks (para ∷ paras)
          (or_no_break number blocks
          (option_map_or (λ (best : List ℕ). Some (variants_of rule para (least_way rule para) best)) o None)
          (λ (more : List Block). broken_on rule (number + 1) more paras))
      by None h go = inl (h, refl)
      by (Some best) h go =
          let variants : List Variant = variants_of rule para (least_way rule para) best in
          inr (
            variants_of rule para (least_way rule para) best,
            (
              record { found = least_way rule para; best = best; least = least_is rule para; is_best = h; are = refl },
              elim (few (with_choice blocks (variants_of rule para (least_way rule para) best))
                  (broken_on rule (number + 1) (with_choice blocks (variants_of rule para (least_way rule para) best)) paras)
                  (nat_lt item_limit (item_count (with_choice blocks (variants_of rule para (least_way rule para) best)))) refl) [
                    | inl p ↦ inl p
                    | inr p ↦ inr (
                      p.0,
                      subst (Breaks rule (number + 1)
                          (with_choice blocks (variants_of rule para (least_way rule para) best)) paras) (sym p.1)
                          (go (with_choice blocks (variants_of rule para (least_way rule para) best))),
                    )
                  ],
            ),
          )

  -- ---- one galley

  pub one_broken : (number : ℕ) (blocks : List Block) (paras : List (List HItem)) (r s : Result GalleyValue LineFault) →
      Breaks rule number blocks paras r → Breaks rule number blocks paras s → r ≡ s
  one_broken number blocks [] r s h k = h ∙ sym k
  one_broken number blocks (para ∷ paras) r s (inl h) (inl k) = h.1 ∙ sym k.1
  one_broken number blocks (para ∷ paras) r s (inl h) (inr (v, (a, k))) = absurd (not_both rule para v h.0 a)
  one_broken number blocks (para ∷ paras) r s (inr (v, (a, h))) (inl k) = absurd (not_both rule para v k.0 a)
  one_broken number blocks (para ∷ paras) r s (inr (v, (a, h))) (inr (w, (b, k))) =
      by (one_broken (number + 1) (with_choice blocks v) paras r s) h
      (subst (λ (x : List Variant). After x s) (sym (one_variants rule para v w a b)) k)
    where
      After : List Variant → Result GalleyValue LineFault → Type 0
      After x t = ((item_limit < item_count (with_choice blocks x)) × (t ≡ Err (Limit (item_count (with_choice blocks x)))))
          ⊎ ((item_count (with_choice blocks x) ≤ item_limit)
          × Breaks rule (number + 1) (with_choice blocks x) paras t)

      by : (Breaks rule (number + 1) (with_choice blocks v) paras r →
          Breaks rule (number + 1) (with_choice blocks v) paras s → r ≡ s) → After v r → After v s → r ≡ s
      by more (inl p) (inl q) = p.1 ∙ sym q.1
      by more (inl p) (inr q) = absurd (let x : item_limit < item_count (with_choice blocks v) = p.0 in
          let y : item_count (with_choice blocks v) ≤ item_limit = q.0 in omega arith)
      by more (inr p) (inl q) = absurd (let x : item_limit < item_count (with_choice blocks v) = q.0 in
          let y : item_count (with_choice blocks v) ≤ item_limit = p.0 in omega arith)
      by more (inr p) (inr q) = more p.1 q.1
