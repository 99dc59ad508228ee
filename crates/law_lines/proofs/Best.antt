-- The best way of a listing.
use Rattle.std.proofs.Common.{◌≡◌, refl, sym, subst, ◌∙◌, ℕ, zero, suc, ◌+◌, ◌≤◌, ◌<◌, ◌⊎◌, inl, inr, List, [], ◌∷◌, length, Bool, true, false, Option, Some, None, arith}
use Rattle.std.specs.Prelude.{if◌then◌else◌, ◌&&◌, ◌==◌, ℤ, ◌<ℤ◌, int_lt}
use Rattle.std.specs.Ordering.{nat_cmp}
use Rattle.std.proofs.lemmas.Cmp.{by_ranked, ranked}
use Rattle.std.proofs.lemmas.Int.{ints}
use Rattle.pg_hlist.specs.declared.item.HItem.{HItem}
use Rattle.law_lines.specs.declared.rule.LineRule.{LineRule}
use Rattle.law_lines.specs.Ways.{start_of, keeps_lines, is_some_line, is_way, demerits, IsNoLater, IsLeastWay, IsLeastOf, CannotBreak, IsBestWay}
use Rattle.law_lines.specs.Listing.{least_way, cheaper_of, best_from, best_way}
use Rattle.pg_lemmas.proofs.Bools.{both_of}
use Rattle.law_lines.proofs.Tests.{eq_true}
use Rattle.law_lines.proofs.Order.{not_less_int}
use Rattle.law_lines.proofs.Listed.{least_is, lines_few}
use Rattle.law_places.proofs.Tests.{less_int}

-- cheaper, or as cheap with no more lines
abbrev Cheaper : ℤ → ℕ → ℤ → ℕ → Type 0
Cheaper c l d m = (c <ℤ d) ⊎ ((c ≡ d) × (l ≤ m))

least_cheaper : (c d : ℤ) (way other : List ℕ) (l m : ℕ) → IsNoLater c way d other → l ≤ m → Cheaper c l d m
least_cheaper c d way other l m (inl p) h = inl p
least_cheaper c d way other l m (inr p) h = inr (p.0, h)

less_cheaper : (b c d : ℤ) (way other : List ℕ) (l m : ℕ) → b <ℤ c → IsNoLater c way d other → Cheaper b l d m
less_cheaper b c d way other l m h (inl p) = inl (omega (arith, ints))
less_cheaper b c d way other l m h (inr p) = inl (let e : c ≡ d = p.0 in omega (arith, ints))

chain_cheaper : (b c d : ℤ) (l j m : ℕ) → (b <ℤ c) ⊎ (b ≡ c) → Cheaper c j d m → l ≤ m → Cheaper b l d m
chain_cheaper b c d l j m (inl p) (inl q) h = inl (omega (arith, ints))
chain_cheaper b c d l j m (inl p) (inr q) h = inl (let e : c ≡ d = q.0 in omega (arith, ints))
chain_cheaper b c d l j m (inr p) (inl q) h = inl (omega (arith, ints))
chain_cheaper b c d l j m (inr p) (inr q) h = inr (p ∙ q.0, h)

module _ (rule : LineRule) (para : List HItem) where
  abbrev CheaperWay : List ℕ → List ℕ → Type 0
  CheaperWay way other = Cheaper (demerits rule para way) (length way) (demerits rule para other) (length other)

  pub record IsBestFrom (n k : ℕ) (way : List ℕ) : Type 0 where
    pub least : IsLeastWay rule para (length way) way
    pub from : n ≤ length way
    pub best : (other : List ℕ) → is_way rule para other ≡ true → n ≤ length other → length other < n + k →
        CheaperWay way other

  abbrev NoneFrom : ℕ → ℕ → Type 0
  NoneFrom n k = (other : List ℕ) → is_way rule para other ≡ true → n ≤ length other → length other < n + k → ⊥

  abbrev IsFrom : ℕ → ℕ → Option (List ℕ) → Type 0
  IsFrom n k None = NoneFrom n k
  IsFrom n k (Some way) = IsBestFrom n k way

  cases : (n k m : ℕ) → n ≤ m → m < n + suc k → (m ≡ n) ⊎ ((n + 1 ≤ m) × (m < n + 1 + k))
  cases n k m a b = by_ranked (n < m) (n ≡ m) (m < n) (nat_cmp n m) (ranked n m (nat_cmp n m) refl)
      (λ _ p. inr (omega arith, omega arith)) (λ _ p. inl (sym p)) (λ _ p. absurd (omega arith))

  best_is : (n k : ℕ) → IsFrom n k (best_from rule para n k)
  best_is n zero = λ other h a b. absurd (omega arith)
  best_is n (suc k) = by (least_way rule para n) (least_is rule para n) (best_from rule para (n + 1) k) (best_is (n + 1) k)
    where
      pick : (way other : List ℕ) → IsLeastWay rule para n way → IsBestFrom (n + 1) k other → (b : Bool) →
          b ≡ int_lt (demerits rule para other) (demerits rule para way) →
          IsFrom n (suc k) (if b then Some other else Some way)
      pick way other l f true e = record {
        least = f.least;
        from = (let g : n + 1 ≤ length other = f.from in omega arith);
        best = λ x h a b. elim (cases n k (length x) a b) [
          | inl p ↦ less_cheaper (demerits rule para other) (demerits rule para way) (demerits rule para x) way x
              (length other) (length x) (less_int (demerits rule para other) (demerits rule para way) (sym e)) (l.least x h p)
          | inr p ↦ f.best x h p.0 p.1
        ];
      }
      pick way other l f false e = record {
        least = subst (λ (j : ℕ). IsLeastWay rule para j way) (sym l.lines) l;
        from = (let g : length way ≡ n = l.lines in omega arith);
        best = λ x h a b. (let g : length way ≡ n = l.lines in elim (cases n k (length x) a b) [
          | inl p ↦ least_cheaper (demerits rule para way) (demerits rule para x) way x (length way) (length x)
              (l.least x h p) (omega arith)
          | inr p ↦ chain_cheaper (demerits rule para way) (demerits rule para other) (demerits rule para x)
              (length way) (length other) (length x)
              (not_less_int (demerits rule para other) (demerits rule para way) (sym e)) (f.best x h p.0 p.1) (omega arith)
        ]);
      }

      by : (o : Option (List ℕ)) → IsLeastOf rule para n o → (q : Option (List ℕ)) → IsFrom (n + 1) k q →
          IsFrom n (suc k) (cheaper_of rule para o q)
      by None l None f = λ x h a b. elim (cases n k (length x) a b) [
        | inl p ↦ l x h p
        | inr p ↦ f x h p.0 p.1
      ]
      by None l (Some other) f = record {
        least = f.least;
        from = (let g : n + 1 ≤ length other = f.from in omega arith);
        best = λ x h a b. elim (cases n k (length x) a b) [
          | inl p ↦ absurd (l x h p)
          | inr p ↦ f.best x h p.0 p.1
        ];
      }
      by (Some way) l None f = record {
        least = subst (λ (j : ℕ). IsLeastWay rule para j way) (sym l.lines) l;
        from = (let g : length way ≡ n = l.lines in omega arith);
        best = λ x h a b. (let g : length way ≡ n = l.lines in elim (cases n k (length x) a b) [
          | inl p ↦ least_cheaper (demerits rule para way) (demerits rule para x) way x (length way) (length x)
              (l.least x h p) (omega arith)
          | inr p ↦ absurd (f x h p.0 p.1)
        ]);
      }
      by (Some way) l (Some other) f =
          pick way other l f (int_lt (demerits rule para other) (demerits rule para way)) refl

  -- a legal way has a line, and no more lines than the paragraph has items
  some_lines : (way : List ℕ) → is_way rule para way ≡ true → 1 ≤ length way
  some_lines [] h = absurd cc
  some_lines (k ∷ way) h = omega arith

  few_lines : (way : List ℕ) → is_way rule para way ≡ true → length way ≤ length para
  few_lines way h =
      let s = both_of (is_some_line way) (keeps_lines rule para way && (start_of way == length para)) h in
      let t = both_of (keeps_lines rule para way) (start_of way == length para) s.1 in
      let l : length way ≤ start_of way = lines_few rule para way t.0 in
      let e : start_of way ≡ length para = eq_true (start_of way) (length para) t.1 in
      omega arith

  abbrev pub IsBestOf : Option (List ℕ) → Type 0
  IsBestOf None = CannotBreak rule para
  IsBestOf (Some way) = IsBestWay rule para way

  pub best_way_is : IsBestOf (best_way rule para)
  best_way_is = by (best_way rule para) (best_is 1 (length para))
    where
      by : (o : Option (List ℕ)) → IsFrom 1 (length para) o → IsBestOf o
      by None f = λ other h. f other h (some_lines other h) (let l : length other ≤ length para = few_lines other h in
          omega arith)
      by (Some way) f = record {
        least = f.least;
        best = λ other h. f.best other h (some_lines other h)
            (let l : length other ≤ length para = few_lines other h in omega arith);
      }
