-- Of all lists of pages exactly one is the first fit.
use Rattle.std.proofs.Common.{◌≡◌, ◌∙◌, refl, sym, ap, ap₂, arith, ℕ, zero, suc, ◌+◌, ◌-◌, ◌≤◌, Bool, true, false, true≢false, List, [], ◌∷◌, length, drop, inl, inr}
use Rattle.std.specs.Prelude.{◌&&◌, if◌then◌else◌, is_some, ℤ, pos, ◌-ℤ◌, ◌≤ℤ◌}
use borrow.Author.Differences.{ints}
use Rattle.std.proofs.lemmas.Bool.{cond-true, cond-false}
use Rattle.std.proofs.lemmas.List.{length-drop}
use Rattle.pg_list.specs.GalleyValue.{GalleyValue}
use Rattle.pg_list.specs.declared.item.Item.{Item}
use Rattle.pg_list.specs.Break.{break_penalty, is_spent}
use Rattle.pg_list.specs.Flat.{flat}
use Rattle.pg_plan.specs.declared.pages.Page.{Page}
use Rattle.pg_plan.specs.declared.pages.Pagination.{Pagination}
use Rattle.pg_style.specs.Values.{StyleValue}
use Rattle.pg_rules.specs.Cost.{cost}
use Rattle.pg_greedy.specs.FirstFit.{AreFirstFit, Takes, fit_page}
use Rattle.pg_greedy.specs.Ahead.{first_fit, pages_from, taken}
use Rattle.pg_greedy.specs.Laws.{FirstFitIsOne, SavingIsNotNegative}
use Rattle.pg_greedy.proofs.LookAhead.{takes, takes_one}

and_false : (b : Bool) → (b && false) ≡ true → ⊥
and_false true e = absurd (true≢false (sym e))
and_false false e = absurd (true≢false (sym e))

some_items : (items : List Item) → is_spent items 0 ≡ false → 1 ≤ length items
some_items [] e = absurd (true≢false e)
some_items (item ∷ items) e = omega arith

module _ (style : StyleValue) where
  pub takes_some : (items : List Item) (n : ℕ) → is_spent items 0 ≡ false → Takes style items n → 1 ≤ n
  takes_some items zero unspent (inl best) = absurd (and_false (is_some (break_penalty items 0)) best.looked.seen)
  takes_some items (suc n) unspent (inl best) = omega arith
  takes_some items n unspent (inr end) = omega (arith, end.end, some_items items unspent)

  shorter : (items : List Item) (n fuel : ℕ) → is_spent items 0 ≡ false → Takes style items n →
      length items ≤ suc fuel →
      length (drop n items) ≤ fuel
  shorter items n fuel unspent t long =
      let some : 1 ≤ n = takes_some items n unspent t in
      let e : length (drop n items) ≡ length items - n = length-drop n items in
      omega (arith, e, some, long)

  pages_are : (fuel : ℕ) (items : List Item) (from : ℕ) → length items ≤ fuel →
      AreFirstFit style items from (pages_from style fuel items from)
  pages_are zero [] from long = refl
  pages_are zero (item ∷ items) from long = absurd (omega (arith, long))
  pages_are (suc fuel) items from long = by (is_spent items 0) refl (λ unspent.
      pages_are fuel (drop (taken style items) items) (from + taken style items)
      (shorter items (taken style items) fuel unspent (takes style items) long))
    where
      by : (spent : Bool) → is_spent items 0 ≡ spent →
          (is_spent items 0 ≡ false → AreFirstFit style (drop (taken style items) items) (from + taken style items)
          (pages_from style fuel (drop (taken style items) items) (from + taken style items))) →
          AreFirstFit style items from (if spent then [] else fit_page style from (from + taken style items)
          ∷ pages_from style fuel (drop (taken style items) items) (from + taken style items))
      by true e rest = e
      by false e rest = (e, (taken style items, (takes style items, (refl, rest e))))

  pages_only : (pages : List Page) (fuel : ℕ) (items : List Item) (from : ℕ) → length items ≤ fuel →
      AreFirstFit style items from pages → pages ≡ pages_from style fuel items from
  pages_only [] zero items from long fit = refl
  pages_only [] (suc fuel) items from long fit =
      sym (cond-true (is_spent items 0) [] (fit_page style from (from + taken style items)
      ∷ pages_from style fuel (drop (taken style items) items) (from + taken style items)) fit)
  pages_only (page ∷ pages) zero [] from long fit = absurd (true≢false fit.0)
  pages_only (page ∷ pages) zero (item ∷ items) from long fit = absurd (omega (arith, long))
  pages_only (page ∷ pages) (suc fuel) items from long fit =
      let n = fit.1.0 in
      let same : n ≡ taken style items = takes_one style items n (taken style items) fit.1.1.0 (takes style items) in
      let rest : pages ≡ pages_from style fuel (drop n items) (from + n) =
      pages_only pages fuel (drop n items) (from + n) (shorter items n fuel fit.0 fit.1.1.0 long) fit.1.1.1.1 in
      ap₂ (λ p ps. p ∷ ps) fit.1.1.1.0 rest
      ∙ (ap (λ k. fit_page style from (from + k) ∷ pages_from style fuel (drop k items) (from + k)) same
      ∙ sym (cond-false (is_spent items 0) [] (fit_page style from (from + taken style items)
      ∷ pages_from style fuel (drop (taken style items) items) (from + taken style items)) fit.0))

pub is_one : (g : GalleyValue) (s : StyleValue) → FirstFitIsOne g s
unfolding first_fit
is_one g s = record {
  is = pages_are s (length (flat g.blocks [])) (flat g.blocks []) 0 (omega arith);
  only = λ plan fit. ap make
      (pages_only s plan.pages (length (flat g.blocks [])) (flat g.blocks []) 0 (omega arith) fit);
}
  where
    make : List Page → Pagination
    make pages = record { pages = pages }

saving : (a b : ℤ) → b ≤ℤ a → pos 0 ≤ℤ (a -ℤ b)
saving a b h = omega (arith, ints, h)

pub saved : (g : GalleyValue) (s : StyleValue) → SavingIsNotNegative g s
saved g s plan legal (inl found) = record {
  plan_best = found.0;
  best = found.1;
  saved = saving (cost g s plan) (cost g s found.0) (found.1.least plan legal);
}
saved g s plan legal (inr none) = absurd (none plan legal)
