-- One page more.
use Rattle.std.proofs.Common.{◌≡◌, ◌∙◌, refl, sym, ap, subst, arith, ℕ, zero, suc, ◌+◌, ◌≤◌, false, List, [], ◌∷◌, ◌++◌, append_assoc, drop, length, inl, inr}
use Rattle.pg_list.specs.declared.item.Item.{Item}
use Rattle.pg_list.specs.Break.{is_spent}
use Rattle.pg_plan.specs.declared.pages.Page.{Page}
use Rattle.pg_style.specs.Values.{StyleValue}
use Rattle.pg_greedy.specs.FirstFit.{AreFirstFit, Takes, fit_page}

drop_twice : {X : Type 0} (a n : ℕ) (xs : List X) → drop (a + n) xs ≡ drop n (drop a xs)
drop_twice zero n xs = let z : 0 + n ≡ n = omega arith in ap (λ k. drop k xs) z
drop_twice {X = X} (suc a) n [] = none (suc a + n) ∙ sym (none n)
  where
    none : (m : ℕ) → drop {A = X} m [] ≡ []
    none zero = refl
    none (suc m) = refl
drop_twice (suc a) n (x ∷ xs) = let s : suc a + n ≡ suc (a + n) = omega arith in
    ap (λ k. drop k (x ∷ xs)) s ∙ drop_twice a n xs

pub takes_within : (style : StyleValue) (items : List Item) (n : ℕ) → Takes style items n → n ≤ length items
takes_within style items n (inl best) = best.looked.within
takes_within style items n (inr end) = let e = end.end in omega (arith, e)

-- the pages so far, with any that fit behind them, are those of first fit
abbrev pub GoOn : StyleValue → List Item → ℕ → List Page → Type 0
GoOn style all from pages = (more : List Page) → AreFirstFit style (drop from all) from more →
    AreFirstFit style (drop 0 all) 0 (pages ++ more)

pub goes_on : (style : StyleValue) (all : List Item) (from n : ℕ) (pages : List Page) (page : Page)
    (longer : List Page) →
    GoOn style all from pages → is_spent (drop from all) 0 ≡ false → Takes style (drop from all) n →
    page ≡ fit_page style from (from + n) → longer ≡ pages ++ page ∷ [] → GoOn style all (from + n) longer
goes_on style all from n pages page longer fit unspent takes is push more rest =
    subst (AreFirstFit style (drop 0 all) 0) (sym (append_assoc pages (page ∷ []) more)
    ∙ ap (λ ps. ps ++ more) (sym push))
    (fit (page ∷ more) (
      unspent,
      (
        n,
        (
          takes,
          (
            is,
            subst (λ items. AreFirstFit style items (from + n) more) (drop_twice from n all) rest,
          ),
        ),
      ),
    ))
