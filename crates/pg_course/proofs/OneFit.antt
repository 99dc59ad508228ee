-- A galley has one first fit.
use Rattle.std.proofs.Common.{◌≡◌, ◌∙◌, refl, sym, ap, ap₂, subst, arith, ℕ, ◌+◌, inl, inr, true, false, List, [], ◌∷◌, drop}
use Rattle.pg_list.specs.GalleyValue.{GalleyValue}
use Rattle.pg_list.specs.declared.item.Item.{Item}
use Rattle.pg_list.specs.Flat.{flat}
use Rattle.pg_plan.specs.declared.pages.Page.{Page}
use Rattle.pg_plan.specs.declared.pages.Pagination.{Pagination}
use Rattle.pg_style.specs.Values.{StyleValue}
use Rattle.pg_greedy.specs.Breaks.{break_cost}
use Rattle.law_places.proofs.Tests.{both_same}
use Rattle.pg_greedy.specs.FirstFit.{AreFirstFit, IsFirstFit, Takes, fit_page}

true_not_false : true ≡ false → ⊥
true_not_false e = absurd cc

takes_one : (style : StyleValue) (items : List Item) (n m : ℕ) → Takes style items n → Takes style items m → n ≡ m
takes_one style items n m (inl a) (inl b) =
    let same : break_cost style items n ≡ break_cost style items m =
    both_same (break_cost style items n) (break_cost style items m) (a.least m b.looked) (b.least n a.looked) in
    omega (arith, a.last m b.looked (sym same), b.last n a.looked same)
takes_one style items n m (inl a) (inr b) = absurd (true_not_false (sym a.looked.seen ∙ b.none n a.looked.within))
takes_one style items n m (inr a) (inl b) = absurd (true_not_false (sym b.looked.seen ∙ a.none m b.looked.within))
takes_one style items n m (inr a) (inr b) = a.end ∙ sym b.end

pages_one : (style : StyleValue) (items : List Item) (from : ℕ) (one other : List Page) →
    AreFirstFit style items from one → AreFirstFit style items from other → one ≡ other
pages_one style items from [] [] a b = refl
pages_one style items from [] (page ∷ pages) a b = absurd (true_not_false (sym a ∙ b.0))
pages_one style items from (page ∷ pages) [] a b = absurd (true_not_false (sym b ∙ a.0))
pages_one style items from (page ∷ pages) (last ∷ others) (left, (n, (takes, (is, rest))))
    (more, (m, (other, (made, later)))) =
    let same = takes_one style items n m takes other in
    ap₂ (λ x xs. x ∷ xs) (is ∙ (ap (λ k. fit_page style from (from + k)) same ∙ sym made))
    (pages_one style (drop n items) (from + n) pages others rest
    (subst (λ k. AreFirstFit style (drop k items) (from + k) others) (sym same) later))

pub fit_one : (galley : GalleyValue) (style : StyleValue) (p q : Pagination) → IsFirstFit galley style p →
    IsFirstFit galley style q → p ≡ q
fit_one galley style p q a b =
    ap (λ (pages : List Page). record { pages = pages })
    (pages_one style (flat galley.blocks []) 0 p.pages q.pages a b)
