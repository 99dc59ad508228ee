-- A page builder that takes the last break that fits is no first fit.
use Rattle.std.proofs.Common.{◌≡◌, refl, sym, ap, subst, arith, ℕ, zero, suc, pos, ◌+◌, ◌<◌, true, false, true≢false, List, [], ◌∷◌, length, inl, inr}
use Rattle.std.proofs.lemmas.Int.{ints}
use Rattle.std.specs.Prelude.{◌≤ℤ◌}
use Rattle.pg_list.specs.GalleyValue.{GalleyValue}
use Rattle.pg_list.specs.declared.item.Item.{Item}
use Rattle.pg_list.specs.Flat.{flat}
use Rattle.pg_plan.specs.declared.pages.Column.{Column}
use Rattle.pg_plan.specs.declared.pages.Page.{Page}
use Rattle.pg_plan.specs.declared.pages.Pagination.{Pagination}
use Rattle.pg_rules.proofs.Examples.{galley, line, gap, soft_gap, eject, penalty, plain, pages, page, text_column, at}
use Rattle.pg_greedy.specs.Breaks.{break_cost, is_seen, stops_at}
use Rattle.pg_greedy.specs.FirstFit.{IsFirstFit, IsLookedAt, Takes}

-- both breaks before the fourth line fit the first page, and the later one is dearer
abbrev penalized : GalleyValue
penalized = galley (line ∷ soft_gap 12 ∷ line ∷ gap ∷ line ∷ penalty 150 ∷ line ∷ gap ∷ line ∷ eject ∷ line ∷ [])

abbrev items : List Item
items = flat penalized.blocks []

-- pages that end before these blocks
abbrev by_the_last : Pagination
by_the_last = pages
    (page [] (text_column (at 0) (at 5) [] ∷ []) ∷ page [] (text_column (at 5) (at 9) [] ∷ [])
    ∷ page [] (text_column (at 9) (at 11) [] ∷ []) ∷ [])

dearer : break_cost (plain 34) items 5 ≡ pos 150
dearer = refl

cheaper : break_cost (plain 34) items 3 ≡ pos 100
cheaper = refl

many : length items ≡ 11
many = refl

-- the block before which a page ends
abbrev end_block : List Column → ℕ
end_block [] = 0
end_block (column ∷ columns) = column.to.block

looked : IsLookedAt (plain 34) items 3
looked = record { within = omega (arith, many); seen = refl; goes_on = before }
  where
    before : (j : ℕ) → j < 3 → is_seen items j ≡ true →
        stops_at (plain 34) items j ≡ false
    before zero low e = absurd (true≢false (sym e))
    before (suc zero) low e = refl
    before (suc (suc zero)) low e = absurd (true≢false (sym e))
    before (suc (suc (suc j))) low e = absurd (omega (arith, low))

takes_not_five : Takes (plain 34) items 5 → ⊥
takes_not_five (inl best) =
    let h : break_cost (plain 34) items 5 ≤ℤ break_cost (plain 34) items 3 = best.least 3 looked in
    omega (arith, ints, h, dearer, cheaper)
takes_not_five (inr end) = omega (arith, end.end, many)

pub last_break_is_refused : IsFirstFit penalized (plain 34) by_the_last → ⊥
last_break_is_refused fit =
    let n = fit.1.0 in
    let e : 5 ≡ 0 + n = ap (λ (it : Page). end_block it.columns) fit.1.1.1.0 in
    let five : n ≡ 5 = omega (arith, e) in
    takes_not_five (subst (Takes (plain 34) items) five fit.1.1.0)
