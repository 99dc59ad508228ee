-- The pages of a legal pagination have their columns.
use Rattle.std.proofs.Common.{◌≡◌, sym, ap, subst, ◌∙◌, ℕ, ◌+◌, List, [], ◌∷◌, ◌++◌, append_assoc, length, None}
use Rattle.std.specs.Prelude.{◌==◌, ◌&&◌, nat_le, reverse}
use Rattle.std.proofs.lemmas.Bool.{eqb-true, leb-true}
use Rattle.std.proofs.lemmas.List.{reverse-append, reverse-reverse}
use Rattle.pg_plan.specs.Order.{columns_of}
use Rattle.pg_plan.specs.declared.pages.Page.{Page}
use Rattle.pg_rules.specs.Legal.{misfilled, underfilled, unless}
use Rattle.law_columns.proofs.Faults.{or_none, unless_none}
use Rattle.pg_lemmas.proofs.Bools.{both_of}
use Rattle.pg_pages.specs.Sheets.{AreFilled}

one_back : (page : Page) (back pages : List Page) → reverse (page ∷ back) ++ pages ≡ reverse back ++ page ∷ pages
one_back page back pages = ap (λ (them : List Page). them ++ pages) (reverse-append (page ∷ []) back)
    ∙ append_assoc (reverse back) (page ∷ []) pages

-- the pages before a page have all their columns
full_before : (full : ℕ) (back : List Page) (page : Page) (pages : List Page) → underfilled full back ≡ None →
    AreFilled full (page ∷ pages) → AreFilled full (reverse back ++ page ∷ pages)
full_before full [] page pages none filled = filled
full_before full (before ∷ back) page pages none filled =
    let t = or_none (underfilled full back)
    (unless (nat_le 1 (length before.columns) && (length before.columns == full)) (length (columns_of back) + 1)) none in
    let s = both_of (nat_le 1 (length before.columns)) (length before.columns == full) (unless_none _ _ t.1) in
    subst (AreFilled full) (sym (one_back before back (page ∷ pages)))
    (full_before full back before (page ∷ pages) t.0 (leb-true _ _ s.0, eqb-true _ _ s.1, filled))

filled_back : (full : ℕ) (back : List Page) → misfilled full back ≡ None → AreFilled full (reverse back)
filled_back full [] none = tt
filled_back full (page ∷ back) none =
    let t = or_none (underfilled full back)
    (unless (nat_le 1 (length page.columns) && nat_le (length page.columns) full) (length (columns_of back) + 1)) none in
    let s = both_of (nat_le 1 (length page.columns)) (nat_le (length page.columns) full) (unless_none _ _ t.1) in
    subst (AreFilled full) (sym (reverse-append (page ∷ []) back))
    (full_before full back page [] t.0 (leb-true _ _ s.0, leb-true _ _ s.1))

pub are_filled : (full : ℕ) (pages : List Page) → misfilled full (reverse pages) ≡ None → AreFilled full pages
are_filled full pages none = subst (AreFilled full) (reverse-reverse pages) (filled_back full (reverse pages) none)
