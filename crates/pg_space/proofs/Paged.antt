-- Columns in order fill pages one by one.
use Rattle.std.proofs.Common.{◌≡◌, refl, sym, ap, subst, ◌∙◌, ℕ, ◌+◌, ◌≤◌, List, [], ◌∷◌, ◌++◌, append_assoc, map, true, false, arith}
use Rattle.std.specs.Prelude.{◌==◌, reverse}
use Rattle.std.proofs.lemmas.List.{append-nil}
use Rattle.std.proofs.lemmas.Bool.Decides.{nat_tests}
use Rattle.pg_plan.specs.declared.pages.Page.{Page}
use Rattle.pg_plan.specs.declared.pages.PageMove.{PageMove}
use Rattle.pg_style.specs.Values.{StyleValue}
use Rattle.pg_rules.specs.History.{next_column}
use Rattle.law_columns.specs.Pages.{add_column, pages_from, plan_of}
use Rattle.pg_lemmas.proofs.Bools.{by_bool, if_false, if_true}
use Rattle.pg_lemmas.proofs.Numbers.{eq_refl}
use Rattle.std.proofs.lemmas.Bool.{eqb-true}
use Rattle.pg_space.specs.Laws.{ColumnsArePaged}
use Rattle.pg_space.specs.Paged.{double_page, double_pages, paged, single_page}
use Rattle.pg_lemmas.proofs.Lists.{reverse_cons}

-- the columns that come, put before those that are there, from the last to the first
abbrev turned : List PageMove → List PageMove → List PageMove
turned [] back = back
turned (m ∷ ms) back = turned ms (m ∷ back)

turned_is : (ms back : List PageMove) → turned ms back ≡ reverse ms ++ back
turned_is [] back = refl
turned_is (m ∷ ms) back = turned_is ms (m ∷ back) ∙ sym (append_assoc (reverse ms) (m ∷ []) back)
    ∙ ap (λ xs. xs ++ back) (sym (reverse_cons m ms))

module _ (style : StyleValue) where
  fresh : (m : PageMove) (back : List PageMove) → next_column style back ≡ 1 →
      pages_from style (m ∷ back) ≡ single_page m ∷ pages_from style back
  fresh m back e = if_true (next_column style back == 1) _ _
      (subst (λ (n : ℕ). (n == 1) ≡ true) (sym e) (eq_refl 1))

  -- one column a page
  one_each : style.columns ≡ 1 → (ms back : List PageMove) → next_column style back ≡ 1 →
      reverse (pages_from style (turned ms back)) ≡ reverse (pages_from style back) ++ map single_page ms
  one_each one [] back e = sym (append-nil (reverse (pages_from style back)))
  one_each one (m ∷ ms) back e =
      let next : next_column style (m ∷ back) ≡ 1 = if_true (next_column style back == style.columns) _ _
      (subst (λ (n : ℕ). (next_column style back == n) ≡ true) (sym one)
      (subst (λ (n : ℕ). (n == 1) ≡ true) (sym e) (eq_refl 1))) in
      one_each one ms (m ∷ back) next
      ∙ ap (λ (ps : List Page). reverse ps ++ map single_page ms) (fresh m back e)
      ∙ ap (λ ps. ps ++ map single_page ms) (reverse_cons (single_page m) (pages_from style back))
      ∙ append_assoc (reverse (pages_from style back)) (single_page m ∷ []) (map single_page ms)

  -- two columns a page
  two_each : style.columns ≡ 2 → (ms back : List PageMove) → next_column style back ≡ 1 →
      reverse (pages_from style (turned ms back)) ≡ reverse (pages_from style back) ++ double_pages ms
  two_each two [] back e = sym (append-nil (reverse (pages_from style back)))
  two_each two (m ∷ []) back e = ap (λ (ps : List Page). reverse ps) (fresh m back e)
      ∙ reverse_cons (single_page m) (pages_from style back)
  two_each two (m ∷ n ∷ ms) back e =
      let first : (next_column style back == style.columns) ≡ false = not_two (next_column style back) style.columns
      e two in
      let second : next_column style (m ∷ back) ≡ 2 = if_false (next_column style back == style.columns) _ _ first
      ∙ ap (λ (k : ℕ). k + 1) e in
      let third : next_column style (n ∷ m ∷ back) ≡ 1 =
      if_true (next_column style (m ∷ back) == style.columns) _ _
      (subst (λ (k : ℕ). (next_column style (m ∷ back) == k) ≡ true) (sym two)
      (subst (λ (k : ℕ). (k == 2) ≡ true) (sym second) (eq_refl 2))) in
      let full : pages_from style (n ∷ m ∷ back) ≡ double_page m n ∷ pages_from style back =
      if_false (next_column style (m ∷ back) == 1) _ _
      (subst (λ (k : ℕ). (k == 1) ≡ false) (sym second) refl)
      ∙ ap (add_column n.column) (fresh m back e) in
      two_each two ms (n ∷ m ∷ back) third
      ∙ ap (λ (ps : List Page). reverse ps ++ double_pages ms) full
      ∙ ap (λ ps. ps ++ double_pages ms) (reverse_cons (double_page m n) (pages_from style back))
      ∙ append_assoc (reverse (pages_from style back)) (double_page m n ∷ []) (double_pages ms)
    where
      not_two : (a b : ℕ) → a ≡ 1 → b ≡ 2 → (a == b) ≡ false
      not_two a b p q = by_bool (a == b) (λ t. absurd (let r : a ≡ b = eqb-true a b t in omega arith)) (λ f. f)

  pub columns_paged : 1 ≤ style.columns → style.columns ≤ 2 → ColumnsArePaged style
  columns_paged low high ms = ap (λ (ps : List Page). record { pages = ps }) (sym
      (ap (λ (ns : List PageMove). reverse (pages_from style ns)) (sym (turned_is ms [] ∙ append-nil (reverse ms)))
      ∙ by_bool (style.columns == 2)
      (λ t. two_each (eqb-true style.columns 2 t) ms [] refl
      ∙ sym (if_true (style.columns == 2) (double_pages ms) (map single_page ms) t))
      (λ f. one_each (one f) ms [] refl
      ∙ sym (if_false (style.columns == 2) (double_pages ms) (map single_page ms) f))))
    where
      one : (style.columns == 2) ≡ false → style.columns ≡ 1
      one f = by_bool (style.columns == 1) (λ t. eqb-true style.columns 1 t)
          (λ g. absurd (two_only (other style.columns g low high) f))
        where
          other : (n : ℕ) → (n == 1) ≡ false → 1 ≤ n → n ≤ 2 → n ≡ 2
          other n g a b = grind (arith, nat_tests)

          two_only : style.columns ≡ 2 → (style.columns == 2) ≡ false → ⊥
          two_only e f = let t : (style.columns == 2) ≡ true =
              subst (λ (n : ℕ). (n == 2) ≡ true) (sym e) (eq_refl 2) in absurd cc

-- the pages of the plan that columns make
pub plan_is : (style : StyleValue) → ColumnsArePaged style → (ms : List PageMove) (pages : List Page) →
    pages ≡ paged style.columns ms → record { pages = pages } ≡ plan_of style (reverse ms)
plan_is style law ms pages e = ap (λ (ps : List Page). record { pages = ps }) e ∙ law ms
