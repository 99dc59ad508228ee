-- What the printer reads off a style, a seat and a column stands for what the definitions name.
use Rattle.std.proofs.Common.{◌≡◌, refl, sym, ap, subst, ◌∙◌, ℕ, List, [], true, false, Option}
use Rattle.std.specs.Prelude.{codes, if◌then◌else◌, ℤ}
use Rattle.pg_lemmas.proofs.Bools.{if_false, if_true}
use Rattle.pg_list.specs.declared.item.Item.{Item}
use Rattle.pg_plan.specs.declared.pages.Column.{Column}
use Rattle.pg_rules.specs.Floats.{dealt_from}
use Rattle.pg_rules.specs.Room.{Document}
use Rattle.pg_style.specs.Values.{AreaRuleValue, StyleValue}
use Rattle.pg_style.specs.declared.style.Class.{Class}
use Rattle.pg_pages.specs.Gaps.{hung_gaps, hung_text, shows_gaps, standing_gaps, standing_text}
use Rattle.pg_pages.specs.PageText.{area, skipped_notes}
use Rattle.pg_pages.specs.Printed.{FitTogether, bottom_by, hanging_by, notes_by, notes_set, standing_by, top_by}
use Rattle.pg_pages.specs.Sheets.{MayFrom}

module _ (style : StyleValue) (bodies : List (List (List ℕ))) where
  -- ---- areas by the rule and the counts that stand for those of the style and of the column

  pub top_from : (column : Column) (rule : AreaRuleValue) (before counts : List ℕ) (widths : List ℤ) →
      rule ≡ style.top → counts ≡ column.top →
      area (codes "top") (hanging_by style rule bodies before counts widths) ≡ top_by style bodies before column widths
  unfolding top_by
  top_from column rule before counts widths p q = rw (p, q) refl

  pub bottom_from : (column : Column) (rule : AreaRuleValue) (below counts : List ℕ) (widths : List ℤ) →
      rule ≡ style.bottom → counts ≡ column.bottom →
      area (codes "bottom") (standing_by style rule bodies below counts widths)
      ≡ bottom_by style bodies below column widths
  unfolding bottom_by
  bottom_from column rule below counts widths p q = rw (p, q) refl

  -- ---- the floats of an area, where pages show gaps

  module _ (rule : AreaRuleValue) (before counts : List ℕ) (widths : List ℤ) (dealt : List (List ℕ)) where
    pub hung_shown : shows_gaps style ≡ true → dealt ≡ dealt_from 0 bodies before counts →
        hung_text rule dealt widths ≡ hanging_by style rule bodies before counts widths
    unfolding hanging_by
    hung_shown t d = ap (λ (those : List (List ℕ)). hung_text rule those widths) d ∙ sym (if_true (shows_gaps style) _ _ t)

    pub stood_shown : shows_gaps style ≡ true → dealt ≡ dealt_from 0 bodies before counts →
        standing_text rule dealt widths ≡ standing_by style rule bodies before counts widths
    unfolding standing_by
    stood_shown t d =
        ap (λ (those : List (List ℕ)). standing_text rule those widths) d ∙ sym (if_true (shows_gaps style) _ _ t)

  -- ---- how many gaps

  pub hung_from : (rule own : AreaRuleValue) (n m : ℕ) → rule ≡ own → n ≡ m →
      (if shows_gaps style then hung_gaps rule n else []) ≡ (if shows_gaps style then hung_gaps own m else [])
  hung_from rule own n m p q = rw (p, q) refl

  pub stood_from : (rule own : AreaRuleValue) (n m : ℕ) → rule ≡ own → n ≡ m →
      (if shows_gaps style then standing_gaps rule n else []) ≡ (if shows_gaps style then standing_gaps own m else [])
  stood_from rule own n m p q = rw (p, q) refl

-- ---- notes

module _ (style : StyleValue) (items : List Item) (widths : List ℤ) (classes : List Class) where
  pub skipped_shown : shows_gaps style ≡ true → classes ≡ style.classes →
      skipped_notes classes items widths ≡ notes_set style items widths
  unfolding notes_set
  skipped_shown t p = ap (λ (those : List Class). skipped_notes those items widths) p
      ∙ sym (if_true (shows_gaps style) _ _ t)

  pub plainly_shown : shows_gaps style ≡ false → classes ≡ style.classes →
      notes_by classes items ≡ notes_set style items widths
  unfolding notes_set
  plainly_shown t p = ap (λ (those : List Class). notes_by those items) p ∙ sym (if_false (shows_gaps style) _ _ t)

-- ---- counts

-- counts that fit together do where they are read off
pub fit_as : (a a' b b' : List ℕ) → a ≡ a' → b ≡ b' → FitTogether a' b' → FitTogether a b
fit_as a a' b b' p q fit = subst (λ (x : List ℕ). FitTogether x b) (sym p)
    (subst (λ (x : List ℕ). FitTogether a' x) (sym q) fit)

-- columns that may be printed may be where all that is asked of them is read off
pub may_as : (doc : Document) (run run' : ℕ) (wide wide' : Option ℤ) (before before' : List ℕ)
    (columns columns' : List Column) → run ≡ run' → wide ≡ wide' → before ≡ before' → columns ≡ columns' →
    MayFrom doc run' wide' before' columns' → MayFrom doc run wide before columns
may_as doc run run' wide wide' before before' columns columns' p q r s may =
    subst (λ (x : ℕ). MayFrom doc x wide before columns) (sym p)
    (subst (λ (x : Option ℤ). MayFrom doc run' x before columns) (sym q)
    (subst (λ (x : List ℕ). MayFrom doc run' wide' x columns) (sym r)
    (subst (λ (x : List Column). MayFrom doc run' wide' before' x) (sym s) may)))
