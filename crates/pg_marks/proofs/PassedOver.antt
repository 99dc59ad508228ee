-- Discardable items are no marks, labels or uses; so the items in front of a column's first box tell nothing.
use Rattle.std.proofs.Common.{◌≡◌, ◌∙◌, refl, sym, ap, ap₂, Bool, true, false, true≢false, ℕ, List, [], ◌∷◌, ◌++◌, Option, Some, None}
use Rattle.std.specs.Prelude.{if◌then◌else◌, ◌||◌}
use Rattle.std.specs.List.{cons_option, filter_map, flat_map, list_any}
use Rattle.std.specs.Option.{option_map_or}
use Rattle.std.specs.Str.{bytes_eq}
use Rattle.std.proofs.Math.Bool.{false-or}
use Rattle.std.proofs.lemmas.List.Elements.{filter_map-append}
use Rattle.pg_list.specs.Shapes.{is_box, is_discardable}
use Rattle.pg_list.specs.declared.blocks.Block.{Block}
use Rattle.pg_list.specs.declared.item.Item.{Item}
use Rattle.pg_list.specs.declared.item.Item.TheVariants.{BoxItem, Rule, Glue, Kern, Penalty, Insert, Carry}
use Rattle.pg_list.specs.Totals.{trimmed}
use Rattle.pg_plan.specs.declared.pages.Column.{Column}
use Rattle.pg_plan.specs.declared.pages.Page.{Page}
use Rattle.pg_column.specs.Between.{column_text}
use Rattle.pg_marks.specs.Carries.{is_label, label_of, mark_of, named}
use Rattle.pg_marks.specs.Heads.{column_items, page_items}
use Rattle.pg_marks.specs.Walked.{page_text}

-- a reading that passes over discardable items
abbrev pub PassesOver : (Item → Option (List ℕ)) → Type 0
PassesOver f = (item : Item) → is_discardable item ≡ true → f item ≡ None

pub no_mark : PassesOver mark_of
no_mark (BoxItem height depth body) e = refl
no_mark (Rule height depth body) e = refl
no_mark (Glue width stretch order shrink body) e = refl
no_mark (Kern width body) e = refl
no_mark (Penalty value body) e = refl
no_mark (Insert class size body) e = refl
no_mark (Carry body) e = absurd (true≢false (sym e))

pub no_name : (front : List ℕ) → PassesOver (named front)
no_name front (BoxItem height depth body) e = refl
no_name front (Rule height depth body) e = refl
no_name front (Glue width stretch order shrink body) e = refl
no_name front (Kern width body) e = refl
no_name front (Penalty value body) e = refl
no_name front (Insert class size body) e = refl
no_name front (Carry body) e = absurd (true≢false (sym e))

module _ (f : Item → Option (List ℕ)) (passes : PassesOver f) where
  trimmed_tells : (items : List Item) → filter_map f (trimmed items) ≡ filter_map f items
  trimmed_tells [] = refl
  trimmed_tells (item ∷ items) = by (is_box item) (is_discardable item) (passes item) (trimmed_tells items)
    where
      by : (boxed light : Bool) → (light ≡ true → f item ≡ None) →
          filter_map f (trimmed items) ≡ filter_map f items →
          filter_map f (if boxed then item ∷ items else (if light then trimmed items else item ∷ trimmed items))
          ≡ cons_option (f item) (filter_map f items)
      by true light none rest = refl
      by false true none rest = rest ∙ ap (λ o. cons_option o (filter_map f items)) (sym (none refl))
      by false false none rest = ap (cons_option (f item)) rest

  columns_tell : (blocks : List Block) (columns : List Column) →
      filter_map f (flat_map (column_items blocks) columns) ≡ filter_map f (flat_map (column_text blocks) columns)
  columns_tell blocks [] = refl
  columns_tell blocks (column ∷ columns) =
      filter_map-append f (column_items blocks column) (flat_map (column_items blocks) columns)
      ∙ (ap₂ (λ xs ys. xs ++ ys) (trimmed_tells (column_text blocks column)) (columns_tell blocks columns)
      ∙ sym (filter_map-append f (column_text blocks column) (flat_map (column_text blocks) columns)))

  -- the segments of a page tell what its texts tell
  pub page_tells : (blocks : List Block) (page : Page) →
      filter_map f (page_items blocks page) ≡ filter_map f (page_text blocks page)
  page_tells blocks page = columns_tell blocks page.columns

-- a label is found among the items exactly where it is among the labels
pub among_labels : (name : List ℕ) (items : List Item) →
    list_any (is_label name) items ≡ list_any (bytes_eq name) (filter_map label_of items)
among_labels name [] = refl
among_labels name (item ∷ items) = by (label_of item) (among_labels name items)
  where
    by : (label : Option (List ℕ)) →
        list_any (is_label name) items ≡ list_any (bytes_eq name) (filter_map label_of items) →
        (option_map_or (bytes_eq name) label false || list_any (is_label name) items)
        ≡ list_any (bytes_eq name) (cons_option label (filter_map label_of items))
    by None rest = false-or (list_any (is_label name) items) ∙ rest
    by (Some text) rest = ap (λ b. bytes_eq name text || b) rest
