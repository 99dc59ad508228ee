-- The sizes of items whose glue is set are their own and what is shared among them.
use Rattle.std.proofs.Common.{◌≡◌, refl, ap, arith, List, [], ◌∷◌, ◌++◌, ℤ, pos, ◌+ℤ◌, ◌-ℤ◌}
use Rattle.std.specs.List.{flat_map}
use Rattle.std.proofs.lemmas.Int.{ints}
use Rattle.pg_list.specs.declared.item.Item.{Item}
use Rattle.pg_list.specs.declared.item.Item.TheVariants.{BoxItem, Rule, Glue, Kern, Penalty, Insert, Carry}
use Rattle.pg_list.specs.declared.item.Order.{Order}
use Rattle.pg_list.specs.declared.item.Order.TheVariants.{Finite}
use Rattle.pg_list.specs.Totals.{full_size}
use Rattle.pg_list.specs.Whole.{whole_sum, whole_sum_by}
use Rattle.pg_glue.specs.Widths.{change, changes_from, widths_from}
use Rattle.pg_glue.specs.declared.Elastic.{Elastic}
use Rattle.pg_glue.specs.declared.Sense.TheVariants.{Stretch, Shrink}
use Rattle.pg_pages.specs.SetGlue.{elastic, own_width}
use Rattle.law_page_text.specs.Heights.{set_sizes}

other_more : (f x s c : ℤ) → x ≡ s +ℤ c → f +ℤ x ≡ (f +ℤ s) +ℤ c
other_more f x s c e = omega (arith, ints, e)

glue_more : (w d x s c : ℤ) → x ≡ s +ℤ c → (w +ℤ d) +ℤ x ≡ (w +ℤ s) +ℤ (d +ℤ c)
glue_more w d x s c e = omega (arith, ints, e)

other_less : (f x s c : ℤ) → x ≡ s -ℤ c → f +ℤ x ≡ (f +ℤ s) -ℤ c
other_less f x s c e = omega (arith, ints, e)

glue_less : (w d x s c : ℤ) → x ≡ s -ℤ c → (w -ℤ d) +ℤ x ≡ (w +ℤ s) -ℤ (d +ℤ c)
glue_less w d x s c e = omega (arith, ints, e)

module _ (excess : ℤ) (order : Order) (sum : ℤ) where
  abbrev stretched : List Elastic → List Item → List ℤ
  stretched front items = widths_from Stretch excess order sum front (flat_map (elastic Stretch) items)

  abbrev grown : List Elastic → List Item → ℤ
  grown front items = whole_sum (changes_from excess order sum front (flat_map (elastic Stretch) items))

  pub stretched_sizes : (front : List Elastic) (items : List Item) →
      set_sizes items (stretched front items) ≡ whole_sum_by full_size items +ℤ grown front items
  stretched_sizes front [] = refl
  stretched_sizes front (Glue width stretch kind shrink body ∷ items) =
      let entry : Elastic = record { width = width; order = kind; amount = stretch } in
      glue_more width (change excess order sum front entry) (set_sizes items (stretched (front ++ entry ∷ []) items))
      (whole_sum_by full_size items) (grown (front ++ entry ∷ []) items) (stretched_sizes (front ++ entry ∷ []) items)
  stretched_sizes front (BoxItem height depth body ∷ items) =
      other_more (height +ℤ depth) (set_sizes items (stretched front items)) (whole_sum_by full_size items)
      (grown front items) (stretched_sizes front items)
  stretched_sizes front (Rule height depth body ∷ items) =
      other_more (height +ℤ depth) (set_sizes items (stretched front items)) (whole_sum_by full_size items)
      (grown front items) (stretched_sizes front items)
  stretched_sizes front (Kern width body ∷ items) =
      other_more width (set_sizes items (stretched front items)) (whole_sum_by full_size items) (grown front items)
      (stretched_sizes front items)
  stretched_sizes front (Penalty value body ∷ items) =
      other_more (pos 0) (set_sizes items (stretched front items)) (whole_sum_by full_size items) (grown front items)
      (stretched_sizes front items)
  stretched_sizes front (Insert class size body ∷ items) =
      other_more (pos 0) (set_sizes items (stretched front items)) (whole_sum_by full_size items) (grown front items)
      (stretched_sizes front items)
  stretched_sizes front (Carry body ∷ items) =
      other_more (pos 0) (set_sizes items (stretched front items)) (whole_sum_by full_size items) (grown front items)
      (stretched_sizes front items)

  abbrev shrunk : List Elastic → List Item → List ℤ
  shrunk front items = widths_from Shrink excess order sum front (flat_map (elastic Shrink) items)

  abbrev given : List Elastic → List Item → ℤ
  given front items = whole_sum (changes_from excess order sum front (flat_map (elastic Shrink) items))

  pub shrunk_sizes : (front : List Elastic) (items : List Item) →
      set_sizes items (shrunk front items) ≡ whole_sum_by full_size items -ℤ given front items
  shrunk_sizes front [] = refl
  shrunk_sizes front (Glue width stretch kind shrink body ∷ items) =
      let entry : Elastic = record { width = width; order = Finite; amount = shrink } in
      glue_less width (change excess order sum front entry) (set_sizes items (shrunk (front ++ entry ∷ []) items))
      (whole_sum_by full_size items) (given (front ++ entry ∷ []) items) (shrunk_sizes (front ++ entry ∷ []) items)
  shrunk_sizes front (BoxItem height depth body ∷ items) =
      other_less (height +ℤ depth) (set_sizes items (shrunk front items)) (whole_sum_by full_size items)
      (given front items) (shrunk_sizes front items)
  shrunk_sizes front (Rule height depth body ∷ items) =
      other_less (height +ℤ depth) (set_sizes items (shrunk front items)) (whole_sum_by full_size items)
      (given front items) (shrunk_sizes front items)
  shrunk_sizes front (Kern width body ∷ items) =
      other_less width (set_sizes items (shrunk front items)) (whole_sum_by full_size items) (given front items)
      (shrunk_sizes front items)
  shrunk_sizes front (Penalty value body ∷ items) =
      other_less (pos 0) (set_sizes items (shrunk front items)) (whole_sum_by full_size items) (given front items)
      (shrunk_sizes front items)
  shrunk_sizes front (Insert class size body ∷ items) =
      other_less (pos 0) (set_sizes items (shrunk front items)) (whole_sum_by full_size items) (given front items)
      (shrunk_sizes front items)
  shrunk_sizes front (Carry body ∷ items) =
      other_less (pos 0) (set_sizes items (shrunk front items)) (whole_sum_by full_size items) (given front items)
      (shrunk_sizes front items)

-- glue of its own width leaves the sizes as they are
pub own_sizes : (items : List Item) → set_sizes items (flat_map own_width items) ≡ whole_sum_by full_size items
own_sizes [] = refl
own_sizes (Glue width stretch order shrink body ∷ items) = ap (λ (z : ℤ). width +ℤ z) (own_sizes items)
own_sizes (BoxItem height depth body ∷ items) = ap (λ (z : ℤ). (height +ℤ depth) +ℤ z) (own_sizes items)
own_sizes (Rule height depth body ∷ items) = ap (λ (z : ℤ). (height +ℤ depth) +ℤ z) (own_sizes items)
own_sizes (Kern width body ∷ items) = ap (λ (z : ℤ). width +ℤ z) (own_sizes items)
own_sizes (Penalty value body ∷ items) = ap (λ (z : ℤ). pos 0 +ℤ z) (own_sizes items)
own_sizes (Insert class size body ∷ items) = ap (λ (z : ℤ). pos 0 +ℤ z) (own_sizes items)
own_sizes (Carry body ∷ items) = ap (λ (z : ℤ). pos 0 +ℤ z) (own_sizes items)
