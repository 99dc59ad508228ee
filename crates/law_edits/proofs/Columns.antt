-- A column that ends in the front reads the same whatever stands behind the front.
use Rattle.std.proofs.Common.{◌≡◌, sym, ap, subst, ◌∙◌, ℕ, ◌≤◌, ◌<◌, List, ◌∷◌, ◌++◌, length, map, take, Bool, true, false, Option, Some, arith}
use Rattle.std.specs.Prelude.{◌==◌, ◌&&◌, ℤ, ◌+ℤ◌, ◌-ℤ◌}
use Rattle.std.specs.Option.{option_map_or}
use Rattle.std.proofs.lemmas.List.{length-map}
use Rattle.pg_list.specs.declared.blocks.Block.{Block}
use Rattle.pg_list.specs.declared.item.Item.{Item}
use Rattle.pg_plan.specs.declared.pages.Column.{Column}
use Rattle.pg_style.specs.Values.{StyleValue}
use Rattle.pg_style.specs.declared.style.Gap.{Gap}
use Rattle.pg_list.specs.Break.{break_penalty, is_forced, is_spent, passes_between}
use Rattle.pg_list.specs.Flat.{flat_items_at, fronts}
use Rattle.pg_rules.specs.ColumnRules.{column_variants, does_fit}
use Rattle.pg_rules.specs.Floats.{floats, has_all, plus_counts}
use Rattle.pg_rules.specs.Room.{ColumnContext, areas_give, bottom_give, bottom_height, flat_items_of, full_height, is_bottom_allowed, is_top_allowed, items_of, size_of, top_give, top_height, wide_height}
use Rattle.law_places.proofs.Alike.{item_of}
use Rattle.pg_lemmas.proofs.Bools.{both}
use Rattle.pg_lemmas.proofs.Numbers.{eq_yes}
use Rattle.law_texts.proofs.Once.{Fits, fits_of}
use Rattle.law_edits.proofs.Behind.{GoesOn, front_each, is_glue_block}
use Rattle.law_edits.proofs.Floats.{give_in, height_in}
use Rattle.law_edits.proofs.Items.{forced_same, passes_same, penalty_same, spent_same, take_same}
use Rattle.law_edits.proofs.Steps.{ItemsCut, LeadsIn, items_cut, leads_in, out_fronts, out_named, out_steps, out_variants}
use Rattle.law_edits.proofs.Twins.{Twins, context_of}

-- what columns read of a list of items up to an offset is the same in both
record Read (n : ℕ) (xs ys : List Item) : Type 0 where
  pub taken : (k : ℕ) → k ≤ n → take k xs ≡ take k ys
  pub penalty : break_penalty xs n ≡ break_penalty ys n
  pub forced : is_forced xs n ≡ is_forced ys n
  pub spent : is_spent xs n ≡ is_spent ys n
  pub passes : (over over' : ℕ → Bool) → ((k : ℕ) → k < n → over k ≡ over' k) →
      passes_between xs over n ≡ passes_between ys over' n

-- lists of items that are cut alike
read_cut : (w : List Item) (glue : Bool) (n : ℕ) (xs ys : List Item) → n < length w → ItemsCut w glue xs →
    ItemsCut w glue ys → Read n xs ys
read_cut w glue n xs ys h a b =
    let same = a.glue_is ∙ sym b.glue_is in
    subst (λ (zs : List Item). Read n zs ys) (sym a.is) (subst (Read n (w ++ a.next ∷ a.rest)) (sym b.is) (record {
      taken = λ k l. take_same w a.next b.next a.rest b.rest same a.boxed b.boxed k (omega (arith, h, l));
      penalty = penalty_same w a.next b.next a.rest b.rest same a.boxed b.boxed n h;
      forced = forced_same w a.next b.next a.rest b.rest same a.boxed b.boxed n h;
      spent = spent_same w a.next b.next a.rest b.rest same a.boxed b.boxed n (omega (arith, h));
      passes = λ over over' e. passes_same w a.next b.next a.rest b.rest same a.boxed b.boxed over over' n
          (omega (arith, h)) e;
    }))

-- a column that leads to its end, with a variant named by each pick, fits
fits_by : (it : ColumnContext) (n : ℕ) → size_of it ≡ Some n → fronts (flat_items_of it) n ≡ length it.column.picks →
    length (column_variants it) ≡ length it.column.picks → does_fit it ≡ true
fits_by it n e f v = ap (λ o. option_map_or (λ n. (fronts (flat_items_of it) n == length it.column.picks)
    && (length (column_variants it) == length it.column.picks)) o false) e
    ∙ both (fronts (flat_items_of it) n == length it.column.picks) _ (eq_yes _ _ f) (eq_yes _ _ v)

module _ (style : StyleValue) {front : List Block} {next : Block} {ra rb : List Block} (a : GoesOn front next ra)
    (b : GoesOn front next rb) (column : Column) (run : ℕ) (wide : Option ℤ) (before : List ℕ)
    (from_in : column.from.block < length front) (to_in : column.to.block < length front)
    (top : has_all (floats front style) before column.top ≡ true)
    (bottom : has_all (floats front style) (plus_counts style before column.top) column.bottom ≡ true)
    (fits : does_fit (context_of style (front ++ next ∷ ra) column run wide before) ≡ true) where
  abbrev it : ColumnContext
  it = context_of style (front ++ next ∷ ra) column run wide before

  abbrev other : ColumnContext
  other = context_of style (front ++ next ∷ rb) column run wide before

  top_same : top_height it ≡ top_height other
  top_same = height_in front (next ∷ ra) style before column.top top (is_top_allowed it) style.top
      ∙ sym (height_in front (next ∷ rb) style before column.top top (is_top_allowed it) style.top)

  bottom_same : bottom_height it ≡ bottom_height other
  bottom_same = height_in front (next ∷ ra) style (plus_counts style before column.top) column.bottom bottom
      (is_bottom_allowed it) style.bottom ∙ sym (height_in front (next ∷ rb) style
      (plus_counts style before column.top) column.bottom bottom (is_bottom_allowed it) style.bottom)

  gives_same : (part : Gap → ℤ) → areas_give part it ≡ areas_give part other
  gives_same part = ap (λ (x : ℤ). x +ℤ bottom_give part it)
      (give_in front (next ∷ ra) style before column.top top part (is_top_allowed it) style.top
      ∙ sym (give_in front (next ∷ rb) style before column.top top part (is_top_allowed it) style.top))
      ∙ ap (λ (x : ℤ). top_give part other +ℤ x)
      (give_in front (next ∷ ra) style (plus_counts style before column.top) column.bottom bottom part
      (is_bottom_allowed it) style.bottom ∙ sym (give_in front (next ∷ rb) style (plus_counts style before column.top)
      column.bottom bottom part (is_bottom_allowed it) style.bottom))

  pub twins : Twins it other
  twins =
      let f : Fits it = fits_of it fits in
      let l : LeadsIn front column.from column.to column.picks f.size =
      leads_in front column.from from_in (front_each a) (next ∷ ra) column.to column.picks f.size to_in f.is
      f.fronts_are f.named in
      let m : length (column_variants other) ≡ length column.picks = out_named l (next ∷ rb) in
      let w : f.size < length (flat_items_at front column.from column.picks) = l.within in
      let k = length-map (flat_items_at front column.from column.picks) item_of in
      let r : Read f.size (items_of it) (items_of other) =
      read_cut (map item_of (flat_items_at front column.from column.picks)) (is_glue_block next) f.size (items_of it)
      (items_of other) (omega (arith, k, w)) (items_cut a column.from from_in column.picks f.named)
      (items_cut b column.from from_in column.picks m) in
      record {
        size = f.size;
        size_one = f.is;
        size_other = out_steps l (next ∷ rb);
        fits_other = fits_by other f.size (out_steps l (next ∷ rb)) (out_fronts l (next ∷ rb)) m;
        taken = r.taken;
        penalty = r.penalty;
        forced = r.forced;
        spent = r.spent;
        passes = r.passes;
        variants = out_variants l (next ∷ ra) ∙ sym (out_variants l (next ∷ rb));
        top = top_same;
        rooms = ap (λ (x : ℤ). ((full_height it -ℤ wide_height it) -ℤ x) -ℤ bottom_height it) top_same
            ∙ ap (λ (x : ℤ). ((full_height it -ℤ wide_height it) -ℤ top_height other) -ℤ x) bottom_same;
        gives = gives_same;
      }
