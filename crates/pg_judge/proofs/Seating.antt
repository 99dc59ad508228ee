-- The seat of a column, from the heights of its areas.
use Rattle.std.proofs.Common.{◌≡◌, refl, sym, ap, ◌∙◌, subst, ℕ, zero, suc, arith, length, ◌<◌, ◌≤◌, ◌^◌, List, Bool, true, false, ℤ, pos, ◌+ℤ◌, Option, Some, None}
use Rattle.std.specs.Prelude.{if◌then◌else◌, is_some, nat_abs, nat_lt, not, unwrap_or}
use Rattle.std.proofs.lemmas.Int.{ints}
use Rattle.pg_list.specs.GalleyValue.{GalleyValue}
use Rattle.pg_list.specs.Flat.{is_same_place}
use Rattle.pg_plan.specs.declared.pages.Column.{Column}
use Rattle.pg_style.specs.Plain.{plus_give}
use Rattle.pg_style.specs.Ranges.{IsStyle}
use Rattle.pg_style.specs.Values.{StyleValue}
use Rattle.pg_style.specs.declared.style.Gap.{Gap}
use Rattle.pg_style.specs.declared.style.Give.{Give}
use Rattle.pg_floats.specs.FloatsValue.{ClassFloatsValue}
use Rattle.pg_rules.specs.Floats.{float_count, float_numbers, floats, gap_shrink, gap_stretch, is_area_allowed, plus_counts, takes_bottom, takes_in_column, takes_top, takes_wide}
use Rattle.pg_rules.specs.History.{made_wide}
use Rattle.pg_rules.specs.Legal.{document}
use Rattle.law_columns.proofs.Areas.{IsUpTo}
use Rattle.law_columns.proofs.Gives.{IsPart, shrink_part, stretch_part}
use Rattle.pg_lemmas.proofs.Bools.{if_true}
use Rattle.pg_lemmas.proofs.Numbers.{less_of}
use Rattle.pg_rules.specs.Room.{ColumnContext, bottom_give, checked_give, checked_height, extra, is_bottom_allowed, is_top_allowed, top_give}
use Rattle.pg_floats.specs.Counts.{capped, count_in}
use Rattle.pg_floats.specs.Given.{IsAreaHeight, IsListOf, IsWideHeight}
use Rattle.pg_judge.specs.Seats.{IsSeat, seated}
use Rattle.pg_judge.specs.declared.seat.Seat.{Seat}
use Rattle.pg_floats.proofs.Capped.{AreFew, are_few, give_capped, height_capped}
use Rattle.pg_floats.proofs.Heights.{is_give, is_height, no_height}

pub wide_is : (wide : Option ℤ) → IsWideHeight wide → IsAreaHeight (unwrap_or wide (pos 0))
wide_is None h = no_height
wide_is (Some z) h = h

module _ (galley : GalleyValue) (style : StyleValue) (list : List ClassFloatsValue)
    (given : IsListOf galley.blocks style list) (range : IsStyle style) where
  pub top_height_is : (text allowed : Bool) (before counts : List ℕ) (z : ℤ) →
      allowed ≡ (if text then is_area_allowed style takes_top style.top.count counts
      else is_area_allowed style takes_in_column style.float_column.count counts) →
      z ≡ checked_height (floats galley.blocks style) allowed style.top before counts → IsAreaHeight z
  top_height_is true allowed before counts z a e =
      subst IsAreaHeight (sym (e ∙ ap (λ (b : Bool). checked_height (floats galley.blocks style) b style.top before counts) a))
      (is_height galley.blocks given.floats.shape style takes_top style.top.count style.top before counts
      range.top_in.count_in range.top_in)
  top_height_is false allowed before counts z a e =
      subst IsAreaHeight (sym (e ∙ ap (λ (b : Bool). checked_height (floats galley.blocks style) b style.top before counts) a))
      (is_height galley.blocks given.floats.shape style takes_in_column style.float_column.count style.top before counts
      range.float_column_in.count_in range.top_in)

  pub bottom_height_is : (text allowed : Bool) (before counts : List ℕ) (z : ℤ) →
      allowed ≡ (if text then is_area_allowed style takes_bottom style.bottom.count counts
      else is_area_allowed style takes_in_column style.float_column.count counts) →
      z ≡ checked_height (floats galley.blocks style) allowed style.bottom before counts → IsAreaHeight z
  bottom_height_is true allowed before counts z a e =
      subst IsAreaHeight (sym (e ∙ ap (λ (b : Bool). checked_height (floats galley.blocks style) b style.bottom before
      counts) a))
      (is_height galley.blocks given.floats.shape style takes_bottom style.bottom.count style.bottom before counts
      range.bottom_in.count_in range.bottom_in)
  bottom_height_is false allowed before counts z a e =
      subst IsAreaHeight (sym (e ∙ ap (λ (b : Bool). checked_height (floats galley.blocks style) b style.bottom before
      counts) a))
      (is_height galley.blocks given.floats.shape style takes_in_column style.float_column.count style.bottom before
      counts range.float_column_in.count_in range.bottom_in)

  pub top_give_is : (part : Gap → ℤ) → IsPart part → (text allowed : Bool) (before counts : List ℕ) (z : ℤ) →
      allowed ≡ (if text then is_area_allowed style takes_top style.top.count counts
      else is_area_allowed style takes_in_column style.float_column.count counts) →
      z ≡ checked_give part (floats galley.blocks style) allowed style.top before counts → IsUpTo 4294967292 z
  top_give_is part sized true allowed before counts z a e =
      subst (IsUpTo 4294967292) (sym (e
      ∙ ap (λ (b : Bool). checked_give part (floats galley.blocks style) b style.top before counts) a))
      (is_give galley.blocks given.floats.shape style takes_top style.top.count style.top before counts part sized
      range.top_in.count_in range.top_in)
  top_give_is part sized false allowed before counts z a e =
      subst (IsUpTo 4294967292) (sym (e
      ∙ ap (λ (b : Bool). checked_give part (floats galley.blocks style) b style.top before counts) a))
      (is_give galley.blocks given.floats.shape style takes_in_column style.float_column.count style.top before counts
      part sized range.float_column_in.count_in range.top_in)

  pub bottom_give_is : (part : Gap → ℤ) → IsPart part → (text allowed : Bool) (before counts : List ℕ) (z : ℤ) →
      allowed ≡ (if text then is_area_allowed style takes_bottom style.bottom.count counts
      else is_area_allowed style takes_in_column style.float_column.count counts) →
      z ≡ checked_give part (floats galley.blocks style) allowed style.bottom before counts → IsUpTo 4294967292 z
  bottom_give_is part sized true allowed before counts z a e =
      subst (IsUpTo 4294967292) (sym (e
      ∙ ap (λ (b : Bool). checked_give part (floats galley.blocks style) b style.bottom before counts) a))
      (is_give galley.blocks given.floats.shape style takes_bottom style.bottom.count style.bottom before counts part
      sized range.bottom_in.count_in range.bottom_in)
  bottom_give_is part sized false allowed before counts z a e =
      subst (IsUpTo 4294967292) (sym (e
      ∙ ap (λ (b : Bool). checked_give part (floats galley.blocks style) b style.bottom before counts) a))
      (is_give galley.blocks given.floats.shape style takes_in_column style.float_column.count style.bottom before
      counts part sized range.float_column_in.count_in range.bottom_in)

  -- what the gaps of both areas give, as they were asked for
  pub record AreGiven (column : Column) (before below : List ℕ) (seat : Seat) : Type 0 where
    pub top : Give
    pub bottom : Give
    pub whole : seat.give ≡ plus_give top bottom
    pub top_stretch : top.stretch
        ≡ checked_give gap_stretch (floats galley.blocks style) seat.is_top_allowed style.top before column.top
    pub top_shrink : top.shrink
        ≡ checked_give gap_shrink (floats galley.blocks style) seat.is_top_allowed style.top before column.top
    pub bottom_stretch : bottom.stretch
        ≡ checked_give gap_stretch (floats galley.blocks style) seat.is_bottom_allowed style.bottom below column.bottom
    pub bottom_shrink : bottom.shrink
        ≡ checked_give gap_shrink (floats galley.blocks style) seat.is_bottom_allowed style.bottom below column.bottom

  -- they are small
  pub gives_small : (text top bottom : Bool) (column : Column) (before below : List ℕ) (t b : Give) →
      top ≡ (if text then is_area_allowed style takes_top style.top.count column.top
      else is_area_allowed style takes_in_column style.float_column.count column.top) →
      bottom ≡ (if text then is_area_allowed style takes_bottom style.bottom.count column.bottom
      else is_area_allowed style takes_in_column style.float_column.count column.bottom) →
      t.stretch ≡ checked_give gap_stretch (floats galley.blocks style) top style.top before column.top →
      t.shrink ≡ checked_give gap_shrink (floats galley.blocks style) top style.top before column.top →
      b.stretch ≡ checked_give gap_stretch (floats galley.blocks style) bottom style.bottom below column.bottom →
      b.shrink ≡ checked_give gap_shrink (floats galley.blocks style) bottom style.bottom below column.bottom →
      (nat_abs (t.stretch +ℤ b.stretch) < 2 ^ 40) × (nat_abs (t.shrink +ℤ b.shrink) < 2 ^ 40)
  gives_small text top bottom column before below t b p q e f g h = (
    small t.stretch b.stretch (top_give_is gap_stretch stretch_part text top before column.top t.stretch p e).1
        (bottom_give_is gap_stretch stretch_part text bottom below column.bottom b.stretch q g).1,
    small t.shrink b.shrink (top_give_is gap_shrink shrink_part text top before column.top t.shrink p f).1
        (bottom_give_is gap_shrink shrink_part text bottom below column.bottom b.shrink q h).1,
  )
    where
      small : (x y : ℤ) → nat_abs x ≤ 4294967292 → nat_abs y ≤ 4294967292 → nat_abs (x +ℤ y) < 2 ^ 40
      small x y i j = omega (arith, ints)

  -- where counts of 16 bits were asked for the heights
  pub is_seat : (column : Column) (run : ℕ) (wide : Option ℤ) (placed before below : List ℕ) (seat : Seat) →
      AreGiven column before below seat →
      before ≡ capped placed → below ≡ capped (plus_counts style placed column.top) →
      seat.is_text ≡ not (is_same_place column.from column.to) →
      seat.is_top_allowed ≡ (if seat.is_text then is_area_allowed style takes_top style.top.count column.top
      else is_area_allowed style takes_in_column style.float_column.count column.top) →
      seat.is_bottom_allowed ≡ (if seat.is_text then is_area_allowed style takes_bottom style.bottom.count column.bottom
      else is_area_allowed style takes_in_column style.float_column.count column.bottom) →
      seat.has_wide ≡ is_some wide → seat.full ≡ style.height +ℤ extra style run → seat.wide ≡ unwrap_or wide (pos 0) →
      seat.top ≡ checked_height (floats galley.blocks style) seat.is_top_allowed style.top before column.top →
      seat.bottom ≡ checked_height (floats galley.blocks style) seat.is_bottom_allowed style.bottom below column.bottom →
      IsSeat (seated galley style column run wide placed) seat
  is_seat column run wide placed before below seat gives e f t p b w h i j k =
      let top = p ∙ ap (λ (x : Bool). if x then is_area_allowed style takes_top style.top.count column.top
      else is_area_allowed style takes_in_column style.float_column.count column.top) t in
      let bottom = b ∙ ap (λ (x : Bool). if x then is_area_allowed style takes_bottom style.bottom.count column.bottom
      else is_area_allowed style takes_in_column style.float_column.count column.bottom) t in
      let few = are_few galley.blocks style given.few in
      record {
        text = t;
        top_allowed = top;
        bottom_allowed = bottom;
        has_wide = w;
        full = h;
        wide = i;
        top = j ∙ (ap (λ (xs : List ℕ). checked_height (floats galley.blocks style) seat.is_top_allowed style.top xs
            column.top) e
            ∙ (height_capped (floats galley.blocks style) seat.is_top_allowed style.top placed column.top few
            ∙ ap (λ (x : Bool). checked_height (floats galley.blocks style) x style.top placed column.top) top));
        bottom = k ∙ (ap (λ (xs : List ℕ). checked_height (floats galley.blocks style) seat.is_bottom_allowed style.bottom
            xs column.bottom) f
            ∙ (height_capped (floats galley.blocks style) seat.is_bottom_allowed style.bottom
            (plus_counts style placed column.top) column.bottom few
            ∙ ap (λ (x : Bool). checked_height (floats galley.blocks style) x style.bottom
            (plus_counts style placed column.top) column.bottom) bottom));
        stretch = ap (λ (give : Give). give.stretch) gives.whole
            ∙ plus_is (of_top gap_stretch few top gives.top_stretch) (of_bottom gap_stretch few bottom gives.bottom_stretch);
        shrink = ap (λ (give : Give). give.shrink) gives.whole
            ∙ plus_is (of_top gap_shrink few top gives.top_shrink) (of_bottom gap_shrink few bottom gives.bottom_shrink);
      }
    where
      own : ColumnContext
      own = seated galley style column run wide placed

      plus_is : {x x' y y' : ℤ} → x ≡ x' → y ≡ y' → x +ℤ y ≡ x' +ℤ y'
      plus_is p q = cc

      of_top : (part : Gap → ℤ) → AreFew (floats galley.blocks style) → seat.is_top_allowed ≡ is_top_allowed own →
          {x : ℤ} → x ≡ checked_give part (floats galley.blocks style) seat.is_top_allowed style.top before column.top →
          x ≡ top_give part own
      of_top part few top g = g
          ∙ (ap (λ (xs : List ℕ). checked_give part (floats galley.blocks style) seat.is_top_allowed style.top xs
          column.top) e
          ∙ (give_capped part (floats galley.blocks style) seat.is_top_allowed style.top placed column.top few
          ∙ ap (λ (x : Bool). checked_give part (floats galley.blocks style) x style.top placed column.top) top))

      of_bottom : (part : Gap → ℤ) → AreFew (floats galley.blocks style) →
          seat.is_bottom_allowed ≡ is_bottom_allowed own → {x : ℤ} →
          x ≡ checked_give part (floats galley.blocks style) seat.is_bottom_allowed style.bottom below column.bottom →
          x ≡ bottom_give part own
      of_bottom part few bottom g = g
          ∙ (ap (λ (xs : List ℕ). checked_give part (floats galley.blocks style) seat.is_bottom_allowed style.bottom
          xs column.bottom) f
          ∙ (give_capped part (floats galley.blocks style) seat.is_bottom_allowed style.bottom
          (plus_counts style placed column.top) column.bottom few
          ∙ ap (λ (x : Bool). checked_give part (floats galley.blocks style) x style.bottom
          (plus_counts style placed column.top) column.bottom) bottom))

-- ---- the wide area

module _ (galley : GalleyValue) (style : StyleValue) (list : List ClassFloatsValue)
    (given : IsListOf galley.blocks style list) where
  pub is_made_wide : (slots count : ℕ) (wide : List ℕ) → slots ≡ length (float_numbers style) →
      count ≡ count_in slots wide → (count ≡ 0 → ⊥) → (all placed : List ℕ) → placed ≡ capped all →
      (allowed : Bool) → allowed ≡ is_area_allowed style takes_wide style.wide.count wide → (z : ℤ) →
      z ≡ checked_height (floats galley.blocks style) allowed style.wide placed wide →
      Some z ≡ made_wide (document galley style) all wide
  is_made_wide slots count wide s e some all placed p allowed a z h =
      let n : count ≡ float_count style wide = e ∙ ap (λ (k : ℕ). count_in k wide) s in
      let t : nat_lt 0 (float_count style wide) ≡ true = less_of 0 (float_count style wide)
      (positive (float_count style wide) (λ k. some (n ∙ k))) in
      ap Some (h ∙ (ap (λ (xs : List ℕ). checked_height (floats galley.blocks style) allowed style.wide xs wide) p
      ∙ (height_capped (floats galley.blocks style) allowed style.wide all wide (are_few galley.blocks style given.few)
      ∙ ap (λ (b : Bool). checked_height (floats galley.blocks style) b style.wide all wide) a)))
      ∙ sym (if_true (nat_lt 0 (float_count style wide)) _ None t)
    where
      positive : (n : ℕ) → (n ≡ 0 → ⊥) → 0 < n
      positive zero f = absurd (f refl)
      positive (suc n) f = omega arith

  pub wide_size : IsStyle style → (allowed : Bool) (placed wide : List ℕ) (z : ℤ) →
      allowed ≡ is_area_allowed style takes_wide style.wide.count wide →
      z ≡ checked_height (floats galley.blocks style) allowed style.wide placed wide → IsAreaHeight z
  wide_size range allowed placed wide z a e =
      subst IsAreaHeight (sym (e ∙ ap (λ (b : Bool). checked_height (floats galley.blocks style) b style.wide placed
      wide) a))
      (is_height galley.blocks given.floats.shape style takes_wide style.wide.count style.wide placed wide
      range.wide_in.count_in range.wide_in)
