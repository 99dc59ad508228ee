-- The heights of the areas of a column that may be printed.
use Rattle.std.proofs.Common.{◌≡◌, refl, sym, ap, ◌∙◌, subst, ℕ, suc, ◌≤◌, ◌<◌, ◌^◌, arith, List, [], ◌∷◌, map, length, Bool, true, false, Option, Some, None}
use Rattle.std.specs.Prelude.{◌==◌, ◌&&◌, if◌then◌else◌, nat_abs, nat_le, unwrap_or, ℤ, pos, ◌+ℤ◌, ◌-ℤ◌}
use Rattle.std.specs.List.{AllByRecursion, range_with_len, sum_by}
use Rattle.std.proofs.lemmas.Bool.{eqb-true, leb-true}
use Rattle.std.proofs.lemmas.Int.{ints}
use Rattle.pg_list.specs.Shapes.{IsBlock}
use Rattle.pg_list.specs.Flat.{flat}
use Rattle.pg_style.specs.Plain.{plus_give}
use Rattle.pg_style.specs.Ranges.{IsAreaRule, IsStyle}
use Rattle.pg_style.specs.Values.{AreaRuleValue}
use Rattle.pg_style.specs.declared.style.Gap.{Gap}
use Rattle.pg_style.specs.declared.style.Give.{Give}
use Rattle.pg_style.specs.declared.style.Area.{Area}
use Rattle.pg_rules.specs.Floats.{area_height, dealt, entry, float_count, float_numbers, floats, gap_shrink, gap_stretch, has_all, is_area_allowed, sizes_of, takes_bottom, takes_in_column, takes_top, total_count}
use Rattle.pg_rules.specs.Room.{ColumnContext, before_bottom, bottom_give, bottom_height, checked_give, checked_height, full_height, is_bottom_allowed, is_text, is_top_allowed, room, top_give, top_height, wide_height}
use Rattle.law_columns.proofs.Areas.{IsUpTo, area_range, dealt_long, dealt_range, floats_range}
use Rattle.law_columns.proofs.BoundCounts.{float_total}
use Rattle.law_columns.proofs.Gives.{IsPart, give_range, shrink_part, stretch_part}
use Rattle.pg_column.specs.Numbers.{text_room}
use Rattle.pg_column.specs.declared.cost.TextRoom.{TextRoom}
use Rattle.pg_lemmas.proofs.Bools.{both_of}
use Rattle.pg_pages.specs.Seated.{IsWide, MayPrint}

map_long : (it : ColumnContext) (numbers : List ℕ) →
    length (map (λ number. sizes_of number (flat it.document.blocks [])) numbers) ≡ length numbers
map_long it [] = refl
map_long it (x ∷ xs) = ap suc (map_long it xs)

-- as many floats as an area takes
few : (it : ColumnContext) (takes : Area → Bool) (limit : ℕ) (before counts : List ℕ) → limit ≤ 4 →
    is_area_allowed it.document.style takes limit counts ≡ true →
    length (dealt (floats it.document.blocks it.document.style) before counts) ≤ 4
few it takes limit before counts most t =
    let doc = it.document in
    let p = both_of ((length counts == length (float_numbers doc.style)) && nat_le (total_count counts) limit) _ t in
    let q = both_of (length counts == length (float_numbers doc.style)) (nat_le (total_count counts) limit) p.0 in
    let l : length counts ≡ length (float_numbers doc.style) = eqb-true _ _ q.0 in
    let n : total_count counts ≤ limit = leb-true _ _ q.1 in
    let d : length (dealt (floats doc.blocks doc.style) before counts) ≤ sum_by (entry counts)
    (range_with_len 0 (length (floats doc.blocks doc.style))) = dealt_long 0 (floats doc.blocks doc.style) before counts in
    let k : length (floats doc.blocks doc.style) ≡ length (float_numbers doc.style) =
    map_long it (float_numbers doc.style) in
    let r : sum_by (entry counts) (range_with_len 0 (length (floats doc.blocks doc.style)))
    ≡ float_count doc.style counts = ap (λ (i : ℕ). sum_by (entry counts) (range_with_len 0 i)) k in
    let f : float_count doc.style counts ≡ total_count counts = float_total doc.style counts l in
    omega (arith, most, n, d, r, f)

few_by : (it : ColumnContext) (b : Bool) (takes others : Area → Bool) (limit most : ℕ) (before counts : List ℕ) →
    limit ≤ 4 → most ≤ 4 → (if b then is_area_allowed it.document.style takes limit counts
    else is_area_allowed it.document.style others most counts) ≡ true →
    length (dealt (floats it.document.blocks it.document.style) before counts) ≤ 4
few_by it true takes others limit most before counts l m e = few it takes limit before counts l e
few_by it false takes others limit most before counts l m e = few it others most before counts m e

checked : (b h : Bool) (x : ℤ) → b ≡ true → (if true && h then x else pos 0) ≡ (if b && h then x else pos 0)
checked true h x e = refl
checked false h x e = absurd cc

high : (b : Bool) (x : ℤ) → IsUpTo 8589934584 x → IsUpTo 8589934584 (if true && b then x else pos 0)
high true x h = h
high false x h = (omega (arith, ints), omega arith)

module _ (it : ColumnContext) (all : AllByRecursion IsBlock it.document.blocks) (style : IsStyle it.document.style)
    (may : MayPrint it) where
  abbrev lists : List (List ℤ)
  lists = floats it.document.blocks it.document.style

  area_high : (rule : AreaRuleValue) (before counts : List ℕ) → IsAreaRule rule →
      length (dealt lists before counts) ≤ 4 → IsUpTo 8589934584 (checked_height lists true rule before counts)
  area_high rule before counts range less =
      high (has_all lists before counts) (area_height rule (dealt lists before counts))
      (area_range rule range (dealt lists before counts) (dealt_range 0 lists before counts
      (floats_range it.document.blocks (float_numbers it.document.style) all)) less)

  counts_are : (is_top_allowed it ≡ true) × (is_bottom_allowed it ≡ true)
  counts_are =
      let last = both_of _ (is_bottom_allowed it) may.rules.counts in
      let first = both_of _ (is_top_allowed it) last.0 in (first.1, last.1)

  pub top_is : checked_height lists true it.document.style.top it.before it.column.top ≡ top_height it
  top_is = checked (is_top_allowed it) (has_all lists it.before it.column.top) _ counts_are.0

  pub bottom_is : checked_height lists true it.document.style.bottom (before_bottom it) it.column.bottom
      ≡ bottom_height it
  bottom_is = checked (is_bottom_allowed it) (has_all lists (before_bottom it) it.column.bottom) _ counts_are.1

  pub top_high : IsUpTo 8589934584 (checked_height lists true it.document.style.top it.before it.column.top)
  top_high = area_high it.document.style.top it.before it.column.top style.top_in
      (few_by it (is_text it) takes_top takes_in_column it.document.style.top.count it.document.style.float_column.count
      it.before it.column.top style.top_in.count_in style.float_column_in.count_in counts_are.0)

  pub bottom_high : IsUpTo 8589934584
      (checked_height lists true it.document.style.bottom (before_bottom it) it.column.bottom)
  bottom_high = area_high it.document.style.bottom (before_bottom it) it.column.bottom style.bottom_in
      (few_by it (is_text it) takes_bottom takes_in_column it.document.style.bottom.count
      it.document.style.float_column.count (before_bottom it) it.column.bottom style.bottom_in.count_in
      style.float_column_in.count_in counts_are.1)

-- what the gaps of areas give
module _ (it : ColumnContext) (style : IsStyle it.document.style) (may : MayPrint it) where
  given_up : (b : Bool) (x : ℤ) → IsUpTo 4294967292 x → IsUpTo 4294967292 (if true && b then x else pos 0)
  given_up true x h = h
  given_up false x h = (omega (arith, ints), omega arith)

  allowed_are : (is_top_allowed it ≡ true) × (is_bottom_allowed it ≡ true)
  allowed_are =
      let last = both_of _ (is_bottom_allowed it) may.rules.counts in
      let first = both_of _ (is_top_allowed it) last.0 in (first.1, last.1)

  pub top_few : length (dealt (floats it.document.blocks it.document.style) it.before it.column.top) ≤ 4
  top_few = few_by it (is_text it) takes_top takes_in_column it.document.style.top.count
      it.document.style.float_column.count it.before it.column.top style.top_in.count_in
      style.float_column_in.count_in allowed_are.0

  pub bottom_few : length (dealt (floats it.document.blocks it.document.style) (before_bottom it) it.column.bottom) ≤ 4
  bottom_few = few_by it (is_text it) takes_bottom takes_in_column it.document.style.bottom.count
      it.document.style.float_column.count (before_bottom it) it.column.bottom style.bottom_in.count_in
      style.float_column_in.count_in allowed_are.1

  -- what an area's gaps give where its counts are allowed
  abbrev top_part : (Gap → ℤ) → ℤ
  top_part part =
      checked_give part (floats it.document.blocks it.document.style) true it.document.style.top it.before it.column.top

  abbrev bottom_part : (Gap → ℤ) → List ℕ → ℤ
  bottom_part part below = checked_give part (floats it.document.blocks it.document.style) true it.document.style.bottom
      below it.column.bottom

  pub top_give_is : (part : Gap → ℤ) → top_part part ≡ top_give part it
  top_give_is part = checked (is_top_allowed it)
      (has_all (floats it.document.blocks it.document.style) it.before it.column.top) _ allowed_are.0

  pub bottom_give_is : (part : Gap → ℤ) → bottom_part part (before_bottom it) ≡ bottom_give part it
  bottom_give_is part = checked (is_bottom_allowed it)
      (has_all (floats it.document.blocks it.document.style) (before_bottom it) it.column.bottom) _ allowed_are.1

  -- both together
  pub record AreGiven (t b : Give) : Type 0 where
    pub top_stretch : t.stretch ≡ top_give gap_stretch it
    pub top_shrink : t.shrink ≡ top_give gap_shrink it
    pub bottom_stretch : b.stretch ≡ bottom_give gap_stretch it
    pub bottom_shrink : b.shrink ≡ bottom_give gap_shrink it

  -- from what each area gives by itself
  pub given_from : (below : List ℕ) (t b : Give) → below ≡ before_bottom it → t.stretch ≡ top_part gap_stretch →
      t.shrink ≡ top_part gap_shrink → b.stretch ≡ bottom_part gap_stretch below →
      b.shrink ≡ bottom_part gap_shrink below → AreGiven t b
  given_from below t b is longer shorter lower_longer lower_shorter = record {
    top_stretch = longer ∙ top_give_is gap_stretch;
    top_shrink = shorter ∙ top_give_is gap_shrink;
    bottom_stretch = lower_longer ∙ (ap (bottom_part gap_stretch) is ∙ bottom_give_is gap_stretch);
    bottom_shrink = lower_shorter ∙ (ap (bottom_part gap_shrink) is ∙ bottom_give_is gap_shrink);
  }

  pub given_is : (t b : Give) → AreGiven t b → plus_give t b ≡ (text_room it).give
  given_is t b are = same _ _ _ _ (sum are.top_stretch are.bottom_stretch) (sum are.top_shrink are.bottom_shrink)
    where
      same : (a a' b b' : ℤ) → a ≡ a' → b ≡ b' →
          ◌≡◌ {A = Give} (record { stretch = a; shrink = b }) (record { stretch = a'; shrink = b' })
      same a a' b b' p q = cc

      sum : {a a' b b' : ℤ} → a ≡ a' → b ≡ b' → a +ℤ b ≡ a' +ℤ b'
      sum p q = cc

  small : (part : Gap → ℤ) → IsPart part → (x y : ℤ) → x ≡ top_give part it → y ≡ bottom_give part it →
      nat_abs (x +ℤ y) < 2 ^ 40
  small part sized x y p q = add (up x _ (p ∙ sym (top_give_is part)) (given_up _ _
      (give_range part sized it.document.style.top style.top_in _ top_few)).1)
      (up y _ (q ∙ sym (bottom_give_is part)) (given_up _ _
      (give_range part sized it.document.style.bottom style.bottom_in _ bottom_few)).1)
    where
      up : (x z : ℤ) → x ≡ z → nat_abs z ≤ 4294967292 → nat_abs x ≤ 4294967292
      up x z e h = subst (λ (w : ℤ). nat_abs w ≤ 4294967292) (sym e) h

      add : nat_abs x ≤ 4294967292 → nat_abs y ≤ 4294967292 → nat_abs (x +ℤ y) < 2 ^ 40
      add a b = omega (arith, ints)

  pub given_small : (t b : Give) → AreGiven t b →
      (nat_abs (plus_give t b).stretch < 2 ^ 40) × (nat_abs (plus_give t b).shrink < 2 ^ 40)
  given_small t b are = (
    small gap_stretch stretch_part t.stretch b.stretch are.top_stretch are.bottom_stretch,
    small gap_shrink shrink_part t.shrink b.shrink are.top_shrink are.bottom_shrink,
  )

pub whole_room : (it : ColumnContext) (size : ℤ) (give : Give) → size ≡ room it → give ≡ (text_room it).give →
    ◌≡◌ {A = TextRoom} (record { size = size; give = give }) (text_room it)
whole_room it size give p q = same size _ give _ p q
  where
    same : (s s' : ℤ) (g g' : Give) → s ≡ s' → g ≡ g' →
        ◌≡◌ {A = TextRoom} (record { size = s; give = g }) (record { size = s'; give = g' })
    same s s' g g' p q = cc

pub wide_high : (wide : Option ℤ) → IsWide wide → nat_abs (unwrap_or wide (pos 0)) < 2 ^ 33
wide_high None is = omega arith
wide_high (Some height) is = let h = is.1 in omega (arith, h)

pub room_from : (it : ColumnContext) (full wide top bottom result : ℤ) → full ≡ full_height it → wide ≡ wide_height it →
    top ≡ top_height it → bottom ≡ bottom_height it → result ≡ (((full -ℤ wide) -ℤ top) -ℤ bottom) → result ≡ room it
room_from it full wide top bottom result f w t b r = r ∙ rw (f, w, t, b) refl
