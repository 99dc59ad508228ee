-- No layout leaves a text more room than the tallest run has, nor gaps that give more than those of full areas.
use Rattle.std.proofs.Common.{◌≡◌, refl, sym, ap, subst, ℕ, List, [], ◌∷◌, map, Bool, true, false, Option, Some, None, inl, inr, ℤ, pos, arith}
use Rattle.std.specs.Prelude.{◌^◌, ◌==◌, ◌&&◌, ◌+ℤ◌, ◌-ℤ◌, ◌≤ℤ◌, int_le, int_lt, nat_lt, is_some, if◌then◌else◌, unwrap_or, Result, Ok, Err, IfOk}
use Rattle.std.specs.List.{AllByRecursion}
use Rattle.std.specs.Option.{option_map_or}
use Rattle.std.proofs.lemmas.Int.{ints}
use Rattle.pg_list.specs.Shapes.{IsBlock}
use Rattle.pg_plan.specs.declared.states.State.{State}
use Rattle.pg_style.specs.Ranges.{IsAreaRule, IsStyle}
use Rattle.pg_style.specs.Values.{AreaRuleValue}
use Rattle.pg_style.specs.declared.style.Gap.{Gap}
use Rattle.pg_rules.specs.Floats.{dealt, float_numbers, floats, gap_shrink, gap_stretch, takes_bottom, takes_top, total_count}
use Rattle.pg_rules.specs.IsState.{IsState, not_first}
use Rattle.pg_rules.specs.Reach.{greatest_areas, greatest_extra, greatest_skips}
use Rattle.pg_rules.specs.Room.{Document, extra}
use Rattle.law_columns.proofs.Areas.{area_range, dealt_range, floats_range}
use Rattle.law_columns.proofs.Gives.{IsPart, IsTo, dealt_within, few_give, shrink_part, skips_to, stretch_part}
use Rattle.pg_column.specs.Numbers.{most_room}
use Rattle.pg_lemmas.proofs.Bools.{both_of}
use Rattle.pg_lemmas.proofs.Lists.{some_at}
use Rattle.pg_layouts.specs.Layouts.{text_layouts}
use Rattle.pg_layouts.specs.declared.layout.Layout.{Layout}
use Rattle.law_moves.specs.Steps.{area_of, text_give, text_room, wide_of}
use Rattle.law_moves.proofs.Layouts.{IsTextLayout, of_text_layouts}
use Rattle.law_places.proofs.Among.{Among}
use Rattle.law_places.proofs.Tests.{le_int}
use Rattle.law_space.proofs.Onward.{extra_low}
use Rattle.law_walk.specs.Reached.{tallest}
use Rattle.pg_rooms.specs.Laid.{IsLaid, IsThere, laid_of}
use Rattle.pg_rooms.specs.PlaceEnds.{IsPageRoom}
use Rattle.pg_rooms.specs.declared.laid.Laid.{Laid}

lower : (h x g w t b m n s : ℤ) → x ≤ℤ g → pos 0 ≤ℤ w → pos 0 ≤ℤ t → pos 0 ≤ℤ b → m ≤ℤ n → pos 0 ≤ℤ s →
    (((((h +ℤ x) -ℤ w) -ℤ t) -ℤ b) +ℤ m) ≤ℤ ((h +ℤ g) +ℤ (n +ℤ s))
lower h x g w t b m n s i j k l o p = omega (arith, ints)

both_to : (m n x y : ℤ) → IsTo m x → IsTo n y → IsTo (m +ℤ n) (x +ℤ y)
both_to m n x y p q = by p.0 p.1 q.0 q.1
  where
    by : pos 0 ≤ℤ x → x ≤ℤ m → pos 0 ≤ℤ y → y ≤ℤ n → IsTo (m +ℤ n) (x +ℤ y)
    by a b c d = (omega (arith, ints), omega (arith, ints))

module _ (doc : Document) (blocks : AllByRecursion IsBlock doc.blocks) (style_in : IsStyle doc.style) where
  area_from : (rule : AreaRuleValue) → IsAreaRule rule → (before counts : List ℕ) → IsThere doc before counts →
      pos 0 ≤ℤ area_of doc rule before counts
  area_from rule range before counts there =
      (area_range rule range (dealt (floats doc.blocks doc.style) before counts)
      (dealt_range 0 (floats doc.blocks doc.style) before counts (floats_range doc.blocks (float_numbers doc.style) blocks))
      there.few).0

  wide_from : (u : State) (wide : List ℕ) → IsState doc u → IsThere doc u.placed wide →
      pos 0 ≤ℤ unwrap_or (wide_of doc u wide) (pos 0)
  wide_from u wide own there = by (u.column == 1)
    where
      made : (b : Bool) (h : ℤ) → pos 0 ≤ℤ h → pos 0 ≤ℤ unwrap_or (if b then Some h else None) (pos 0)
      made true h l = l
      made false h l = omega (arith, ints)

      kept : (o : Option ℤ) → option_map_or (λ (z : ℤ). not_first u.column
          && (int_le (pos 0) z && int_lt z (pos (2 ^ 33)))) o true ≡ true → pos 0 ≤ℤ unwrap_or o (pos 0)
      kept None e = omega (arith, ints)
      kept (Some z) e = le_int (pos 0) z (both_of (int_le (pos 0) z) (int_lt z (pos (2 ^ 33)))
          (both_of (not_first u.column) _ e).1).0

      by : (b : Bool) → pos 0 ≤ℤ unwrap_or (if b then (if nat_lt 0 (total_count wide)
          then Some (area_of doc doc.style.wide u.placed wide) else None) else u.wide) (pos 0)
      by true = made (nat_lt 0 (total_count wide)) _ (area_from doc.style.wide style_in.wide_in u.placed wide there)
      by false = kept u.wide own.wide

  -- what the gaps of its areas give
  gives_to : (part : Gap → ℤ) → IsPart part → (u : State) (ceiling : List ℕ) (layout : Layout) →
      IsTextLayout doc u ceiling layout → IsTo (greatest_areas part doc.style) (text_give part doc u layout)
  gives_to part sized u ceiling layout is = both_to _ _ _ _
      (few_give part sized doc.style.top style_in.top_in _
      (dealt_within doc.blocks doc.style takes_top doc.style.top.count _ layout.top is.top.allowed))
      (few_give part sized doc.style.bottom style_in.bottom_in _
      (dealt_within doc.blocks doc.style takes_bottom doc.style.bottom.count _ layout.bottom is.bottom.allowed))

  room_low : (u : State) (ceiling : List ℕ) (layout : Layout) → IsTextLayout doc u ceiling layout → IsState doc u →
      IsLaid doc u layout → most_room (text_room doc u layout) ≤ℤ tallest doc.style
  room_low u ceiling layout is own laid = lower doc.style.height (extra doc.style layout.run) (greatest_extra doc.style.runs)
      (unwrap_or (wide_of doc u layout.wide) (pos 0)) _ _
      (text_give gap_shrink doc u layout) (greatest_areas gap_shrink doc.style) (greatest_skips gap_shrink doc.style)
      (extra_low doc.style.runs layout.run (let s = some_at doc.style.runs layout.run is.run.within in ap is_some s.1))
      (wide_from u layout.wide own laid.wide)
      (area_from doc.style.top style_in.top_in _ layout.top laid.top)
      (area_from doc.style.bottom style_in.bottom_in _ layout.bottom laid.bottom)
      (gives_to gap_shrink shrink_part u ceiling layout is).1 skips_from
    where
      skips_from : pos 0 ≤ℤ greatest_skips gap_shrink doc.style
      skips_from =
          let all = skips_to gap_shrink shrink_part [] doc.style.classes style_in.classes_in.each in
          between _ _ all.0 all.1
        where
          between : (a b : ℤ) → pos 0 ≤ℤ b → b ≤ℤ a → pos 0 ≤ℤ a
          between a b p q = omega (arith, ints)

  page_room : (u : State) (ceiling : List ℕ) (layout : Layout) → IsTextLayout doc u ceiling layout → IsState doc u →
      IsLaid doc u layout → IsPageRoom doc.style (text_room doc u layout)
  page_room u ceiling layout is own laid = record {
    low = room_low u ceiling layout is own laid;
    within = record {
      stretch = (gives_to gap_stretch stretch_part u ceiling layout is).1;
      shrink = (gives_to gap_shrink shrink_part u ceiling layout is).0;
    };
  }

  -- the rooms of laid layouts of columns of text
  pub text_low : (u : State) (ceiling : List ℕ) (laid : List Laid) → IsState doc u →
      ((layout : Layout) → Among layout (text_layouts doc u ceiling) → IsLaid doc u layout) →
      laid ≡ map (laid_of doc u) (text_layouts doc u ceiling) →
      AllByRecursion (λ (it : Laid). IsPageRoom doc.style it.room) laid
  text_low u ceiling laid own each e =
      subst (AllByRecursion (λ (it : Laid). IsPageRoom doc.style it.room)) (sym e)
      (all (text_layouts doc u ceiling) (λ layout a. page_room u ceiling layout
      (of_text_layouts doc u ceiling layout a) own (each layout a)))
    where
      all : (layouts : List Layout) → ((layout : Layout) → Among layout layouts →
          IsPageRoom doc.style (text_room doc u layout)) →
          AllByRecursion (λ (it : Laid). IsPageRoom doc.style it.room) (map (laid_of doc u) layouts)
      all [] f = tt
      all (layout ∷ layouts) f = (f layout (inl refl), all layouts (λ other a. f other (inr a)))

pub on_text_low : {V E : Type 0} (items : V → List Laid) (r : Result V E) (doc : Document) →
    AllByRecursion IsBlock doc.blocks → IsStyle doc.style → (u : State) (ceiling : List ℕ) → IsState doc u →
    ((layout : Layout) → Among layout (text_layouts doc u ceiling) → IsLaid doc u layout) →
    IfOk r (λ laid. items laid ≡ map (laid_of doc u) (text_layouts doc u ceiling)) →
    IfOk r (λ laid. AllByRecursion (λ (it : Laid). IsPageRoom doc.style it.room) (items laid))
on_text_low items (Err e) doc blocks style_in u ceiling own each h = tt
on_text_low items (Ok laid) doc blocks style_in u ceiling own each h =
    text_low doc blocks style_in u ceiling (items laid) own each h
