-- The layouts that are listed deal out floats that are there.
use Rattle.std.proofs.Common.{◌≡◌, sym, subst, ◌∙◌, ℕ, ◌+◌, ◌^◌, ◌≤◌, ◌<◌, List, length, Bool, arith}
use Rattle.std.specs.Prelude.{◌==◌, nat_lt}
use Rattle.std.specs.List.{AllByRecursion}
use Rattle.std.proofs.lemmas.Bool.{eqb-true}
use Rattle.pg_list.specs.Shapes.{IsBlock}
use Rattle.pg_list.specs.declared.galley.Place.{Place}
use Rattle.pg_plan.specs.declared.states.State.{State}
use Rattle.pg_style.specs.Ranges.{IsStyle}
use Rattle.pg_style.specs.Values.{AreaRuleValue}
use Rattle.pg_style.specs.declared.style.Area.{Area}
use Rattle.pg_floats.specs.FloatsValue.{ClassFloatsValue}
use Rattle.pg_rules.specs.Floats.{called, entry, float_numbers, plus_counts, takes_bottom, takes_in_column, takes_top, takes_wide, total_count}
use Rattle.pg_rules.specs.IsState.{IsState}
use Rattle.pg_rules.specs.Room.{Document}
use Rattle.law_places.proofs.Among.{Among}
use Rattle.pg_lemmas.proofs.Bools.{by_bool, if_false, if_true}
use Rattle.pg_lemmas.proofs.Numbers.{less_true, not_less}
use Rattle.law_columns.proofs.Waiting.{entry_plus}
use Rattle.law_columns.proofs.BoundCounts.{entry_beyond}
use Rattle.law_places.proofs.Members.{among_contains}
use Rattle.pg_floats.specs.Given.{IsListOf}
use Rattle.pg_floats.proofs.Heights.{few_dealt}
use Rattle.pg_layouts.specs.Fit.{Fit}
use Rattle.pg_layouts.specs.Layouts.{area_lists, float_layouts, text_layouts, zeros}
use Rattle.pg_layouts.specs.declared.layout.Layout.{Layout}
use Rattle.pg_layouts.proofs.Areas.{IsOfArea, in_area, slots_long, zeros_allowed, zeros_are, zeros_entry}
use Rattle.pg_layouts.proofs.Fits.{Short, fits_below}
use Rattle.law_moves.proofs.Ages.{placed_called}
use Rattle.law_moves.proofs.Callouts.{has_below}
use Rattle.law_moves.proofs.Ceilings.{called_few}
use Rattle.law_moves.proofs.Layouts.{AreWide, IsFloatLayout, IsTextLayout, of_float_layouts, of_text_layouts}
use Rattle.pg_rooms.specs.Laid.{HasSoMany, IsLaid, IsThere}
use Rattle.pg_sources.proofs.CalledFew.{calls_few}

-- a list with an entry for each class, each of 16 bits
short_by : (counts : List ℕ) (n : ℕ) → length counts ≡ n → ((slot : ℕ) → slot < n → entry counts slot < 65536) →
    Short counts
short_by counts n long h slot = by_bool (nat_lt slot n) (λ t. h slot (less_true _ _ t))
    (λ f. (let l : n ≤ slot = not_less _ _ f in
    let z : entry counts slot ≡ 0 = entry_beyond counts slot (omega (arith, l, long)) in omega (arith, z)))

-- the counts that a state has placed
pub placed_short : (doc : Document) (u : State) (list : List ClassFloatsValue) →
    IsListOf doc.blocks doc.style list → IsState doc u → Short u.placed
placed_short doc u list given own = short_by u.placed (length (float_numbers doc.style)) own.placed
    (λ slot h. (let a : entry u.placed slot ≤ entry (called doc.blocks doc.style u.place) slot =
    placed_called doc u own slot h in
    let b : entry (called doc.blocks doc.style u.place) slot ≤ 2 ^ 12 =
    calls_few doc.blocks doc.style list given u.place slot in
    omega (arith, a, b)))

-- the galley has what is called
pub called_has : (doc : Document) → AllByRecursion IsBlock doc.blocks → (at : Place) →
    HasSoMany doc (called doc.blocks doc.style at)
called_has doc blocks at = λ slot h. called_few doc blocks at slot

module _ (doc : Document) (style_in : IsStyle doc.style) (blocks_in : AllByRecursion IsBlock doc.blocks)
    (ceiling : List ℕ) (has : HasSoMany doc ceiling) (high : Short ceiling) where
  there_of : (takes : Area → Bool) (most : ℕ) (rule : AreaRuleValue) (before counts : List ℕ) → most ≤ 4 →
      Short before → IsOfArea doc.style takes most before ceiling counts → IsThere doc before counts
  there_of takes most rule before counts few short is = record {
    there = has_below doc before counts ceiling has is.below;
    few = few_dealt doc.blocks blocks_in doc.style takes most rule before counts few is.allowed;
    fits = fits_below doc.style takes most before ceiling short high counts
        (among_contains (area_lists doc.style takes most before ceiling) counts
        (in_area doc.style takes most before ceiling counts is.allowed is.below));
    long = is.long;
  }

  plus_short : (a b : List ℕ) → Fit a b → Short (plus_counts doc.style a b)
  plus_short a b fit = short_by (plus_counts doc.style a b) (length (float_numbers doc.style))
      (slots_long doc.style (λ (slot : ℕ). entry a slot + entry b slot))
      (λ slot h. subst (λ (n : ℕ). n < 65536) (sym (entry_plus doc.style a b slot h)) (fit slot))

  none_of : (takes : Area → Bool) (most : ℕ) (before counts : List ℕ) → counts ≡ zeros doc.style →
      IsOfArea doc.style takes most before ceiling counts
  none_of takes most before counts e = subst (IsOfArea doc.style takes most before ceiling) (sym e) (record {
    long = slots_long doc.style (λ (slot : ℕ). 0);
    allowed = zeros_allowed doc.style takes most;
    below = λ slot h k. absurd (let z : entry (zeros doc.style) slot ≡ 0 = zeros_entry doc.style slot h in
        omega (arith, z, k));
  })

  wide_area : (u : State) (wide : List ℕ) → AreWide doc u ceiling wide →
      IsOfArea doc.style takes_wide doc.style.wide.count u.placed ceiling wide
  wide_area u wide w = by_bool (u.column == 1)
      (λ t. record { long = w.long; allowed = sym (if_true (u.column == 1) _ _ t) ∙ w.counts; below = w.below })
      (λ f. none_of takes_wide doc.style.wide.count u.placed wide (zeros_are doc.style wide w.long
      (eqb-true (total_count wide) 0 (sym (if_false (u.column == 1) _ _ f) ∙ w.counts))))

  laid_by : (u : State) (layout : Layout) (takes : Area → Bool) (most : ℕ) → most ≤ 4 → Short u.placed →
      AreWide doc u ceiling layout.wide →
      IsOfArea doc.style takes most (plus_counts doc.style u.placed layout.wide) ceiling layout.top →
      IsOfArea doc.style takes_bottom doc.style.bottom.count
      (plus_counts doc.style (plus_counts doc.style u.placed layout.wide) layout.top) ceiling layout.bottom →
      IsLaid doc u layout
  laid_by u layout takes most few short w t b =
      let wide : IsThere doc u.placed layout.wide =
      there_of takes_wide doc.style.wide.count doc.style.wide u.placed layout.wide style_in.wide_in.count_in short
      (wide_area u layout.wide w) in
      let top : IsThere doc (plus_counts doc.style u.placed layout.wide) layout.top =
      there_of takes most doc.style.top (plus_counts doc.style u.placed layout.wide) layout.top few
      (plus_short u.placed layout.wide wide.fits) t in
      record {
        wide = wide;
        top = top;
        bottom = there_of takes_bottom doc.style.bottom.count doc.style.bottom
            (plus_counts doc.style (plus_counts doc.style u.placed layout.wide) layout.top) layout.bottom
            style_in.bottom_in.count_in
            (plus_short (plus_counts doc.style u.placed layout.wide) layout.top top.fits) b;
      }

  pub text_laid : (u : State) (layout : Layout) → Short u.placed → Among layout (text_layouts doc u ceiling) →
      IsLaid doc u layout
  text_laid u layout short a = by (of_text_layouts doc u ceiling layout a)
    where
      by : IsTextLayout doc u ceiling layout → IsLaid doc u layout
      by is = laid_by u layout takes_top doc.style.top.count style_in.top_in.count_in short is.wide is.top is.bottom

  pub float_laid : (u : State) (layout : Layout) → Short u.placed → Among layout (float_layouts doc u ceiling) →
      IsLaid doc u layout
  float_laid u layout short a = by (of_float_layouts doc u ceiling layout a)
    where
      by : IsFloatLayout doc u ceiling layout → IsLaid doc u layout
      by is = laid_by u layout takes_in_column doc.style.float_column.count style_in.float_column_in.count_in short
          is.wide is.top (none_of takes_bottom doc.style.bottom.count _ layout.bottom is.bottom)
