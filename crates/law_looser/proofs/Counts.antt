-- What greater counts of floats keep.
use Rattle.std.proofs.Common.{◌≡◌, refl, sym, ap, subst, ◌∙◌, ◌≤◌, ℕ, zero, suc, Bool, true, false, List, [], ◌∷◌, length, arith}
use Rattle.std.specs.Prelude.{◌==◌, ◌&&◌, ◌||◌, not, nat_le, if◌then◌else◌, int_le, ℤ, pos, ◌+ℤ◌, ◌-ℤ◌, unwrap_or}
use Rattle.std.proofs.lemmas.Bool.{leb-true, le-leb}
use Rattle.pg_lemmas.proofs.Bools.{both, both_of}
use Rattle.law_columns.proofs.BeginningContracts.{unbroken_keep_rules}
use Rattle.law_columns.specs.BeginningLaws.{KeepsRules}
use Rattle.law_columns.specs.Stands.{StandsAfter}
use Rattle.pg_list.specs.Badness.{fill_badness, has_infinite, is_over}
use Rattle.pg_list.specs.Break.{is_forced, is_spent, passes_between}
use Rattle.pg_list.specs.GalleyValue.{GalleyValue}
use Rattle.pg_list.specs.Totals.{shrink, stretch}
use Rattle.pg_list.specs.declared.item.Order.TheVariants.{Finite}
use Rattle.pg_plan.specs.Order.{columns}
use Rattle.pg_plan.specs.declared.pages.PageMove.{PageMove}
use Rattle.pg_plan.specs.declared.pages.Pagination.{Pagination}
use Rattle.pg_style.specs.Values.{AreaRuleValue, StyleValue}
use Rattle.pg_style.specs.declared.style.Area.{Area}
use Rattle.pg_style.specs.declared.style.Gap.{Gap}
use Rattle.pg_rules.specs.ColumnRules.{segment, text_total}
use Rattle.pg_rules.specs.Floats.{area_give, area_height, dealt, float_count, float_numbers, floats, gap_shrink, gap_stretch, has_all, is_area_allowed, takes_bottom, takes_in_column, takes_top, total_count}
use Rattle.pg_rules.specs.History.{context}
use Rattle.pg_rules.specs.Legal.{Legal, document}
use Rattle.pg_rules.specs.Ranges.{AreInRange}
use Rattle.pg_rules.specs.Room.{ColumnContext, Document, areas_give, at_size, before_bottom, bottom_give, bottom_height, checked_give, checked_height, full_height, is_bottom_allowed, is_text, is_top_allowed, items_of, notes, room, skips_give, smallest_notes, top_give, top_height, wide_height}
use Rattle.law_looser.proofs.Looser.{all_stand}
use Rattle.law_looser.specs.Looser.{MoreCountsKeep, with_counts}

-- ---- areas

more_allowed : (s : StyleValue) (takes : Area → Bool) (a b : ℕ) (counts : List ℕ) → a ≤ b →
    is_area_allowed s takes a counts ≡ true → is_area_allowed s takes b counts ≡ true
more_allowed s takes a b counts more allowed =
    let parts = both_of ((length counts == length (float_numbers s)) && nat_le (total_count counts) a) _ allowed in
    let fits = both_of (length counts == length (float_numbers s)) (nat_le (total_count counts) a) parts.0 in
    let few : total_count counts ≤ a = leb-true (total_count counts) a fits.1 in
    both ((length counts == length (float_numbers s)) && nat_le (total_count counts) b) _
    (both (length counts == length (float_numbers s)) (nat_le (total_count counts) b) fits.0
    (le-leb (total_count counts) b (omega (arith, few, more)))) parts.1

either_allowed : (s : StyleValue) (text : Bool) (one other : Area → Bool) (a b c d : ℕ) (counts : List ℕ) → a ≤ b → c ≤ d →
    (if text then is_area_allowed s one a counts else is_area_allowed s other c counts) ≡ true →
    (if text then is_area_allowed s one b counts else is_area_allowed s other d counts) ≡ true
either_allowed s true one other a b c d counts more later h = more_allowed s one a b counts more h
either_allowed s false one other a b c d counts more later h = more_allowed s other c d counts later h

same_area : (rule : AreaRuleValue) (count : ℕ) (sizes : List ℤ) →
    area_height (record { count = count; sep = rule.sep; gap = rule.gap }) sizes ≡ area_height rule sizes
same_area rule count [] = refl
same_area rule count (size ∷ sizes) = refl

-- an area that is allowed both ways has one height
same_height : (lists : List (List ℤ)) (a b : Bool) (rule : AreaRuleValue) (count : ℕ) (before counts : List ℕ) →
    a ≡ true → b ≡ true →
    checked_height lists a (record { count = count; sep = rule.sep; gap = rule.gap }) before counts
    ≡ checked_height lists b rule before counts
same_height lists true true rule count before counts e f = by (has_all lists before counts)
  where
    by : (h : Bool) → (if true && h then area_height (record { count = count; sep = rule.sep; gap = rule.gap })
        (dealt lists before counts) else pos 0) ≡ (if true && h then area_height rule (dealt lists before counts) else pos 0)
    by true = same_area rule count (dealt lists before counts)
    by false = refl
same_height lists true false rule count before counts e f = absurd cc
same_height lists false b rule count before counts e f = absurd cc

same_part : (part : Gap → ℤ) (rule : AreaRuleValue) (count floats : ℕ) →
    area_give part (record { count = count; sep = rule.sep; gap = rule.gap }) floats ≡ area_give part rule floats
same_part part rule count zero = refl
same_part part rule count (suc floats) = refl

-- and its gaps give the same
same_give : (part : Gap → ℤ) (lists : List (List ℤ)) (a b : Bool) (rule : AreaRuleValue) (count : ℕ)
    (before counts : List ℕ) → a ≡ true → b ≡ true →
    checked_give part lists a (record { count = count; sep = rule.sep; gap = rule.gap }) before counts
    ≡ checked_give part lists b rule before counts
same_give part lists true true rule count before counts e f = by (has_all lists before counts)
  where
    by : (h : Bool) → (if true && h then area_give part (record { count = count; sep = rule.sep; gap = rule.gap })
        (length (dealt lists before counts)) else pos 0)
        ≡ (if true && h then area_give part rule (length (dealt lists before counts)) else pos 0)
    by true = same_part part rule count (length (dealt lists before counts))
    by false = refl
same_give part lists true false rule count before counts e f = absurd cc
same_give part lists false b rule count before counts e f = absurd cc

module _ (g : GalleyValue) (s : StyleValue) (top bottom column : ℕ) (more_top : s.top.count ≤ top)
    (more_bottom : s.bottom.count ≤ bottom) (more_column : s.float_column.count ≤ column) where
  abbrev old : Document
  old = document g s

  abbrev new : Document
  new = document g (with_counts s top bottom column)

  module _ (m : PageMove) (ms : List PageMove) (k : StandsAfter old m ms) where
    abbrev it : ColumnContext
    it = context old m ms

    abbrev jt : ColumnContext
    jt = context new m ms

    sides : ((((length m.column.top == length (float_numbers s)) && (length m.column.bottom == length (float_numbers s)))
        && is_top_allowed it) ≡ true) × (is_bottom_allowed it ≡ true)
    sides = both_of _ (is_bottom_allowed it) k.stands.rules.counts

    upper : (((length m.column.top == length (float_numbers s)) && (length m.column.bottom == length (float_numbers s)))
        ≡ true) × (is_top_allowed it ≡ true)
    upper = both_of _ (is_top_allowed it) sides.0

    top_allowed : is_top_allowed jt ≡ true
    top_allowed = either_allowed s (is_text it) takes_top takes_in_column s.top.count top s.float_column.count column
        m.column.top more_top more_column upper.1

    bottom_allowed : is_bottom_allowed jt ≡ true
    bottom_allowed = either_allowed s (is_text it) takes_bottom takes_in_column s.bottom.count bottom
        s.float_column.count column m.column.bottom more_bottom more_column sides.1

    top_same : top_height jt ≡ top_height it
    top_same = same_height (floats g.blocks s) (is_top_allowed jt) (is_top_allowed it) s.top top it.before m.column.top
        top_allowed upper.1

    bottom_same : bottom_height jt ≡ bottom_height it
    bottom_same = same_height (floats g.blocks s) (is_bottom_allowed jt) (is_bottom_allowed it) s.bottom bottom
        (before_bottom it) m.column.bottom bottom_allowed sides.1

    room_same : room it ≡ room jt
    room_same = sym (ap (λ (z : ℤ). ((full_height it -ℤ wide_height it) -ℤ z) -ℤ bottom_height jt) top_same
        ∙ ap (λ (z : ℤ). ((full_height it -ℤ wide_height it) -ℤ top_height it) -ℤ z) bottom_same)

    give_same : (part : Gap → ℤ) → areas_give part it ≡ areas_give part jt
    give_same part =
        sym (ap (λ (z : ℤ). z +ℤ bottom_give part jt)
        (same_give part (floats g.blocks s) (is_top_allowed jt) (is_top_allowed it) s.top top it.before m.column.top
        top_allowed upper.1)
        ∙ ap (λ (z : ℤ). top_give part it +ℤ z)
        (same_give part (floats g.blocks s) (is_bottom_allowed jt) (is_bottom_allowed it) s.bottom bottom
        (before_bottom it) m.column.bottom bottom_allowed sides.1))

    -- the rules on a text in a room whose areas give so much
    abbrev over_in : ℤ → ℤ → ℕ → Bool
    over_in height less n =
        is_over (text_total it n) (shrink (segment it n)) ((height +ℤ less) -ℤ smallest_notes s (segment it n))

    abbrev bad_in : ℤ → ℤ → ℤ → ℕ → ℕ
    bad_in height more less n =
        fill_badness (is_spent (items_of it) n) (height -ℤ notes s (segment it n)) (text_total it n)
        (has_infinite (segment it n))
        (unwrap_or s.ragged (stretch Finite (segment it n) +ℤ (more +ℤ skips_give gap_stretch s (segment it n))))
        (shrink (segment it n) +ℤ (less +ℤ skips_give gap_shrink s (segment it n)))

    abbrev tolerable_in : ℤ → ℤ → ℤ → Bool
    tolerable_in height more less = not (is_text it) || at_size it (λ n. not (over_in height less n)
        && (is_forced (items_of it) n || nat_le (bad_in height more less n) s.tolerance))

    abbrev passes_in : ℤ → ℤ → Bool
    passes_in height less = not (is_text it) || at_size it (passes_between (items_of it) (over_in height less))

    -- the rule on the room itself, with the heights of its areas
    abbrev room_in : ℤ → ℤ → Bool
    room_in above below =
        if is_text it then int_le s.min_text (((full_height it -ℤ wide_height it) -ℤ above) -ℤ below)
        else int_le ((wide_height it +ℤ above) -ℤ (if float_count s m.column.top == 0 then s.wide.gap.size else s.top.gap.size))
        (full_height it)

    by_counts : StandsAfter new m ms
    by_counts = record {
      starts = k.starts;
      stands = record {
        takes_run = k.stands.takes_run;
        wide = k.stands.wide;
        deals = k.stands.deals;
        callouts = k.stands.callouts;
        barriers = k.stands.barriers;
        rules = record {
          fits = k.stands.rules.fits;
          well_formed = k.stands.rules.well_formed;
          tolerable = subst (λ (less : ℤ). tolerable_in (room jt) (areas_give gap_stretch jt) less ≡ true)
              (give_same gap_shrink)
              (subst (λ (more : ℤ). tolerable_in (room jt) more (areas_give gap_shrink it) ≡ true) (give_same gap_stretch)
              (subst (λ (height : ℤ). tolerable_in height (areas_give gap_stretch it) (areas_give gap_shrink it) ≡ true)
              room_same k.stands.rules.tolerable));
          passes = subst (λ (less : ℤ). passes_in (room jt) less ≡ true) (give_same gap_shrink)
              (subst (λ (height : ℤ). passes_in height (areas_give gap_shrink it) ≡ true) room_same
              k.stands.rules.passes);
          room = subst (λ (below : ℤ). room_in (top_height jt) below ≡ true) (sym bottom_same)
              (subst (λ (above : ℤ). room_in above (bottom_height it) ≡ true) (sym top_same) k.stands.rules.room);
          counts = both _ (is_bottom_allowed jt) (both _ (is_top_allowed jt) upper.0 top_allowed) bottom_allowed;
          note_limits = k.stands.rules.note_limits;
          looseness = k.stands.rules.looseness;
        };
      };
      near = k.near;
    }

  counts_keep : AreInRange g s → AreInRange g (with_counts s top bottom column) → (plan : Pagination) →
      Legal g s plan → Legal g (with_counts s top bottom column) plan
  counts_keep range other plan legal =
      let keeps : KeepsRules g s plan = (unbroken_keep_rules g s range plan).0 legal.unbroken in
      record {
        unbroken = (unbroken_keep_rules g (with_counts s top bottom column) other plan).1
            (record {
              filled = keeps.filled;
              stand = all_stand old new by_counts (columns plan) keeps.stand;
              spent = keeps.spent;
              dealt = keeps.dealt;
            });
      }

pub more_counts : (g : GalleyValue) (s : StyleValue) → MoreCountsKeep g s
more_counts g s top bottom column more_top more_bottom more_column range other plan legal =
    counts_keep g s top bottom column more_top more_bottom more_column range other plan legal
