-- A column of which the rules read the same in two galleys: each rule says the same of both, and each cost is the same.
use Rattle.std.proofs.Common.{◌≡◌, refl, sym, ap, ◌∙◌, ℕ, ◌≤◌, ◌<◌, List, length, take, Bool, true, false, Option, Some, None, arith}
use Rattle.std.specs.Prelude.{◌&&◌, ◌||◌, ◌==◌, not, if◌then◌else◌, nat_le, nat_lt, is_some, ℤ, pos, ◌+ℤ◌, ◌-ℤ◌, int_le, unsigned_abs, unwrap_or}
use Rattle.std.specs.List.{list_any, list_all}
use Rattle.std.specs.Option.{option_map_or}
use Rattle.pg_list.specs.declared.blocks.Block.{Block}
use Rattle.pg_list.specs.declared.item.Item.{Item}
use Rattle.pg_list.specs.declared.item.Order.TheVariants.{Finite}
use Rattle.pg_list.specs.declared.variants.Variant.{Variant}
use Rattle.pg_list.specs.Shapes.{is_box}
use Rattle.pg_plan.specs.declared.pages.Column.{Column}
use Rattle.pg_style.specs.Values.{StyleValue}
use Rattle.pg_style.specs.declared.style.Gap.{Gap}
use Rattle.pg_list.specs.Badness.{fill_badness, has_infinite, is_over}
use Rattle.pg_list.specs.Break.{break_penalty, is_forced, is_spent, passes_between}
use Rattle.pg_list.specs.Totals.{trimmed, total, shrink, stretch}
use Rattle.pg_list.specs.Whole.{whole_sum_by}
use Rattle.pg_rules.specs.ColumnRules.{column_variants, does_fit, fitness_by, has_room, is_idle, is_tolerable, is_well_formed, keeps_looseness, keeps_note_limits, passes_breaks, segment, tallest_goal, text_badness, text_fitness, text_goal, text_is_over, text_total}
use Rattle.pg_rules.specs.Cost.{break_demerits, column_cost, column_demerits, differs, fitness_demerits, float_demerits, pick_demerits, run_demerits, text_demerits}
use Rattle.pg_rules.specs.Floats.{float_count, gap_shrink, gap_stretch}
use Rattle.pg_rules.specs.Follow.{KeepsColumnRules}
use Rattle.pg_rules.specs.History.{column_fitness, fitness_after}
use Rattle.pg_rules.specs.Room.{ColumnContext, are_notes_within_limits, areas_give, full_height, is_text, items_of, notes, room, size_of, skips_give, smallest_notes, tallest_room, top_height, wide_height}
use Rattle.law_edits.proofs.Reaches.{document_of}

abbrev pub context_of : StyleValue → List Block → Column → ℕ → Option ℤ → List ℕ → ColumnContext
context_of style blocks column run wide before = record {
  document = document_of style blocks;
  column = column;
  run = run;
  wide = wide;
  before = before;
}

-- what the rules read of a column's text and of its room is the same in both
pub record Twins (it other : ColumnContext) : Type 0 where
  pub size : ℕ
  pub size_one : size_of it ≡ Some size
  pub size_other : size_of other ≡ Some size
  pub fits_other : does_fit other ≡ true
  pub taken : (k : ℕ) → k ≤ size → take k (items_of it) ≡ take k (items_of other)
  pub penalty : break_penalty (items_of it) size ≡ break_penalty (items_of other) size
  pub forced : is_forced (items_of it) size ≡ is_forced (items_of other) size
  pub spent : is_spent (items_of it) size ≡ is_spent (items_of other) size
  pub passes : (over over' : ℕ → Bool) → ((k : ℕ) → k < size → over k ≡ over' k) →
      passes_between (items_of it) over size ≡ passes_between (items_of other) over' size
  pub variants : column_variants it ≡ column_variants other
  pub top : top_height it ≡ top_height other
  pub rooms : room it ≡ room other
  pub gives : (part : Gap → ℤ) → areas_give part it ≡ areas_give part other

module _ {style : StyleValue} {a b : List Block} {column : Column} {run : ℕ} {wide : Option ℤ} {before : List ℕ}
    (t : Twins (context_of style a column run wide before) (context_of style b column run wide before)) where
  abbrev it : ColumnContext
  it = context_of style a column run wide before

  abbrev other : ColumnContext
  other = context_of style b column run wide before

  at_same : {X : Type 0} (f g : ℕ → X) (d : X) → f t.size ≡ g t.size →
      option_map_or f (size_of it) d ≡ option_map_or g (size_of other) d
  at_same f g d e = ap (λ o. option_map_or f o d) t.size_one ∙ (e ∙ sym (ap (λ o. option_map_or g o d) t.size_other))

  segment_same : (k : ℕ) → k ≤ t.size → segment it k ≡ segment other k
  segment_same k h = ap trimmed (t.taken k h)

  total_same : (k : ℕ) → k ≤ t.size → text_total it k ≡ text_total other k
  total_same k h = ap (total style.topskip style.maxdepth) (segment_same k h)

  goal_same : (k : ℕ) → k ≤ t.size → text_goal it k ≡ text_goal other k
  goal_same k h = ap (λ (r : ℤ). r -ℤ notes style (segment it k)) t.rooms
      ∙ ap (λ (xs : List Item). room other -ℤ notes style xs) (segment_same k h)

  tallest_room_same : tallest_room it ≡ tallest_room other
  tallest_room_same = ap (λ (r : ℤ). r +ℤ areas_give gap_shrink it) t.rooms
      ∙ ap (λ (z : ℤ). room other +ℤ z) (t.gives gap_shrink)

  tallest_same : (k : ℕ) → k ≤ t.size → tallest_goal it k ≡ tallest_goal other k
  tallest_same k h = ap (λ (r : ℤ). r -ℤ smallest_notes style (segment it k)) tallest_room_same
      ∙ ap (λ (xs : List Item). tallest_room other -ℤ smallest_notes style xs) (segment_same k h)

  over_same : (k : ℕ) → k ≤ t.size → text_is_over it k ≡ text_is_over other k
  over_same k h = by (text_total it k) (text_total other k) (segment it k) (segment other k) (tallest_goal it k)
      (tallest_goal other k) (total_same k h) (segment_same k h) (tallest_same k h)
    where
      by : (x y : ℤ) (xs ys : List Item) (g h : ℤ) → x ≡ y → xs ≡ ys → g ≡ h →
          is_over x (shrink xs) g ≡ is_over y (shrink ys) h
      by x y xs ys g h p q r = ap (λ (z : ℤ). is_over z (shrink xs) g) p
          ∙ (ap (λ (zs : List Item). is_over y (shrink zs) g) q ∙ ap (λ (z : ℤ). is_over y (shrink ys) z) r)

  badness_same : text_badness it t.size ≡ text_badness other t.size
  badness_same = by (is_spent (items_of it) t.size) (is_spent (items_of other) t.size) (text_goal it t.size)
      (text_goal other t.size) (text_total it t.size) (text_total other t.size) (segment it t.size)
      (segment other t.size) (areas_give gap_stretch it) (areas_give gap_stretch other) (areas_give gap_shrink it)
      (areas_give gap_shrink other) t.spent (goal_same t.size (omega arith)) (total_same t.size (omega arith))
      (segment_same t.size (omega arith)) (t.gives gap_stretch) (t.gives gap_shrink)
    where
      filled : Bool → ℤ → ℤ → List Item → ℤ → ℤ → ℕ
      filled s g x xs m l = fill_badness s g x (has_infinite xs)
          (unwrap_or style.ragged (stretch Finite xs +ℤ (m +ℤ skips_give gap_stretch style xs)))
          (shrink xs +ℤ (l +ℤ skips_give gap_shrink style xs))

      by : (s u : Bool) (g h x y : ℤ) (xs ys : List Item) (m m' l l' : ℤ) → s ≡ u → g ≡ h → x ≡ y → xs ≡ ys →
          m ≡ m' → l ≡ l' → filled s g x xs m l ≡ filled u h y ys m' l'
      by s u g h x y xs ys m m' l l' p q r e i j = rw (p, q, r, e, i, j) refl

  -- ---- the rules

  well_formed : is_well_formed it ≡ is_well_formed other
  well_formed = ap (λ (c : Bool). if is_text it then c else ((length column.picks == 0)
      && ((nat_lt 0 (float_count style column.top) && (float_count style column.bottom == 0)) || is_idle it)))
      (at_same (λ n. list_any is_box (take n (items_of it)) && is_some (break_penalty (items_of it) n))
      (λ n. list_any is_box (take n (items_of other)) && is_some (break_penalty (items_of other) n)) false
      (ap (λ (xs : List Item). list_any is_box xs && is_some (break_penalty (items_of it) t.size))
      (t.taken t.size (omega arith))
      ∙ ap (λ (o : Option ℤ). list_any is_box (take t.size (items_of other)) && is_some o) t.penalty))

  abbrev tolerated : Bool → Bool → ℕ → Bool
  tolerated over forced badness = not over && (forced || nat_le badness style.tolerance)

  tolerable : is_tolerable it ≡ is_tolerable other
  tolerable = ap (λ (c : Bool). not (is_text it) || c)
      (at_same (λ n. tolerated (text_is_over it n) (is_forced (items_of it) n) (text_badness it n))
      (λ n. tolerated (text_is_over other n) (is_forced (items_of other) n) (text_badness other n)) false
      (ap (λ (c : Bool). tolerated c (is_forced (items_of it) t.size) (text_badness it t.size)) (over_same t.size (omega arith))
      ∙ (ap (λ (c : Bool). tolerated (text_is_over other t.size) c (text_badness it t.size)) t.forced
      ∙ ap (tolerated (text_is_over other t.size) (is_forced (items_of other) t.size)) badness_same)))

  passed : passes_breaks it ≡ passes_breaks other
  passed = ap (λ (c : Bool). not (is_text it) || c)
      (at_same (passes_between (items_of it) (text_is_over it)) (passes_between (items_of other) (text_is_over other))
      false (t.passes (text_is_over it) (text_is_over other) (λ k h. over_same k (omega arith))))

  roomy : has_room it ≡ has_room other
  roomy = ap (λ (r : ℤ). if is_text it then int_le style.min_text r else int_le ((wide_height it +ℤ top_height it)
      -ℤ (if float_count style column.top == 0 then style.wide.gap.size else style.top.gap.size)) (full_height it)) t.rooms
      ∙ ap (λ (r : ℤ). if is_text it then int_le style.min_text (room other) else int_le ((wide_height it +ℤ r)
      -ℤ (if float_count style column.top == 0 then style.wide.gap.size else style.top.gap.size)) (full_height it)) t.top

  note_limits : keeps_note_limits it ≡ keeps_note_limits other
  note_limits = ap (λ (c : Bool). not (is_text it) || c)
      (at_same (λ n. are_notes_within_limits style (segment it n))
      (λ n. are_notes_within_limits style (segment other n)) false (ap (are_notes_within_limits style) (segment_same t.size (omega arith))))

  looseness : keeps_looseness it ≡ keeps_looseness other
  looseness = ap (λ (vs : List Variant). list_all (λ (variant : Variant). nat_le (unsigned_abs variant.looseness)
      style.max_looseness) vs) t.variants

  pub rules_same : KeepsColumnRules it → KeepsColumnRules other
  rules_same r = record {
    fits = t.fits_other;
    well_formed = sym well_formed ∙ r.well_formed;
    tolerable = sym tolerable ∙ r.tolerable;
    passes = sym passed ∙ r.passes;
    room = sym roomy ∙ r.room;
    counts = r.counts;
    note_limits = sym note_limits ∙ r.note_limits;
    looseness = sym looseness ∙ r.looseness;
  }

  -- the rules that depend on the picks
  pub text_same : (is_well_formed it && (is_tolerable it && (passes_breaks it && (has_room it
      && (keeps_note_limits it && keeps_looseness it)))))
      ≡ (is_well_formed other && (is_tolerable other && (passes_breaks other && (has_room other
      && (keeps_note_limits other && keeps_looseness other)))))
  text_same = by (is_well_formed it) (is_tolerable it) (passes_breaks it) (has_room it) (keeps_note_limits it)
      (keeps_looseness it) (is_well_formed other) (is_tolerable other) (passes_breaks other) (has_room other)
      (keeps_note_limits other) (keeps_looseness other) well_formed tolerable passed roomy note_limits looseness
    where
      by : (a b c d e f a' b' c' d' e' f' : Bool) → a ≡ a' → b ≡ b' → c ≡ c' → d ≡ d' → e ≡ e' → f ≡ f' →
          (a && (b && (c && (d && (e && f))))) ≡ (a' && (b' && (c' && (d' && (e' && f')))))
      by a b c d e f a' b' c' d' e' f' p q r s u v = cc

  -- ---- the costs

  pub fitness_same : column_fitness it ≡ column_fitness other
  fitness_same = at_same (text_fitness it) (text_fitness other) 2
      (ap (λ (f : ℕ). if style.version == 1 then 2 else f)
      (ap (λ (x : ℤ). fitness_by x (text_goal it t.size) (text_badness it t.size)) (total_same t.size (omega arith))
      ∙ (ap (λ (x : ℤ). fitness_by (text_total other t.size) x (text_badness it t.size)) (goal_same t.size (omega arith))
      ∙ ap (fitness_by (text_total other t.size) (text_goal other t.size)) badness_same)))

  pub fitness_after_same : (fitness : Option ℕ) → fitness_after fitness it ≡ fitness_after fitness other
  fitness_after_same fitness = ap (λ (n : ℕ). if style.version == 1 then None
      else (if is_text it then Some n else fitness)) fitness_same

  demerits_same : column_demerits it ≡ column_demerits other
  demerits_same = ap (λ (x : ℤ). if is_text it then x else pos style.float_column.demerits)
      (at_same (text_demerits it) (text_demerits other) (pos 0)
      (ap (λ (n : ℕ). break_demerits style n (unwrap_or (break_penalty (items_of it) t.size) (pos 0))) badness_same
      ∙ ap (λ (o : Option ℤ). break_demerits style (text_badness other t.size) (unwrap_or o (pos 0))) t.penalty))

  picks_same : pick_demerits it ≡ pick_demerits other
  picks_same = ap (λ (vs : List Variant). whole_sum_by (λ (variant : Variant). pos variant.demerits) vs) t.variants

  pub text_cost_same : (column_demerits it +ℤ pick_demerits it) ≡ (column_demerits other +ℤ pick_demerits other)
  text_cost_same = ap (λ (x : ℤ). x +ℤ pick_demerits it) demerits_same
      ∙ ap (λ (x : ℤ). column_demerits other +ℤ x) picks_same

  fitness_demerits_same : (fitness : Option ℕ) → fitness_demerits fitness it ≡ fitness_demerits fitness other
  fitness_demerits_same fitness = ap (λ (n : ℕ). option_map_or (λ (last : ℕ). if is_text it && differs last n
      then pos style.fitness else pos 0) fitness (pos 0)) fitness_same

  pub cost_same : (number : ℕ) (fitness : Option ℕ) (wait : ℕ × ℕ → ℕ) (added : List (ℕ × ℕ)) →
      column_cost it number fitness wait added ≡ column_cost other number fitness wait added
  cost_same number fitness wait added =
      ap (λ (x : ℤ). x +ℤ (((if number == 1 then run_demerits style run else pos 0)
      +ℤ float_demerits style wait added) +ℤ fitness_demerits fitness it)) text_cost_same
      ∙ ap (λ (x : ℤ). (column_demerits other +ℤ pick_demerits other)
      +ℤ (((if number == 1 then run_demerits style run else pos 0) +ℤ float_demerits style wait added) +ℤ x))
      (fitness_demerits_same fitness)
