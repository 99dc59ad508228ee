-- Where no float waits and no wide area stands above, there are no columns without text.
use Rattle.std.proofs.Common.{◌≡◌, ◌∙◌, refl, sym, ap, subst, ℕ, ◌+◌, ◌≤◌, Bool, true, false, List, [], ◌∷◌, ◌++◌, append_assoc, map, length, Option, None, Some, arith}
use Rattle.std.specs.Prelude.{◌==◌, ◌-◌, ◌&&◌, ◌||◌, if◌then◌else◌, is_some, min, nat_lt, ℤ}
use Rattle.std.specs.List.{filter, flat_map, range_with_len}
use Rattle.std.proofs.lemmas.List.{append-nil}
use Rattle.pg_plan.specs.declared.states.State.{State}
use Rattle.pg_style.specs.declared.style.Area.{Area}
use Rattle.pg_rules.specs.Floats.{called, entry, float_numbers, slots, takes_in_column, takes_wide, total_count}
use Rattle.pg_rules.specs.Follow.{turns}
use Rattle.pg_rules.specs.Room.{Document}
use Rattle.law_columns.proofs.ColumnCounts.{total_cons}
use Rattle.pg_lemmas.proofs.Numbers.{not_less}
use Rattle.pg_floats.specs.Spots.{takes_slot}
use Rattle.pg_layouts.specs.Counts.{count_lists, grown, grown_by}
use Rattle.pg_layouts.specs.Layouts.{area_lists, layout_of, runs_of, wides_of, with_floats, zeros}
use Rattle.pg_layouts.specs.declared.layout.Layout.{Layout}
use Rattle.pg_layouts.proofs.Areas.{zeros_total}
use Rattle.law_moves.specs.Ages.{may_wait, waits_of}
use Rattle.law_moves.specs.Listed.{column_fits, listed_floats, listed_stay, placed_with, stays_on}
use Rattle.law_moves.specs.Steps.{area_of}
use Rattle.pg_rooms.proofs.Undealt.{plus_none}

-- where limits are all 0 one list of counts is within them
grown_none : (most : ℕ) (front : List ℕ) → grown most 0 front ≡ (front ++ 0 ∷ []) ∷ []
grown_none most front =
    let one : min 0 (most - total_count front) + 1 ≡ 1 = omega arith in
    ap (λ (k : ℕ). map (λ (n : ℕ). front ++ n ∷ []) (range_with_len 0 k)) one

grown_zeros : (most : ℕ) (xs front : List ℕ) →
    grown_by most (map (λ (slot : ℕ). 0) xs) (front ∷ []) ≡ (front ++ map (λ (slot : ℕ). 0) xs) ∷ []
grown_zeros most [] front = ap (λ (z : List ℕ). z ∷ []) (sym (append-nil front))
grown_zeros most (x ∷ xs) front =
    ap (λ (lists : List (List ℕ)). grown_by most (map (λ (slot : ℕ). 0) xs) (lists ++ [])) (grown_none most front)
    ∙ (grown_zeros most xs (front ++ 0 ∷ [])
    ∙ ap (λ (z : List ℕ). z ∷ []) (append_assoc front (0 ∷ []) (map (λ (slot : ℕ). 0) xs)))

-- limits of which each is some number of these are, where these are all 0
limits_none : (takes : ℕ → Bool) (f : ℕ → ℕ) (xs : List ℕ) → total_count (map f xs) ≡ 0 →
    map (λ (slot : ℕ). if takes slot then f slot else 0) xs ≡ map (λ (slot : ℕ). 0) xs
limits_none takes f [] none = refl
limits_none takes f (slot ∷ xs) none =
    let s : total_count (f slot ∷ map f xs) ≡ f slot + total_count (map f xs) = total_cons (f slot) (map f xs) in
    let z : f slot ≡ 0 = omega (arith, s, none) in
    let r : total_count (map f xs) ≡ 0 = omega (arith, s, none) in
    ap (λ (n : ℕ). n ∷ map (λ (s : ℕ). if takes s then f s else 0) xs) (by (takes slot) (f slot) z)
    ∙ ap (λ (ns : List ℕ). 0 ∷ ns) (limits_none takes f xs r)
  where
    by : (b : Bool) (n : ℕ) → n ≡ 0 → (if b then n else 0) ≡ 0
    by true n e = e
    by false n e = refl

module _ (doc : Document) (u : State) (long : length u.placed ≡ length (float_numbers doc.style))
    (none : total_count (waits_of doc u) ≡ 0) (bare : u.wide ≡ None) where
  abbrev before_here : List ℕ
  before_here = called doc.blocks doc.style u.place

  one_list : (takes : Area → Bool) (most : ℕ) → area_lists doc.style takes most u.placed before_here ≡ zeros doc.style ∷ []
  one_list takes most =
      ap (count_lists most) (limits_none (takes_slot doc.style takes)
      (λ (slot : ℕ). entry before_here slot - entry u.placed slot) (slots doc.style) none)
      ∙ grown_zeros most (slots doc.style) []

  one_of : (b : Bool) (xs ys : List (List ℕ)) → xs ≡ zeros doc.style ∷ [] → ys ≡ zeros doc.style ∷ [] →
      (if b then xs else ys) ≡ zeros doc.style ∷ []
  one_of true xs ys x y = x
  one_of false xs ys x y = y

  one_wide : wides_of doc u before_here ≡ zeros doc.style ∷ []
  one_wide = one_of (u.column == 1) (area_lists doc.style takes_wide doc.style.wide.count u.placed before_here)
      (zeros doc.style ∷ []) (one_list takes_wide doc.style.wide.count) refl

  -- the layout with no floats
  abbrev bare_layout : ℕ → Layout
  bare_layout run = layout_of run (zeros doc.style) (zeros doc.style) (zeros doc.style)

  one_layout : (run : ℕ) →
      flat_map (with_floats doc.style u.placed before_here run) (wides_of doc u before_here) ≡ bare_layout run ∷ []
  one_layout run =
      ap (flat_map (with_floats doc.style u.placed before_here run)) one_wide
      ∙ ap (λ (tops : List (List ℕ)). map (λ (top : List ℕ). layout_of run (zeros doc.style) top (zeros doc.style)) tops ++ [])
      (ap (λ (counts : List ℕ). area_lists doc.style takes_in_column doc.style.float_column.count counts before_here)
      (plus_none doc.style u.placed (zeros doc.style) long (zeros_total doc.style))
      ∙ one_list takes_in_column doc.style.float_column.count)

  no_wide : (b : Bool) (wide : Option ℤ) → wide ≡ None → is_some (if b then None else wide) ≡ false
  no_wide true wide e = refl
  no_wide false wide e = ap is_some e

  no_area : (nat_lt 0 (total_count (zeros doc.style)) || is_some (if u.column == 1
      then (if nat_lt 0 (total_count (zeros doc.style)) then Some (area_of doc doc.style.wide u.placed (zeros doc.style))
      else None) else u.wide)) ≡ false
  no_area = subst (λ (n : ℕ). (nat_lt 0 n || is_some (if u.column == 1
      then (if nat_lt 0 n then Some (area_of doc doc.style.wide u.placed (zeros doc.style)) else None) else u.wide))
      ≡ false) (sym (zeros_total doc.style)) (no_wide (u.column == 1) u.wide bare)

  none_stays : (run : ℕ) → stays_on doc u (bare_layout run) ≡ false
  none_stays run = ap (λ (b : Bool). b && (column_fits doc u (bare_layout run)
      && may_wait doc u u.place (placed_with doc.style u.placed (bare_layout run)) (turns doc.style u)))
      no_area

  none_of : (each : ℕ → List Layout) → ((run : ℕ) → each run ≡ bare_layout run ∷ []) → (runs : List ℕ) →
      filter (stays_on doc u) (flat_map each runs) ≡ []
  none_of each is [] = refl
  none_of each is (run ∷ runs) =
      ap (λ (xs : List Layout). filter (stays_on doc u) (xs ++ flat_map each runs)) (is run)
      ∙ (ap (λ (b : Bool). if b then bare_layout run ∷ filter (stays_on doc u) (flat_map each runs)
      else filter (stays_on doc u) (flat_map each runs)) (none_stays run) ∙ none_of each is runs)

  pub no_columns : listed_floats doc u ≡ []
  no_columns = ap (map (listed_stay doc u))
      (none_of (λ (run : ℕ). flat_map (with_floats doc.style u.placed before_here run) (wides_of doc u before_here))
      one_layout (runs_of doc.style u.run))

not_true : true ≡ false → ⊥
not_true e = absurd cc

-- neither a float nor a wide area
pub none_both : (n : ℕ) (wide : Option ℤ) → (nat_lt 0 n || is_some wide) ≡ false → (n ≡ 0) × (wide ≡ None)
none_both n None e = (let l : n ≤ 0 = not_less 0 n (left_of (nat_lt 0 n) e) in omega (arith, l), refl)
  where
    left_of : (b : Bool) → (b || false) ≡ false → b ≡ false
    left_of true e = e
    left_of false e = refl
none_both n (Some z) e = absurd (not_both (nat_lt 0 n) e)
  where
    not_both : (b : Bool) → (b || true) ≡ false → ⊥
    not_both true e = not_true e
    not_both false e = not_true e
