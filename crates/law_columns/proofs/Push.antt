-- A column after those of a beginning is a column that follows its state.
use Rattle.std.proofs.Common.{◌≡◌, refl, sym, ap, subst, ◌∙◌, ℕ, zero, suc, ◌+◌, ◌-◌, ◌≤◌, ◌<◌, List, [], ◌∷◌, length, Bool, true, false, arith, Option, Some, None}
use Rattle.std.specs.Prelude.{if◌then◌else◌, ◌&&◌, ◌==◌, not, ◌%◌, ℤ, pos, nat_lt, slice_index}
use Rattle.std.proofs.lemmas.Bool.Decides.{nat_tests}
use Rattle.std.specs.List.{list_all}
use Rattle.pg_list.specs.declared.galley.Place.{Place}
use Rattle.pg_style.specs.Values.{StyleValue}
use Rattle.pg_style.specs.declared.style.First.{First}
use Rattle.pg_style.specs.declared.style.First.TheVariants.{Left, Right, Single}
use Rattle.pg_plan.specs.declared.pages.PageMove.{PageMove}
use Rattle.pg_plan.specs.declared.states.Side.{Side}
use Rattle.pg_plan.specs.declared.states.Side.TheVariants.{L, R, S}
use Rattle.pg_plan.specs.declared.states.State.{State}
use Rattle.pg_rules.specs.Room.{Document, ColumnContext}
use Rattle.pg_rules.specs.Floats.{called, float_numbers}
use Rattle.pg_rules.specs.History.{next_column, next_page, next_side, next_run, place_of, placed_of, is_called, calling_page, made_wide, wide_of, fitness_of, fitness_after, context, context_with, side_of, is_right}
use Rattle.pg_rules.specs.Legal.{added, distance}
use Rattle.pg_rules.specs.Floats.{distance_table}
use Rattle.pg_rules.specs.Cost.{column_cost, float_demerits}
use Rattle.pg_rules.specs.States.{age, waiting, state_at, can_wait}
use Rattle.pg_rules.specs.Follow.{age_in, turns, next_state, wide_in, context_in, other_side, keeps_run, may_turn, Follow, MayStand}
use Rattle.law_places.proofs.Among.{Among, all_at, all_of, all_same, map_same, sum_same}
use Rattle.law_columns.specs.Stands.{StandsAfter}
use Rattle.law_columns.proofs.Ages.{age_turned, ages_agree}
use Rattle.law_columns.proofs.Waiting.{IsBetween, between_at, between_of}
use Rattle.pg_lemmas.proofs.Numbers.{more_than_one, less_true}
use Rattle.pg_lemmas.proofs.Bools.{if_false, if_true}

-- ---- the parts of the next state

column_up : (b : Bool) (n : ℕ) → 1 ≤ (if b then 1 else n + 1)
column_up true n = omega arith
column_up false n = omega arith

pub column_some : (style : StyleValue) (ms : List PageMove) → 1 ≤ next_column style ms
column_some style [] = omega arith
column_some style (m ∷ ms) = column_up (next_column style ms == style.columns) (next_column style ms)

odd_by : (a b : ℕ) → a < 2 → (a ≡ 0 → b ≡ 1) → (a ≡ 1 → b ≡ 0) → (b == 1) ≡ not (a == 1)
odd_by zero b h p q = ap (λ (z : ℕ). z == 1) (p refl)
odd_by (suc zero) b h p q = ap (λ (z : ℕ). z == 1) (q refl)
odd_by (suc (suc a)) b h p q = absurd (omega arith)

odd_step : (n : ℕ) → ((n + 1) % 2 == 1) ≡ not (n % 2 == 1)
odd_step n = odd_by (n % 2) ((n + 1) % 2) (omega arith) (λ e. omega arith) (λ e. omega arith)

side_step : (b : Bool) (first : First) (n : ℕ) →
    side_of first (if b then n + 1 else n) ≡ (if b then other_side (side_of first n) else side_of first n)
side_step false first n = refl
side_step true Single n = refl
side_step true Left n = by (n % 2 == 1) ((n + 1) % 2 == 1) (odd_step n)
  where
    by : (a b : Bool) → b ≡ not a → (if b then L else R) ≡ other_side (if a then L else R)
    by true b e = if_false b L R e
    by false b e = if_true b L R e
side_step true Right n = by (n % 2 == 1) ((n + 1) % 2 == 1) (odd_step n)
  where
    by : (a b : Bool) → b ≡ not a → (if b then R else L) ≡ other_side (if a then R else L)
    by true b e = if_false b R L e
    by false b e = if_true b R L e

run_step : (b : Bool) (n run : ℕ) (side after : Side) → 1 ≤ n → after ≡ (if b then other_side side else side) →
    (if ((if b then 1 else n + 1) == 1) && not (is_right after) then None else Some run)
    ≡ (if b then keeps_run side run else Some run)
run_step false n run side after h e =
    ap (λ (t : Bool). if t && not (is_right after) then None else Some run) (more_than_one n h)
run_step true n run L after h e = ap (λ (z : Side). if not (is_right z) then None else Some run) e
run_step true n run R after h e = ap (λ (z : Side). if not (is_right z) then None else Some run) e
run_step true n run S after h e = ap (λ (z : Side). if not (is_right z) then None else Some run) e

wide_step : (b : Bool) (n : ℕ) (x y : Option ℤ) → 1 ≤ n → x ≡ y →
    (if (if b then 1 else n + 1) == 1 then None else x) ≡ (if b then None else y)
wide_step true n x y h e = refl
wide_step false n x y h e = if_false (n + 1 == 1) None x (more_than_one n h) ∙ e

wide_same : (b : Bool) (x y : Option ℤ) → (if b then x else (if b then None else y)) ≡ (if b then x else y)
wide_same true x y = refl
wide_same false x y = refl

pub wide_agrees : (doc : Document) (m : PageMove) (ms : List PageMove) →
    wide_in doc (state_at doc ms) m ≡ wide_of doc (m ∷ ms)
wide_agrees doc m ms = wide_same (next_column doc.style ms == 1)
    (made_wide doc (placed_of doc.style ms) m.wide) (wide_of doc ms)

pub context_agrees : (doc : Document) (m : PageMove) (ms : List PageMove) →
    context_in doc (state_at doc ms) m ≡ context doc m ms
context_agrees doc m ms = ap (λ (wide : Option ℤ). context_with doc wide (placed_of doc.style ms) m)
    (wide_agrees doc m ms)

same_state : (place : Place) (column column' : ℕ) (side side' : Side) (run run' : Option ℕ)
    (wide wide' : Option ℤ) (fitness fit' : Option ℕ) (placed ages ages' : List ℕ) →
    column ≡ column' → side ≡ side' → run ≡ run' → wide ≡ wide' → fitness ≡ fit' → ages ≡ ages' →
    ◌≡◌ {A = State} (record {
      place = place;
      column = column;
      side = side;
      run = run;
      wide = wide;
      fitness =
          fitness;
      placed = placed;
      ages = ages;
    })
    (record {
      place = place;
      column = column';
      side = side';
      run = run';
      wide = wide';
      fitness = fit';
      placed =
          placed;
      ages = ages';
    })
same_state place column column' side side' run run' wide wide' fitness fit' placed ages ages' a b c d e f = cc

pub state_next : (doc : Document) (m : PageMove) (ms : List PageMove) →
    next_state doc (state_at doc ms) m ≡ state_at doc (m ∷ ms)
state_next doc m ms =
    let b : Bool = next_column doc.style ms == doc.style.columns in
    let side : next_side doc.style (m ∷ ms)
    ≡ (if next_column doc.style ms == doc.style.columns then other_side (next_side doc.style ms) else
    next_side doc.style ms) = side_step (next_column doc.style ms == doc.style.columns) doc.style.first
    (next_page doc.style ms) in
    same_state m.column.to _ _ _ _ _ _ _ _ _ _ (placed_of doc.style (m ∷ ms)) _ _
    refl
    (sym side)
    (sym (run_step (next_column doc.style ms == doc.style.columns) (next_column doc.style ms) m.run
    (next_side doc.style ms) (next_side doc.style (m ∷ ms)) (column_some doc.style ms) side))
    (sym (wide_step (next_column doc.style ms == doc.style.columns) (next_column doc.style ms)
    (wide_of doc (m ∷ ms)) (wide_in doc (state_at doc ms) m) (column_some doc.style ms)
    (sym (wide_agrees doc m ms))))
    (ap (fitness_after (fitness_of doc ms)) (context_agrees doc m ms))
    (map_same (λ (float : ℕ × ℕ). age_in doc (state_at doc ms) float + turns doc.style (state_at doc ms))
    (age doc (m ∷ ms)) (waiting doc (m ∷ ms))
    (λ float a. let r : IsBetween doc.style (placed_of doc.style (m ∷ ms))
    (called doc.blocks doc.style m.column.to) float =
    between_at doc.style (placed_of doc.style (m ∷ ms)) (called doc.blocks doc.style m.column.to) float
    a in age_turned doc m ms float r.slot r.from))

-- ---- the cost

abbrev pub column_pays : Document → PageMove → List PageMove → ℤ
column_pays doc m ms = column_cost (context doc m ms) (next_column doc.style ms) (fitness_of doc ms)
    (distance doc m ms) (added doc (placed_of doc.style ms) m)

pub cost_agrees : (doc : Document) (m : PageMove) (ms : List PageMove) →
    column_cost (context_in doc (state_at doc ms) m) (next_column doc.style ms) (fitness_of doc ms)
    (age_in doc (state_at doc ms)) (added doc (placed_of doc.style ms) m) ≡ column_pays doc m ms
cost_agrees doc m ms =
    ap (λ (it : ColumnContext). column_cost it (next_column doc.style ms) (fitness_of doc ms)
    (age_in doc (state_at doc ms)) (added doc (placed_of doc.style ms) m)) (context_agrees doc m ms)
    ∙ with_floats (context doc m ms) (next_column doc.style ms) (fitness_of doc ms) _ _
    (added doc (placed_of doc.style ms) m) waits
  where
    with_floats : (it : ColumnContext) (column : ℕ) (fitness : Option ℕ) (f g : ℕ × ℕ →
        ℕ) (floats : List (ℕ × ℕ)) → float_demerits it.document.style f floats
        ≡ float_demerits it.document.style g floats →
        column_cost it column fitness f floats ≡ column_cost it column fitness g floats
    with_floats it column fitness f g floats e = cc

    waits : float_demerits doc.style (age_in doc (state_at doc ms)) (added doc (placed_of doc.style ms) m)
        ≡ float_demerits doc.style (distance doc m ms) (added doc (placed_of doc.style ms) m)
    waits = sum_same _ _ (added doc (placed_of doc.style ms) m)
        (λ float a. let r : IsBetween doc.style (placed_of doc.style ms) (placed_of doc.style (m ∷ ms))
        float = between_at doc.style (placed_of doc.style ms) (placed_of doc.style (m ∷ ms)) float a in
        ap (λ (n : ℕ). pos (slice_index (distance_table doc.style float.0) n))
        (ages_agree doc m ms float r.slot r.from))

-- ---- a column stands exactly where it follows

pub turn_agrees : (doc : Document) (m : PageMove) (ms : List PageMove) →
    may_turn doc (state_at doc ms) m ≡ can_wait doc (m ∷ ms)
turn_agrees doc m ms = by (waiting doc (m ∷ ms))
    (λ float a. let r : IsBetween doc.style (placed_of doc.style (m ∷ ms))
    (called doc.blocks doc.style m.column.to) float =
    between_at doc.style (placed_of doc.style (m ∷ ms)) (called doc.blocks doc.style m.column.to) float a in
    ap (λ (n : ℕ). nat_lt n (length (distance_table doc.style float.0)))
    (age_turned doc m ms float r.slot r.from))
  where
    by : (xs : List (ℕ × ℕ)) → ((x : ℕ × ℕ) → Among x xs →
        nat_lt (age_in doc (state_at doc ms) x + turns doc.style (state_at doc ms))
        (length (distance_table doc.style x.0)) ≡ nat_lt (age doc (m ∷ ms) x)
        (length (distance_table doc.style x.0))) →
        list_all (λ (x : ℕ × ℕ). nat_lt (age_in doc (state_at doc ms) x + turns doc.style (state_at doc ms))
        (length (distance_table doc.style x.0))) xs
        ≡ list_all (λ (x : ℕ × ℕ). nat_lt (age doc (m ∷ ms) x) (length (distance_table doc.style x.0))) xs
    by xs h = all_same _ _ xs h

pub follows : (doc : Document) (m : PageMove) (ms : List PageMove) → StandsAfter doc m ms →
    can_wait doc (m ∷ ms) ≡ true →
    Follow doc (state_at doc ms) m (state_at doc (m ∷ ms)) (column_pays doc m ms)
follows doc m ms s c = record {
  starts = s.starts;
  stands = subst (MayStand doc (next_column doc.style ms) (next_run doc.style ms) (placed_of doc.style ms) m)
      (sym (context_agrees doc m ms)) s.stands;
  turns = turn_agrees doc m ms ∙ c;
  pays = sym (cost_agrees doc m ms);
  leads = sym (state_next doc m ms);
}

-- each distance table has an entry
pub record HasTables (doc : Document) : Type 0 where
  pub some : (slot : ℕ) → slot < length (float_numbers doc.style) → 0 < length (distance_table doc.style slot)

near_step : (b : Bool) (c n k : ℕ) → 0 < k → (b ≡ true → nat_lt (n - c) k ≡ true) →
    nat_lt (n - (if b then c else n)) k ≡ true
near_step true c n k p h = h refl
near_step false c n k p h = let e : n - n ≡ 0 = omega arith in grind (arith, nat_tests)

-- what follows the state of a beginning stands after it
pub stands : (doc : Document) (m : PageMove) (ms : List PageMove) (v : State) (c : ℤ) → HasTables doc →
    can_wait doc ms ≡ true → Follow doc (state_at doc ms) m v c →
    StandsAfter doc m ms × ((can_wait doc (m ∷ ms) ≡ true)
    × ((v ≡ state_at doc (m ∷ ms)) × (c ≡ column_pays doc m ms)))
stands doc m ms v c tables waits f = (
  record {
    starts = f.starts;
    stands = subst (MayStand doc (next_column doc.style ms) (next_run doc.style ms) (placed_of doc.style ms)
        m) (context_agrees doc m ms) f.stands;
    near = all_of (λ (float : ℕ × ℕ). nat_lt (distance doc m ms float)
        (length (distance_table doc.style float.0))) (added doc (placed_of doc.style ms) m) near;
  },
  (sym (turn_agrees doc m ms) ∙ f.turns, (f.leads ∙ state_next doc m ms, f.pays ∙ cost_agrees doc m ms)),
)
  where
    near : (float : ℕ × ℕ) → Among float (added doc (placed_of doc.style ms) m) →
        nat_lt (distance doc m ms float) (length (distance_table doc.style float.0)) ≡ true
    near float a =
        let r : IsBetween doc.style (placed_of doc.style ms) (placed_of doc.style (m ∷ ms)) float =
        between_at doc.style (placed_of doc.style ms) (placed_of doc.style (m ∷ ms)) float a in
        near_step (is_called doc (place_of ms) float) (calling_page doc ms float) (next_page doc.style ms)
        (length (distance_table doc.style float.0)) (tables.some float.0 r.slot)
        (λ t. all_at (λ (x : ℕ × ℕ). nat_lt (age doc ms x) (length (distance_table doc.style x.0)))
        (waiting doc ms) float waits (between_of doc.style (placed_of doc.style ms)
        (called doc.blocks doc.style (place_of ms)) float (record {
          slot = r.slot;
          from = r.from;
          to =
              less_true _ _ t;
        })))
