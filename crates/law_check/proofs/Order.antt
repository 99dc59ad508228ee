-- The order among paginations goes down only so far.
use Rattle.std.proofs.Common.{◌≡◌, sym, subst, ℕ, suc, ◌+◌, ◌≤◌, ◌<◌, List, [], ◌∷◌, ◌++◌, length, true, false, Option, Some, None, arith}
use Rattle.std.specs.Prelude.{◌&&◌, ◌==◌, if◌then◌else◌, ℤ, negsuc, ◌≤ℤ◌, ◌<ℤ◌, ◌^◌, ◌-◌, reverse, slice_get}
use Rattle.std.specs.List.{AllByRecursion}
use Rattle.std.specs.Option.{option_map_or}
use Rattle.std.specs.Ordering.{nat_cmp, int_cmp, ordering_then}
use Rattle.std.specs.declared.cmp.Ordering.{Ordering}
use Rattle.std.specs.Cmp.Lexicographic.{slice_cmp}
use Rattle.std.proofs.lemmas.Int.{ints}
use Rattle.std.proofs.lemmas.List.{length-reverse, length-drop}
use Rattle.pg_list.specs.GalleyValue.{GalleyValue}
use Rattle.pg_list.specs.declared.blocks.Block.{Block}
use Rattle.pg_list.specs.declared.blocks.Block.TheVariants.{One, Choice}
use Rattle.pg_list.specs.declared.variants.Variant.{Variant}
use Rattle.pg_list.specs.declared.galley.Place.{Place}
use Rattle.pg_plan.specs.declared.pages.PageMove.{PageMove}
use Rattle.pg_plan.specs.declared.pages.Pagination.{Pagination}
use Rattle.pg_plan.specs.declared.states.State.{State}
use Rattle.pg_plan.specs.Order.{columns, column_cmp, place_cmp, counts_cmp, picks_cmp, plan_cmp}
use Rattle.pg_style.specs.Values.{StyleValue}
use Rattle.pg_list.specs.Flat.{blocks_at, fronts, picked_variants}
use Rattle.pg_rules.specs.ColumnRules.{does_fit, column_variants}
use Rattle.pg_rules.specs.Cost.{cost}
use Rattle.pg_rules.specs.Floats.{float_numbers}
use Rattle.pg_rules.specs.Follow.{Follow, context_in}
use Rattle.pg_rules.specs.Legal.{document}
use Rattle.pg_rules.specs.NoWorse.{is_same_key}
use Rattle.pg_rules.specs.Room.{Document, ColumnContext, flat_items_of, size_of, is_top_allowed}
use Rattle.pg_rules.specs.States.{Prefix, state_of}
use Rattle.pg_table.specs.Space.{Lawful, Run, Small}
use Rattle.pg_lemmas.proofs.Bools.{both_of}
use Rattle.std.proofs.lemmas.Bool.{eqb-true}
use Rattle.pg_rules.specs.Ranges.{AreInRange}
use Rattle.law_columns.proofs.BeginningContracts.{facts, some}
use Rattle.law_columns.proofs.StateOrder.{int_equal}
use Rattle.pg_plan.proofs.OrderLaws.{column_equal, list_equal, place_equal}
use Rattle.pg_lemmas.proofs.Orders.{nat_equal}
use Rattle.law_space.specs.PageSpace.{wide_meaning}
use Rattle.law_space.proofs.Bounds.{pages_lawful}
use Rattle.law_space.proofs.Solve.{prefix_run}
use Rattle.law_check.proofs.WellFounded.{IsWell, ints_well, lists_well, nats_well, on_well, then_well}

-- ---- places, counts, columns

place_well : IsWell place_cmp (λ _. Unit {0})
place_well = then_well (λ (a : Place). a.block) nat_cmp (λ _. Unit {0}) nat_equal
    (λ (a b : Place). ordering_then (nat_cmp a.variant b.variant) (nat_cmp a.index b.index)) (λ _. Unit {0})
    (λ _ _. tt) nats_well
    (then_well (λ (a : Place). a.variant) nat_cmp (λ _. Unit {0}) nat_equal
    (λ (a b : Place). nat_cmp a.index b.index) (λ _. Unit {0}) (λ _ _. tt) nats_well
    (on_well (λ (a : Place). a.index) nat_cmp (λ _. Unit {0}) (λ _. Unit {0}) (λ _ _. tt) nats_well))

abbrev AtMost : ℕ → List ℕ → Type 0
AtMost n xs = (length xs ≤ n) × AllByRecursion (λ (_ : ℕ). Unit {0}) xs

each : (xs : List ℕ) → AllByRecursion (λ (_ : ℕ). Unit {0}) xs
each [] = tt
each (x ∷ xs) = (tt, each xs)

counts_well : (n : ℕ) → IsWell counts_cmp (AtMost n)
counts_well n = lists_well nat_cmp (λ _. Unit {0}) nat_equal nats_well n

-- the lists of a column are no longer than this
pub record IsShort (n : ℕ) (m : PageMove) : Type 0 where
  pub wide : length m.wide ≤ n
  pub bottom : length m.column.bottom ≤ n
  pub top : length m.column.top ≤ n
  pub picks : length m.column.picks ≤ n

picks_well : (n : ℕ) → IsWell (λ (a b : PageMove). picks_cmp a.column.picks b.column.picks) (IsShort n)
picks_well n = on_well (λ (m : PageMove). reverse m.column.picks) counts_cmp (AtMost n) (IsShort n)
    (λ m h. (subst (λ (k : ℕ). k ≤ n) (sym (length-reverse m.column.picks)) h.picks, each (reverse m.column.picks)))
    (counts_well n)

column_well : (n : ℕ) → IsWell column_cmp (IsShort n)
column_well n =
    then_well (λ (m : PageMove). m.column.to) place_cmp (λ _. Unit {0}) place_equal _ (IsShort n) (λ _ _. tt)
    place_well
    (then_well (λ (m : PageMove). m.column.from) place_cmp (λ _. Unit {0}) place_equal _ (IsShort n) (λ _ _. tt)
    place_well
    (then_well (λ (m : PageMove). m.run) nat_cmp (λ _. Unit {0}) nat_equal _ (IsShort n) (λ _ _. tt) nats_well
    (then_well (λ (m : PageMove). m.wide) counts_cmp (AtMost n) list_equal _ (IsShort n)
    (λ m h. (h.wide, each m.wide)) (counts_well n)
    (then_well (λ (m : PageMove). m.column.bottom) counts_cmp (AtMost n) list_equal _ (IsShort n)
    (λ m h. (h.bottom, each m.column.bottom)) (counts_well n)
    (then_well (λ (m : PageMove). m.column.top) counts_cmp (AtMost n) list_equal _ (IsShort n)
    (λ m h. (h.top, each m.column.top)) (counts_well n) (picks_well n))))))

-- ---- how long the lists of a column are

named_few : (blocks : List Block) (picks : List ℕ) → length (picked_variants blocks picks) ≤ length blocks
named_few [] picks = omega arith
named_few (One item ∷ blocks) picks = let h : length (picked_variants blocks picks) ≤ length blocks =
    named_few blocks picks in omega arith
named_few (Choice variants ∷ blocks) [] = omega arith
named_few (Choice variants ∷ blocks) (pick ∷ picks) = by (slice_get variants pick) (named_few blocks picks)
  where
    by : (o : Option Variant) → length (picked_variants blocks picks) ≤ length blocks →
        length (option_map_or (λ (variant : Variant). variant ∷ []) o [] ++ picked_variants blocks picks)
        ≤ suc (length blocks)
    by None h = omega arith
    by (Some v) h = omega arith

picks_few : (it : ColumnContext) → does_fit it ≡ true → length it.column.picks ≤ length it.document.blocks
picks_few it h = by (size_of it) h
  where
    by : (o : Option ℕ) → option_map_or (λ (n : ℕ). (fronts (flat_items_of it) n == length it.column.picks)
        && (length (column_variants it) == length it.column.picks)) o false ≡ true →
        length it.column.picks ≤ length it.document.blocks
    by None e = absurd cc
    by (Some n) e =
        let same : length (column_variants it) ≡ length it.column.picks =
        eqb-true _ _ (both_of (fronts (flat_items_of it) n == length it.column.picks) _ e).1 in
        let few : length (column_variants it) ≤ length (blocks_at it.document.blocks it.column.from) =
        named_few (blocks_at it.document.blocks it.column.from) it.column.picks in
        let cut : length (blocks_at it.document.blocks it.column.from) ≡ length it.document.blocks
        - (if it.column.from.index == 0 then it.column.from.block else it.column.from.block + 1) =
        length-drop (if it.column.from.index == 0 then it.column.from.block else it.column.from.block + 1)
        it.document.blocks in
        omega arith

abbrev longest : Document → ℕ
longest doc = length (float_numbers doc.style) + length doc.blocks

short_of : (doc : Document) (u : State) (m : PageMove) (v : State) (c : ℤ) → Follow doc u m v c →
    IsShort (longest doc) m
short_of doc u m v c f =
    let wide : length m.wide ≡ length (float_numbers doc.style) =
    eqb-true _ _ (both_of (length m.wide == length (float_numbers doc.style)) _ f.stands.wide).0 in
    let t1 = both_of (((length m.column.top == length (float_numbers doc.style))
    && (length m.column.bottom == length (float_numbers doc.style))) && is_top_allowed (context_in doc u m)) _
    f.stands.rules.counts in
    let t2 = both_of ((length m.column.top == length (float_numbers doc.style))
    && (length m.column.bottom == length (float_numbers doc.style))) _ t1.0 in
    let t3 = both_of (length m.column.top == length (float_numbers doc.style)) _ t2.0 in
    let top : length m.column.top ≡ length (float_numbers doc.style) = eqb-true _ _ t3.0 in
    let bottom : length m.column.bottom ≡ length (float_numbers doc.style) = eqb-true _ _ t3.1 in
    let picks : length m.column.picks ≤ length doc.blocks = picks_few (context_in doc u m) f.stands.rules.fits in
    record { wide = omega arith; bottom = omega arith; top = omega arith; picks = omega arith }

short_run : (doc : Document) (ms : List PageMove) (v : State) (c : ℤ) → Run (wide_meaning doc) ms v c →
    AllByRecursion (IsShort (longest doc)) ms
short_run doc [] v c r = tt
short_run doc (m ∷ ms) v c (u, (n, k, (run, follow, sum))) = (short_of doc u m v k follow, short_run doc ms u n run)

-- ---- beginnings

module _ (g : GalleyValue) (s : StyleValue) (range : AreInRange g s) where
  abbrev pub plan_order : Pagination → Pagination → Ordering
  plan_order a b = ordering_then (int_cmp (cost g s a) (cost g s b)) (plan_cmp a b)

  law : Lawful is_same_key (wide_meaning (document g s))
  law = pages_lawful g s range

  run_of : (plan : Pagination) → Prefix g s plan →
      Run (wide_meaning (document g s)) (columns plan) (state_of g s plan) (cost g s plan)
  run_of plan p = prefix_run g s (facts g s range) (some g s range) plan p

  abbrev low : ℤ
  low = negsuc (2 ^ 60 - 1)

  high : (plan : Pagination) → Prefix g s plan → low ≤ℤ cost g s plan
  high plan p = let h : Small (cost g s plan) =
      law.small_run (columns plan) (state_of g s plan) (cost g s plan) (run_of plan p) in
      let k : negsuc (2 ^ 60 - 1) <ℤ cost g s plan = h.above in under (negsuc (2 ^ 60 - 1)) (cost g s plan) k
    where
      under : (a b : ℤ) → a <ℤ b → a ≤ℤ b
      under a b h = omega (arith, ints)

  few : (plan : Pagination) → Prefix g s plan → length (columns plan) ≤ 2 ^ 32
  few plan p = let h : length (columns plan) < 2 ^ 32 =
      law.few_moves (columns plan) (state_of g s plan) (cost g s plan) (run_of plan p) in
      under (length (columns plan)) (2 ^ 32) h
    where
      under : (a b : ℕ) → a < b → a ≤ b
      under a b h = omega arith

  pub plans_well : IsWell plan_order (Prefix g s)
  plans_well = then_well (cost g s) int_cmp (λ c. low ≤ℤ c) int_equal plan_cmp (Prefix g s) high (ints_well low)
      (on_well columns (slice_cmp column_cmp)
      (λ ms. (length ms ≤ 2 ^ 32) × AllByRecursion (IsShort (longest (document g s))) ms) (Prefix g s)
      (λ plan p. (
        few plan p,
        short_run (document g s) (columns plan) (state_of g s plan) (cost g s plan)
            (run_of plan p),
      ))
      (lists_well column_cmp (IsShort (longest (document g s))) column_equal
      (column_well (longest (document g s))) (2 ^ 32)))
