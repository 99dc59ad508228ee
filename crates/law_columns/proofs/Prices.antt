-- What a column costs at most.
use Rattle.std.proofs.Common.{◌≡◌, refl, sym, ap, subst, ℕ, zero, suc, ◌+◌, ◌*◌, ◌/◌, ◌≤◌, List, [], ◌∷◌, ◌++◌, length, Bool, true, false, Option, Some, None, arith}
use Rattle.std.specs.Prelude.{◌&&◌, ◌==◌, if◌then◌else◌, nat_lt, nat_abs, slice_get, slice_index, ℤ, pos, negsuc, ◌+ℤ◌, ◌-ℤ◌, ◌<ℤ◌, ◌≤ℤ◌, int_lt, int_le, unwrap_or}
use Rattle.std.specs.Int.{int_max}
use Rattle.std.specs.List.{AllByRecursion}
use Rattle.std.specs.Option.{option_map_or}
use Rattle.std.proofs.Math.Nat.{mul-le-mul_left, mul-le-mul_right, div-le_of_le-mul}
use Rattle.std.proofs.lemmas.Int.{clamps, ints}
use Rattle.pg_list.specs.Shapes.{IsBlock, IsWithinLimits}
use Rattle.pg_list.specs.declared.blocks.Block.{Block}
use Rattle.pg_list.specs.declared.blocks.Block.TheVariants.{One, Choice}
use Rattle.pg_list.specs.declared.item.Item.{Item}
use Rattle.pg_list.specs.declared.item.Item.TheVariants.{BoxItem, Rule, Glue, Kern, Penalty, Insert, Carry}
use Rattle.pg_list.specs.declared.variants.Variant.{Variant}
use Rattle.pg_style.specs.Ranges.{IsStyle, IsRun, AreDemerits}
use Rattle.pg_style.specs.declared.style.Run.{Run}
use Rattle.pg_style.specs.Values.{StyleValue}
use Rattle.pg_list.specs.Badness.{badness, cubed, ratio, has_infinite, fill_badness, page_badness}
use Rattle.pg_list.specs.Break.{break_penalty, item_break, follows_solid, has_at, is_glue, is_spent}
use Rattle.pg_list.specs.Flat.{picked_variants}
use Rattle.pg_list.specs.Totals.{stretch, shrink}
use Rattle.pg_list.specs.Whole.{whole_sum_by, square}
use Rattle.pg_list.specs.declared.item.Order.TheVariants.{Finite}
use Rattle.pg_rules.specs.ColumnRules.{segment, text_total, text_goal, text_badness, text_shrink, text_stretch, column_variants}
use Rattle.pg_rules.specs.Cost.{break_demerits, is_bonus, penalty_demerits, text_demerits, column_demerits, pick_demerits, run_demerits, float_demerits, differs, fitness_demerits, column_cost}
use Rattle.pg_rules.specs.History.{column_fitness}
use Rattle.pg_rules.specs.Floats.{distance_table}
use Rattle.pg_rules.specs.Room.{ColumnContext, is_text, items_of, size_of}
use Rattle.law_places.proofs.Tests.{less_int}
use Rattle.law_columns.proofs.StyleFacts.{slot_entries}
use Rattle.pg_lemmas.proofs.Numbers.{few_if, not_less, square_few}

-- ---- sizes

pub add_few : (a b : ℤ) (x y : ℕ) → nat_abs a ≤ x → nat_abs b ≤ y → nat_abs (a +ℤ b) ≤ x + y
add_few a b x y h k = omega (arith, ints)

pub size_if : (b : Bool) (x y : ℤ) (n : ℕ) → nat_abs x ≤ n → nat_abs y ≤ n → nat_abs (if b then x else y) ≤ n
size_if true x y n h k = h
size_if false x y n h k = k

pub size_none : {X : Type 0} (f : X → ℤ) (o : Option X) (n : ℕ) → ((x : X) → o ≡ Some x → nat_abs (f x) ≤ n) →
    nat_abs (option_map_or f o (pos 0)) ≤ n
size_none f None n h = omega arith
size_none f (Some x) n h = h x refl

-- ---- badness and penalties

cubed_few : (r : ℕ) → cubed r ≤ 10000
cubed_few r = by (nat_lt 1290 r) refl
  where
    by : (b : Bool) → b ≡ nat_lt 1290 r → (if b then 10000 else (r * r * r + 131072) / 262144) ≤ 10000
    by true e = omega arith
    by false e =
        let h : r ≤ 1290 = not_less 1290 r (sym e) in
        let s : r * r ≤ 1290 * r = mul-le-mul_right r h in
        let t : 1290 * r ≤ 1290 * 1290 = mul-le-mul_left 1290 h in
        let q : r * r ≤ 1664100 = omega arith in
        let u : r * r * r ≤ 1664100 * r = mul-le-mul_right r q in
        let k : r * r * r + 131072 ≤ 262144 * 10000 = omega arith in
        div-le_of_le-mul 262144 k

pub badness_few : (t s : ℤ) → badness t s ≤ 10000
badness_few (pos t) (pos s) = few_if (t == 0) 0 (if s == 0 then 10000 else cubed (ratio t s)) 10000
    (omega arith) (few_if (s == 0) 10000 (cubed (ratio t s)) 10000 (omega arith) (cubed_few (ratio t s)))
badness_few (pos t) (negsuc s) = few_if (t == 0) 0 10000 10000 (omega arith) (omega arith)
badness_few (negsuc t) s = omega arith

pub fill_badness_few : (spent : Bool) (goal total : ℤ) (infinite : Bool) (more less : ℤ) →
    fill_badness spent goal total infinite more less ≤ 10000
fill_badness_few spent goal total infinite more less =
    few_if (spent && int_le total goal) 0
    (if int_lt total goal then (if infinite then 0 else badness (goal -ℤ total) more)
    else badness (total -ℤ goal) less) 10000 (omega arith)
    (few_if (int_lt total goal) (if infinite then 0 else badness (goal -ℤ total) more)
    (badness (total -ℤ goal) less) 10000
    (few_if infinite 0 (badness (goal -ℤ total) more) 10000 (omega arith) (badness_few (goal -ℤ total) more))
    (badness_few (total -ℤ goal) less))

pub page_badness_few : (spent : Bool) (goal total : ℤ) (items : List Item) →
    page_badness spent goal total items ≤ 10000
page_badness_few spent goal total items =
    fill_badness_few spent goal total (has_infinite items) (stretch Finite items) (shrink items)

pub text_badness_few : (it : ColumnContext) (n : ℕ) → text_badness it n ≤ 10000
text_badness_few it n =
    fill_badness_few (is_spent (items_of it) n) (text_goal it n) (text_total it n) (has_infinite (segment it n))
    (text_stretch it n) (text_shrink it n)

-- the penalty of a break is below 10000
abbrev pub IsLow : Option ℤ → Type 0
IsLow o = (z : ℤ) → o ≡ Some z → z <ℤ pos 10000

some_low : (x : ℤ) → x <ℤ pos 10000 → IsLow (Some x)
some_low x h z e = let s : x ≡ z = same x z e in omega (arith, ints)
  where
    same : (a b : ℤ) → Some a ≡ Some b → a ≡ b
    same a b e = cc

zero_low : IsLow (Some (pos 0))
zero_low = some_low (pos 0) (omega (arith, ints))

none_low : IsLow None
none_low z e = absurd cc

low_if : (b : Bool) (x y : Option ℤ) → IsLow x → IsLow y → IsLow (if b then x else y)
low_if true x y h k = h
low_if false x y h k = k

item_low : (flat : List Item) (k : ℕ) (item : Item) → IsLow (item_break flat k item)
item_low flat k (BoxItem h d body) = none_low
item_low flat k (Rule h d body) = none_low
item_low flat k (Glue w s o t body) = low_if (follows_solid flat k) (Some (pos 0)) None zero_low none_low
item_low flat k (Kern w body) = low_if (has_at is_glue flat (k + 1)) (Some (pos 0)) None zero_low none_low
item_low flat k (Penalty value body) = by (int_lt value (pos 10000)) refl
  where
    by : (b : Bool) → b ≡ int_lt value (pos 10000) → IsLow (if b then Some value else None)
    by false e = none_low
    by true e = some_low value (less_int value (pos 10000) (sym e))
item_low flat k (Insert c s body) = none_low
item_low flat k (Carry body) = none_low

pub break_low : (flat : List Item) (k : ℕ) → IsLow (break_penalty flat k)
break_low flat k = low_if (k == length flat) (Some (pos 0)) _ zero_low (by (slice_get flat k))
  where
    by : (o : Option Item) → IsLow (option_map_or (item_break flat k) o None)
    by None = none_low
    by (Some item) = item_low flat k item

pub penalty_few : (z : ℤ) → z <ℤ pos 10000 → nat_abs (penalty_demerits z) ≤ 100000000
penalty_few (pos p) h =
    let l : p ≤ 10000 = omega (arith, ints) in
    let s : p * p ≤ 10000 * 10000 = square_few p 10000 l in
    let e : square (pos p) ≡ pos (p * p) = refl in
    let n : nat_abs (square (pos p)) ≡ p * p = ap nat_abs e in
    omega arith
penalty_few (negsuc p) h = by (int_lt (negsuc 9999) (negsuc p)) refl
  where
    by : (b : Bool) → b ≡ int_lt (negsuc 9999) (negsuc p) →
        nat_abs (if b then pos 0 -ℤ square (negsuc p) else pos 0) ≤ 100000000
    by false e = omega arith
    by true e =
        let k : negsuc 9999 <ℤ negsuc p = less_int (negsuc 9999) (negsuc p) (sym e) in
        let l : suc p ≤ 10000 = omega (arith, ints) in
        let s : suc p * suc p ≤ 10000 * 10000 = square_few (suc p) 10000 l in
        let q : square (negsuc p) ≡ pos (suc p * suc p) = refl in
        few (square (negsuc p)) (suc p * suc p) q (omega arith)
      where
        few : (z : ℤ) (n : ℕ) → z ≡ pos n → n ≤ 100000000 → nat_abs (pos 0 -ℤ z) ≤ 100000000
        few z n e h = omega (arith, ints)

-- ---- the parts of a column's cost

low_or : (o : Option ℤ) → IsLow o → unwrap_or o (pos 0) <ℤ pos 10000
low_or None low = omega (arith, ints)
low_or (Some z) low = low z refl

-- without a bonus
both_few : (line badness : ℕ) → line ≤ 10000 → badness ≤ 10000 → (z : ℤ) → z <ℤ pos 10000 →
    nat_abs (square (pos (line + badness)) +ℤ penalty_demerits z) ≤ 500000000
both_few line badness l b z low =
    let s : (line + badness) * (line + badness) ≤ 20000 * 20000 = square_few (line + badness) 20000 (omega arith) in
    add_few (square (pos (line + badness))) (penalty_demerits z) 400000000 100000000 (omega arith) (penalty_few z low)

-- with one
forgiven_few : (line badness : ℕ) → line ≤ 10000 → badness ≤ 10000 → (p : ℕ) →
    nat_abs (square (pos line +ℤ int_max (pos 0) (pos badness +ℤ negsuc p))) ≤ 500000000
forgiven_few line badness l b p =
    by (pos line +ℤ int_max (pos 0) (pos badness +ℤ negsuc p)) (omega (arith, ints, clamps))
    (omega (arith, ints, clamps))
  where
    by : (x : ℤ) → pos 0 ≤ℤ x → x ≤ℤ pos 20000 → nat_abs (square x) ≤ 500000000
    by (pos k) low high =
        let s : k * k ≤ 20000 * 20000 = square_few k 20000 (omega (arith, ints)) in
        let e : square (pos k) ≡ pos (k * k) = refl in
        let n : nat_abs (square (pos k)) ≡ k * k = ap nat_abs e in
        omega arith
    by (negsuc k) low high = absurd (omega (arith, ints))

demerits_few : (style : StyleValue) → style.line ≤ 10000 → (badness : ℕ) → badness ≤ 10000 → (z : ℤ) → z <ℤ pos 10000 →
    nat_abs (break_demerits style badness z) ≤ 500000000
demerits_few style l badness b (pos p) low = by (style.version == 3)
  where
    by : (three : Bool) → nat_abs (if three && false then square (pos style.line +ℤ int_max (pos 0) (pos badness +ℤ pos p))
        else square (pos (style.line + badness)) +ℤ penalty_demerits (pos p)) ≤ 500000000
    by true = both_few style.line badness l b (pos p) low
    by false = both_few style.line badness l b (pos p) low
demerits_few style l badness b (negsuc p) low = by (style.version == 3) (is_bonus (negsuc p))
  where
    by : (three bonus : Bool) → nat_abs (if three && bonus then square (pos style.line
        +ℤ int_max (pos 0) (pos badness +ℤ negsuc p))
        else square (pos (style.line + badness)) +ℤ penalty_demerits (negsuc p)) ≤ 500000000
    by true true = forgiven_few style.line badness l b p
    by true false = both_few style.line badness l b (negsuc p) low
    by false bonus = both_few style.line badness l b (negsuc p) low

pub text_few : (it : ColumnContext) → it.document.style.line ≤ 10000 → (n : ℕ) →
    nat_abs (text_demerits it n) ≤ 500000000
text_few it line n =
    demerits_few it.document.style line (text_badness it n) (text_badness_few it n)
    (unwrap_or (break_penalty (items_of it) n) (pos 0))
    (low_or (break_penalty (items_of it) n) (break_low (items_of it) n))

module _ (it : ColumnContext) (range : IsStyle it.document.style) where
  column_few : nat_abs (column_demerits it) ≤ 500000000
  column_few =
      let d : it.document.style.float_column.demerits ≤ 100000000 = range.float_column_in.demerits_to in
      size_if (is_text it) _ (pos it.document.style.float_column.demerits) 500000000
      (size_none (text_demerits it) (size_of it) 500000000 (λ n e. text_few it range.line_in n))
      (omega arith)

  run_at : (runs : List Run) (n : ℕ) (r : Run) → AllByRecursion IsRun runs → slice_get runs n ≡ Some r → IsRun r
  run_at [] n r a e = absurd cc
  run_at (x ∷ xs) zero r a e = let s : x ≡ r = same x r e in subst IsRun s a.0
    where
      same : (a b : Run) → Some a ≡ Some b → a ≡ b
      same a b e = cc
  run_at (x ∷ xs) (suc n) r a e = run_at xs n r a.1 e

  run_few : (run : ℕ) → nat_abs (run_demerits it.document.style run) ≤ 100000000
  run_few run = size_none (λ (r : Run). pos r.demerits) (slice_get it.document.style.runs run) 100000000
      (λ r e. (let k : IsRun r = run_at it.document.style.runs run r range.runs_in.each e in
      let d : r.demerits ≤ 100000000 = k.demerits_in in omega arith))

  fitness_few : (fitness : Option ℕ) → nat_abs (fitness_demerits fitness it) ≤ 100000000
  fitness_few fitness =
      let d : it.document.style.fitness ≤ 100000000 = range.fitness_in in
      size_none _ fitness 100000000 (λ last e. size_if (is_text it && differs last (column_fitness it))
      (pos it.document.style.fitness) (pos 0) 100000000 (omega arith) (omega arith))

  entry_few : (xs : List ℕ) (n : ℕ) → AllByRecursion AreDemerits xs → slice_index xs n ≤ 100000000
  entry_few [] n a = omega arith
  entry_few (x ∷ xs) zero a = a.0
  entry_few (x ∷ xs) (suc n) a = entry_few xs n a.1

  floats_few : (wait : ℕ × ℕ → ℕ) (floats : List (ℕ × ℕ)) →
      nat_abs (float_demerits it.document.style wait floats) ≤ 100000000 * length floats
  floats_few wait [] = omega arith
  floats_few wait (x ∷ xs) =
      let e : slice_index (distance_table it.document.style x.0) (wait x) ≤ 100000000 =
      entry_few (distance_table it.document.style x.0) (wait x)
      (slot_entries it.document.style range x.0).1 in
      let r : nat_abs (float_demerits it.document.style wait xs) ≤ 100000000 * length xs = floats_few wait xs in
      let s : nat_abs (pos (slice_index (distance_table it.document.style x.0) (wait x)) +ℤ float_demerits
      it.document.style wait xs) ≤ 100000000 + 100000000 * length xs =
      add_few (pos (slice_index (distance_table it.document.style x.0) (wait x)))
      (float_demerits it.document.style wait xs) 100000000 (100000000 * length xs) e r in
      omega (arith, s)

  variants_few : (variants : List Variant) → AllByRecursion IsWithinLimits variants →
      nat_abs (whole_sum_by (λ (variant : Variant). pos variant.demerits) variants)
      ≤ 100000000 * length variants
  variants_few [] a = omega arith
  variants_few (x ∷ xs) a =
      let d : x.demerits ≤ 100000000 = a.0.demerits in
      let r : nat_abs (whole_sum_by (λ (variant : Variant). pos variant.demerits) xs)
      ≤ 100000000 * length xs = variants_few xs a.1 in
      let s : nat_abs (pos x.demerits +ℤ whole_sum_by (λ (variant : Variant). pos variant.demerits) xs)
      ≤ 100000000 + 100000000 * length xs =
      add_few (pos x.demerits) (whole_sum_by (λ (variant : Variant). pos variant.demerits) xs) 100000000
      (100000000 * length xs) d r in
      omega (arith, s)

  -- what a column costs, by the picks and the floats that it has
  pub cost_few : (column : ℕ) (fitness : Option ℕ) (wait : ℕ × ℕ → ℕ) (floats : List (ℕ × ℕ)) →
      AllByRecursion IsWithinLimits (column_variants it) →
      nat_abs (column_cost it column fitness wait floats) ≤ 700000000
      + 100000000 * (length (column_variants it) + length floats)
  cost_few column fitness wait floats limits =
      let a : nat_abs (column_demerits it +ℤ pick_demerits it) ≤ 500000000
      + 100000000 * length (column_variants it) =
      add_few (column_demerits it) (pick_demerits it) 500000000 (100000000 * length (column_variants it))
      column_few (variants_few (column_variants it) limits) in
      let b : nat_abs (if column == 1 then run_demerits it.document.style it.run else pos 0) ≤ 100000000 =
      size_if (column == 1) (run_demerits it.document.style it.run) (pos 0) 100000000 (run_few it.run)
      (omega arith) in
      let c : nat_abs ((if column == 1 then run_demerits it.document.style it.run else pos 0) +ℤ
      float_demerits it.document.style wait floats) ≤ 100000000 + 100000000 * length floats =
      add_few (if column == 1 then run_demerits it.document.style it.run else pos 0)
      (float_demerits it.document.style wait floats) 100000000 (100000000 * length floats) b
      (floats_few wait floats) in
      let d : nat_abs (((if column == 1 then run_demerits it.document.style it.run else pos 0) +ℤ
      float_demerits it.document.style wait floats) +ℤ fitness_demerits fitness it) ≤ 100000000
      + 100000000 * length floats + 100000000 =
      add_few ((if column == 1 then run_demerits it.document.style it.run else pos 0) +ℤ float_demerits
      it.document.style wait floats) (fitness_demerits fitness it) (100000000 + 100000000 * length floats)
      100000000 c (fitness_few fitness) in
      let e : nat_abs (column_cost it column fitness wait floats)
      ≤ (500000000 + 100000000 * length (column_variants it))
      + (100000000 + 100000000 * length floats + 100000000) =
      add_few (column_demerits it +ℤ pick_demerits it)
      (((if column == 1 then run_demerits it.document.style it.run else pos 0) +ℤ float_demerits
      it.document.style wait floats) +ℤ fitness_demerits fitness it)
      (500000000 + 100000000 * length (column_variants it))
      (100000000 + 100000000 * length floats + 100000000) a d in
      omega (arith, e)

-- the variants that picks name are within their limits
pub picked_limits : (blocks : List Block) (picks : List ℕ) → AllByRecursion IsBlock blocks →
    AllByRecursion IsWithinLimits (picked_variants blocks picks)
picked_limits [] picks a = tt
picked_limits (One item ∷ blocks) picks a = picked_limits blocks picks a.1
picked_limits (Choice variants ∷ blocks) [] a = tt
picked_limits (Choice variants ∷ blocks) (pick ∷ picks) a =
    by (slice_get variants pick) (λ v e. at variants pick v a.0.limits e) (picked_limits blocks picks a.1)
  where
    at : (variants : List Variant) (n : ℕ) (v : Variant) → AllByRecursion IsWithinLimits variants →
        slice_get variants n ≡ Some v → IsWithinLimits v
    at [] n v a e = absurd cc
    at (x ∷ xs) zero v a e = let s : x ≡ v = same x v e in subst IsWithinLimits s a.0
      where
        same : (a b : Variant) → Some a ≡ Some b → a ≡ b
        same a b e = cc
    at (x ∷ xs) (suc n) v a e = at xs n v a.1 e

    by : (o : Option Variant) → ((v : Variant) → o ≡ Some v → IsWithinLimits v) →
        AllByRecursion IsWithinLimits (picked_variants blocks picks) →
        AllByRecursion IsWithinLimits (option_map_or (λ (variant : Variant). variant ∷ []) o
        [] ++ picked_variants blocks picks)
    by None h rest = rest
    by (Some v) h rest = (h v refl, rest)
