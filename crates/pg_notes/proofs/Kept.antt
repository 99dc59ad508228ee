-- Sums kept for each class.
use Rattle.std.proofs.Common.{◌≡◌, ◌≢◌, refl, sym, ap, ◌∙◌, subst, ℕ, zero, suc, ◌+◌, ◌*◌, ◌^◌, ◌<◌, ◌≤◌, List, [], ◌∷◌, ◌++◌, length, length-append, arith, Bool, true, false, Option, Some, None, ℤ, pos, ◌+ℤ◌, ◌≤ℤ◌, set, get_or}
use Rattle.std.specs.Prelude.{◌==◌, ◌&&◌, not, nat_lt, if◌then◌else◌, option_map, slice_get, unsigned_abs, int_le, is_none, replicate}
use Rattle.std.specs.List.{find, list_all, sum_by, AllByRecursion, position, position_from}
use Rattle.std.proofs.lemmas.Int.{ints}
use Rattle.std.proofs.lemmas.Bool.Decides.{nat_tests}
use Rattle.std.proofs.lemmas.List.Sums.{sum_by-cons}
use Rattle.std.proofs.lemmas.List.Quantifiers.{position-Some}
use Rattle.std.proofs.lemmas.Iterator.Adapters.{position_from-zero}
use Rattle.std.proofs.lemmas.Option.{slice_get-get_or}
use Rattle.pg_list.specs.declared.item.Item.{Item}
use Rattle.pg_list.specs.declared.item.Item.TheVariants.{BoxItem, Rule, Glue, Kern, Penalty, Insert, Carry}
use Rattle.pg_list.specs.Shapes.{is_insert}
use Rattle.pg_list.specs.Whole.{whole_sum, whole_sum_by}
use Rattle.pg_style.specs.Ranges.{AreInOrder, IsClass, IsKind}
use Rattle.pg_style.specs.Values.{StyleValue}
use Rattle.pg_style.specs.declared.style.Class.{Class}
use Rattle.pg_style.specs.declared.style.Gap.{Gap}
use Rattle.pg_style.specs.Plain.{rigid}
use Rattle.pg_style.specs.declared.style.Kind.{Kind}
use Rattle.pg_style.specs.declared.style.Kind.TheVariants.{Note, Float}
use Rattle.pg_rules.specs.Floats.{gap_shrink, sizes_of}
use Rattle.pg_rules.specs.Room.{class_notes, class_give, is_within_limit}
use Rattle.pg_notes.specs.declared.sums.NoteSum.{NoteSum}
use Rattle.pg_notes.specs.AreNotes.{IsNoteSum, AreNoteSums, AreNotes}
use Rattle.pg_notes.specs.NotesValue.{NotesValue, note_height, is_over_limit, heights, note_give, skips_by, first_over_limit}
use Rattle.pg_notes.proofs.Sizes.{sizes_own, sizes_other, sizes_plain, sum_push}
use Rattle.pg_lemmas.proofs.Numbers.{length_is}

-- ---- a sum grows

same_sum : (items more : List Item) (number : ℕ) (sum : NoteSum) → sizes_of number more ≡ sizes_of number items →
    IsNoteSum items number sum → IsNoteSum more number sum
same_sum items more number sum e is = record {
  size_is = ap whole_sum e ∙ is.size_is;
  there_is = is.there_is ∙ sym (ap (λ (sizes : List ℤ). not (length sizes == 0)) e);
}

some_there : (xs : List ℤ) (z : ℤ) → true ≡ not (length (xs ++ z ∷ []) == 0)
some_there xs z = let e = length-append xs (z ∷ []) in test (length (xs ++ z ∷ [])) (length xs) (omega (arith, e))
  where
    test : (m n : ℕ) → m ≡ suc n → true ≡ not (m == 0)
    test m n e = grind (arith, nat_tests)

grown_sum : (items : List Item) (number z : ℕ) (body : List ℕ) (sum : NoteSum) → IsNoteSum items number sum →
    IsNoteSum (items ++ Insert number (pos z) body ∷ []) number (record { size = sum.size + z; is_there = true })
grown_sum items number z body sum is = record {
  size_is = ap whole_sum (sizes_own number items (pos z) body)
      ∙ (sum_push (sizes_of number items) (pos z) ∙ (ap (λ n. n +ℤ pos z) is.size_is ∙ omega (arith, ints)));
  there_is = some_there (sizes_of number items) (pos z)
      ∙ sym (ap (λ (sizes : List ℤ). not (length sizes == 0)) (sizes_own number items (pos z) body));
}

pub plain_sums : (items : List Item) (x : Item) (classes : List Class) (sums : List NoteSum) → is_insert x ≡ false →
    AreNoteSums items classes sums → AreNoteSums (items ++ x ∷ []) classes sums
plain_sums items x [] sums e are = tt
plain_sums items x (class ∷ classes) [] e are = are
plain_sums items x (class ∷ classes) (sum ∷ sums) e are = (
  same_sum items (items ++ x ∷ []) class.number sum (sizes_plain class.number items x e) are.0,
  plain_sums items x classes sums e are.1,
)

later_sums : (items : List Item) (number z : ℕ) (body : List ℕ) (classes : List Class) (sums : List NoteSum) →
    AllByRecursion (λ (later : Class). number < later.number) classes → AreNoteSums items classes sums →
    AreNoteSums (items ++ Insert number (pos z) body ∷ []) classes sums
later_sums items number z body [] sums all are = tt
later_sums items number z body (class ∷ classes) [] all are = are
later_sums items number z body (class ∷ classes) (sum ∷ sums) all are = (
  same_sum items (items ++ Insert number (pos z) body ∷ []) class.number sum
      (sizes_other class.number number items (pos z) body (λ e. omega (arith, all.0, e))) are.0,
  later_sums items number z body classes sums all.1 are.1,
)

at_all : (P : Class → Type 0) (classes : List Class) (k : ℕ) (class : Class) → AllByRecursion P classes →
    slice_get classes k ≡ Some class → P class
at_all P [] k class all e = absurd (cc)
at_all P (c ∷ classes) zero class all e = let same : c ≡ class = cc in subst P same all.0
at_all P (c ∷ classes) (suc k) class all e = at_all P classes k class all.1 e

pub grown : ℕ → NoteSum → NoteSum
grown z sum = record { size = sum.size + z; is_there = true }

-- the sum at the place of the insert's class grows
pub grown_sums : (items : List Item) (number z : ℕ) (body : List ℕ) (classes : List Class) (sums : List NoteSum)
    (k : ℕ) (class : Class) (sum : NoteSum) →
    AreInOrder classes → slice_get classes k ≡ Some class → class.number ≡ number → slice_get sums k ≡ Some sum →
    AreNoteSums items classes sums →
    AreNoteSums (items ++ Insert number (pos z) body ∷ []) classes
    (set sums k (record { size = sum.size + z; is_there = true }))
grown_sums items number z body [] sums k class sum order at is got are = tt
grown_sums items number z body (c ∷ classes) [] k class sum order at is got are = are
grown_sums items number z body (c ∷ classes) (s ∷ sums) zero class sum order at is got are =
    let same : c ≡ class = cc in
    let own : s ≡ sum = cc in
    let number-is : number ≡ c.number = sym is ∙ sym (ap (λ (x : Class). x.number) same) in
    let P : ℕ → Type 0 = λ n. IsNoteSum (items ++ Insert n (pos z) body ∷ []) c.number
    (record { size = sum.size + z; is_there = true }) in
    let Q : NoteSum → Type 0 = λ x. IsNoteSum items c.number x in
    let R : ℕ → Type 0 = λ n. AllByRecursion (λ (later : Class). n < later.number) classes in (
      subst P (sym number-is) (grown_sum items c.number z body sum (subst Q own are.0)),
      later_sums items number z body classes sums (subst R (sym number-is) order.0) are.1,
    )
grown_sums items number z body (c ∷ classes) (s ∷ sums) (suc k) class sum order at is got are =
    let below : c.number < class.number =
    at_all (λ (later : Class). c.number < later.number) classes k class order.0 at in (
      same_sum items (items ++ Insert number (pos z) body ∷ []) c.number s
          (sizes_other c.number number items (pos z) body (λ e. omega (arith, below, is, e))) are.0,
      grown_sums items number z body classes sums k class sum order.1 at is got are.1,
    )

-- ---- no items

none_sum : (number : ℕ) → IsNoteSum [] number (record { size = 0; is_there = false })
none_sum number = record { size_is = refl; there_is = refl }

pub are_none : (classes : List Class) (n : ℕ) → length classes ≤ n →
    AreNoteSums [] classes (replicate n (record { size = 0; is_there = false }))
are_none [] n h = tt
are_none (class ∷ classes) zero h = absurd (omega arith)
are_none (class ∷ classes) (suc n) h = (none_sum class.number, are_none classes n (omega arith))

-- ---- the answers

its_height_is : (items : List Item) (number : ℕ) (kind : Kind) (sum : NoteSum) → IsKind kind →
    IsNoteSum items number sum →
    pos (note_height kind sum) ≡ class_notes items number kind
its_height_is items number (Note skip limit) sum range is =
    by sum.is_there (length (sizes_of number items) == 0) is.there_is
  where
    by : (there none : Bool) → there ≡ not none →
        pos (if there then unsigned_abs skip.size + sum.size else 0)
        ≡ (if none then pos 0 else (skip.size +ℤ whole_sum (sizes_of number items)))
    by true true e = absurd (cc)
    by true false e = let s = length_is skip.size range.0.size_in.0 in let size = is.size_is in omega (arith, ints, s, size)
    by false true e = refl
    by false false e = absurd (cc)
its_height_is items number (Float area distance) sum range is = refl

pub heights_are : (items : List Item) (classes : List Class) (sums : List NoteSum) →
    AllByRecursion IsClass classes → AreNoteSums items classes sums →
    pos (heights classes sums) ≡ whole_sum_by (λ (class : Class). class_notes items class.number class.kind) classes
heights_are items [] sums all are = refl
heights_are items (class ∷ classes) [] all are = absurd are
heights_are items (class ∷ classes) (sum ∷ sums) all are =
    let one = its_height_is items class.number class.kind sum all.0.kind_in are.0 in
    let rest = heights_are items classes sums all.1 are.1 in
    sum-of (note_height class.kind sum) (heights classes sums) (class_notes items class.number class.kind)
    (whole_sum_by (λ (class : Class). class_notes items class.number class.kind) classes) one rest
  where
    sum-of : (m n : ℕ) (y z : ℤ) → pos m ≡ y → pos n ≡ z → pos (m + n) ≡ y +ℤ z
    sum-of m n y z a b = omega (arith, ints, a, b)

height_few : (kind : Kind) (sum : NoteSum) → IsKind kind → note_height kind sum ≤ 2 ^ 30 + sum.size
height_few (Note skip limit) sum range = by sum.is_there
  where
    by : (there : Bool) → (if there then unsigned_abs skip.size + sum.size else 0) ≤ 2 ^ 30 + sum.size
    by true = let r = range.0.size_in.1 in omega (arith, ints, r)
    by false = omega arith
height_few (Float area distance) sum range = omega arith

pub heights_few : (classes : List Class) (sums : List NoteSum) → AllByRecursion IsClass classes →
    heights classes sums ≤ 2 ^ 30 * length classes + sum_by (λ (sum : NoteSum). sum.size) sums
heights_few [] sums all = omega arith
heights_few (class ∷ classes) [] all = omega arith
heights_few (class ∷ classes) (sum ∷ sums) all =
    let one = height_few class.kind sum all.0.kind_in in
    let rest = heights_few classes sums all.1 in
    let e = sum_by-cons (λ (sum : NoteSum). sum.size) sum sums in
    few (note_height class.kind sum) (heights classes sums) sum.size (sum_by (λ (sum : NoteSum). sum.size) sums)
    (sum_by (λ (sum : NoteSum). sum.size) (sum ∷ sums)) (length classes) one rest e
  where
    few : (a b s t u n : ℕ) → a ≤ 2 ^ 30 + s → b ≤ 2 ^ 30 * n + t → u ≡ s + t → a + b ≤ 2 ^ 30 * suc n + u
    few a b s t u n x y e = omega (arith, x, y, e)

there_or : (b : Bool) (z : ℤ) → (if not b then z else pos 0) ≡ (if b then pos 0 else z)
there_or true z = refl
there_or false z = refl

its_give_is : (part : Gap → ℤ) (items : List Item) (number : ℕ) (kind : Kind) (sum : NoteSum) →
    IsNoteSum items number sum → note_give part kind sum ≡ class_give part items number kind
its_give_is part items number (Note skip limit) sum is =
    ap (λ (b : Bool). if b then part skip else pos 0) is.there_is
    ∙ there_or (length (sizes_of number items) == 0) (part skip)
its_give_is part items number (Float area distance) sum is = refl

pub skips_are : (part : Gap → ℤ) (items : List Item) (classes : List Class) (sums : List NoteSum) →
    AreNoteSums items classes sums →
    skips_by part classes sums ≡ whole_sum_by (λ (class : Class). class_give part items class.number class.kind) classes
skips_are part items [] sums are = refl
skips_are part items (class ∷ classes) [] are = absurd are
skips_are part items (class ∷ classes) (sum ∷ sums) are =
    ap (λ (z : ℤ). z +ℤ skips_by part classes sums) (its_give_is part items class.number class.kind sum are.0)
    ∙ ap (λ (z : ℤ). class_give part items class.number class.kind +ℤ z) (skips_are part items classes sums are.1)

give_up : (kind : Kind) (sum : NoteSum) → IsKind kind → pos 0 ≤ℤ note_give gap_shrink kind sum
give_up (Note skip limit) sum range = by sum.is_there
  where
    by : (b : Bool) → pos 0 ≤ℤ (if b then skip.shrink else pos 0)
    by true = range.0.shrink_from
    by false = omega (arith, ints)
give_up (Float area distance) sum range = omega (arith, ints)

-- skips are shrunk by no less than 0
pub skips_up : (classes : List Class) (sums : List NoteSum) → AllByRecursion IsClass classes →
    pos 0 ≤ℤ skips_by gap_shrink classes sums
skips_up [] sums all = omega (arith, ints)
skips_up (class ∷ classes) [] all = omega (arith, ints)
skips_up (class ∷ classes) (sum ∷ sums) all =
    let one = give_up class.kind sum all.0.kind_in in
    let rest = skips_up classes sums all.1 in
    omega (arith, ints, one, rest)

over_is : (items : List Item) (number : ℕ) (kind : Kind) (sum : NoteSum) → IsKind kind →
    IsNoteSum items number sum →
    is_over_limit kind sum ≡ not (is_within_limit items number kind)
over_is items number (Note skip limit) sum range is =
    over-test (unsigned_abs limit) sum.size
    ∙ ap not (ap (λ z. int_le z (pos (unsigned_abs limit))) (sym is.size_is)
    ∙ ap (int_le (whole_sum (sizes_of number items))) (sym (length_is limit range.1.0)))
  where
    over-test : (l s : ℕ) → nat_lt l s ≡ not (int_le (pos s) (pos l))
    over-test l s = grind (arith, nat_tests)
over_is items number (Float area distance) sum range is = refl

pub first_is : (items : List Item) (classes : List Class) (sums : List NoteSum) → AllByRecursion IsClass classes →
    AreNoteSums items classes sums →
    first_over_limit classes sums
    ≡ option_map (λ (class : Class). class.number)
    (find (λ (class : Class). not (is_within_limit items class.number class.kind)) classes)
first_is items [] sums all are = refl
first_is items (class ∷ classes) [] all are = absurd are
first_is items (class ∷ classes) (sum ∷ sums) all are =
    by (is_over_limit class.kind sum) (not (is_within_limit items class.number class.kind))
    (first_over_limit classes sums)
    (find (λ (class : Class). not (is_within_limit items class.number class.kind)) classes)
    (over_is items class.number class.kind sum all.0.kind_in are.0) (first_is items classes sums all.1 are.1)
  where
    by : (a b : Bool) (x : Option ℕ) (y : Option Class) → a ≡ b →
        x ≡ option_map (λ (class : Class). class.number) y →
        (if a then Some class.number else x)
        ≡ option_map (λ (class : Class). class.number) (if b then Some class else y)
    by true true x y e r = refl
    by true false x y e r = absurd (cc)
    by false true x y e r = absurd (cc)
    by false false x y e r = r

pub none_is : (items : List Item) (classes : List Class) →
    is_none (option_map (λ (class : Class). class.number)
    (find (λ (class : Class). not (is_within_limit items class.number class.kind)) classes))
    ≡ list_all (λ (class : Class). is_within_limit items class.number class.kind) classes
none_is items [] = refl
none_is items (class ∷ classes) =
    by (is_within_limit items class.number class.kind)
    (find (λ (class : Class). not (is_within_limit items class.number class.kind)) classes)
    (list_all (λ (class : Class). is_within_limit items class.number class.kind) classes) (none_is items classes)
  where
    by : (b : Bool) (o : Option Class) (all : Bool) →
        is_none (option_map (λ (class : Class). class.number) o) ≡ all →
        is_none (option_map (λ (class : Class). class.number) (if not b then Some class else o)) ≡ (b && all)
    by true o all r = r
    by false o all r = refl

none_from : (p : Class → Bool) (classes : List Class) (n : ℕ) → position_from p n classes ≡ None →
    AllByRecursion (λ (class : Class). p class ≡ false) classes
none_from p [] n e = tt
none_from p (class ∷ classes) n e =
    let first = passed (p class) (position_from p (n + 1) classes) n e in
    (first.0, none_from p classes (n + 1) first.1)
  where
    passed : (b : Bool) (o : Option ℕ) (n : ℕ) → (if b then Some n else o) ≡ None → (b ≡ false) × (o ≡ None)
    passed true o n e = absurd (cc)
    passed false o n e = (refl, e)

none_passes : (p : Class → Bool) (classes : List Class) → position p classes ≡ None →
    AllByRecursion (λ (class : Class). p class ≡ false) classes
none_passes p classes e = none_from p classes 0 (sym (position_from-zero p classes) ∙ e)

other_number : (m n : ℕ) → (m == n) ≡ false → n ≢ m
other_number m n e = grind (arith, nat_tests)

-- no class has the number
pub strange_sums : (items : List Item) (number z : ℕ) (body : List ℕ) (classes : List Class) (sums : List NoteSum) →
    AllByRecursion (λ (class : Class). (class.number == number) ≡ false) classes → AreNoteSums items classes sums →
    AreNoteSums (items ++ Insert number (pos z) body ∷ []) classes sums
strange_sums items number z body [] sums all are = tt
strange_sums items number z body (class ∷ classes) [] all are = are
strange_sums items number z body (class ∷ classes) (sum ∷ sums) all are = (
  same_sum items (items ++ Insert number (pos z) body ∷ []) class.number sum
      (sizes_other class.number number items (pos z) body (other_number class.number number all.0)) are.0,
  strange_sums items number z body classes sums all.1 are.1,
)

pub unfound_sums : (items : List Item) (number z : ℕ) (body : List ℕ) (classes : List Class) (sums : List NoteSum) →
    position (λ (class : Class). class.number == number) classes ≡ None → AreNoteSums items classes sums →
    AreNoteSums (items ++ Insert number (pos z) body ∷ []) classes sums
unfound_sums items number z body classes sums e are =
    strange_sums items number z body classes sums
    (none_passes (λ (class : Class). class.number == number) classes e) are

pub found_sums : (items : List Item) (number z : ℕ) (body : List ℕ) (classes : List Class) (sums : List NoteSum)
    (k : ℕ) (d : NoteSum) →
    AreInOrder classes → position (λ (class : Class). class.number == number) classes ≡ Some k →
    length classes ≤ length sums → AreNoteSums items classes sums →
    AreNoteSums (items ++ Insert number (pos z) body ∷ []) classes
    (set sums k (record { size = (get_or sums k d).size + z; is_there = true }))
found_sums items number z body classes sums k d order e long are =
    let none : Class = record { number = 0; kind = Note (rigid (pos 0)) (pos 0) } in
    let is = position-Some (λ (class : Class). class.number == number) classes k none e in
    let less : k < length sums = omega (arith, is.0, long) in
    grown_sums items number z body classes sums k (get_or classes k none) (get_or sums k d) order
    (slice_get-get_or classes k none is.0) (num_same (get_or classes k none).number number is.1)
    (slice_get-get_or sums k d less) are
  where
    num_same : (a b : ℕ) → (a == b) ≡ true → a ≡ b
    num_same a b e = grind (arith, nat_tests)

pub not_insert : (x : Item) → ((n : ℕ) (z : ℤ) (body : List ℕ) → x ≡ Insert n z body → ⊥) → is_insert x ≡ false
not_insert (BoxItem h d body) e = refl
not_insert (Rule h d body) e = refl
not_insert (Glue w s o k body) e = refl
not_insert (Kern w body) e = refl
not_insert (Penalty v body) e = refl
not_insert (Insert n z body) e = absurd (e n z body refl)
not_insert (Carry body) e = refl

-- one more item, whatever it is
pub notes_push : (style : StyleValue) (items : List Item) (x : Item) (sums more : List NoteSum)
    (old new : NotesValue) → old.sums ≡ sums →
    new.sums ≡ more → new.count ≡ old.count + 1 →
    (AreNoteSums items style.classes sums → AreNoteSums (items ++ x ∷ []) style.classes more) →
    AreNotes style items old → AreNotes style (items ++ x ∷ []) new
notes_push style items x sums more old new was is count grows are = record {
  count_is = let n = length-append items (x ∷ []) in let m = are.count_is in omega (arith, n, m, count);
  sums_are = subst (AreNoteSums (items ++ x ∷ []) style.classes) (sym is)
      (grows (subst (AreNoteSums items style.classes) was are.sums_are));
}
