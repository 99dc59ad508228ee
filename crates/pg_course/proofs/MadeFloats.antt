-- The inserts of a galley that is made are of two classes, and few.
use Rattle.std.proofs.Common.{◌≡◌, refl, subst, ap, ◌∙◌, ℕ, zero, suc, ◌+◌, ◌*◌, ◌≤◌, ◌^◌, List, [], ◌∷◌, ◌++◌}
use Rattle.std.proofs.Common.{length, length-append, map, arith, Bool, true, false, Some, None, ℤ}
use Rattle.std.specs.Prelude.{◌==◌, ◌%◌, if◌then◌else◌, is_none, Option, Err}
use Rattle.std.specs.List.{cons_option, filter, filter_map, find, flat_map, range_with_len, sum_by}
use Rattle.std.proofs.lemmas.List.Elements.{filter-append}
use Rattle.std.proofs.lemmas.List.Sums.{sum_by-cons}
use Rattle.pg_list.specs.declared.item.Item.{Item}
use Rattle.pg_list.specs.declared.item.Item.TheVariants.{BoxItem, Rule, Glue, Kern, Penalty, Insert, Carry}
use Rattle.pg_list.specs.declared.blocks.Block.{Block}
use Rattle.pg_list.specs.declared.blocks.Block.TheVariants.{Choice}
use Rattle.pg_list.specs.GalleyValue.{GalleyValue}
use Rattle.pg_list.specs.Places.{picked_items}
use Rattle.pg_list.specs.Shapes.{is_insert}
use Rattle.pg_style.specs.Classes.{class_in}
use Rattle.pg_style.specs.Values.{StyleValue}
use Rattle.pg_list.specs.Flat.{flat}
use Rattle.pg_rules.specs.Floats.{float_numbers, sizes_of}
use Rattle.pg_floats.specs.AreFloats.{MakesList, float_total, unknown_class}
use Rattle.pg_floats.specs.declared.fault.FloatFault.{FloatFault}
use Rattle.pg_floats.specs.declared.fault.FloatFault.TheVariants.{Class, Limit, Memory}
use Rattle.pg_floats.specs.Callouts.{first_items, insert_class}
use Rattle.pg_floats.proofs.Lists.{flat_first}
use Rattle.pg_make.specs.Generated.{made_blocks, made_float, made_galley, made_inserts, made_items, made_length}
use Rattle.pg_make.specs.Generated.{made_note, made_paragraph, made_variants}
use Rattle.pg_make.specs.Made.{made_classes, made_style}
use Rattle.pg_make.proofs.Paragraphs.{inserts_are, inserts_few}

-- ---- the inserts, paragraph by paragraph

one_paragraph : (i : ℕ) → filter is_insert (picked_items (Choice (made_variants i)) 0) ≡ made_inserts i
one_paragraph i = by (made_length i) (omega arith)
  where
    by : (k : ℕ) → 1 ≤ k → filter is_insert (made_items i k) ≡ made_inserts i
    by zero h = absurd (omega (arith, h))
    by (suc k) h = inserts_are i k

choice_inserts : (i : ℕ) (rest : List Block) →
    filter is_insert (first_items (Choice (made_variants i) ∷ rest))
    ≡ made_inserts i ++ filter is_insert (first_items rest)
choice_inserts i rest =
    filter-append is_insert (picked_items (Choice (made_variants i)) 0) (first_items rest)
    ∙ ap (λ (xs : List Item). xs ++ filter is_insert (first_items rest)) (one_paragraph i)

paragraph_inserts : (i : ℕ) (rest : List Block) →
    filter is_insert (first_items (made_paragraph i ++ rest))
    ≡ made_inserts i ++ filter is_insert (first_items rest)
paragraph_inserts zero rest = choice_inserts zero rest
paragraph_inserts (suc i) rest = choice_inserts (suc i) rest

made_ones : (a n : ℕ) →
    filter is_insert (first_items (flat_map made_paragraph (range_with_len a n)))
    ≡ flat_map made_inserts (range_with_len a n)
made_ones a zero = refl
made_ones a (suc n) =
    paragraph_inserts a (flat_map made_paragraph (range_with_len (a + 1) n))
    ∙ ap (λ (xs : List Item). made_inserts a ++ xs) (made_ones (a + 1) n)

-- ---- of two classes

classes_kept : (xs : List Item) → filter_map insert_class xs ≡ filter_map insert_class (filter is_insert xs)
classes_kept [] = refl
classes_kept (BoxItem h d body ∷ xs) = classes_kept xs
classes_kept (Rule h d body ∷ xs) = classes_kept xs
classes_kept (Glue w s o k body ∷ xs) = classes_kept xs
classes_kept (Kern w body ∷ xs) = classes_kept xs
classes_kept (Penalty v body ∷ xs) = classes_kept xs
classes_kept (Insert c z body ∷ xs) = ap (λ (ns : List ℕ). c ∷ ns) (classes_kept xs)
classes_kept (Carry body ∷ xs) = classes_kept xs

float_class : (t : ℕ) → insert_class (made_float t) ≡ Some 100
float_class zero = refl
float_class (suc zero) = refl
float_class (suc (suc t)) = refl

-- the first class that the made style does not have
abbrev strange : List Item → Option ℕ
strange items = find (λ (number : ℕ). is_none (class_in made_classes number)) (filter_map insert_class items)

none_strange : (b c : Bool) (t : ℕ) (rest : List Item) → strange rest ≡ None →
    strange (((if b then made_note ∷ [] else []) ++ (if c then made_float t ∷ [] else [])) ++ rest) ≡ None
none_strange true true t rest h = rw (float_class t) h
none_strange true false t rest h = h
none_strange false true t rest h = rw (float_class t) h
none_strange false false t rest h = h

all_known : (a n : ℕ) → strange (flat_map made_inserts (range_with_len a n)) ≡ None
all_known a zero = refl
all_known a (suc n) = none_strange (a % 5 == 4) (a % 7 == 3) (a % 3)
    (flat_map made_inserts (range_with_len (a + 1) n)) (all_known (a + 1) n)

-- the made style has the classes of all inserts
pub classes_are_known : (n : ℕ) → unknown_class (made_blocks n) made_style ≡ None
classes_are_known n =
    ap strange (flat_first (made_blocks n))
    ∙ (ap (find (λ (number : ℕ). is_none (class_in made_classes number)))
    (classes_kept (first_items (made_blocks n)) ∙ ap (filter_map insert_class) (made_ones 0 n))
    ∙ all_known 0 n)

-- ---- and few

sizes_below : (number : ℕ) (xs : List Item) → length (sizes_of number xs) ≤ length (filter is_insert xs)
sizes_below number [] = omega arith
sizes_below number (BoxItem h d body ∷ xs) = sizes_below number xs
sizes_below number (Rule h d body ∷ xs) = sizes_below number xs
sizes_below number (Glue w s o k body ∷ xs) = sizes_below number xs
sizes_below number (Kern w body ∷ xs) = sizes_below number xs
sizes_below number (Penalty v body ∷ xs) = sizes_below number xs
sizes_below number (Insert c z body ∷ xs) = by (c == number) (sizes_below number xs)
  where
    by : (t : Bool) → length (sizes_of number xs) ≤ length (filter is_insert xs) →
        length (cons_option (if t then Some z else None) (sizes_of number xs)) ≤ suc (length (filter is_insert xs))
    by true h = omega (arith, h)
    by false h = omega (arith, h)
sizes_below number (Carry body ∷ xs) = sizes_below number xs

inserts_below : (a n : ℕ) → length (flat_map made_inserts (range_with_len a n)) ≤ 2 * n
inserts_below a zero = omega arith
inserts_below a (suc n) =
    let one = inserts_few a in
    let rest = inserts_below (a + 1) n in
    let e = length-append (made_inserts a) (flat_map made_inserts (range_with_len (a + 1) n)) in
    omega (arith, one, rest, e)

float_class_alone : float_numbers made_style ≡ 100 ∷ []
float_class_alone = refl

-- there are at most two floats for each paragraph
pub floats_are_few : (n : ℕ) → n ≤ 2000 → float_total (made_blocks n) made_style ≤ 2 ^ 12
floats_are_few n few =
    let sizes = λ (number : ℕ). sizes_of number (flat (made_blocks n) []) in
    let total : float_total (made_blocks n) made_style ≡ length (sizes 100) + 0 =
    ap (λ (numbers : List ℕ). sum_by (λ (own : List ℤ). length own) (map sizes numbers)) float_class_alone
    ∙ sum_by-cons (λ (own : List ℤ). length own) (sizes 100) [] in
    let first = ap (λ (xs : List Item). length (sizes_of 100 xs)) (flat_first (made_blocks n)) in
    let below = sizes_below 100 (first_items (made_blocks n)) in
    let made = ap length (made_ones 0 n) in
    let most = inserts_below 0 n in
    omega (arith, few, total, first, below, made, most)

-- ---- so that a list of them is refused for want of memory alone

abbrev pub IsMemory : FloatFault → Type 0
IsMemory (Class number) = ⊥
IsMemory (Limit count) = ⊥
IsMemory Memory = Unit {0}

pub only_memory : (n : ℕ) (galley : GalleyValue) (style : StyleValue) (fault : FloatFault) → n ≤ 2000 →
    galley ≡ made_galley n → style ≡ made_style → MakesList (Err fault) galley.blocks style → IsMemory fault
only_memory n galley style fault few made_is style_is list =
    of fault (subst (λ (it : StyleValue). MakesList (Err fault) (made_blocks n) it) style_is
    (subst (λ (it : GalleyValue). MakesList (Err fault) it.blocks style) made_is list))
  where
    of : (fault : FloatFault) → MakesList (Err fault) (made_blocks n) made_style → IsMemory fault
    of (Class number) unknown = let known = classes_are_known n in absurd (cc)
    of (Limit count) many = let least = floats_are_few n few in let is = many.1 in let more = many.2 in
        omega (arith, least, is, more)
    of Memory known = tt
