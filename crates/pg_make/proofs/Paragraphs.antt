-- The generator's paragraphs are choices of few items.
use Rattle.std.proofs.Common.{◌≡◌, refl, subst, sym, ap, ◌∙◌, ℕ, zero, suc, ◌+◌, ◌-◌, ◌*◌, ◌<◌, ◌≤◌, ◌%◌, List, [], ◌∷◌, ◌++◌, length, append_assoc, arith, Bool, true, false}
use Rattle.std.specs.Prelude.{◌==◌, if◌then◌else◌, nat_lt, pos, negsuc, slice_get, Some, ℤ, codes}
use Rattle.std.specs.List.{AllByRecursion, filter, flat_map, range_with_len}
use Rattle.std.proofs.lemmas.Grind.{flat_map-append}
use Rattle.std.proofs.lemmas.List.{append-nil, length-append}
use Rattle.std.proofs.lemmas.List.Elements.{filter-append}
use Rattle.std.proofs.lemmas.List.Sums.{sum_by-append}
use Rattle.pg_lemmas.proofs.Lists.{range_more}
use Rattle.pg_list.specs.Counts.{block_size, item_count}
use Rattle.pg_list.specs.declared.item.Item.{Item}
use Rattle.pg_list.specs.declared.variants.Variant.{Variant}
use Rattle.pg_list.specs.declared.item.Item.TheVariants.{Glue}
use Rattle.pg_list.specs.declared.item.Order.TheVariants.{Finite}
use Rattle.pg_make.specs.Made.{points}
use Rattle.pg_list.specs.declared.blocks.Block.TheVariants.{One, Choice}
use Rattle.pg_list.specs.Shapes.{HasItemsInRange, IsChoice, IsVariant, is_insert}
use Rattle.pg_make.specs.Generated.{made_blocks, made_box, made_break, made_float, made_gap, made_inserts, made_items, made_length, made_line, made_note, made_paragraph, made_skip, made_variants, skip_before}

-- the image of a range with one more
pub flat_more : {Y : Type 0} (f : ℕ → List Y) (a n : ℕ) →
    flat_map f (range_with_len a (suc n)) ≡ flat_map f (range_with_len a n) ++ f (a + n)
flat_more f a n = ap (flat_map f) (range_more a n) ∙ flat_map-append f (range_with_len a n) ((a + n) ∷ [])
    ∙ ap (λ ys. flat_map f (range_with_len a n) ++ ys) (append-nil (f (a + n)))

-- a list that is the image of n numbers, with the next one pushed
pub one_behind : {Y : Type 0} (f : ℕ → List Y) (a n m : ℕ) (xs ys : List Y) → xs ≡ flat_map f (range_with_len a n) →
    ys ≡ xs ++ f m → m ≡ a + n → ys ≡ flat_map f (range_with_len a (n + 1))
one_behind f a n m xs ys e p q = p ∙ (ap (λ zs. zs ++ f m) e
    ∙ (ap (λ k. flat_map f (range_with_len a n) ++ f k) q ∙ (sym (flat_more f a n)
    ∙ ap (λ k. flat_map f (range_with_len a k)) one)))
  where
    one : suc n ≡ n + 1
    one = omega arith

-- two pushed one behind the other
pub two_pushed : {X : Type 0} (old one two : List X) (x y x' y' : X) → one ≡ old ++ x ∷ [] → two ≡ one ++ y ∷ [] →
    x ≡ x' → y ≡ y' → two ≡ old ++ x' ∷ y' ∷ []
two_pushed old one two x y x' y' e f p q = f ∙ (ap (λ xs. xs ++ y ∷ []) e ∙ (append_assoc old (x ∷ []) (y ∷ [])
    ∙ (ap (λ z. old ++ z ∷ y ∷ []) p ∙ ap (λ z. old ++ x' ∷ z ∷ []) q)))

-- a list pushed, and one more behind it
pub list_pushed : {X : Type 0} (old one two xs : List X) (y y' : X) → one ≡ old ++ xs → two ≡ one ++ y ∷ [] →
    y ≡ y' → two ≡ old ++ (xs ++ y' ∷ [])
list_pushed old one two xs y y' e f q = f ∙ (ap (λ zs. zs ++ y ∷ []) e ∙ (append_assoc old xs (y ∷ [])
    ∙ ap (λ z. old ++ (xs ++ z ∷ [])) q))

-- glue stands in front of all but the first
pub skip_later : (i : ℕ) → 0 < i → skip_before i ≡ One made_skip ∷ []
skip_later zero h = absurd (omega (arith, h))
skip_later (suc i) h = refl

-- ---- lengths

pub inserts_few : (i : ℕ) → length (made_inserts i) ≤ 2
inserts_few i = by (i % 5 == 4) (i % 7 == 3)
  where
    by : (a b : Bool) → length ((if a then made_note ∷ [] else []) ++ (if b then made_float (i % 3) ∷ [] else [])) ≤ 2
    by true true = omega arith
    by true false = omega arith
    by false true = omega arith
    by false false = omega arith

line_few : (i k j : ℕ) → length (made_line i k j) ≤ 5
line_few i k j = by (j == 1) (nat_lt j k)
  where
    by : (a b : Bool) →
        length (made_box ∷ ((if a then made_inserts i else []) ++ (if b then made_gap k j else []))) ≤ 5
    by true true = let h = inserts_few i in let e = length-append (made_inserts i) (made_gap k j) in omega (arith, h, e)
    by true false = let h = inserts_few i in let e = length-append (made_inserts i) [] in omega (arith, h, e)
    by false true = omega arith
    by false false = omega arith

lines_few : (i k a n : ℕ) → length (flat_map (made_line i k) (range_with_len a n)) ≤ 5 * n
lines_few i k a zero = omega arith
lines_few i k a (suc n) =
    let h = line_few i k a in
    let r = lines_few i k (a + 1) n in
    let e = length-append (made_line i k a) (flat_map (made_line i k) (range_with_len (a + 1) n)) in
    omega (arith, h, r, e)

items_few : (i k : ℕ) → length (made_items i k) ≤ 5 * k
items_few i k = lines_few i k 1 k

-- ---- inserts

insert_own : (t : ℕ) → is_insert (made_float t) ≡ true
insert_own zero = refl
insert_own (suc zero) = refl
insert_own (suc (suc t)) = refl

own_inserts : (i : ℕ) → filter is_insert (made_inserts i) ≡ made_inserts i
own_inserts i = by (i % 5 == 4) (i % 7 == 3)
  where
    one : filter is_insert (made_float (i % 3) ∷ []) ≡ made_float (i % 3) ∷ []
    one = rw (insert_own (i % 3)) refl

    by : (a b : Bool) → filter is_insert ((if a then made_note ∷ [] else []) ++ (if b then made_float (i % 3) ∷ [] else []))
        ≡ (if a then made_note ∷ [] else []) ++ (if b then made_float (i % 3) ∷ [] else [])
    by true true = ap (λ xs. made_note ∷ xs) one
    by true false = refl
    by false true = one
    by false false = refl

gap_inserts : (k j : ℕ) → filter is_insert (made_gap k j) ≡ []
gap_inserts k j = by (j == 1) (j + 1 == k)
  where
    by : (a b : Bool) → filter is_insert (made_break a b ∷ Glue (points 3) (pos 0) Finite (pos 0) (codes "\\glue(\\baselineskip) 3.0") ∷ []) ≡ []
    by true true = refl
    by true false = refl
    by false true = refl
    by false false = refl

gap_or_none : (b : Bool) (k j : ℕ) → filter is_insert (if b then made_gap k j else []) ≡ []
gap_or_none true k j = gap_inserts k j
gap_or_none false k j = refl

-- lines behind the first have none
later_line : (i k j : ℕ) → 2 ≤ j → filter is_insert (made_line i k j) ≡ []
later_line i k j h = by (j == 1) (grind (arith, h))
  where
    by : (b : Bool) → b ≡ false →
        filter is_insert ((if b then made_inserts i else []) ++ (if nat_lt j k then made_gap k j else [])) ≡ []
    by true e = absurd cc
    by false e = gap_or_none (nat_lt j k) k j

later_lines : (i k j n : ℕ) → 2 ≤ j → filter is_insert (flat_map (made_line i k) (range_with_len j n)) ≡ []
later_lines i k j zero h = refl
later_lines i k j (suc n) h =
    filter-append is_insert (made_line i k j) (flat_map (made_line i k) (range_with_len (j + 1) n))
    ∙ (ap (λ xs. xs ++ filter is_insert (flat_map (made_line i k) (range_with_len (j + 1) n))) (later_line i k j h)
    ∙ later_lines i k (j + 1) n (omega (arith, h)))

first_line : (i k : ℕ) → filter is_insert (made_line i k 1) ≡ made_inserts i
first_line i k = filter-append is_insert (made_inserts i) (if nat_lt 1 k then made_gap k 1 else [])
    ∙ (ap (λ xs. filter is_insert (made_inserts i) ++ xs) (gap_or_none (nat_lt 1 k) k 1)
    ∙ (append-nil (filter is_insert (made_inserts i)) ∙ own_inserts i))

pub inserts_are : (i k : ℕ) → filter is_insert (made_items i (suc k)) ≡ made_inserts i
inserts_are i k =
    filter-append is_insert (made_line i (suc k) 1) (flat_map (made_line i (suc k)) (range_with_len 2 k))
    ∙ (ap (λ xs. xs ++ filter is_insert (flat_map (made_line i (suc k)) (range_with_len 2 k))) (first_line i (suc k))
    ∙ (ap (λ xs. made_inserts i ++ xs) (later_lines i (suc k) 2 k (omega arith)) ∙ append-nil (made_inserts i)))

-- ---- the last line

got_behind : (xs : List Item) (x : Item) → slice_get (xs ++ x ∷ []) (length xs) ≡ Some x
got_behind [] x = refl
got_behind (y ∷ xs) x = got_behind xs x

last_got : (xs : List Item) (x : Item) → slice_get (xs ++ x ∷ []) (length (xs ++ x ∷ []) - 1) ≡ Some x
last_got xs x =
    let l = length-append xs (x ∷ []) in
    let e : length (xs ++ x ∷ []) - 1 ≡ length xs = omega (arith, l) in
    ap (slice_get (xs ++ x ∷ [])) e ∙ got_behind xs x

last_line : (i k j : ℕ) → 2 ≤ j → k ≤ j → made_line i k j ≡ made_box ∷ []
last_line i k j h l = by (j == 1) (nat_lt j k) (grind (arith, h)) (grind (arith, l))
  where
    by : (a b : Bool) → a ≡ false → b ≡ false →
        made_box ∷ ((if a then made_inserts i else []) ++ (if b then made_gap k j else [])) ≡ made_box ∷ []
    by true b e f = absurd cc
    by false true e f = absurd cc
    by false false e f = refl

pub ends_with_box : (i k : ℕ) →
    slice_get (made_items i (suc (suc k))) (length (made_items i (suc (suc k))) - 1) ≡ Some made_box
ends_with_box i k = subst (λ xs. slice_get xs (length xs - 1) ≡ Some made_box)
    (sym (flat_more (made_line i (suc (suc k))) 1 (suc k)
    ∙ ap (λ xs. flat_map (made_line i (suc (suc k))) (range_with_len 1 (suc k)) ++ xs)
    (last_line i (suc (suc k)) (1 + suc k) (omega arith) (omega arith))))
    (last_got (flat_map (made_line i (suc (suc k))) (range_with_len 1 (suc k))) made_box)

-- ---- choices

a_variant : (i k : ℕ) (looseness : ℤ) (demerits : ℕ) → 2 ≤ k →
    IsVariant (record { looseness = looseness; demerits = demerits; items = made_items i k })
a_variant i zero looseness demerits h = absurd (omega (arith, h))
a_variant i (suc zero) looseness demerits h = absurd (omega (arith, h))
a_variant i (suc (suc k)) looseness demerits h = record { begins = refl; ends = rw (ends_with_box i k) refl }

same_inserts : (i k l : ℕ) → 1 ≤ k → 1 ≤ l →
    filter is_insert (made_items i k) ≡ filter is_insert (made_items i l)
same_inserts i zero l h m = absurd (omega (arith, h))
same_inserts i (suc k) zero h m = absurd (omega (arith, m))
same_inserts i (suc k) (suc l) h m = inserts_are i k ∙ sym (inserts_are i l)

pub is_choice : (i : ℕ) → AllByRecursion HasItemsInRange (made_variants i) → IsChoice (made_variants i)
is_choice i ranges =
    let least : 4 ≤ made_length i = omega arith in
    record {
      shape = record {
        some = omega arith;
        few = omega arith;
        each = (
          a_variant i (made_length i) (pos 0) 0 (omega (arith, least)),
          (
            a_variant i (made_length i - 1) (negsuc 0) 400 (omega (arith, least)),
            (a_variant i (made_length i + 1) (pos 1) 400 (omega (arith, least)), tt),
          ),
        );
      };
      equal_inserts = (
        same_inserts i (made_length i - 1) (made_length i) (omega (arith, least)) (omega (arith, least)),
        (same_inserts i (made_length i + 1) (made_length i) (omega (arith, least)) (omega (arith, least)), tt),
      );
      limits = (
        record { looseness = omega arith; demerits = omega arith },
        (
          record { looseness = omega arith; demerits = omega arith },
          (record { looseness = omega arith; demerits = omega arith }, tt),
        ),
      );
      ranges = ranges;
    }

-- three variants of a paragraph, pushed one behind the other
pub pushed_choice : (i : ℕ) (none one two three : List Variant) (x y z : Variant) → none ≡ [] → one ≡ none ++ x ∷ [] →
    two ≡ one ++ y ∷ [] → three ≡ two ++ z ∷ [] → x ∷ y ∷ z ∷ [] ≡ made_variants i →
    HasItemsInRange x → HasItemsInRange y → HasItemsInRange z → three ≡ made_variants i × IsChoice three
pushed_choice i none one two three x y z e f g h is a b c =
    let l : three ≡ made_variants i =
    h ∙ (ap (λ xs. xs ++ z ∷ []) (g ∙ ap (λ xs. xs ++ y ∷ []) (f ∙ ap (λ xs. xs ++ x ∷ []) e)) ∙ is) in
    (l, subst IsChoice (sym l) (is_choice i (subst (AllByRecursion HasItemsInRange) is (a, (b, (c, tt))))))

-- ---- how many items there are

length_most : (i : ℕ) → made_length i ≤ 12
length_most i = omega (arith, mod_below (5 * i))
  where
    mod_below : (n : ℕ) → n % 9 < 9
    mod_below n = grind arith

choice_few : (i : ℕ) → block_size (Choice (made_variants i)) ≤ 185
choice_few i =
    let l = length_most i in
    let a = items_few i (made_length i) in
    let b = items_few i (made_length i - 1) in
    let c = items_few i (made_length i + 1) in
    omega (arith, l, a, b, c)

paragraph_few : (i : ℕ) → item_count (made_paragraph i) ≤ 200
paragraph_few zero = let h = choice_few 0 in omega (arith, h)
paragraph_few (suc i) = let h = choice_few (suc i) in omega (arith, h)

pub blocks_few : (n : ℕ) → item_count (made_blocks n) ≤ 200 * n
blocks_few zero = omega arith
blocks_few (suc n) =
    let e : item_count (made_blocks (suc n)) ≡ item_count (made_blocks n) + item_count (made_paragraph (0 + n)) =
    ap item_count (flat_more made_paragraph 0 n) ∙ sum_by-append block_size (made_blocks n) (made_paragraph (0 + n)) in
    let h = blocks_few n in
    let p = paragraph_few (0 + n) in
    omega (arith, e, h, p)
