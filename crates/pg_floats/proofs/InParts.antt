-- The floats of blocks in parts, one behind the other.
use Rattle.std.proofs.Common.{◌≡◌, refl, sym, ap, ◌∙◌, ℕ, ◌+◌, ◌≤◌, List, [], ◌∷◌, ◌++◌, length, arith, append_assoc}
use Rattle.std.proofs.Common.{Option, Some, None, length-append}
use Rattle.std.specs.Prelude.{if◌then◌else◌}
use Rattle.std.specs.List.{AllByRecursion}
use Rattle.std.specs.Option.{option_or}
use Rattle.pg_list.specs.Barrier.{is_barrier}
use Rattle.pg_list.proofs.Sizes.{blocks_le}
use Rattle.pg_list.specs.Counts.{item_count, item_limit}
use Rattle.pg_list.specs.Places.{picked_items}
use Rattle.pg_list.specs.declared.blocks.Block.{Block}
use Rattle.pg_list.specs.Shapes.{IsBlock}
use Rattle.pg_style.specs.Values.{StyleValue}
use Rattle.pg_style.specs.declared.style.Class.{Class}
use Rattle.pg_floats.proofs.Lists.{flat_first, strange_is}
use Rattle.pg_floats.specs.AreFloats.{unknown_class}
use Rattle.pg_floats.specs.declared.callouts.Callout.{Callout}
use Rattle.pg_list.specs.declared.galley.Place.{Place}
use Rattle.pg_floats.specs.Callouts.{callouts_from, callouts_in, next_barrier, no_barrier, unknown_among, unknown_blocks}
use Rattle.pg_floats.specs.Places.{places_from, places_of_block}

-- ---- what holds of all holds of each part

all_front : {X : Type 0} (P : X → Type 0) (xs ys : List X) → AllByRecursion P (xs ++ ys) → AllByRecursion P xs
all_front P [] ys all = tt
all_front P (x ∷ xs) ys all = (all.0, all_front P xs ys all.1)

all_back : {X : Type 0} (P : X → Type 0) (xs ys : List X) → AllByRecursion P (xs ++ ys) → AllByRecursion P ys
all_back P [] ys all = all
all_back P (x ∷ xs) ys all = all_back P xs ys all.1

pub all_middle : {X : Type 0} (P : X → Type 0) (xs ys zs : List X) → AllByRecursion P (xs ++ ys ++ zs) →
    AllByRecursion P ys
all_middle P xs ys zs all = all_back P xs ys (all_front P (xs ++ ys) zs all)

pub all_last : {X : Type 0} (P : X → Type 0) (xs ys zs : List X) → AllByRecursion P (xs ++ ys ++ zs) →
    AllByRecursion P zs
all_last P xs ys zs all = all_back P (xs ++ ys) zs all

-- ---- lists added one behind the other

joined : {X : Type 0} (none one two three a b d : List X) → none ≡ [] → one ≡ none ++ a → two ≡ one ++ b →
    three ≡ two ++ d → three ≡ a ++ b ++ d
joined none one two three a b d start e f g = g
    ∙ ap (λ os. os ++ d) (f ∙ ap (λ os. os ++ b) (e ∙ ap (λ os. os ++ a) start))

-- ---- the first strange insert

or_assoc : (a b c : Option ℕ) → option_or a (option_or b c) ≡ option_or (option_or a b) c
or_assoc None b c = refl
or_assoc (Some n) b c = refl

unknown_append : (classes : List Class) (xs ys : List Block) →
    unknown_blocks classes (xs ++ ys) ≡ option_or (unknown_blocks classes xs) (unknown_blocks classes ys)
unknown_append classes [] ys = refl
unknown_append classes (x ∷ xs) ys =
    ap (option_or (unknown_among classes (picked_items x 0))) (unknown_append classes xs ys)
    ∙ or_assoc (unknown_among classes (picked_items x 0)) (unknown_blocks classes xs) (unknown_blocks classes ys)

-- the first of three parts
pub unknown_in_parts : (style : StyleValue) (xs ys zs : List Block) → unknown_class (xs ++ ys ++ zs) style
    ≡ option_or (option_or (unknown_blocks style.classes xs) (unknown_blocks style.classes ys))
    (unknown_blocks style.classes zs)
unknown_in_parts style xs ys zs = ap (unknown_among style.classes) (flat_first (xs ++ ys ++ zs))
    ∙ (sym (strange_is style.classes (xs ++ ys ++ zs)) ∙ (unknown_append style.classes (xs ++ ys) zs
    ∙ ap (λ (found : Option ℕ). option_or found (unknown_blocks style.classes zs)) (unknown_append style.classes xs ys)))

-- ---- callouts

barrier_append : (past n : ℕ) (xs ys : List Block) →
    next_barrier past n (xs ++ ys) ≡ next_barrier (next_barrier past (n + length xs) ys) n xs
barrier_append past n [] ys = ap (λ m. next_barrier past m ys) (omega arith)
barrier_append past n (x ∷ xs) ys =
    let e : n + 1 + length xs ≡ n + length (x ∷ xs) = omega arith in
    ap (λ m. if is_barrier x then n else m) (barrier_append past (n + 1) xs ys
    ∙ ap (λ m. next_barrier (next_barrier past m ys) (n + 1) xs) e)

callouts_append : (number past n : ℕ) (xs ys : List Block) → callouts_from number past n (xs ++ ys)
    ≡ callouts_from number (next_barrier past (n + length xs) ys) n xs ++ callouts_from number past (n + length xs) ys
callouts_append number past n [] ys = ap (λ m. callouts_from number past m ys) (omega arith)
callouts_append number past n (x ∷ xs) ys =
    let e : n + 1 + length xs ≡ n + length (x ∷ xs) = omega arith in
    let own : ℕ → List Callout = λ barrier. callouts_in number n barrier (picked_items x 0) in
    ap (λ barrier. own barrier ++ callouts_from number past (n + 1) (xs ++ ys)) (barrier_append past n (x ∷ xs) ys)
    ∙ (ap (λ cs. own (next_barrier (next_barrier past (n + length (x ∷ xs)) ys) n (x ∷ xs)) ++ cs)
    (callouts_append number past (n + 1) xs ys
    ∙ ap (λ m. callouts_from number (next_barrier past m ys) (n + 1) xs ++ callouts_from number past m ys) e)
    ∙ sym (append_assoc (own (next_barrier (next_barrier past (n + length (x ∷ xs)) ys) n (x ∷ xs)))
    (callouts_from number (next_barrier past (n + length (x ∷ xs)) ys) (n + 1) xs)
    (callouts_from number past (n + length (x ∷ xs)) ys)))

-- the callouts of three parts
callouts_in_parts : (number past middle last : ℕ) (xs ys zs : List Block) → middle ≡ length xs →
    last ≡ middle + length ys → callouts_from number past 0 (xs ++ ys ++ zs)
    ≡ callouts_from number (next_barrier (next_barrier past last zs) middle ys) 0 xs
    ++ callouts_from number (next_barrier past last zs) middle ys ++ callouts_from number past last zs
callouts_in_parts number past middle last xs ys zs e f =
    let start : 0 + length xs ≡ middle = omega (arith, e) in
    let both : 0 + length (xs ++ ys) ≡ last = omega (arith, e, f, length-append xs ys) in
    callouts_append number past 0 (xs ++ ys) zs
    ∙ (ap (λ m. callouts_from number (next_barrier past m zs) 0 (xs ++ ys) ++ callouts_from number past m zs) both
    ∙ ap (λ cs. cs ++ callouts_from number past last zs)
    (callouts_append number (next_barrier past last zs) 0 xs ys
    ∙ ap (λ m. callouts_from number (next_barrier (next_barrier past last zs) m ys) 0 xs
    ++ callouts_from number (next_barrier past last zs) m ys) start))

-- the callouts of three parts, added one behind the other
pub callouts_made : (number middle last past-before past-fresh : ℕ) (xs ys zs : List Block)
    (none one two three : List Callout) → middle ≡ length xs → last ≡ middle + length ys →
    past-fresh ≡ next_barrier no_barrier last zs → past-before ≡ next_barrier past-fresh middle ys → none ≡ [] →
    one ≡ none ++ callouts_from number past-before 0 xs → two ≡ one ++ callouts_from number past-fresh middle ys →
    three ≡ two ++ callouts_from number no_barrier last zs →
    three ≡ callouts_from number no_barrier 0 (xs ++ ys ++ zs)
callouts_made number middle last past-before past-fresh xs ys zs none one two three e f p q start a b d =
    joined none one two three (callouts_from number past-before 0 xs) (callouts_from number past-fresh middle ys)
    (callouts_from number no_barrier last zs) start a b d
    ∙ (ap (λ past. callouts_from number past 0 xs ++ callouts_from number past-fresh middle ys
    ++ callouts_from number no_barrier last zs) q
    ∙ (ap (λ past. callouts_from number (next_barrier past middle ys) 0 xs ++ callouts_from number past middle ys
    ++ callouts_from number no_barrier last zs) p
    ∙ sym (callouts_in_parts number no_barrier middle last xs ys zs e f)))

-- ---- places

places_append : (number n : ℕ) (xs ys : List Block) →
    places_from number n (xs ++ ys) ≡ places_from number n xs ++ places_from number (n + length xs) ys
places_append number n [] ys = ap (λ m. places_from number m ys) (omega arith)
places_append number n (x ∷ xs) ys =
    let e : n + 1 + length xs ≡ n + length (x ∷ xs) = omega arith in
    ap (λ ps. places_of_block number n x ++ ps) (places_append number (n + 1) xs ys
    ∙ ap (λ m. places_from number (n + 1) xs ++ places_from number m ys) e)
    ∙ sym (append_assoc (places_of_block number n x) (places_from number (n + 1) xs)
    (places_from number (n + length (x ∷ xs)) ys))

-- the places of three parts
places_in_parts : (number middle last : ℕ) (xs ys zs : List Block) → middle ≡ length xs →
    last ≡ middle + length ys → places_from number 0 (xs ++ ys ++ zs)
    ≡ places_from number 0 xs ++ places_from number middle ys ++ places_from number last zs
places_in_parts number middle last xs ys zs e f =
    let start : 0 + length xs ≡ middle = omega (arith, e) in
    let both : 0 + length (xs ++ ys) ≡ last = omega (arith, e, f, length-append xs ys) in
    places_append number 0 (xs ++ ys) zs
    ∙ (ap (λ m. places_from number 0 (xs ++ ys) ++ places_from number m zs) both
    ∙ ap (λ ps. ps ++ places_from number last zs) (places_append number 0 xs ys
    ∙ ap (λ m. places_from number 0 xs ++ places_from number m ys) start))

pub places_made : (number middle last : ℕ) (xs ys zs : List Block) (none one two three : List Place) →
    middle ≡ length xs → last ≡ middle + length ys → none ≡ [] → one ≡ none ++ places_from number 0 xs →
    two ≡ one ++ places_from number middle ys → three ≡ two ++ places_from number last zs →
    three ≡ places_from number 0 (xs ++ ys ++ zs)
places_made number middle last xs ys zs none one two three e f start a b d =
    joined none one two three (places_from number 0 xs) (places_from number middle ys) (places_from number last zs)
    start a b d ∙ sym (places_in_parts number middle last xs ys zs e f)

-- ---- how many

pub parts_few : (xs ys zs : List Block) → AllByRecursion IsBlock (xs ++ ys ++ zs) →
    item_count (xs ++ ys ++ zs) ≤ item_limit → length xs + length ys + length zs ≤ item_limit
parts_few xs ys zs all few =
    omega (arith, few, blocks_le (xs ++ ys ++ zs) all, length-append (xs ++ ys) zs, length-append xs ys)
