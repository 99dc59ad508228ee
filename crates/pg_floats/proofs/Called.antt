-- The floats called before a place, and the sizes of floats, from the lists that are kept.
use Rattle.std.proofs.Common.{◌≡◌, refl, sym, ap, ◌∙◌, subst, ℕ, zero, suc, ◌+◌, ◌≤◌, List, [], ◌∷◌, ◌++◌}
use Rattle.std.proofs.Common.{length, map, take, drop, append_assoc, arith, Bool, true, false, Option, Some, None}
use Rattle.std.proofs.Common.{◌⊎◌, inl, inr, ℤ}
use Rattle.std.specs.Prelude.{◌==◌, if◌then◌else◌, nat_lt, slice_get, option_map, unsigned_abs}
use Rattle.std.specs.Option.{option_map_or}
use Rattle.std.specs.List.{AllByRecursion, cons_option}
use Rattle.std.specs.List.Sorted.{IsPartitionedBy, IsPartitionPoint}
use Rattle.std.proofs.lemmas.Bool.Decides.{nat_tests}
use Rattle.pg_list.specs.Barrier.{is_barrier}
use Rattle.pg_list.specs.declared.item.Item.{Item}
use Rattle.pg_list.specs.declared.blocks.Block.{Block}
use Rattle.pg_list.specs.declared.galley.Place.{Place}
use Rattle.pg_list.specs.Places.{picked_items, items_around}
use Rattle.pg_list.specs.Shapes.{IsBlock}
use Rattle.pg_list.specs.Flat.{flat, items_before}
use Rattle.pg_style.specs.Values.{StyleValue}
use Rattle.pg_rules.specs.Floats.{sizes_of, insert_size, float_numbers, entry}
use Rattle.law_places.proofs.Measures.{inserted_append}
use Rattle.pg_floats.specs.declared.callouts.Callout.{Callout}
use Rattle.pg_floats.specs.AreFloats.{AreFloats, float_size}
use Rattle.pg_floats.specs.Callouts.{callouts_in, callouts_from, class_floats, next_barrier, no_barrier}
use Rattle.pg_floats.specs.FloatsValue.{ClassFloatsValue, callout_at}
use Rattle.pg_floats.proofs.Parts.{found, take_short}
use Rattle.pg_floats.proofs.Lists.{length_from, sizes_from, size_of, flat_first}
use Rattle.pg_lemmas.proofs.Lists.{all_append}
use Rattle.pg_lemmas.proofs.Numbers.{less_of}

-- ---- the callouts of a class stand by block

in_block : (P : ℕ → Type 0) (number b k : ℕ) (items : List Item) → P b →
    AllByRecursion (λ (c : Callout). P c.block) (callouts_in number b k items)
in_block P number b k [] h = tt
in_block P number b k (item ∷ items) h =
    by (insert_size number item) (callouts_in number b k items) (in_block P number b k items h)
  where
    by : (o : Option ℤ) (xs : List Callout) → AllByRecursion (λ (c : Callout). P c.block) xs →
        AllByRecursion (λ (c : Callout). P c.block)
        (cons_option (option_map (λ (size : ℤ). record { block = b; barrier = k; size = unsigned_abs size }) o) xs)
    by None xs a = a
    by (Some z) xs a = (h, a)

pub lt_no : (m n : ℕ) → n ≤ m → nat_lt m n ≡ false
lt_no m n h = grind (arith, nat_tests)

all_below : (number past b n : ℕ) (blocks : List Block) → n + length blocks ≤ b →
    AllByRecursion (λ (c : Callout). nat_lt c.block b ≡ true) (callouts_from number past n blocks)
all_below number past b n [] h = tt
all_below number past b n (block ∷ blocks) h =
    all_append _ (callouts_in number n (next_barrier past n (block ∷ blocks)) (picked_items block 0))
    (callouts_from number past (n + 1) blocks)
    (in_block (λ m. nat_lt m b ≡ true) number n (next_barrier past n (block ∷ blocks)) (picked_items block 0)
    (less_of n b (omega (arith, h))))
    (all_below number past b (n + 1) blocks (omega (arith, h)))

all_above : (number past b n : ℕ) (blocks : List Block) → b ≤ n →
    AllByRecursion (λ (c : Callout). nat_lt c.block b ≡ false) (callouts_from number past n blocks)
all_above number past b n [] h = tt
all_above number past b n (block ∷ blocks) h =
    all_append _ (callouts_in number n (next_barrier past n (block ∷ blocks)) (picked_items block 0))
    (callouts_from number past (n + 1) blocks)
    (in_block (λ m. nat_lt m b ≡ false) number n (next_barrier past n (block ∷ blocks)) (picked_items block 0)
    (lt_no n b h))
    (all_above number past b (n + 1) blocks (omega (arith, h)))

-- the first barrier behind the blocks up to the b-th
abbrev past_cut : ℕ → ℕ → ℕ → List Block → ℕ
past_cut past b n blocks = next_barrier past (n + length (take b blocks)) (drop b blocks)

next_cut : (past b n : ℕ) (blocks : List Block) →
    next_barrier past n blocks ≡ next_barrier (past_cut past b n blocks) n (take b blocks)
next_cut past zero n blocks = ap (λ m. next_barrier past m blocks) (omega arith)
next_cut past (suc b) n [] = refl
next_cut past (suc b) n (block ∷ blocks) =
    let e : n + 1 + length (take b blocks) ≡ n + suc (length (take b blocks)) = omega arith in
    ap (λ m. if is_barrier block then n else m) (next_cut past b (n + 1) blocks
    ∙ ap (λ m. next_barrier (next_barrier past m (drop b blocks)) (n + 1) (take b blocks)) e)

cut : (number past b n : ℕ) (blocks : List Block) →
    callouts_from number past n blocks ≡ callouts_from number (past_cut past b n blocks) n (take b blocks)
    ++ callouts_from number past (n + length (take b blocks)) (drop b blocks)
cut number past zero n blocks = ap (λ m. callouts_from number past m blocks) (omega arith)
cut number past (suc b) n [] = refl
cut number past (suc b) n (block ∷ blocks) =
    let e : n + 1 + length (take b blocks) ≡ n + suc (length (take b blocks)) = omega arith in
    let own : List Callout = callouts_in number n (next_barrier past n (block ∷ blocks)) (picked_items block 0) in
    ap (λ xs. own ++ xs) (cut number past b (n + 1) blocks
    ∙ ap (λ m. callouts_from number (next_barrier past m (drop b blocks)) (n + 1) (take b blocks)
    ++ callouts_from number past m (drop b blocks)) e)
    ∙ sym (append_assoc own (callouts_from number (past_cut past (suc b) n (block ∷ blocks)) (n + 1) (take b blocks))
    (callouts_from number past (n + suc (length (take b blocks))) (drop b blocks)))
    ∙ ap (λ k. (callouts_in number n k (picked_items block 0)
    ++ callouts_from number (past_cut past (suc b) n (block ∷ blocks)) (n + 1) (take b blocks))
    ++ callouts_from number past (n + suc (length (take b blocks))) (drop b blocks))
    (next_cut past (suc b) n (block ∷ blocks))

cut_long : (b : ℕ) (blocks : List Block) → (drop b blocks ≡ []) ⊎ (length (take b blocks) ≡ b)
cut_long zero blocks = inr refl
cut_long (suc b) [] = inl refl
cut_long (suc b) (block ∷ blocks) = elim (cut_long b blocks) [ inl e ↦ inl e | inr e ↦ inr (ap suc e) ]

all_take : (b : ℕ) (blocks : List Block) → AllByRecursion IsBlock blocks → AllByRecursion IsBlock (take b blocks)
all_take zero blocks all = tt
all_take (suc b) [] all = tt
all_take (suc b) (block ∷ blocks) all = (all.0, all_take b blocks all.1)

rest_above : (number past b : ℕ) (blocks : List Block) →
    AllByRecursion (λ (c : Callout). nat_lt c.block b ≡ false)
    (callouts_from number past (0 + length (take b blocks)) (drop b blocks))
rest_above number past b blocks = elim (cut_long b blocks) [
  | inl none ↦ subst (λ (rest : List Block). AllByRecursion (λ (c : Callout). nat_lt c.block b ≡ false)
      (callouts_from number past (0 + length (take b blocks)) rest)) (sym none) tt
  | inr long ↦ all_above number past b (0 + length (take b blocks)) (drop b blocks) (omega (arith, long))
]

pub above_is : (number past b n : ℕ) (blocks : List Block) → AllByRecursion IsBlock blocks →
    n ≤ length (callouts_from number past 0 blocks) →
    (IsPartitionedBy (λ (c : Callout). nat_lt c.block b) (callouts_from number past 0 blocks) →
    IsPartitionPoint (λ (c : Callout). nat_lt c.block b ≡ true) (λ (c : Callout). nat_lt c.block b ≡ false)
    (callouts_from number past 0 blocks) n) →
    n ≡ length (sizes_of number (flat (take b blocks) []))
above_is number past b n blocks all le point =
    let p : Callout → Bool = λ c. nat_lt c.block b in
    let xs : List Callout = callouts_from number (past_cut past b 0 blocks) 0 (take b blocks) in
    let ys : List Callout = callouts_from number past (0 + length (take b blocks)) (drop b blocks) in
    let e : callouts_from number past 0 blocks ≡ xs ++ ys = cut number past b 0 blocks in
    let a = all_below number (past_cut past b 0 blocks) b 0 (take b blocks) (omega (arith, take_short b blocks)) in
    found p (record { block = 0; barrier = 0; size = 0 }) xs ys (callouts_from number past 0 blocks) n e a
    (rest_above number past b blocks) le point
    ∙ length_from number (past_cut past b 0 blocks) 0 (take b blocks) (all_take b blocks all)

-- ---- with the items of the variant

within_is : (number i : ℕ) (items : List Item) →
    length (sizes_of number (take i items)) ≡ length (sizes_of number (if i == 0 then [] else take i items))
within_is number zero items = refl
within_is number (suc i) items =
    ap (λ (t : Bool). length (sizes_of number (if t then [] else take (suc i) items))) (sym (suc_not i))
  where
    suc_not : (i : ℕ) → (suc i == 0) ≡ false
    suc_not i = grind (arith, nat_tests)

pub before_is : (number above within : ℕ) (blocks : List Block) (at : Place) →
    above ≡ length (sizes_of number (flat (take at.block blocks) [])) →
    within ≡ length (sizes_of number (take at.index (items_around blocks at))) →
    above + within ≡ length (sizes_of number (items_before blocks at))
before_is number above within blocks at a w =
    let s = inserted_append number (flat (take at.block blocks) [])
    (if at.index == 0 then [] else take at.index (items_around blocks at)) in
    let t = w ∙ within_is number at.index (items_around blocks at) in
    omega (arith, a, t, s)

-- ---- what is kept for a slot

record IsSlot (blocks : List Block) (numbers : List ℕ) (slot : ℕ) (kept : ClassFloatsValue) : Type 0 where
  number : ℕ
  there : slice_get numbers slot ≡ Some number
  same : kept ≡ class_floats blocks number

slot_is : (blocks : List Block) (numbers : List ℕ) (slot : ℕ) (kept : ClassFloatsValue) →
    slice_get (map (class_floats blocks) numbers) slot ≡ Some kept → IsSlot blocks numbers slot kept
slot_is blocks [] slot kept e = absurd (cc)
slot_is blocks (number ∷ numbers) zero kept e =
    record { number = number; there = refl; same = let s : class_floats blocks number ≡ kept = cc in sym s }
slot_is blocks (number ∷ numbers) (suc slot) kept e =
    let r = slot_is blocks numbers slot kept e in
    record { number = r.number; there = r.there; same = r.same }

entry_at : (f : ℕ → ℕ) (numbers : List ℕ) (slot number : ℕ) → slice_get numbers slot ≡ Some number →
    entry (map f numbers) slot ≡ f number
entry_at f [] slot number e = absurd (cc)
entry_at f (n ∷ numbers) zero number e = let same : n ≡ number = cc in ap f same
entry_at f (n ∷ numbers) (suc slot) number e = entry_at f numbers slot number e

entry_none : (blocks : List Block) (f : ℕ → ℕ) (numbers : List ℕ) (slot : ℕ) →
    slice_get (map (class_floats blocks) numbers) slot ≡ None → entry (map f numbers) slot ≡ 0
entry_none blocks f [] slot e = refl
entry_none blocks f (n ∷ numbers) zero e = absurd (cc)
entry_none blocks f (n ∷ numbers) (suc slot) e = entry_none blocks f numbers slot e

-- what is counted class by class, where the list has no such slot
pub counted_none : (blocks : List Block) (style : StyleValue) (count : ℕ → ℕ) (list : List ClassFloatsValue)
    (slot : ℕ) → AreFloats blocks style list →
    slice_get list slot ≡ None → 0 ≡ entry (map count (float_numbers style)) slot
counted_none blocks style count list slot are e =
    sym (entry_none blocks count (float_numbers style) slot (ap (λ xs. slice_get xs slot) (sym are.floats_are) ∙ e))

-- and where it has
pub counted_some : (blocks : List Block) (style : StyleValue) (count : ℕ → ℕ) (list : List ClassFloatsValue)
    (slot n : ℕ) (kept : ClassFloatsValue) → AreFloats blocks style list →
    slice_get list slot ≡ Some kept →
    ((number : ℕ) → AllByRecursion IsBlock blocks → kept ≡ class_floats blocks number → n ≡ count number) →
    n ≡ entry (map count (float_numbers style)) slot
counted_some blocks style count list slot n kept are e counts =
    let is = slot_is blocks (float_numbers style) slot kept (ap (λ xs. slice_get xs slot) (sym are.floats_are)
    ∙ e) in
    counts is.number are.shape is.same ∙ sym (entry_at count (float_numbers style) slot is.number is.there)

-- ---- sizes

mapped_at : {X Y : Type 0} (f : X → Y) (xs : List X) (k : ℕ) →
    slice_get (map f xs) k ≡ option_map f (slice_get xs k)
mapped_at f [] k = refl
mapped_at f (x ∷ xs) zero = refl
mapped_at f (x ∷ xs) (suc k) = mapped_at f xs k

pub size_is : (blocks : List Block) (style : StyleValue) (list : List ClassFloatsValue) (slot number : ℕ) →
    AreFloats blocks style list →
    option_map size_of (callout_at list slot number) ≡ float_size blocks style slot number
size_is blocks style list slot number are =
    ap (λ (xs : List ClassFloatsValue). option_map size_of (callout_at xs slot number)) are.floats_are
    ∙ by (float_numbers style) slot
  where
    by : (numbers : List ℕ) (slot : ℕ) →
        option_map size_of (callout_at (map (class_floats blocks) numbers) slot number)
        ≡ option_map_or (λ (sizes : List ℤ). slice_get sizes number)
        (slice_get (map (λ number. sizes_of number (flat blocks [])) numbers) slot) None
    by [] slot = refl
    by (n ∷ numbers) zero =
        sym (mapped_at size_of (callouts_from n no_barrier 0 blocks) number)
        ∙ (ap (λ (xs : List ℤ). slice_get xs number) (sizes_from n no_barrier 0 blocks are.shape)
        ∙ ap (λ (xs : List Item). slice_get (sizes_of n xs) number) (sym (flat_first blocks)))
    by (n ∷ numbers) (suc slot) = by numbers slot
