-- The floats called before the last barrier in front of a block, from the callouts that are kept.
use Rattle.std.proofs.Common.{◌≡◌, refl, sym, ap, ◌∙◌, subst, ℕ, zero, suc, ◌+◌, ◌<◌, ◌≤◌, List, [], ◌∷◌, ◌++◌}
use Rattle.std.proofs.Common.{length, length-append, take, append_assoc, arith, Bool, true, false, Option, Some, None, ℤ}
use Rattle.std.specs.Prelude.{◌||◌, if◌then◌else◌, nat_lt, option_map, unsigned_abs}
use Rattle.std.specs.List.{AllByRecursion, cons_option, list_any}
use Rattle.std.specs.List.Sorted.{IsPartitionedBy, IsPartitionPoint}
use Rattle.std.proofs.lemmas.List.{length-map}
use Rattle.std.proofs.lemmas.List.Elements.{filter_map-append}
use Rattle.pg_list.specs.Barrier.{is_barrier, up_to_barrier}
use Rattle.pg_list.specs.declared.item.Item.{Item}
use Rattle.pg_list.specs.declared.blocks.Block.{Block}
use Rattle.pg_list.specs.Places.{picked_items}
use Rattle.pg_list.specs.Shapes.{IsBlock}
use Rattle.pg_list.specs.Flat.{flat}
use Rattle.pg_rules.specs.Floats.{insert_size, sizes_of}
use Rattle.pg_floats.specs.declared.callouts.Callout.{Callout}
use Rattle.pg_floats.specs.Callouts.{callouts_in, callouts_from, first_items, next_barrier}
use Rattle.pg_floats.proofs.Called.{lt_no}
use Rattle.pg_floats.proofs.Lists.{flat_first, picked_range, size_of, sizes_in}
use Rattle.pg_floats.proofs.Parts.{found}
use Rattle.pg_lemmas.proofs.Bools.{by_bool, if_false, if_true}
use Rattle.pg_lemmas.proofs.Lists.{all_append, no_items}
use Rattle.pg_lemmas.proofs.Numbers.{less_of}

-- ---- the first barrier from a block on

-- it is no barrier before
next_least : (past m n : ℕ) (blocks : List Block) → m ≤ n → m ≤ past → m ≤ next_barrier past n blocks
next_least past m n [] h k = k
next_least past m n (block ∷ blocks) h k = by (is_barrier block) (next_least past m (n + 1) blocks (omega arith) k)
  where
    by : (b : Bool) → m ≤ next_barrier past (n + 1) blocks → m ≤ (if b then n else next_barrier past (n + 1) blocks)
    by true r = h
    by false r = r

-- where one of the next blocks is a barrier, it is among them
next_soon : (past b n : ℕ) (blocks : List Block) → list_any is_barrier (take b blocks) ≡ true →
    next_barrier past n blocks < n + b
next_soon past zero n blocks h = absurd cc
next_soon past (suc b) n [] h = absurd cc
next_soon past (suc b) n (block ∷ blocks) h = by (is_barrier block) h (next_soon past b (n + 1) blocks)
  where
    by : (t : Bool) → (t || list_any is_barrier (take b blocks)) ≡ true →
        (list_any is_barrier (take b blocks) ≡ true → next_barrier past (n + 1) blocks < n + 1 + b) →
        (if t then n else next_barrier past (n + 1) blocks) < n + suc b
    by true h r = omega arith
    by false h r = let s : next_barrier past (n + 1) blocks < n + 1 + b = r h in omega (arith, s)

-- where none of them is, it is none of them
next_late : (past b n : ℕ) (blocks : List Block) → n + b ≤ past → list_any is_barrier (take b blocks) ≡ false →
    n + b ≤ next_barrier past n blocks
next_late past zero n blocks k h = let r = next_least past n n blocks (omega arith) (omega (arith, k)) in omega (arith, r)
next_late past (suc b) n [] k h = k
next_late past (suc b) n (block ∷ blocks) k h =
    by (is_barrier block) h (next_late past b (n + 1) blocks (omega (arith, k)))
  where
    by : (t : Bool) → (t || list_any is_barrier (take b blocks)) ≡ false →
        (list_any is_barrier (take b blocks) ≡ false → n + 1 + b ≤ next_barrier past (n + 1) blocks) →
        n + suc b ≤ (if t then n else next_barrier past (n + 1) blocks)
    by true h r = absurd cc
    by false h r = let s : n + 1 + b ≤ next_barrier past (n + 1) blocks = r h in omega (arith, s)

none_up : (blocks : List Block) → list_any is_barrier blocks ≡ false → up_to_barrier blocks ≡ []
none_up [] h = refl
none_up (block ∷ blocks) h = if_false (list_any is_barrier (block ∷ blocks)) (block ∷ up_to_barrier blocks) [] h

-- ---- the callouts by their barriers

in_barrier : (P : ℕ → Type 0) (number b k : ℕ) (items : List Item) → P k →
    AllByRecursion (λ (c : Callout). P c.barrier) (callouts_in number b k items)
in_barrier P number b k [] h = tt
in_barrier P number b k (item ∷ items) h =
    by (insert_size number item) (callouts_in number b k items) (in_barrier P number b k items h)
  where
    by : (o : Option ℤ) (xs : List Callout) → AllByRecursion (λ (c : Callout). P c.barrier) xs →
        AllByRecursion (λ (c : Callout). P c.barrier)
        (cons_option (option_map (λ (size : ℤ). record { block = b; barrier = k; size = unsigned_abs size }) o) xs)
    by None xs a = a
    by (Some z) xs a = (h, a)

all_late : (number past m n : ℕ) (blocks : List Block) → m ≤ n → m ≤ past →
    AllByRecursion (λ (c : Callout). nat_lt c.barrier m ≡ false) (callouts_from number past n blocks)
all_late number past m n [] h k = tt
all_late number past m n (block ∷ blocks) h k =
    all_append _ (callouts_in number n (next_barrier past n (block ∷ blocks)) (picked_items block 0))
    (callouts_from number past (n + 1) blocks)
    (in_barrier (λ j. nat_lt j m ≡ false) number n (next_barrier past n (block ∷ blocks)) (picked_items block 0)
    (lt_no (next_barrier past n (block ∷ blocks)) m (next_least past m n (block ∷ blocks) h k)))
    (all_late number past m (n + 1) blocks (omega arith) k)

long_in : (number b k : ℕ) (block : Block) → IsBlock block →
    length (callouts_in number b k (picked_items block 0)) ≡ length (sizes_of number (picked_items block 0))
long_in number b k block is = sym (length-map (callouts_in number b k (picked_items block 0)) size_of)
    ∙ ap length (sizes_in number b k (picked_items block 0) (picked_range block is))

-- the callouts before the last barrier in front of a block, and the others
record IsCut (number past n m b : ℕ) (blocks : List Block) : Type 0 where
  front : List Callout
  back : List Callout
  is : callouts_from number past n blocks ≡ front ++ back
  before : AllByRecursion (λ (c : Callout). nat_lt c.barrier m ≡ true) front
  behind : AllByRecursion (λ (c : Callout). nat_lt c.barrier m ≡ false) back
  long : length front ≡ length (sizes_of number (first_items (up_to_barrier (take b blocks))))

-- with a block more in front, where it or one behind it is a barrier
cut_passed : (number past b n m : ℕ) (block : Block) (blocks : List Block) → m ≡ n + suc b → IsBlock block →
    list_any is_barrier (block ∷ take b blocks) ≡ true → IsCut number past (n + 1) m b blocks →
    IsCut number past n m (suc b) (block ∷ blocks)
cut_passed number past b n m block blocks e is t rest =
    let next : ℕ = next_barrier past n (block ∷ blocks) in
    let own : List Callout = callouts_in number n next (picked_items block 0) in
    let soon : next < m = subst (λ (z : ℕ). next < z) (sym e) (next_soon past (suc b) n (block ∷ blocks) t) in
    record {
      front = own ++ rest.front;
      back = rest.back;
      is = ap (λ (xs : List Callout). own ++ xs) rest.is ∙ sym (append_assoc own rest.front rest.back);
      before = all_append (λ (c : Callout). nat_lt c.barrier m ≡ true) own rest.front
          (in_barrier (λ j. nat_lt j m ≡ true) number n next (picked_items block 0) (less_of next m soon)) rest.before;
      behind = rest.behind;
      long = length-append own rest.front
          ∙ (ap (λ (z : ℕ). z + length rest.front) (long_in number n next block is)
          ∙ (ap (λ (z : ℕ). length (sizes_of number (picked_items block 0)) + z) rest.long
          ∙ (sym (length-append (sizes_of number (picked_items block 0))
          (sizes_of number (first_items (up_to_barrier (take b blocks)))))
          ∙ (ap length (sym (filter_map-append (insert_size number) (picked_items block 0)
          (first_items (up_to_barrier (take b blocks)))))
          ∙ ap (λ (bs : List Block). length (sizes_of number (first_items bs)))
          (sym (if_true (list_any is_barrier (block ∷ take b blocks)) (block ∷ up_to_barrier (take b blocks)) [] t))))));
    }

-- and where none is
cut_kept : (number past b n m : ℕ) (block : Block) (blocks : List Block) → m ≡ n + suc b → m ≤ past →
    list_any is_barrier (block ∷ take b blocks) ≡ false → IsCut number past (n + 1) m b blocks →
    IsCut number past n m (suc b) (block ∷ blocks)
cut_kept number past b n m block blocks e k f rest =
    let next : ℕ = next_barrier past n (block ∷ blocks) in
    let own : List Callout = callouts_in number n next (picked_items block 0) in
    let late : m ≤ next = subst (λ (z : ℕ). z ≤ next) (sym e)
    (next_late past (suc b) n (block ∷ blocks) (subst (λ (z : ℕ). z ≤ past) e k) f) in
    let none : rest.front ≡ [] = no_items rest.front (rest.long
    ∙ ap (λ (bs : List Block). length (sizes_of number (first_items bs)))
    (none_up (take b blocks) (later (is_barrier block) f))) in
    record {
      front = [];
      back = own ++ rest.back;
      is = ap (λ (xs : List Callout). own ++ xs) (rest.is ∙ ap (λ (xs : List Callout). xs ++ rest.back) none);
      before = tt;
      behind = all_append (λ (c : Callout). nat_lt c.barrier m ≡ false) own rest.back
          (in_barrier (λ j. nat_lt j m ≡ false) number n next (picked_items block 0) (lt_no next m late)) rest.behind;
      long = ap (λ (bs : List Block). length (sizes_of number (first_items bs)))
          (sym (if_false (list_any is_barrier (block ∷ take b blocks)) (block ∷ up_to_barrier (take b blocks)) [] f));
    }
  where
    later : (t : Bool) → (t || list_any is_barrier (take b blocks)) ≡ false → list_any is_barrier (take b blocks) ≡ false
    later true f = absurd cc
    later false f = f

cut : (number past b n m : ℕ) (blocks : List Block) → m ≡ n + b → m ≤ past → AllByRecursion IsBlock blocks →
    IsCut number past n m b blocks
cut number past zero n m blocks e k all = record {
  front = [];
  back = callouts_from number past n blocks;
  is = refl;
  before = tt;
  behind = all_late number past m n blocks (omega (arith, e)) k;
  long = refl;
}
cut number past (suc b) n m [] e k all =
    record { front = []; back = []; is = refl; before = tt; behind = tt; long = refl }
cut number past (suc b) n m (block ∷ blocks) e k all =
    let rest : IsCut number past (n + 1) m b blocks = cut number past b (n + 1) m blocks (omega (arith, e)) k all.1 in
    by_bool (list_any is_barrier (block ∷ take b blocks))
    (λ t. cut_passed number past b n m block blocks e all.0 t rest)
    (λ f. cut_kept number past b n m block blocks e k f rest)

-- where a search by halves for the barrier of a block ends
pub flushed_is : (number past m n : ℕ) (blocks : List Block) → m ≤ past → AllByRecursion IsBlock blocks →
    n ≤ length (callouts_from number past 0 blocks) →
    (IsPartitionedBy (λ (c : Callout). nat_lt c.barrier m) (callouts_from number past 0 blocks) →
    IsPartitionPoint (λ (c : Callout). nat_lt c.barrier m ≡ true) (λ (c : Callout). nat_lt c.barrier m ≡ false)
    (callouts_from number past 0 blocks) n) →
    n ≡ length (sizes_of number (flat (up_to_barrier (take m blocks)) []))
flushed_is number past m n blocks k all le point =
    let at : IsCut number past 0 m m blocks = cut number past m 0 m blocks (omega arith) k all in
    found (λ (c : Callout). nat_lt c.barrier m) (record { block = 0; barrier = 0; size = 0 }) at.front at.back
    (callouts_from number past 0 blocks) n at.is at.before at.behind le point
    ∙ (at.long ∙ ap (λ (xs : List Item). length (sizes_of number xs)) (sym (flat_first (up_to_barrier (take m blocks)))))
