-- Galleys without choices: the items from a block on, and how many stand before a place.
use Rattle.std.proofs.Common.{◌≡◌, ◌∙◌, refl, sym, ap, arith, ℕ, zero, suc, ◌+◌, ◌-◌, ◌<◌, ◌≤◌, Bool, true, false, List, [], ◌∷◌, ◌++◌, map, length, take, drop, Option, Some, None}
use Rattle.std.specs.Prelude.{◌==◌, ◌&&◌, if◌then◌else◌, is_some, nat_lt, option_map, slice_get}
use Rattle.std.specs.List.{position}
use Rattle.std.proofs.lemmas.Bool.{eqb-true}
use Rattle.std.proofs.lemmas.List.{length-drop}
use Rattle.pg_lemmas.proofs.Bools.{both, by_bool, if_false, if_true}
use Rattle.pg_lemmas.proofs.Numbers.{eq_no, eq_not, eq_yes, less_true, not_less}
use Rattle.pg_list.specs.Places.{item_at, place}
use Rattle.pg_list.specs.declared.blocks.Block.{Block}
use Rattle.pg_list.specs.declared.blocks.Block.TheVariants.{One, Choice}
use Rattle.pg_list.specs.declared.item.Item.{Item}
use Rattle.pg_list.specs.Flat.{FlatItem, end_of, flat, flat_items_at, flat_items_from, is_same_place, steps_to}
use Rattle.pg_breaks.specs.Read.{AreNamed, items_at}
use Rattle.pg_column.proofs.Leads.{is_at, position_here, position_later}
use Rattle.pg_style.specs.Values.{StyleValue}
use Rattle.pg_greedy.specs.Faults.{block_fault, greedy_fault, item_fault}
use Rattle.pg_greedy.specs.Single.{AreSingle, singles}
use Rattle.pg_greedy.specs.declared.fault.GreedyFault.{GreedyFault}
use Rattle.pg_greedy.specs.declared.fault.GreedyFault.TheVariants as fault

-- a galley without a fault has no choice
none_single : (style : StyleValue) (n : ℕ) (blocks : List Block) → block_fault style n blocks ≡ None → AreSingle blocks
none_single style n [] e = tt
none_single style n (Choice variants ∷ blocks) e = absurd cc
none_single style n (One item ∷ blocks) e =
    by (item_fault style n item) e (none_single style (n + 1) blocks)
  where
    by : (o : Option GreedyFault) → (if is_some o then o else block_fault style (n + 1) blocks) ≡ None →
        (block_fault style (n + 1) blocks ≡ None → AreSingle blocks) → AreSingle blocks
    by None e rest = rest e
    by (Some found) e rest = absurd cc

pub no_choice : (style : StyleValue) (blocks : List Block) → greedy_fault style blocks ≡ None → AreSingle blocks
no_choice style blocks e = by (style.columns == 2) e
  where
    by : (b : Bool) → (if b then Some fault.Columns else block_fault style 0 blocks) ≡ None → AreSingle blocks
    by true e = absurd cc
    by false e = none_single style 0 blocks e

abbrev item_of : FlatItem → Item
item_of x = x.item

items_are : (n : ℕ) (blocks : List Block) → AreSingle blocks →
    map item_of (flat_items_from n blocks []) ≡ singles blocks
items_are n [] s = refl
items_are n (One item ∷ blocks) s = ap (λ (xs : List Item). item ∷ xs) (items_are (n + 1) blocks s)
items_are n (Choice variants ∷ blocks) s = absurd s

pub flat_single : (blocks : List Block) → AreSingle blocks → flat blocks [] ≡ singles blocks
flat_single blocks s = items_are 0 blocks s

drop_single : (a : ℕ) (blocks : List Block) → AreSingle blocks → AreSingle (drop a blocks)
drop_single zero blocks s = s
drop_single (suc a) [] s = tt
drop_single (suc a) (One item ∷ blocks) s = drop_single a blocks s
drop_single (suc a) (Choice variants ∷ blocks) s = absurd s

drop_singles : (a : ℕ) (blocks : List Block) → AreSingle blocks → singles (drop a blocks) ≡ drop a (singles blocks)
drop_singles zero blocks s = refl
drop_singles (suc a) [] s = refl
drop_singles (suc a) (One item ∷ blocks) s = drop_singles a blocks s
drop_singles (suc a) (Choice variants ∷ blocks) s = absurd s

pub items_single : (blocks : List Block) (a : ℕ) → AreSingle blocks →
    items_at blocks (place a 0 0) [] ≡ drop a (singles blocks)
items_single blocks a s = items_are a (drop a blocks) (drop_single a blocks s) ∙ drop_singles a blocks s

pub singles_long : (blocks : List Block) → AreSingle blocks → length (singles blocks) ≡ length blocks
singles_long [] s = refl
singles_long (One item ∷ blocks) s = ap suc (singles_long blocks s)
singles_long (Choice variants ∷ blocks) s = absurd s

pub rest_long : (blocks : List Block) (a : ℕ) → AreSingle blocks →
    length (drop a (singles blocks)) ≡ length blocks - a
rest_long blocks a s = length-drop a (singles blocks) ∙ ap (λ n. n - a) (singles_long blocks s)

flat_long : (n : ℕ) (blocks : List Block) → AreSingle blocks → length (flat_items_from n blocks []) ≡ length blocks
flat_long n [] s = refl
flat_long n (One item ∷ blocks) s = ap suc (flat_long (n + 1) blocks s)
flat_long n (Choice variants ∷ blocks) s = absurd s

-- a block of one item stands as many items behind another as blocks
same_block : (a b : ℕ) → a ≡ b → is_same_place (place a 0 0) (place b 0 0) ≡ true
same_block a b e = both ((a == b) && true) true (both (a == b) true (eq_yes a b e) refl) refl

other_block : (a b : ℕ) → (a == b) ≡ false → is_same_place (place a 0 0) (place b 0 0) ≡ false
other_block a b e = ap (λ (t : Bool). (t && true) && true) e

position_is : (a n : ℕ) (blocks : List Block) → AreSingle blocks → n < length blocks →
    position (is_at (place (a + n) 0 0)) (flat_items_from a blocks []) ≡ Some n
position_is a n [] s l = absurd (omega (arith, l))
position_is a zero (One item ∷ blocks) s l =
    position_here (is_at (place (a + 0) 0 0)) (record { place = place a 0 0; item = item; is_front = false })
    (flat_items_from (a + 1) blocks []) (same_block a (a + 0) (omega arith))
position_is a (suc n) (One item ∷ blocks) s l =
    let shift : (a + 1) + n ≡ a + suc n = omega arith in
    position_later (is_at (place (a + suc n) 0 0)) (record { place = place a 0 0; item = item; is_front = false })
    (flat_items_from (a + 1) blocks []) (other_block a (a + suc n) (eq_no a (a + suc n) (omega arith)))
    ∙ ap (option_map suc) (ap (λ k. position (is_at (place k 0 0)) (flat_items_from (a + 1) blocks [])) (sym shift)
    ∙ position_is (a + 1) n blocks s (omega (arith, l)))
position_is a n (Choice variants ∷ blocks) s l = absurd s

-- behind so many items from a block on stands the block so many further
pub steps_single : (blocks : List Block) (a n : ℕ) → AreSingle blocks → a + n ≤ length blocks →
    steps_to blocks (flat_items_at blocks (place a 0 0) []) (place (a + n) 0 0) ≡ Some n
steps_single blocks a n s within =
    let long : length (drop a blocks) ≡ length blocks - a = length-drop a blocks in
    by_bool (a + n == length blocks)
    (λ t. let e : a + n ≡ length blocks = eqb-true (a + n) (length blocks) t in
    if_true (is_same_place (place (a + n) 0 0) (end_of blocks)) _ _ (same_block (a + n) (length blocks) e)
    ∙ ap Some (let f = flat_long a (drop a blocks) (drop_single a blocks s) in
    let whole : length (flat_items_from a (drop a blocks) []) ≡ n = omega (arith, f, long, e) in whole))
    (λ f. let apart : a + n ≡ length blocks → ⊥ = eq_not (a + n) (length blocks) f in
    if_false (is_same_place (place (a + n) 0 0) (end_of blocks)) _ _ (other_block (a + n) (length blocks) f)
    ∙ position_is a n (drop a blocks) (drop_single a blocks s) (inside apart long))
  where
    inside : (a + n ≡ length blocks → ⊥) → length (drop a blocks) ≡ length blocks - a → n < length (drop a blocks)
    inside apart long = by_bool (nat_lt (a + n) (length blocks))
        (λ t. let l = less_true (a + n) (length blocks) t in omega (arith, l, long))
        (λ f. let m = not_less (a + n) (length blocks) f in
        absurd (apart (let e : a + n ≡ length blocks = omega (arith, m, within) in e)))

pub item_single : (blocks : List Block) (k : ℕ) → AreSingle blocks →
    item_at blocks (place k 0 0) ≡ slice_get (singles blocks) k
item_single [] k s = refl
item_single (One item ∷ blocks) zero s = refl
item_single (One item ∷ blocks) (suc k) s = item_single blocks k s
item_single (Choice variants ∷ blocks) k s = absurd s

-- no pick names a variant
pub no_picks : (blocks : List Block) → AreNamed blocks []
no_picks [] = refl
no_picks (One item ∷ blocks) = no_picks blocks
no_picks (Choice variants ∷ blocks) = refl

-- ---- one item more

pub get_behind : {X : Type 0} (a : ℕ) (xs : List X) (k : ℕ) → slice_get xs (a + k) ≡ slice_get (drop a xs) k
get_behind zero xs k = let z : 0 + k ≡ k = omega arith in ap (slice_get xs) z
get_behind (suc a) [] k = refl
get_behind (suc a) (x ∷ xs) k = let s : suc a + k ≡ suc (a + k) = omega arith in ap (slice_get (x ∷ xs)) s
    ∙ get_behind a xs k

pub take_next : {X : Type 0} (xs : List X) (k : ℕ) (x : X) → slice_get xs k ≡ Some x →
    take (k + 1) xs ≡ take k xs ++ x ∷ []
take_next [] k x e = absurd cc
take_next (y ∷ ys) zero x e = let s : y ≡ x = cc in ap (λ z. z ∷ []) s
take_next (y ∷ ys) (suc k) x e = let s : suc k + 1 ≡ suc (k + 1) = omega arith in
    ap (λ n. take n (y ∷ ys)) s ∙ ap (λ zs. y ∷ zs) (take_next ys k x e)
