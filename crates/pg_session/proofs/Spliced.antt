-- How many items an edit leaves.
use Rattle.std.proofs.Common.{◌≡◌, refl, ap, ◌∙◌, ℕ, zero, suc, ◌+◌, ◌-◌, ◌^◌, ◌≤◌, List, [], ◌∷◌, ◌++◌, take, drop, arith}
use Rattle.std.specs.Prelude.{min}
use Rattle.std.proofs.lemmas.List.Sums.{sum_by-append, sum_by-take-drop}
use Rattle.pg_list.specs.Counts.{block_size, item_count, item_limit}
use Rattle.pg_list.specs.Places.{spliced}
use Rattle.pg_list.specs.declared.blocks.Block.{Block}
use Rattle.pg_list.specs.declared.galley.Edit.{Edit}

drop_twice : (n m : ℕ) (blocks : List Block) → drop m (drop n blocks) ≡ drop (n + m) blocks
drop_twice zero m blocks = let e : m ≡ 0 + m = omega arith in ap (λ k. drop k blocks) e
drop_twice (suc n) m [] = none m ∙ ap (λ k. drop k []) e
  where
    e : suc (n + m) ≡ suc n + m
    e = omega arith

    none : (m : ℕ) → drop m [] ≡ drop {A = Block} (suc (n + m)) []
    none zero = refl
    none (suc m) = refl
drop_twice (suc n) m (block ∷ blocks) =
    let e : suc (n + m) ≡ suc n + m = omega arith in
    drop_twice n m blocks ∙ ap (λ k. drop k (block ∷ blocks)) e

-- the blocks that go, counted, and those before and behind them
pub gone_is : (own blocks : List Block) (at gone n : ℕ) → own ≡ blocks →
    n ≡ min (0 + item_count (take (at + gone - at) (drop at own))) (2 ^ 32 - 1) → item_count blocks ≤ item_limit →
    n + item_count (take at blocks) + item_count (drop (at + gone) blocks) ≡ item_count blocks
gone_is own blocks at gone n same is few =
    let e : at + gone - at ≡ gone = omega arith in
    let own-is : item_count (take (at + gone - at) (drop at own)) ≡ item_count (take gone (drop at blocks)) =
    ap (λ (bs : List Block). item_count (take (at + gone - at) (drop at bs))) same
    ∙ ap (λ k. item_count (take k (drop at blocks))) e in
    let behind : item_count (drop gone (drop at blocks)) ≡ item_count (drop (at + gone) blocks) =
    ap (λ (bs : List Block). item_count bs) (drop_twice at gone blocks) in
    let first = sum_by-take-drop block_size blocks at in
    let second = sum_by-take-drop block_size (drop at blocks) gone in
    omega (arith, is, own-is, behind, first, second, few)

-- and those that come in their place
pub count_is : (blocks fresh : List Block) (edit : Edit) (gone kept n : ℕ) → fresh ≡ edit.fresh →
    gone + item_count (take edit.at blocks) + item_count (drop (edit.at + edit.gone) blocks) ≡ item_count blocks →
    kept ≡ item_count blocks → n ≡ min (kept - gone + item_count fresh) (2 ^ 32 - 1) →
    n ≡ min (item_count (spliced blocks edit)) (2 ^ 32 - 1)
count_is blocks fresh edit gone kept n same parts all is =
    let come : item_count fresh ≡ item_count edit.fresh = ap (λ (bs : List Block). item_count bs) same in
    let front = sum_by-append block_size (take edit.at blocks) edit.fresh in
    let whole = sum_by-append block_size (take edit.at blocks ++ edit.fresh) (drop (edit.at + edit.gone) blocks) in
    omega (arith, come, parts, all, is, front, whole)
