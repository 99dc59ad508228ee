-- Whether picks name variants, block by block.
use Rattle.std.proofs.Common.{◌≡◌, refl, sym, ap, ◌∙◌, ℕ, zero, suc, ◌+◌, ◌≤◌, ◌<◌, List, [], ◌∷◌, ◌++◌, length, length-append, arith, Bool, true, false, Option, Some, None}
use Rattle.std.specs.Prelude.{◌==◌, ◌&&◌, drop, nat_lt, slice_get}
use Rattle.std.specs.List.{list_all}
use Rattle.std.proofs.lemmas.List.Folds.{list_all-append}
use Rattle.std.specs.Option.{option_map_or}
use Rattle.std.proofs.lemmas.Bool.Decides.{nat_tests}
use Rattle.pg_list.specs.declared.variants.Variant.{Variant}
use Rattle.pg_list.specs.declared.blocks.Block.{Block}
use Rattle.pg_list.specs.declared.blocks.Block.TheVariants.{One, Choice}
use Rattle.pg_list.specs.Flat.{picked_variants}
use Rattle.pg_column.specs.Ahead.{first_variant, picks_after, picks_past}
use Rattle.pg_lemmas.proofs.Bools.{by_bool, if_false, if_true}
use Rattle.pg_list.proofs.Places.{picked_few}
use Rattle.pg_lemmas.proofs.Numbers.{not_less, less_true}
use Rattle.pg_lemmas.proofs.Lists.{some_at}

abbrev pub names : List Block → List ℕ → Bool
names blocks picks = length (picked_variants blocks picks) == length picks

pub none_left : (blocks : List Block) (left : List ℕ) → length left ≡ 0 → names blocks left ≡ true
none_left blocks [] e = let k : length (picked_variants blocks []) ≤ 0 = picked_few blocks [] in
    zero_is (length (picked_variants blocks [])) k
  where
    zero_is : (n : ℕ) → n ≤ 0 → (n == 0) ≡ true
    zero_is zero h = refl
    zero_is (suc n) h = absurd (omega (arith, h))
none_left blocks (p ∷ ps) e = absurd (omega (arith, e))

not_got : {X : Type 0} (xs : List X) (n : ℕ) → length xs ≤ n → slice_get xs n ≡ None
not_got [] n h = refl
not_got (x ∷ xs) zero h = absurd (omega (arith, h))
not_got (x ∷ xs) (suc n) h = not_got xs n (omega (arith, h))

opened : (variants : List Variant) (blocks : List Block) (p : ℕ) (ps : List ℕ) (o : Option Variant) →
    slice_get variants p ≡ o → length (picked_variants (Choice variants ∷ blocks) (p ∷ ps))
    ≡ length (option_map_or (λ (variant : Variant). variant ∷ []) o []) + length (picked_variants blocks ps)
opened variants blocks p ps o e =
    ap (λ (o : Option Variant). length (option_map_or (λ (variant : Variant). variant ∷ []) o [] ++ picked_variants
    blocks ps)) e
    ∙ length-append (option_map_or (λ (variant : Variant). variant ∷ []) o []) (picked_variants blocks ps)

pub past_some : (block : Block) (blocks : List Block) (left behind : List ℕ) → picks_past block left ≡ Some behind →
    names blocks behind ≡ names (block ∷ blocks) left
past_some (One item) blocks left behind e = let s : left ≡ behind = cc in ap (names blocks) (sym s)
past_some (Choice variants) blocks [] behind e = let s : [] ≡ behind = cc in
    ap (names blocks) (sym s) ∙ none_left blocks [] refl
past_some (Choice variants) blocks (p ∷ ps) behind e = by_bool (nat_lt p (length variants))
    (λ t. let s : ps ≡ behind = same ps behind (sym (if_true (nat_lt p (length variants)) (Some ps) None t) ∙ e) in
    let v = some_at variants p (less_true p (length variants) t) in
    let n : length (picked_variants (Choice variants ∷ blocks) (p ∷ ps)) ≡ 1 + length (picked_variants blocks ps) =
    opened variants blocks p ps (Some v.0) v.1 in
    ap (names blocks) (sym s) ∙ next _ _ _ n)
    (λ f. absurd (no behind (sym (if_false (nat_lt p (length variants)) (Some ps) None f) ∙ e)))
  where
    same : (a b : List ℕ) → Some a ≡ Some b → a ≡ b
    same a b e = cc

    no : (b : List ℕ) → None ≡ Some b → ⊥
    no b e = cc

    next : (m n k : ℕ) → m ≡ 1 + n → (n == k) ≡ (m == suc k)
    next m n k e = let q : m ≡ suc n = omega (arith, e) in grind (arith, nat_tests, q)

pub past_none : (block : Block) (blocks : List Block) (left : List ℕ) → picks_past block left ≡ None →
    names (block ∷ blocks) left ≡ false
past_none (One item) blocks left e = absurd cc
past_none (Choice variants) blocks [] e = absurd cc
past_none (Choice variants) blocks (p ∷ ps) e = by_bool (nat_lt p (length variants))
    (λ t. absurd (no ps (sym (if_true (nat_lt p (length variants)) (Some ps) None t) ∙ e)))
    (λ f. let h : slice_get variants p ≡ None = not_got variants p (not_less p (length variants) f) in
    let n : length (picked_variants (Choice variants ∷ blocks) (p ∷ ps)) ≡ 0 + length (picked_variants blocks ps) =
    opened variants blocks p ps None h in
    few _ _ _ n (picked_few blocks ps))
  where
    no : (b : List ℕ) → Some b ≡ None → ⊥
    no b e = cc

    few : (m n k : ℕ) → m ≡ 0 + n → n ≤ k → (m == suc k) ≡ false
    few m n k e h = let q : m ≤ k = omega (arith, e, h) in apart m (suc k) (omega (arith, q))
      where
        apart : (a b : ℕ) → a < b → (a == b) ≡ false
        apart a b h = grind (arith, nat_tests, h)

-- ---- with the first block of a slice

first_block : (blocks : List Block) (block : Block) → Some block ≡ slice_get blocks 0 → blocks ≡ block ∷ drop 1 blocks
first_block [] block e = absurd cc
first_block (b ∷ blocks) block e = let s : b ≡ block = cc in ap (λ (x : Block). x ∷ blocks) s

pub first_some : (blocks : List Block) (block : Block) (left behind : List ℕ) → Some block ≡ slice_get blocks 0 →
    Some behind ≡ picks_past block left → names (drop 1 blocks) behind ≡ names blocks left
first_some blocks block left behind e f = past_some block (drop 1 blocks) left behind (sym f)
    ∙ ap (λ (bs : List Block). names bs left) (sym (first_block blocks block e))

pub first_none : (blocks : List Block) (block : Block) (left : List ℕ) → Some block ≡ slice_get blocks 0 →
    None ≡ picks_past block left → names blocks left ≡ false
first_none blocks block left e f = ap (λ (bs : List Block). names bs left) (first_block blocks block e)
    ∙ past_none block (drop 1 blocks) left (sym f)

-- ---- a test of the variants picked

pub none_picked : (blocks : List Block) → picked_variants blocks [] ≡ []
none_picked [] = refl
none_picked (One item ∷ blocks) = none_picked blocks
none_picked (Choice variants ∷ blocks) = refl

module _ (p : Variant → Bool) where
  pub each_none : (blocks : List Block) (left : List ℕ) → length left ≡ 0 → list_all p (picked_variants blocks left)
      ≡ true
  each_none blocks [] e = ap (list_all p) (none_picked blocks)
  each_none blocks (q ∷ qs) e = absurd (omega (arith, e))
