-- How far the stretches of picks go.
use Rattle.std.proofs.Common.{◌≡◌, sym, subst, ℕ, ◌+◌, ◌≤◌, List, [], ◌∷◌, length, drop, arith, inl, inr, Bool, true, false, Option, Some, None, ℤ}
use Rattle.std.specs.Prelude.{◌⊎◌, if◌then◌else◌, max}
use Rattle.std.specs.List.{AllByRecursion}
use Rattle.std.specs.Option.{option_map_or}
use Rattle.std.proofs.lemmas.List.{length-drop}
use Rattle.std.proofs.lemmas.Option.{slice_get_within}
use Rattle.pg_column.specs.Passed.{Passed, fits, pass_item, pass_items}
use Rattle.pg_list.specs.Flat.{FlatItem, later_flat_items, variant_flat_items}
use Rattle.pg_lemmas.proofs.Bools.{if_true}
use Rattle.pg_lemmas.proofs.Lists.{all_append}
use Rattle.pg_list.specs.Places.{items_around, place}
use Rattle.pg_list.specs.declared.blocks.Block.{Block}
use Rattle.pg_list.specs.declared.blocks.Block.TheVariants.{One, Choice}
use Rattle.pg_list.specs.declared.item.Item.{Item}
use Rattle.pg_rules.specs.Room.{Document}
use Rattle.law_walk.specs.Reached.{reach_along}
use Rattle.law_walk.specs.Space.{Picks, WalkState}
use Rattle.law_walk.specs.Walk.{next_front, picked_front, picked_stretch, singles, variants_at}
use Rattle.law_walk.proofs.Reach.{greatest_at, least_of, of_greatest}
use Rattle.law_walk.proofs.SpaceLaws.{past_parts}
use Rattle.law_walk.proofs.Stretches.{front_behind, items_fit}
use Rattle.pg_walk.specs.Meaning.{greatest_behind, reach_by}

-- ---- the items of a stretch stand from the choice up to the next front

pub record IsBetween (low high : ℕ) (x : FlatItem) : Type 0 where
  pub from : low ≤ x.place.block
  pub to : x.place.block ≤ high

later_between : (low high b v i : ℕ) (items : List Item) → low ≤ b → b ≤ high →
    AllByRecursion (IsBetween low high) (later_flat_items b v i items)
later_between low high b v i [] l h = tt
later_between low high b v i (item ∷ items) l h =
    (record { from = l; to = h }, later_between low high b v (i + 1) items l h)

variant_between : (low high b v : ℕ) (items : List Item) → low ≤ b → b ≤ high →
    AllByRecursion (IsBetween low high) (variant_flat_items b v items)
variant_between low high b v [] l h = tt
variant_between low high b v (item ∷ items) l h =
    (record { from = l; to = h }, later_between low high b v 1 items l h)

singles_between : (low n : ℕ) (blocks : List Block) → low ≤ n →
    AllByRecursion (IsBetween low (next_front n blocks)) (singles n blocks)
singles_between low n [] l = tt
singles_between low n (One item ∷ blocks) l =
    let m = front_behind (n + 1) blocks in
    (record { from = l; to = omega (arith, m) }, singles_between low (n + 1) blocks (omega (arith, l)))
singles_between low n (Choice variants ∷ blocks) l = tt

stretch_between : (blocks : List Block) (b pick : ℕ) →
    AllByRecursion (IsBetween b (picked_front blocks b)) (picked_stretch blocks b pick)
stretch_between blocks b pick =
    let m = front_behind (b + 1) (drop (b + 1) blocks) in
    all_append (IsBetween b (picked_front blocks b)) (variant_flat_items b pick (items_around blocks (place b pick 0)))
    (singles (b + 1) (drop (b + 1) blocks))
    (variant_between b (picked_front blocks b) b pick (items_around blocks (place b pick 0)) (omega arith)
    (omega (arith, m)))
    (singles_between b (b + 1) (drop (b + 1) blocks) (omega arith))

front_few : (n : ℕ) (blocks : List Block) → next_front n blocks ≤ n + length blocks
front_few n [] = omega arith
front_few n (One item ∷ blocks) = let r = front_few (n + 1) blocks in omega (arith, r)
front_few n (Choice variants ∷ blocks) = omega arith

picked_few : (blocks : List Block) (b : ℕ) → b ≤ length blocks → picked_front blocks b ≤ length blocks + 1
picked_few blocks b h =
    let f = front_few (b + 1) (drop (b + 1) blocks) in
    let l = length-drop (b + 1) blocks in omega (arith, h, f, l)

-- ---- along a stretch

of_one : (a b n : ℕ) → (n ≤ a) ⊎ (n ≤ b) → n ≤ max a b
of_one a b n (inl h) = omega (arith, h)
of_one a b n (inr h) = omega (arith, h)

module _ (doc : Document) (top : ℤ) where
  -- no less than where all items stand
  along_from : (low b : ℕ) (p : Passed) (xs : List FlatItem) → low ≤ b → AllByRecursion (IsBetween low b) xs →
      low ≤ reach_along doc top b p xs
  along_from low b p [] h a = h
  along_from low b p (x ∷ xs) h a = let f = a.0.from in of_one x.place.block _ low (inl f)

  -- no more than the front behind
  pub along_to : (low b : ℕ) (p : Passed) (xs : List FlatItem) → AllByRecursion (IsBetween low b) xs →
      reach_along doc top b p xs ≤ b
  along_to low b p [] a = omega arith
  along_to low b p (x ∷ xs) a = both_below x.place.block _ a.0.to
      (by (pass_item doc p x) (λ q. along_to low b q xs a.1))
    where
      both_below : (m n : ℕ) → m ≤ b → n ≤ b → max m n ≤ b
      both_below m n h l = omega (arith, h, l)

      inside : (t : Bool) (n : ℕ) → n ≤ b → (if t then n else 0) ≤ b
      inside true n h = h
      inside false n h = omega arith

      by : (o : Option Passed) → ((q : Passed) → reach_along doc top b q xs ≤ b) →
          option_map_or (λ (q : Passed). if fits q.bound top then reach_along doc top b q xs else 0) o 0 ≤ b
      by None more = omega arith
      by (Some q) more = inside (fits q.bound top) (reach_along doc top b q xs) (more q)

  -- what is passed comes to the front behind
  pub along_whole : (b : ℕ) (p r : Passed) (xs : List FlatItem) → pass_items doc p xs ≡ Some r →
      fits r.bound top ≡ true → b ≤ reach_along doc top b p xs
  along_whole b p r [] g f = omega arith
  along_whole b p r (x ∷ xs) g f = of_one x.place.block _ b
      (inr (by (pass_item doc p x) g (λ q h. along_whole b q r xs h f)))
    where
      by : (o : Option Passed) → option_map_or (λ (q : Passed). pass_items doc q xs) o None ≡ Some r →
          ((q : Passed) → pass_items doc q xs ≡ Some r → b ≤ reach_along doc top b q xs) →
          b ≤ option_map_or (λ (q : Passed). if fits q.bound top then reach_along doc top b q xs else 0) o 0
      by None h more = absurd cc
      by (Some q) h more = subst (λ (n : ℕ). b ≤ n)
          (sym (if_true (fits q.bound top) (reach_along doc top b q xs) 0 (items_fit doc top q r xs h f))) (more q h)

  -- ---- behind a front

  -- no pick's stretch ends before the front
  pub by_from : (u : WalkState) (pick : ℕ) → u.block ≤ reach_by doc top u pick
  by_from u pick =
      let m = front_behind (u.block + 1) (drop (u.block + 1) doc.blocks) in
      along_from u.block (picked_front doc.blocks u.block) u.passed (picked_stretch doc.blocks u.block pick)
      (omega (arith, m)) (stretch_between doc.blocks u.block pick)

  pub behind_few : (u : WalkState) → u.block ≤ length doc.blocks → greatest_behind doc top u ≤ length doc.blocks + 1
  behind_few u h =
      of_greatest (λ (n : ℕ). n ≤ length doc.blocks + 1) (reach_by doc top u) u.block 0
      (length (variants_at doc.blocks u.block)) (omega (arith, h))
      (λ k l n. let few = picked_few doc.blocks u.block h in
      let to = along_to u.block (picked_front doc.blocks u.block) u.passed (picked_stretch doc.blocks u.block k)
      (stretch_between doc.blocks u.block k) in omega (arith, few, to))

  pub behind_own : (u : WalkState) → u.block ≤ greatest_behind doc top u
  behind_own u = least_of (reach_by doc top u) u.block 0 (length (variants_at doc.blocks u.block))

  pub behind_next : (u : WalkState) (m : ℕ) (v : WalkState) (c : ℤ) → Picks doc top u m v c →
      v.block ≤ greatest_behind doc top u
  behind_next u m v c f =
      let parts = past_parts doc top u.passed v.passed (picked_stretch doc.blocks u.block m) f.past in
      let same : v.block ≡ picked_front doc.blocks u.block = f.leads in
      let whole = along_whole (picked_front doc.blocks u.block) u.passed v.passed
      (picked_stretch doc.blocks u.block m) parts.0 parts.1 in
      let z : m ≡ 0 + m = omega arith in
      let here : v.block ≤ reach_by doc top u m = omega (arith, same, whole) in
      greatest_at (reach_by doc top u) u.block 0 m (length (variants_at doc.blocks u.block)) v.block
      (slice_get_within (variants_at doc.blocks u.block) m f.variant f.there)
      (subst (λ (k : ℕ). v.block ≤ reach_by doc top u k) z here)
