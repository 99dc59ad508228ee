-- Galleys that agree below a block have the same hops from places well below it.
use Rattle.std.proofs.Common.{◌≡◌, refl, sym, ap, subst, ◌∙◌, ℕ, zero, suc, ◌+◌, ◌-◌, ◌≤◌, ◌<◌, List, [], ◌∷◌, drop, take, Bool, true, false, Option, Some, None, arith}
use Rattle.std.specs.Prelude.{◌&&◌, ◌||◌, not, ◌==◌, if◌then◌else◌, is_none, is_some, option_map, unwrap_or, slice_get, ℤ}
use Rattle.std.specs.Option.{option_map_or}
use Rattle.pg_list.specs.Places.{is_solid_block, item_at, items_around, picked_items, place}
use Rattle.pg_list.specs.Shapes.{is_insert}
use Rattle.pg_list.specs.declared.item.Item.{Item}
use Rattle.pg_list.specs.declared.blocks.Block.{Block}
use Rattle.pg_list.specs.declared.blocks.Block.TheVariants.{One, Choice}
use Rattle.pg_list.specs.declared.galley.Place.{Place}
use Rattle.pg_list.specs.Break.{is_glue}
use Rattle.pg_breaks.specs.Near.{begins_with_glue, front_follows, glue_after, glue_first, index_follows, near_penalty, place_penalty, solid_before}
use Rattle.pg_hops.specs.Ahead.{before, is_behind, item_ahead, place_ahead, settled, single_in, stepped}
use Rattle.pg_hops.specs.declared.cursor.Cursor.{Cursor}
use Rattle.pg_hops.specs.Hop.{HopValue, IsHop, IsHopAt, ends_hop, past_one, past_plain, standing}

-- the blocks below one are the same
abbrev pub SameBlocks : ℕ → List Block → List Block → Type 0
SameBlocks n blocks others = (k : ℕ) → k < n → slice_get blocks k ≡ slice_get others k

taken : {X : Type 0} (n : ℕ) (xs : List X) (k : ℕ) → k < n → slice_get (take n xs) k ≡ slice_get xs k
taken zero xs k h = absurd (omega (arith, h))
taken (suc n) [] k h = refl
taken (suc n) (x ∷ xs) zero h = refl
taken (suc n) (x ∷ xs) (suc k) h = taken n xs k (omega (arith, h))

pub same_blocks : (n : ℕ) (blocks others : List Block) → take n blocks ≡ take n others → SameBlocks n blocks others
same_blocks n blocks others e k h = sym (taken n blocks k h)
    ∙ (ap (λ (bs : List Block). slice_get bs k) e ∙ taken n others k h)

-- whether a block begins with glue
abbrev glue_block : Option Block → Bool
glue_block None = false
glue_block (Some (One item)) = is_glue item
glue_block (Some (Choice variants)) = false

begins : (n : ℕ) (blocks : List Block) → begins_with_glue (drop n blocks) ≡ glue_block (slice_get blocks n)
begins zero [] = refl
begins zero (One item ∷ blocks) = refl
begins zero (Choice variants ∷ blocks) = refl
begins (suc n) [] = refl
begins (suc n) (block ∷ blocks) = begins n blocks

module _ (n : ℕ) (blocks others : List Block) (same : SameBlocks n blocks others) where
  around_same : (at : Place) → at.block < n → items_around blocks at ≡ items_around others at
  around_same at h = ap (λ (o : Option Block).
      unwrap_or (option_map (λ (block : Block). picked_items block at.variant) o) []) (same at.block h)

  at_same : (at : Place) → at.block < n → item_at blocks at ≡ item_at others at
  at_same at h = ap (λ (items : List Item). slice_get items at.index) (around_same at h)

  pub ahead_same : (c : Cursor) → c.block < n → item_ahead blocks c ≡ item_ahead others c
  ahead_same c h = by c.is_inner
    where
      by : (b : Bool) →
          (if b then item_at blocks (place c.block c.variant c.index) else single_in (slice_get blocks c.block))
          ≡ (if b then item_at others (place c.block c.variant c.index) else single_in (slice_get others c.block))
      by true = at_same (place c.block c.variant c.index) h
      by false = ap single_in (same c.block h)

  settled_same : (c : Cursor) → c.block < n → settled blocks c ≡ settled others c
  settled_same c h = ap (λ (o : Option Item). if c.is_inner && is_none o then before (c.block + 1) else c)
      (at_same (place c.block c.variant c.index) h)

  next_same : (c : Cursor) → c.block < n → settled blocks (stepped c) ≡ settled others (stepped c)
  next_same c h = by c.is_inner
    where
      by : (b : Bool) → settled blocks (if b
          then record { block = c.block; variant = c.variant; index = c.index + 1; is_inner = true }
          else before (c.block + 1))
          ≡ settled others (if b
          then record { block = c.block; variant = c.variant; index = c.index + 1; is_inner = true }
          else before (c.block + 1))
      by true = settled_same (record { block = c.block; variant = c.variant; index = c.index + 1; is_inner = true }) h
      by false = refl

  front_same : (b : ℕ) → b < n → front_follows false blocks b ≡ front_follows false others b
  front_same zero h = refl
  front_same (suc b) h = ap (λ (o : Option Block). option_map_or is_solid_block o false)
      (same b (omega (arith, h)))

  follows_same : (items : List Item) (b i : ℕ) → b < n →
      index_follows false blocks items b i ≡ index_follows false others items b i
  follows_same items b zero h = front_same b h
  follows_same items b (suc i) h = refl

  solid_same : (at : Place) → at.block < n → solid_before blocks at ≡ solid_before others at
  solid_same at h = follows_same (items_around blocks at) at.block at.index h
      ∙ ap (λ (items : List Item). index_follows false others items at.block at.index) (around_same at h)

  first_same : (items : List Item) (b : ℕ) → b < n →
      glue_first items (drop b blocks) ≡ glue_first items (drop b others)
  first_same [] b h = begins b blocks ∙ (ap glue_block (same b h) ∙ sym (begins b others))
  first_same (item ∷ items) b h = refl

  glue_same : (at : Place) → at.block + 1 < n → glue_after blocks at ≡ glue_after others at
  glue_same at h = first_same (drop (at.index + 1) (items_around blocks at)) (at.block + 1) h
      ∙ ap (λ (items : List Item). glue_first (drop (at.index + 1) items) (drop (at.block + 1) others))
      (around_same at (omega (arith, h)))

  penalty_same : (at : Place) → at.block + 1 < n → place_penalty blocks at ≡ place_penalty others at
  penalty_same at h = ap (λ (o : Option Item). near_penalty o (solid_before blocks at) (glue_after blocks at))
      (at_same at (omega (arith, h)))
      ∙ (ap (λ (s : Bool). near_penalty (item_at others at) s (glue_after blocks at)) (solid_same at (omega (arith, h)))
      ∙ ap (near_penalty (item_at others at) (solid_before others at)) (glue_same at h))

  place_block : (c : Cursor) → (place_ahead c).block ≡ c.block
  place_block c = by (c.is_inner && not (c.index == 0))
    where
      by : (b : Bool) → (if b then place c.block c.variant c.index else place c.block 0 0).block ≡ c.block
      by true = refl
      by false = refl

  pub break_same : (c : Cursor) → c.block + 1 < n →
      is_some (place_penalty blocks (place_ahead c)) ≡ is_some (place_penalty others (place_ahead c))
  break_same c h = let p = place_block c in
      ap (λ (o : Option ℤ). is_some o) (penalty_same (place_ahead c) (omega (arith, p, h)))

  ends_same : (c : Cursor) (x : Item) → c.block + 1 < n → ends_hop blocks c x ≡ ends_hop others c x
  ends_same c x h = ap (λ (b : Bool). is_insert x || b) (break_same c h)

  -- the next place is at most one block on
  pub near_next : (c : Cursor) → (settled blocks (stepped c)).block ≤ c.block + 1
  near_next c = by c.is_inner
    where
      inner : Cursor
      inner = record { block = c.block; variant = c.variant; index = c.index + 1; is_inner = true }

      ends : (b : Bool) → (if b then before (c.block + 1) else inner).block ≤ c.block + 1
      ends true = omega arith
      ends false = omega arith

      by : (b : Bool) → (settled blocks (if b
          then record { block = c.block; variant = c.variant; index = c.index + 1; is_inner = true }
          else before (c.block + 1))).block ≤ c.block + 1
      by true = ends (is_behind blocks inner)
      by false = omega arith

  module _ (maxdepth : ℤ) where
    pub one_same : (h : HopValue) (x : Item) → h.to.block < n →
        past_one blocks maxdepth h x ≡ past_one others maxdepth h x
    one_same h x l = ap (λ (c : Cursor). record (past_one others maxdepth h x) { to = c }) (next_same h.to l)

    plain_same : (m : ℕ) (h : HopValue) → h.to.block + m < n →
        past_plain blocks maxdepth m h ≡ past_plain others maxdepth m h
    plain_same zero h l = refl
    plain_same (suc m) h l =
        ap (λ (o : Option Item). option_map_or (λ (item : Item). if ends_hop blocks h.to item then None
        else past_plain blocks maxdepth m (past_one blocks maxdepth h item)) o None)
        (ahead_same h.to (omega (arith, l)))
        ∙ by (item_ahead others h.to) (λ x. let near = near_next h.to in
        plain_same m (past_one blocks maxdepth h x) (omega (arith, l, near))
        ∙ ap (past_plain others maxdepth m) (one_same h x (omega (arith, l))))
      where
        by : (o : Option Item) → ((x : Item) → past_plain blocks maxdepth m (past_one blocks maxdepth h x)
            ≡ past_plain others maxdepth m (past_one others maxdepth h x)) →
            option_map_or (λ (item : Item). if ends_hop blocks h.to item then None
            else past_plain blocks maxdepth m (past_one blocks maxdepth h item)) o None
            ≡ option_map_or (λ (item : Item). if ends_hop others h.to item then None
            else past_plain others maxdepth m (past_one others maxdepth h item)) o None
        by None on = refl
        by (Some x) on = ap (λ (b : Bool). if b then None
            else past_plain blocks maxdepth m (past_one blocks maxdepth h x)) (ends_same h.to x (omega (arith, l)))
            ∙ ap (λ (o : Option HopValue). if ends_hop others h.to x then None else o) (on x)

    -- a hop from well below the block leads on in the other galley
    pub hop_same : (c : Cursor) (h : HopValue) → c.block + 66 < n → IsHop blocks maxdepth c h →
        IsHop others maxdepth c h
    hop_same c h l is = subst (IsHopAt others maxdepth c h) (ahead_same c (omega (arith, l)))
        (by (item_ahead blocks c) is)
      where
        by : (o : Option Item) → IsHopAt blocks maxdepth c h o → IsHopAt others maxdepth c h o
        by None z = absurd z
        by (Some x) z = record {
          is_break = sym (break_same c (omega (arith, l))) ∙ z.is_break;
          is_free = z.is_free;
          few = z.few;
          plain =
              let near = near_next c in
              let few = z.few in
              sym (plain_same (h.added.count - 1) (past_one blocks maxdepth (standing c) x) (omega (arith, l, near, few))
              ∙ ap (past_plain others maxdepth (h.added.count - 1)) (one_same (standing c) x (omega (arith, l))))
              ∙ z.plain;
        }
