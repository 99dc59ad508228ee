-- The hops and leaps of rows that grow or are cut.
use Rattle.std.proofs.Common.{◌≡◌, ◌⊎◌, inl, inr, refl, sym, ap, subst, ◌∙◌, ℕ, zero, suc, ◌+◌, ◌-◌, ◌<◌, List, [], ◌∷◌, ◌++◌, length, length-append, take, Option, Some, None, arith}
use Rattle.std.specs.Prelude.{IfSome, slice_get, ℤ}
use Rattle.pg_list.specs.declared.blocks.Block.{Block}
use Rattle.pg_hops.specs.declared.cursor.Cursor.{Cursor}
use Rattle.pg_hops.specs.Hop.{HopValue, IsHop}
use Rattle.pg_hops.specs.Leap.{IsLeap, LeapValue}
use Rattle.pg_hops.specs.Index.{AreHops, AreHopsInside, AreRowHops, AreVariantHops, LeadOn, hop_in, hop_of, leap_in, within}
use Rattle.pg_hops.specs.declared.index.Row.{Row}
use Rattle.pg_hops.specs.declared.index.VariantHops.{VariantHops}
use Rattle.pg_hops.proofs.BelowCut.{SameBlocks, hop_same, same_blocks}
use Rattle.pg_hops.proofs.LeapBelow.{leap_same}

-- at a place of a list that has grown stands what stood there, or what was pushed
pushed : {X : Type 0} (xs : List X) (x : X) (k : ℕ) → (slice_get (xs ++ x ∷ []) k ≡ slice_get xs k)
    ⊎ ((k ≡ length xs) × (slice_get (xs ++ x ∷ []) k ≡ Some x))
pushed [] x zero = inr (refl, refl)
pushed [] x (suc k) = inl refl
pushed (y ∷ xs) x zero = inl refl
pushed (y ∷ xs) x (suc k) = by (pushed xs x k)
  where
    by : (slice_get (xs ++ x ∷ []) k ≡ slice_get xs k)
        ⊎ ((k ≡ length xs) × (slice_get (xs ++ x ∷ []) k ≡ Some x)) →
        (slice_get (xs ++ x ∷ []) k ≡ slice_get xs k)
        ⊎ ((suc k ≡ suc (length xs)) × (slice_get (xs ++ x ∷ []) k ≡ Some x))
    by (inl e) = inl e
    by (inr (e, s)) = inr (ap suc e, s)

pub one_longer : {X : Type 0} (n : ℕ) (old new : List X) (x : X) → n ≡ length old → new ≡ old ++ x ∷ [] →
    n + 1 ≡ length new
one_longer n old new x e is = let long = length-append old (x ∷ []) in let same = ap length is in
    omega (arith, long, same, e)

module _ (blocks : List Block) (maxdepth : ℤ) where
  abbrev LeadFrom : Cursor → Option Row → Type 0
  LeadFrom c row = LeadOn blocks maxdepth c (hop_in row c.is_inner c.variant c.index)
      (leap_in row c.is_inner c.variant c.index)

  -- one row more
  pub one_row : (rows : List Row) (row : Row) → AreHops blocks maxdepth rows →
      AreRowHops blocks maxdepth (length rows) row → AreHops blocks maxdepth (rows ++ row ∷ [])
  one_row rows row are more c = by (pushed rows row c.block)
    where
      by : (slice_get (rows ++ row ∷ []) c.block ≡ slice_get rows c.block)
          ⊎ ((c.block ≡ length rows) × (slice_get (rows ++ row ∷ []) c.block ≡ Some row)) →
          LeadFrom c (slice_get (rows ++ row ∷ []) c.block)
      by (inl s) = subst (LeadFrom c) (sym s) (are c)
      by (inr (b, s)) = subst (LeadFrom c) (sym s)
          (subst (λ (n : ℕ). LeadFrom (record { block = n; variant = c.variant; index = c.index; is_inner = c.is_inner })
          (Some row)) (sym b) (more c.is_inner c.variant c.index))

  -- one hop more of a variant
  pub one_hop : (block variant index : ℕ) (old new : List (Option HopValue)) (hop : Option HopValue) →
      index ≡ length old → new ≡ old ++ hop ∷ [] → IfSome hop (IsHop blocks maxdepth (within block variant index)) →
      AreHopsInside blocks maxdepth block variant old → AreHopsInside blocks maxdepth block variant new
  one_hop block variant index old new hop i is more are k = subst (λ (hops : List (Option HopValue)).
      From k (slice_get hops k)) (sym is) (by (pushed old hop k))
    where
      From : ℕ → Option (Option HopValue) → Type 0
      From k o = IfSome (hop_of o) (IsHop blocks maxdepth (within block variant k))

      by : (slice_get (old ++ hop ∷ []) k ≡ slice_get old k)
          ⊎ ((k ≡ length old) × (slice_get (old ++ hop ∷ []) k ≡ Some hop)) → From k (slice_get (old ++ hop ∷ []) k)
      by (inl s) = subst (From k) (sym s) (are k)
      by (inr (b, s)) = subst (From k) (sym s) (subst (λ (n : ℕ). From n (Some hop)) (i ∙ sym b) more)

  -- one variant more
  pub one_variant : (block variant : ℕ) (old new : List VariantHops) (it : VariantHops) → variant ≡ length old →
      new ≡ old ++ it ∷ [] → AreVariantHops blocks maxdepth block variant (Some it) →
      ((v : ℕ) → AreVariantHops blocks maxdepth block v (slice_get old v)) →
      (v : ℕ) → AreVariantHops blocks maxdepth block v (slice_get new v)
  one_variant block variant old new it i is more are v =
      subst (λ (all : List VariantHops). AreVariantHops blocks maxdepth block v (slice_get all v)) (sym is)
      (by (pushed old it v))
    where
      by : (slice_get (old ++ it ∷ []) v ≡ slice_get old v)
          ⊎ ((v ≡ length old) × (slice_get (old ++ it ∷ []) v ≡ Some it)) →
          AreVariantHops blocks maxdepth block v (slice_get (old ++ it ∷ []) v)
      by (inl s) = subst (AreVariantHops blocks maxdepth block v) (sym s) (are v)
      by (inr (b, s)) = subst (AreVariantHops blocks maxdepth block v) (sym s)
          (subst (λ (n : ℕ). AreVariantHops blocks maxdepth block n (Some it)) (i ∙ sym b) more)

-- what is left behind a cut was there before, below it, or nothing is left there
below : (n : ℕ) (rows : List Row) (k : ℕ) →
    ((k < n) × (slice_get (take n rows) k ≡ slice_get rows k)) ⊎ (slice_get (take n rows) k ≡ None)
below zero rows zero = inr refl
below zero rows (suc k) = inr refl
below (suc n) [] zero = inr refl
below (suc n) [] (suc k) = inr refl
below (suc n) (row ∷ rows) zero = inl (omega arith, refl)
below (suc n) (row ∷ rows) (suc k) = by (below n rows k)
  where
    by : ((k < n) × (slice_get (take n rows) k ≡ slice_get rows k)) ⊎ (slice_get (take n rows) k ≡ None) →
        ((suc k < suc n) × (slice_get (take n rows) k ≡ slice_get rows k)) ⊎ (slice_get (take n rows) k ≡ None)
    by (inl s) = inl (omega (arith, s.0), s.1)
    by (inr s) = inr s

-- what leads on from well below a block does so in each galley that is the same below it
same_on : (n : ℕ) (blocks others : List Block) → SameBlocks n blocks others → (maxdepth : ℤ) (c : Cursor)
    (hop : Option HopValue) (leap : Option LeapValue) → c.block + 258 < n → LeadOn blocks maxdepth c hop leap →
    LeadOn others maxdepth c hop leap
same_on n blocks others same maxdepth c hop leap l (h, p) = (hops hop h, leaps leap p)
  where
    hops : (o : Option HopValue) → IfSome o (IsHop blocks maxdepth c) → IfSome o (IsHop others maxdepth c)
    hops None leads = tt
    hops (Some h) leads = hop_same n blocks others same maxdepth c h (omega (arith, l)) leads

    leaps : (o : Option LeapValue) → IfSome o (IsLeap blocks maxdepth c) → IfSome o (IsLeap others maxdepth c)
    leaps None leads = tt
    leaps (Some p) leads = leap_same n blocks others same maxdepth c p l leads

pub are_cut : (n from : ℕ) → n ≡ from - 258 → (rows new : List Row) → new ≡ take n rows →
    (blocks others : List Block) (maxdepth : ℤ) → take from blocks ≡ take from others →
    AreHops blocks maxdepth rows → AreHops others maxdepth new
are_cut n from i rows new is blocks others maxdepth same are c =
    subst (λ (rs : List Row). LeadFrom others maxdepth c (slice_get rs c.block)) (sym is) (by (below n rows c.block))
  where
    by : ((c.block < n) × (slice_get (take n rows) c.block ≡ slice_get rows c.block))
        ⊎ (slice_get (take n rows) c.block ≡ None) → LeadFrom others maxdepth c (slice_get (take n rows) c.block)
    by (inl s) = same_on from blocks others (same_blocks from blocks others same) maxdepth c _ _
        (omega (arith, i, s.0)) (subst (LeadFrom blocks maxdepth c) (sym s.1) (are c))
    by (inr s) = subst (LeadFrom others maxdepth c) (sym s) (tt, tt)
