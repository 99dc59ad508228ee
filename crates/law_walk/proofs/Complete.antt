-- Each candidate that some room up to the greatest one may use stands among those of the walk.
use Rattle.std.proofs.Common.{◌≡◌, refl, sym, ap, ◌∙◌, subst, ℕ, zero, suc, ◌+◌, ◌≤◌, ◌<◌, ◌⊎◌, inl, inr, List, [], ◌∷◌, ◌++◌, length, take, drop, arith, Bool, true, false, Option, Some, None, ℤ, pos, ◌+ℤ◌}
use Rattle.std.specs.Prelude.{◌&&◌, if◌then◌else◌, slice_get}
use Rattle.std.specs.List.{flat_map, range_with_len}
use Rattle.std.specs.Option.{option_map_or}
use Rattle.std.proofs.lemmas.Int.{ints}
use Rattle.std.proofs.lemmas.List.{append_assoc, append-nil}
use Rattle.std.proofs.lemmas.Option.{slice_get_within}
use Rattle.pg_list.specs.declared.blocks.Block.{Block}
use Rattle.pg_list.specs.declared.variants.Variant.{Variant}
use Rattle.pg_list.specs.declared.galley.Place.{Place}
use Rattle.pg_list.specs.Places.{place}
use Rattle.pg_list.specs.Flat.{FlatItem}
use Rattle.pg_lemmas.proofs.Bools.{both, if_true}
use Rattle.pg_rules.specs.Room.{Document}
use Rattle.law_walk.specs.Best.{IsAmong}
use Rattle.law_walk.specs.Candidates.{Candidate}
use Rattle.pg_column.specs.Passed.{Passed, are_within, fits, is_end_here, pass_item, pass_items}
use Rattle.law_walk.specs.Walk.{end_here, ends_along, past_stretch, picked_front, picked_stretch, variants_at, walk_from}
use Rattle.law_walk.proofs.Stretches.{front_behind, items_fit}
use Rattle.pg_column.specs.Judged.{is_loose_enough}

pub among_left : {X : Type 0} (x : X) (xs ys : List X) → IsAmong x xs → IsAmong x (xs ++ ys)
among_left x [] ys a = absurd a
among_left x (z ∷ xs) ys (inl e) = inl e
among_left x (z ∷ xs) ys (inr a) = inr (among_left x xs ys a)

pub among_right : {X : Type 0} (x : X) (xs ys : List X) → IsAmong x ys → IsAmong x (xs ++ ys)
among_right x [] ys a = a
among_right x (z ∷ xs) ys a = inr (among_right x xs ys a)

pub among_range : {Y : Type 0} (f : ℕ → List Y) (a d n : ℕ) (y : Y) → d < n → IsAmong y (f (a + d)) →
    IsAmong y (flat_map f (range_with_len a n))
among_range f a d zero y h m = absurd (omega (arith, h))
among_range {Y} f a zero (suc n) y h m = let e : a + 0 ≡ a = omega arith in
    among_left y (f a) (flat_map f (range_with_len (a + 1) n)) (subst (λ (z : ℕ). IsAmong y (f z)) e m)
among_range {Y} f a (suc d) (suc n) y h m = let e : a + suc d ≡ a + 1 + d = omega arith in
    among_right y (f a) (flat_map f (range_with_len (a + 1) n))
    (among_range f (a + 1) d n y (omega (arith, h)) (subst (λ (z : ℕ). IsAmong y (f z)) e m))

-- ---- an end in a stretch

-- the k-th item of the stretch stands at the place, or the place is the front behind it
abbrev pub StandsIn : List FlatItem → ℕ → ℕ → Place → Type 0
StandsIn xs b k to = ((x : FlatItem) × ((slice_get xs k ≡ Some x) × (x.place ≡ to)))
    ⊎ ((k ≡ length xs) × (to ≡ place b 0 0))

module _ (doc : Document) (top : ℤ) where
  -- what makes an end of a place with what was passed
  pub record IsFine (to : Place) (r : Passed) : Type 0 where
    pub ends : is_end_here doc.blocks r to ≡ true
    pub limits : are_within doc.style r ≡ true
    pub bound : fits r.bound top ≡ true

  abbrev pub made : Place → List ℕ → Passed → ℤ → Candidate
  made to picks r d = record { to = to; picks = picks; passed = r; pick_demerits = d }

  here : (picks : List ℕ) (d : ℤ) (to : Place) (r : Passed) → IsFine to r →
      IsAmong (made to picks r d) (end_here doc picks d to r)
  here picks d to r f = by (is_end_here doc.blocks r to && are_within doc.style r) (both _ _ f.ends f.limits)
    where
      by : (b : Bool) → b ≡ true → IsAmong (made to picks r d) (if b then made to picks r d ∷ [] else [])
      by true e = inl refl
      by false e = absurd cc

  pub along : (picks : List ℕ) (d : ℤ) (b : ℕ) (to : Place) (p r : Passed) (xs : List FlatItem) (k : ℕ) →
      StandsIn xs b k to → pass_items doc p (take k xs) ≡ Some r → IsFine to r →
      IsAmong (made to picks r d) (ends_along doc top picks d (place b 0 0) p xs)
  along picks d b to p r [] zero (inl (x, e)) g f = absurd (let h = e.0 in cc)
  along picks d b to p r [] zero (inr (e, t)) g f =
      let s : p ≡ r = cc in
      subst (λ (q : Passed). IsAmong (made to picks r d) (end_here doc picks d (place b 0 0) q)) (sym s)
      (subst (λ (at : Place). IsAmong (made to picks r d) (end_here doc picks d at r)) t (here picks d to r f))
  along picks d b to p r [] (suc k) (inl (x, e)) g f = absurd (let h = e.0 in cc)
  along picks d b to p r [] (suc k) (inr (e, t)) g f = absurd (omega (arith, e))
  along picks d b to p r (x ∷ xs) zero (inl (y, e)) g f =
      let s : p ≡ r = cc in
      let same : x ≡ y = let h = e.0 in cc in
      let at : x.place ≡ to = ap (λ (z : FlatItem). z.place) same ∙ e.1 in
      among_left (made to picks r d) (end_here doc picks d x.place p) _
      (subst (λ (q : Passed). IsAmong (made to picks r d) (end_here doc picks d x.place q)) (sym s)
      (subst (λ (z : Place). IsAmong (made to picks r d) (end_here doc picks d z r)) (sym at) (here picks d to r f)))
  along picks d b to p r (x ∷ xs) zero (inr (e, t)) g f = absurd (omega (arith, e))
  along picks d b to p r (x ∷ xs) (suc k) st g f =
      among_right (made to picks r d) (end_here doc picks d x.place p) _
      (by (pass_item doc p x) g (λ q h. along picks d b to q r xs k (later st) h f))
    where
      later : StandsIn (x ∷ xs) b (suc k) to → StandsIn xs b k to
      later (inl s) = inl s
      later (inr (e, t)) = inr (omega (arith, e), t)

      by : (o : Option Passed) →
          option_map_or (λ (q : Passed). pass_items doc q (take k xs)) o None ≡ Some r →
          ((q : Passed) → pass_items doc q (take k xs) ≡ Some r →
          IsAmong (made to picks r d) (ends_along doc top picks d (place b 0 0) q xs)) →
          IsAmong (made to picks r d) (option_map_or
          (λ (q : Passed). if fits q.bound top then ends_along doc top picks d (place b 0 0) q xs else []) o [])
      by None h more = absurd cc
      by (Some q) h more = subst (IsAmong (made to picks r d))
          (sym (if_true (fits q.bound top) (ends_along doc top picks d (place b 0 0) q xs) []
          (items_fit doc top q r (take k xs) h f.bound))) (more q h)

  -- ---- the way of picks

  -- from what was passed before a stretch with the front b behind it, these picks lead to an end, at this price
  abbrev pub Goes : Passed → List FlatItem → ℕ → List ℕ → Place → Passed → ℤ → Type 0
  Goes p xs b [] to r d = (k : ℕ) × (StandsIn xs b k to × ((pass_items doc p (take k xs) ≡ Some r) × (d ≡ pos 0)))
  Goes p xs b (q ∷ qs) to r d = (s : Passed) × ((v : Variant) × ((e : ℤ) × ((past_stretch doc top p xs ≡ Some s)
      × ((slice_get (variants_at doc.blocks b) q ≡ Some v) × ((is_loose_enough doc.style v ≡ true)
      × ((d ≡ pos v.demerits +ℤ e)
      × Goes s (picked_stretch doc.blocks b q) (picked_front doc.blocks b) qs to r e))))))

  no_variants : (n : ℕ) (blocks : List Block) → length blocks ≤ n → variants_at blocks n ≡ []
  no_variants n [] h = refl
  no_variants zero (x ∷ blocks) h = absurd (omega (arith, h))
  no_variants (suc n) (x ∷ blocks) h = no_variants n blocks (omega (arith, h))

  pub walked : (fuel b q : ℕ) (qs picks : List ℕ) (d e x : ℤ) (to : Place) (p r : Passed) (v : Variant) →
      length doc.blocks ≤ b + fuel → slice_get (variants_at doc.blocks b) q ≡ Some v →
      is_loose_enough doc.style v ≡ true →
      Goes p (picked_stretch doc.blocks b q) (picked_front doc.blocks b) qs to r e → IsFine to r →
      x ≡ (d +ℤ pos v.demerits) +ℤ e →
      IsAmong (made to (picks ++ q ∷ qs) r x) (walk_from fuel doc top picks d b p)
  walked zero b q qs picks d e x to p r v h at loose g f pays =
      absurd (let none = no_variants b doc.blocks (omega (arith, h)) in
      let k : slice_get [] q ≡ Some v = subst (λ (vs : List Variant). slice_get vs q ≡ Some v) none at in cc)
  walked (suc fuel) b q qs picks d e x to p r v h at loose g f pays =
      among_range _ 0 q (length (variants_at doc.blocks b)) (made to (picks ++ q ∷ qs) r x)
      (slice_get_within (variants_at doc.blocks b) q v at)
      (let same : 0 + q ≡ q = omega arith in
      subst (λ (z : ℕ). IsAmong (made to (picks ++ q ∷ qs) r x) (Part z)) (sym same)
      (here_part (λ q' qs' d' e' x' s w h' at' loose' g' pays'. walked fuel (picked_front doc.blocks b) q' qs'
      (picks ++ q ∷ []) d' e' x' to s r w h' at' loose' g' f pays')))
    where
      Again : Type 0
      Again = (q' : ℕ) (qs' : List ℕ) (d' e' x' : ℤ) (s : Passed) (w : Variant) →
          length doc.blocks ≤ picked_front doc.blocks b + fuel →
          slice_get (variants_at doc.blocks (picked_front doc.blocks b)) q' ≡ Some w →
          is_loose_enough doc.style w ≡ true →
          Goes s (picked_stretch doc.blocks (picked_front doc.blocks b) q')
          (picked_front doc.blocks (picked_front doc.blocks b)) qs' to r e' → x' ≡ (d' +ℤ pos w.demerits) +ℤ e' →
          IsAmong (made to ((picks ++ q ∷ []) ++ q' ∷ qs') r x')
          (walk_from fuel doc top (picks ++ q ∷ []) d' (picked_front doc.blocks b) s)

      Inner : ℕ → Variant → List Candidate
      Inner pick w = if is_loose_enough doc.style w
          then ends_along doc top (picks ++ pick ∷ []) (d +ℤ pos w.demerits) (place (picked_front doc.blocks b) 0 0) p
          (picked_stretch doc.blocks b pick)
          ++ option_map_or
          (λ (s : Passed). walk_from fuel doc top (picks ++ pick ∷ []) (d +ℤ pos w.demerits)
          (picked_front doc.blocks b) s)
          (past_stretch doc top p (picked_stretch doc.blocks b pick)) []
          else []

      Part : ℕ → List Candidate
      Part pick = option_map_or (Inner pick) (slice_get (variants_at doc.blocks b) pick) []

      Near : List Candidate
      Near = ends_along doc top (picks ++ q ∷ []) (d +ℤ pos v.demerits) (place (picked_front doc.blocks b) 0 0) p
          (picked_stretch doc.blocks b q)

      Far : Option Passed → List Candidate
      Far o = option_map_or
          (λ (s : Passed). walk_from fuel doc top (picks ++ q ∷ []) (d +ℤ pos v.demerits)
          (picked_front doc.blocks b) s) o []

      Whole : List Candidate
      Whole = Near ++ Far (past_stretch doc top p (picked_stretch doc.blocks b q))

      grouped : (picks ++ q ∷ []) ++ qs ≡ picks ++ q ∷ qs
      grouped = append_assoc picks (q ∷ []) qs

      deep : Again → (qs : List ℕ) (e x : ℤ) →
          Goes p (picked_stretch doc.blocks b q) (picked_front doc.blocks b) qs to r e →
          x ≡ (d +ℤ pos v.demerits) +ℤ e → IsAmong (made to ((picks ++ q ∷ []) ++ qs) r x) (Inner q v)
      deep again [] e x (k, (st, (pass, none))) pays =
          let price : x ≡ d +ℤ pos v.demerits = omega (arith, ints, pays, none) in
          let nil : (picks ++ q ∷ []) ++ [] ≡ picks ++ q ∷ [] = append-nil (picks ++ q ∷ []) in
          subst (IsAmong (made to ((picks ++ q ∷ []) ++ []) r x))
          (sym (if_true (is_loose_enough doc.style v) Whole [] loose))
          (subst (λ (ps : List ℕ). IsAmong (made to ps r x) Whole) (sym nil)
          (subst (λ (z : ℤ). IsAmong (made to (picks ++ q ∷ []) r z) Whole) (sym price)
          (among_left (made to (picks ++ q ∷ []) r (d +ℤ pos v.demerits)) Near
          (Far (past_stretch doc top p (picked_stretch doc.blocks b q)))
          (along (picks ++ q ∷ []) (d +ℤ pos v.demerits) (picked_front doc.blocks b) to p r
          (picked_stretch doc.blocks b q) k st pass f))))
      deep again (q' ∷ qs) e x (s, (w, (e', (past, (at', (loose', (pays', more))))))) pays =
          let onward : length doc.blocks ≤ picked_front doc.blocks b + fuel =
          let m = front_behind (b + 1) (drop (b + 1) doc.blocks) in omega (arith, h, m) in
          let there = again q' qs (d +ℤ pos v.demerits) e' x s w
          onward at' loose' more (omega (arith, ints, pays, pays')) in
          subst (IsAmong (made to ((picks ++ q ∷ []) ++ q' ∷ qs) r x))
          (sym (if_true (is_loose_enough doc.style v) Whole [] loose))
          (among_right (made to ((picks ++ q ∷ []) ++ q' ∷ qs) r x) Near
          (Far (past_stretch doc top p (picked_stretch doc.blocks b q)))
          (subst (λ (o : Option Passed). IsAmong (made to ((picks ++ q ∷ []) ++ q' ∷ qs) r x) (Far o)) (sym past)
          there))

      here_part : Again → IsAmong (made to (picks ++ q ∷ qs) r x) (Part q)
      here_part again =
          subst (λ (o : Option Variant). IsAmong (made to (picks ++ q ∷ qs) r x) (option_map_or (Inner q) o []))
          (sym at)
          (subst (λ (ps : List ℕ). IsAmong (made to ps r x) (Inner q v)) grouped (deep again qs e x g pays))
