-- The walk keeps the laws of a space.
use Rattle.std.proofs.Common.{◌≡◌, refl, sym, ap, ◌∙◌, subst, ℕ, zero, suc, ◌+◌, ◌*◌, ◌^◌, ◌≤◌, ◌<◌, List, [], ◌∷◌, length, arith, Bool, true, false, Option, Some, None, ℤ, pos, ◌+ℤ◌, ◌≤ℤ◌, ◌<ℤ◌}
use Rattle.std.specs.Prelude.{◌==◌, if◌then◌else◌, drop, slice_get}
use Rattle.std.specs.List.{AllByRecursion}
use Rattle.std.specs.Int.{int_max}
use Rattle.std.specs.Option.{option_map_or}
use Rattle.std.specs.Ordering.{int_cmp, int_eq, is_eq, nat_cmp}
use Rattle.std.specs.declared.cmp.Ordering.TheVariants.{Equal}
use Rattle.std.proofs.lemmas.Cmp.{by_ranked, int_ranked, nat_cmp_total, ranked}
use Rattle.std.proofs.lemmas.Int.{ints, clamps}
use Rattle.pg_list.specs.declared.blocks.Block.{Block}
use Rattle.pg_list.specs.declared.blocks.Block.TheVariants.{One, Choice}
use Rattle.pg_list.specs.declared.variants.Variant.{Variant}
use Rattle.pg_list.specs.Shapes.{IsBlock, IsWithinLimits}
use Rattle.pg_list.specs.Flat.{FlatItem}
use Rattle.pg_lemmas.proofs.Bools.{both, both_of, if_true}
use Rattle.law_places.proofs.Tests.{int_le_of, le_int}
use Rattle.std.proofs.lemmas.Bool.{eqb-true}
use Rattle.pg_lemmas.proofs.Numbers.{eq_refl}
use Rattle.pg_notes.specs.declared.sums.NoteSum.{NoteSum}
use Rattle.pg_rules.specs.Room.{Document}
use Rattle.pg_sums.specs.declared.totals.Totals.{Totals}
use Rattle.pg_table.specs.Space.{Lawful, Run, Simulates, Small}
use Rattle.pg_breaks.specs.Near.{place_forced}
use Rattle.law_walk.specs.Candidates.{is_no_greater}
use Rattle.pg_column.specs.Passed.{Passed, crossed, fits, is_end_here, least_room, pass_item, pass_items, raised, with_next}
use Rattle.law_walk.specs.Space.{Picks, WalkKey, WalkState, is_no_worse, key_of, same_bool, same_key, same_notes, same_totals, walk_meaning}
use Rattle.law_walk.specs.Walk.{past_stretch, picked_front, picked_stretch, variants_at}
use Rattle.law_walk.proofs.Stretches.{front_behind, front_within}
use Rattle.std.proofs.lemmas.Option.{same_Some}
use Rattle.law_walk.proofs.Bounds.{no_greater_itself, no_greater_chain, fits_less}

-- ---- equal keys

int_same : (x y : ℤ) → int_eq x y ≡ true → x ≡ y
int_same x y e = by_ranked (x <ℤ y) (x ≡ y) (y <ℤ x) (int_cmp x y) (int_ranked x y (int_cmp x y) refl)
    (λ o _. absurd (let k : false ≡ true = sym (ap is_eq o) ∙ e in cc)) (λ _ p. p)
    (λ o _. absurd (let k : false ≡ true = sym (ap is_eq o) ∙ e in cc))

int_itself : (x : ℤ) → int_eq x x ≡ true
int_itself x = by_ranked (x <ℤ x) (x ≡ x) (x <ℤ x) (int_cmp x x) (int_ranked x x (int_cmp x x) refl)
    (λ _ p. absurd (omega (arith, ints, p))) (λ o _. ap is_eq o) (λ _ p. absurd (omega (arith, ints, p)))

bool_same : (a b : Bool) → same_bool a b ≡ true → a ≡ b
bool_same true b e = sym e
bool_same false true e = absurd cc
bool_same false false e = refl

bool_itself : (a : Bool) → same_bool a a ≡ true
bool_itself true = refl
bool_itself false = refl

pub totals_same : (a b : Totals) → same_totals a b ≡ true → a ≡ b
totals_same a b e =
    let t1 = both_of (int_eq a.total b.total) _ e in
    let t2 = both_of (int_eq a.depth b.depth) _ t1.1 in
    let t3 = both_of (same_bool a.has_box b.has_box) _ t2.1 in
    let t4 = both_of (int_eq a.finite b.finite) _ t3.1 in
    let t5 = both_of (int_eq a.fil b.fil) _ t4.1 in
    let t6 = both_of (int_eq a.fill b.fill) _ t5.1 in
    let t7 = both_of (int_eq a.filll b.filll) (int_eq a.shrink b.shrink) t6.1 in
    make a.total a.depth a.has_box a.finite a.fil a.fill a.filll a.shrink
    b.total b.depth b.has_box b.finite b.fil b.fill b.filll b.shrink
    (int_same _ _ t1.0) (int_same _ _ t2.0) (bool_same _ _ t3.0) (int_same _ _ t4.0) (int_same _ _ t5.0)
    (int_same _ _ t6.0) (int_same _ _ t7.0) (int_same _ _ t7.1)
  where
    make : (t d : ℤ) (h : Bool) (f1 f2 f3 f4 s t' d' : ℤ) (h' : Bool) (g1 g2 g3 g4 s' : ℤ) → t ≡ t' → d ≡ d' → h ≡ h' →
        f1 ≡ g1 → f2 ≡ g2 → f3 ≡ g3 → f4 ≡ g4 → s ≡ s' →
        ◌≡◌ {A = Totals} (record
        { total = t; depth = d; has_box = h; finite = f1; fil = f2; fill = f3; filll = f4; shrink = s })
        (record { total = t'; depth = d'; has_box = h'; finite = g1; fil = g2; fill = g3; filll = g4; shrink = s' })
    make t d h f1 f2 f3 f4 s t' d' h' g1 g2 g3 g4 s' a b c d1 d2 d3 d4 e = cc

pub totals_itself : (a : Totals) → same_totals a a ≡ true
totals_itself a =
    both _ _ (int_itself a.total) (both _ _ (int_itself a.depth) (both _ _ (bool_itself a.has_box)
    (both _ _ (int_itself a.finite) (both _ _ (int_itself a.fil) (both _ _ (int_itself a.fill)
    (both _ _ (int_itself a.filll) (int_itself a.shrink)))))))

notes_same : (a b : List NoteSum) → same_notes a b ≡ true → a ≡ b
notes_same [] [] e = refl
notes_same [] (y ∷ ys) e = absurd cc
notes_same (x ∷ xs) [] e = absurd cc
notes_same (x ∷ xs) (y ∷ ys) e =
    let t1 = both_of (x.size == y.size) _ e in
    let t2 = both_of (same_bool x.is_there y.is_there) (same_notes xs ys) t1.1 in
    make x.size y.size x.is_there y.is_there xs ys (eqb-true _ _ t1.0) (bool_same _ _ t2.0) (notes_same xs ys t2.1)
  where
    make : (m n : ℕ) (a b : Bool) (xs ys : List NoteSum) → m ≡ n → a ≡ b → xs ≡ ys →
        ◌≡◌ {A = List NoteSum} (record { size = m; is_there = a } ∷ xs) (record { size = n; is_there = b } ∷ ys)
    make m n a b xs ys p q r = cc

notes_itself : (a : List NoteSum) → same_notes a a ≡ true
notes_itself [] = refl
notes_itself (x ∷ xs) = both _ _ (eq_refl x.size) (both _ _ (bool_itself x.is_there) (notes_itself xs))

pub record AreSame (u v : WalkState) : Type 0 where
  pub block : u.block ≡ v.block
  pub totals : u.passed.totals ≡ v.passed.totals
  pub notes : u.passed.notes ≡ v.passed.notes
  pub bound : is_no_greater u.passed.bound v.passed.bound ≡ true

pub are_same : (u v : WalkState) → is_no_worse u v ≡ true → AreSame u v
are_same u v e =
    let t1 = both_of (same_key (key_of u) (key_of v)) _ e in
    let t2 = both_of (u.block == v.block) (same_totals u.passed.totals v.passed.totals) t1.0 in
    let t3 = both_of (same_notes u.passed.notes v.passed.notes) (is_no_greater u.passed.bound v.passed.bound) t1.1 in
    record {
      block = eqb-true _ _ t2.0;
      totals = totals_same _ _ t2.1;
      notes = notes_same _ _ t3.0;
      bound = t3.1;
    }

pub no_worse_of : (u v : WalkState) → AreSame u v → is_no_worse u v ≡ true
no_worse_of u v s = both _ _ (both _ _ (ap (λ (n : ℕ). n == v.block) s.block ∙ eq_refl v.block)
    (ap (λ (t : Totals). same_totals t v.passed.totals) s.totals ∙ totals_itself v.passed.totals))
    (both _ _ (ap (λ (ns : List NoteSum). same_notes ns v.passed.notes) s.notes ∙ notes_itself v.passed.notes) s.bound)

key_same : (u v : WalkState) → AreSame u v → key_of u ≡ key_of v
key_same u v s = make u.block v.block u.passed.totals v.passed.totals s.block s.totals
  where
    make : (m n : ℕ) (t t' : Totals) → m ≡ n → t ≡ t' →
        ◌≡◌ {A = WalkKey} (record { block = m; totals = t }) (record { block = n; totals = t' })
    make m n t t' p q = cc

-- ---- bounds

raised_less : (a b : Option ℤ) (z : ℤ) → is_no_greater a b ≡ true → is_no_greater (raised a z) (raised b z) ≡ true
raised_less None None z p = int_le_of z z (omega (arith, ints))
raised_less None (Some y) z p = int_le_of z (int_max y z) (omega (arith, ints, clamps))
raised_less (Some x) None z p = absurd cc
raised_less (Some x) (Some y) z p = let a = le_int x y p in
    int_le_of (int_max x z) (int_max y z) (omega (arith, ints, clamps, a))

-- ---- what passes with a greater bound passes with a smaller one

pub record IsLighter (a b : Passed) : Type 0 where
  pub totals : a.totals ≡ b.totals
  pub notes : a.notes ≡ b.notes
  pub bound : is_no_greater a.bound b.bound ≡ true

pub record PassesToo (doc : Document) (a r : Passed) (xs : List FlatItem) : Type 0 where
  pub passed : Passed
  pub passes : pass_items doc a xs ≡ Some passed
  pub lighter : IsLighter passed r

module _ (doc : Document) where
  next_lighter : (a b : Passed) (x : FlatItem) → IsLighter a b →
      IsLighter (with_next doc.style a x.item) (with_next doc.style b x.item)
  next_lighter a b x l = record {
    totals = rw l.totals refl;
    notes = rw l.notes refl;
    bound = l.bound;
  }

  crossed_lighter : (a b : Passed) → IsLighter a b → IsLighter (crossed doc.style a) (crossed doc.style b)
  crossed_lighter a b l = record {
    totals = l.totals;
    notes = l.notes;
    bound = subst (λ (z : ℤ). is_no_greater (raised a.bound (least_room doc.style a)) (raised b.bound z) ≡ true)
        least (raised_less a.bound b.bound (least_room doc.style a) l.bound);
  }
    where
      least : least_room doc.style a ≡ least_room doc.style b
      least = rw (l.totals, l.notes) refl

  item_too : (a b r : Passed) (x : FlatItem) → IsLighter a b → pass_item doc b x ≡ Some r →
      PassesToo doc a r (x ∷ [])
  item_too a b r x l e = by (is_end_here doc.blocks b x.place) (place_forced doc.blocks x.place) refl refl e
    where
      same_end : is_end_here doc.blocks a x.place ≡ is_end_here doc.blocks b x.place
      same_end = rw l.totals refl

      One-way : Bool → Bool → Passed → Option Passed
      One-way end forced p =
          if end then (if forced then None else Some (with_next doc.style (crossed doc.style p) x.item))
          else Some (with_next doc.style p x.item)

      passing : (end forced : Bool) → is_end_here doc.blocks b x.place ≡ end →
          place_forced doc.blocks x.place ≡ forced →
          pass_item doc a x ≡ One-way end forced a
      passing end forced i j = rw (same_end, i, j) refl

      by : (end forced : Bool) → is_end_here doc.blocks b x.place ≡ end → place_forced doc.blocks x.place ≡ forced →
          One-way (is_end_here doc.blocks b x.place) (place_forced doc.blocks x.place) b ≡ Some r →
          PassesToo doc a r (x ∷ [])
      by end forced i j e = cases end forced (passing end forced i j)
          (sym (rw (i, j) refl) ∙ e)
        where
          cases : (end forced : Bool) → pass_item doc a x ≡ One-way end forced a → One-way end forced b ≡ Some r →
              PassesToo doc a r (x ∷ [])
          cases true true p q = absurd cc
          cases true false p q = record {
            passed = with_next doc.style (crossed doc.style a) x.item;
            passes = ap (λ (o : Option Passed). option_map_or (λ (s : Passed). Some s) o None) p;
            lighter = subst (IsLighter (with_next doc.style (crossed doc.style a) x.item)) (same_Some _ _ q)
                (next_lighter (crossed doc.style a) (crossed doc.style b) x (crossed_lighter a b l));
          }
          cases false forced p q = record {
            passed = with_next doc.style a x.item;
            passes = ap (λ (o : Option Passed). option_map_or (λ (s : Passed). Some s) o None) p;
            lighter = subst (IsLighter (with_next doc.style a x.item)) (same_Some _ _ q) (next_lighter a b x l);
          }

  pub passes_too : (a b r : Passed) (xs : List FlatItem) → IsLighter a b → pass_items doc b xs ≡ Some r →
      PassesToo doc a r xs
  passes_too a b r [] l e = record {
    passed = a;
    passes = refl;
    lighter = subst (IsLighter a) (same_Some b r e) l;
  }
  passes_too a b r (x ∷ xs) l e = by (pass_item doc b x) refl e (λ p q l. passes_too p q r xs l)
    where
      by : (o : Option Passed) → pass_item doc b x ≡ o →
          option_map_or (λ (q : Passed). pass_items doc q xs) o None ≡ Some r →
          ((p q : Passed) → IsLighter p q → pass_items doc q xs ≡ Some r → PassesToo doc p r xs) →
          PassesToo doc a r (x ∷ xs)
      by None i h more = absurd cc
      by (Some q) i h more =
          let one : PassesToo doc a q (x ∷ []) = item_too a b q x l i in
          let rest : PassesToo doc one.passed r xs = more one.passed q one.lighter h in
          let there : pass_item doc a x ≡ Some one.passed = only (pass_item doc a x) one.passed one.passes in
          record {
            passed = rest.passed;
            passes = ap (λ (o : Option Passed). option_map_or (λ (s : Passed). pass_items doc s xs) o None) there
                ∙ rest.passes;
            lighter = rest.lighter;
          }
        where
          only : (o : Option Passed) (s : Passed) → option_map_or (λ (q : Passed). Some q) o None ≡ Some s → o ≡ Some s
          only None s e = absurd cc
          only (Some q) s e = e

-- ---- past a stretch

pub past_parts : (doc : Document) (top : ℤ) (p s : Passed) (xs : List FlatItem) → past_stretch doc top p xs ≡ Some s →
    (pass_items doc p xs ≡ Some s) × (fits s.bound top ≡ true)
past_parts doc top p s xs e = by (pass_items doc p xs) refl e
  where
    by : (o : Option Passed) → pass_items doc p xs ≡ o →
        option_map_or (λ (q : Passed). if fits q.bound top then Some q else None) o None ≡ Some s →
        (pass_items doc p xs ≡ Some s) × (fits s.bound top ≡ true)
    by None i h = absurd cc
    by (Some q) i h = inside (fits q.bound top) refl h
      where
        inside : (t : Bool) → fits q.bound top ≡ t → (if t then Some q else None) ≡ Some s →
            (pass_items doc p xs ≡ Some s) × (fits s.bound top ≡ true)
        inside true f h = (i ∙ h, ap (λ (r : Passed). fits r.bound top) (sym (same_Some q s h)) ∙ f)
        inside false f h = absurd cc

pub past_of : (doc : Document) (top : ℤ) (p s : Passed) (xs : List FlatItem) → pass_items doc p xs ≡ Some s →
    fits s.bound top ≡ true → past_stretch doc top p xs ≡ Some s
past_of doc top p s xs e f =
    ap (λ (o : Option Passed). option_map_or (λ (q : Passed). if fits q.bound top then Some q else None) o None) e
    ∙ if_true (fits s.bound top) (Some s) None f

-- ---- the laws

module _ (doc : Document) (all : AllByRecursion IsBlock doc.blocks) (few : length doc.blocks ≤ 2 ^ 20) (top : ℤ)
    (start : WalkState) (own : start.block ≤ length doc.blocks) where
  variant_few : (bs : List Block) (b q : ℕ) (v : Variant) → AllByRecursion IsBlock bs →
      slice_get (variants_at bs b) q ≡ Some v → (b < length bs) × (v.demerits ≤ 100000000)
  variant_few [] b q v a e = absurd cc
  variant_few (One item ∷ bs) zero q v a e = absurd cc
  variant_few (Choice variants ∷ bs) zero q v a e = (omega arith, at variants q a.0.limits e)
    where
      at : (vs : List Variant) (q : ℕ) → AllByRecursion IsWithinLimits vs → slice_get vs q ≡ Some v →
          v.demerits ≤ 100000000
      at [] q a e = absurd cc
      at (w ∷ ws) zero a e = let s : w ≡ v = cc in subst (λ (x : Variant). x.demerits ≤ 100000000) s a.0.demerits
      at (w ∷ ws) (suc q) a e = at ws q a.1 e
  variant_few (x ∷ bs) (suc b) q v a e = let r = variant_few bs b q v a.1 e in (omega (arith, r.0), r.1)

  pub rising : (u : WalkState) (q : ℕ) (v : WalkState) (c : ℤ) → Picks doc top u q v c → u.block < v.block
  rising u q v c f =
      let e : v.block ≡ picked_front doc.blocks u.block = f.leads in
      let m = front_behind (u.block + 1) (drop (u.block + 1) doc.blocks) in omega (arith, e, m)

  pub within : (u : WalkState) (q : ℕ) (v : WalkState) (c : ℤ) → Picks doc top u q v c → v.block ≤ length doc.blocks
  within u q v c f =
      let b = variant_few doc.blocks u.block q f.variant all f.there in
      let e : v.block ≡ picked_front doc.blocks u.block = f.leads in
      let m = front_within doc.blocks (u.block + 1) (drop (u.block + 1) doc.blocks) refl
      (omega (arith, b.0)) in omega (arith, e, m)

  same_state : (v w : WalkState) → v.block ≡ w.block → v.passed ≡ w.passed → v ≡ w
  same_state v w p q = make v.block w.block v.passed w.passed p q
    where
      make : (m n : ℕ) (a b : Passed) → m ≡ n → a ≡ b →
          ◌≡◌ {A = WalkState} (record { block = m; passed = a }) (record { block = n; passed = b })
      make m n a b p q = cc

  determined : (u : WalkState) (q : ℕ) (v w : WalkState) (c d : ℤ) → Picks doc top u q v c → Picks doc top u q w d →
      (v ≡ w) × (c ≡ d)
  determined u q v w c d f g = (
    same_state v w (f.leads ∙ sym g.leads) (same_Some v.passed w.passed (sym f.past ∙ g.past)),
    let s : f.variant ≡ g.variant = same_Some f.variant g.variant (sym f.there ∙ g.there) in
        f.pays ∙ (ap (λ (x : Variant). pos x.demerits) s ∙ sym g.pays),
  )

  pub simulates : (u v : WalkState) (q : ℕ) (w : WalkState) (c : ℤ) → is_no_worse u v ≡ true →
      Picks doc top v q w c → Simulates (walk_meaning doc top start) u q w c
  simulates u v q w c n f =
      let s : AreSame u v = are_same u v n in
      let parts = past_parts doc top v.passed w.passed (picked_stretch doc.blocks v.block q) f.past in
      let t : PassesToo doc u.passed w.passed (picked_stretch doc.blocks v.block q) =
      passes_too doc u.passed v.passed w.passed (picked_stretch doc.blocks v.block q)
      (record { totals = s.totals; notes = s.notes; bound = s.bound }) parts.0 in
      record {
        to = record { block = w.block; passed = t.passed };
        cost = c;
        follow = record {
          variant = f.variant;
          there = subst (λ (b : ℕ). slice_get (variants_at doc.blocks b) q ≡ Some f.variant) (sym s.block) f.there;
          loose = f.loose;
          past = subst (λ (b : ℕ). past_stretch doc top u.passed (picked_stretch doc.blocks b q) ≡ Some t.passed)
              (sym s.block) (past_of doc top u.passed t.passed (picked_stretch doc.blocks v.block q) t.passes
              (fits_less t.passed.bound w.passed.bound top t.lighter.bound parts.1));
          leads = f.leads ∙ ap (picked_front doc.blocks) (sym s.block);
          pays = f.pays;
        };
        cheap = omega (arith, ints);
        no_worse = no_worse_of (record { block = w.block; passed = t.passed }) w (record {
          block = refl;
          totals = t.lighter.totals;
          notes = t.lighter.notes;
          bound = t.lighter.bound;
        });
      }

  -- a run costs at most what its picks cost, and has no more picks than blocks
  record Counts (ms : List ℕ) (u : WalkState) (c : ℤ) : Type 0 where
    short : length ms ≤ u.block
    inside : u.block ≤ length doc.blocks
    least : pos 0 ≤ℤ c
    most : c ≤ℤ pos (100000000 * length ms)

  more_cost : (n k : ℤ) (d m : ℕ) → pos 0 ≤ℤ n → n ≤ℤ pos (100000000 * m) → k ≡ pos d → d ≤ 100000000 →
      (pos 0 ≤ℤ (n +ℤ k)) × ((n +ℤ k) ≤ℤ pos (100000000 * suc m))
  more_cost n k d m a b e h = (omega (arith, ints, a, e), omega (arith, ints, b, e, h))

  counts : (ms : List ℕ) (u : WalkState) (c : ℤ) → Run (walk_meaning doc top start) ms u c → Counts ms u c
  counts [] u c (e, z) = record {
    short = omega arith;
    inside = subst (λ (x : WalkState). x.block ≤ length doc.blocks) (sym e) own;
    least = omega (arith, ints, z);
    most = omega (arith, ints, z);
  }
  counts (m ∷ ms) v c (u, (n, k, (run, step, sum))) = more (counts ms u n run)
    where
      more : Counts ms u n → Counts (m ∷ ms) v c
      more r =
          let b = variant_few doc.blocks u.block m step.variant all step.there in
          let up = rising u m v k step in
          let cost = more_cost n k step.variant.demerits (length ms) r.least r.most step.pays b.1 in
          record {
            short = let s = r.short in omega (arith, s, up);
            inside = within u m v k step;
            least = subst (λ (z : ℤ). pos 0 ≤ℤ z) (sym sum) cost.0;
            most = subst (λ (z : ℤ). z ≤ℤ pos (100000000 * suc (length ms))) (sym sum) cost.1;
          }

  small : (c : ℤ) (m : ℕ) → pos 0 ≤ℤ c → c ≤ℤ pos (100000000 * m) → m ≤ 2 ^ 20 → Small c
  small c m a b h = record { above = omega (arith, ints, a); below = omega (arith, ints, a, b, h) }

  nat_equal : (m n : ℕ) → nat_cmp m n ≡ Equal → m ≡ n
  nat_equal m n h = by_ranked (m < n) (m ≡ n) (n < m) (nat_cmp m n) (ranked m n (nat_cmp m n) refl)
      (λ e _. cc (e, h)) (λ _ e. e) (λ e _. cc (e, h))

  -- the walk is a space, under any equality of its keys that decides
  pub walk_lawful : (eq : WalkKey → WalkKey → Bool) → ((a b : WalkKey) → eq a b ≡ true → a ≡ b) →
      ((a : WalkKey) → eq a a ≡ true) → Lawful eq (walk_meaning doc top start)
  walk_lawful eq decides reflexive = record {
    own_start = own;
    own_next = λ u m v c o f. within u m v c f;
    determined = determined;
    rises = λ u m v c o f. rising u m v c f;
    rank_fits = λ u o. let l : length doc.blocks ≤ 2 ^ 20 = few in omega (arith, o, l);
    reflexive = λ u o. no_worse_of u u (record {
      block = refl;
      totals = refl;
      notes = refl;
      bound = no_greater_itself u.passed.bound;
    });
    transitive = λ u v w a b c p q.
        let s : AreSame u v = are_same u v p in
        let t : AreSame v w = are_same v w q in
        no_worse_of u w (record {
          block = s.block ∙ t.block;
          totals = s.totals ∙ t.totals;
          notes = s.notes ∙ t.notes;
          bound = no_greater_chain u.passed.bound v.passed.bound w.passed.bound s.bound t.bound;
        });
    one_key = λ u v a b p.
        subst (λ (k : WalkKey). eq k (key_of v) ≡ true) (sym (key_same u v (are_same u v p))) (reflexive (key_of v));
    one_rank = λ u v a b e. ap (λ (k : WalkKey). k.block) (decides (key_of u) (key_of v) e);
    one_block = λ u v a b e. ap (λ (k : WalkKey). k.block) (decides (key_of u) (key_of v) e);
    simulates = λ u v m w c a b n f. simulates u v m w c n f;
    done = λ u v a b n d. absurd cc;
    order_equal = nat_equal;
    order_total = nat_cmp_total;
    onward = λ u m v c o f. let r = rising u m v c f in omega (arith, r);
    reach_own = λ u o. omega (arith, o);
    reach_next = λ u m v c o f. let r = within u m v c f in omega (arith, r);
    small_move = λ u m v c o f.
        let b = variant_few doc.blocks u.block m f.variant all f.there in
        let p : c ≡ pos f.variant.demerits = f.pays in
        small c 1 (omega (arith, ints, p)) (omega (arith, ints, p, b.1)) (omega arith);
    small_run = λ ms u c r.
        let k : Counts ms u c = counts ms u c r in
        small c (length ms) k.least k.most (let a = k.short in let b = k.inside in omega (arith, a, b, few));
    few_moves = λ ms u c r.
        let k : Counts ms u c = counts ms u c r in let a = k.short in let b = k.inside in omega (arith, a, b, few);
  }
