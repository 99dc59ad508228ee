-- The sums of a list grow item by item, and stay small.
use Rattle.std.proofs.Common.{◌≡◌, refl, sym, ap, ◌∙◌, subst, ℕ, zero, suc, ◌+◌, ◌*◌, ◌^◌, ◌≤◌, ◌<◌, List, [], ◌∷◌, ◌++◌, length, take, arith, Bool, true, false}
use Rattle.std.specs.Prelude.{if◌then◌else◌, nat_abs, ℤ, pos, ◌+ℤ◌}
use Rattle.std.specs.List.{AllByRecursion}
use Rattle.std.proofs.lemmas.Int.{ints}
use Rattle.pg_list.specs.declared.item.Item.{Item}
use Rattle.pg_list.specs.declared.item.Order.{Order}
use Rattle.pg_list.specs.declared.item.Order.TheVariants.{Finite, Fil, Fill, Filll}
use Rattle.pg_list.specs.Totals.{is_same_order, shrink_of, stretch_of}
use Rattle.pg_list.specs.Whole.{whole_sum_by}
use Rattle.pg_lemmas.proofs.Lists.{all_take}
use Rattle.pg_hlist.specs.declared.item.HItem.{HItem}
use Rattle.pg_hlist.specs.declared.item.HItem.TheVariants.{BoxItem, Glue, Kern, Penalty}
use Rattle.pg_hlist.specs.Items.{IsInRange, as_item, as_items, width_of}
use Rattle.pg_lines.specs.declared.sums.LineSums.{LineSums}
use Rattle.pg_lines.specs.Sums.{AreSmall, sums_of, sums_with}
use Rattle.pg_list.proofs.SumsLaws.{sum_push}

-- ---- one item more

item_sum_push : (g : Item → ℤ) (xs : List HItem) (x : HItem) →
    whole_sum_by g (as_items (xs ++ x ∷ [])) ≡ whole_sum_by g (as_items xs) +ℤ g (as_item x)
item_sum_push g [] x = swap (g (as_item x))
  where
    swap : (z : ℤ) → z +ℤ pos 0 ≡ pos 0 +ℤ z
    swap z = omega (arith, ints)
item_sum_push g (y ∷ xs) x = ap (λ (z : ℤ). g (as_item y) +ℤ z) (item_sum_push g xs x)
    ∙ group (g (as_item y)) (whole_sum_by g (as_items xs)) (g (as_item x))
  where
    group : (a b c : ℤ) → a +ℤ (b +ℤ c) ≡ (a +ℤ b) +ℤ c
    group a b c = omega (arith, ints)

no_more : (a : ℤ) → a +ℤ pos 0 ≡ a
no_more a = omega (arith, ints)

sums_same : (t t' f f' a a' b b' c c' s s' : ℤ) → t ≡ t' → f ≡ f' → a ≡ a' → b ≡ b' → c ≡ c' → s ≡ s' →
    ◌≡◌ {A = LineSums} (record { total = t; finite = f; fil = a; fill = b; filll = c; shrink = s })
    (record { total = t'; finite = f'; fil = a'; fill = b'; filll = c'; shrink = s' })
sums_same t t' f f' a a' b b' c c' s s' p q r u v w = rw (p, q, r, u, v, w) refl

module _ (xs : List HItem) (x : HItem) where
  abbrev Pushed : (Item → ℤ) → ℤ → Type 0
  Pushed g z = whole_sum_by g (as_items (xs ++ x ∷ [])) ≡ z

  pushed : (g : Item → ℤ) → Pushed g (whole_sum_by g (as_items xs) +ℤ g (as_item x))
  pushed g = item_sum_push g xs x

  kept : (g : Item → ℤ) → g (as_item x) ≡ pos 0 → Pushed g (whole_sum_by g (as_items xs))
  kept g e = item_sum_push g xs x ∙ ap (λ (z : ℤ). whole_sum_by g (as_items xs) +ℤ z) e
      ∙ no_more (whole_sum_by g (as_items xs))

  by_sums : (f a b c s : ℤ) → Pushed (stretch_of Finite) f → Pushed (stretch_of Fil) a → Pushed (stretch_of Fill) b →
      Pushed (stretch_of Filll) c → Pushed shrink_of s →
      sums_of (xs ++ x ∷ []) ≡ record {
        total = whole_sum_by width_of xs +ℤ width_of x;
        finite = f;
        fil = a;
        fill = b;
        filll = c;
        shrink = s;
      }
  by_sums f a b c s p q r u v = sums_same _ _ _ _ _ _ _ _ _ _ _ _ (sum_push width_of xs x) p q r u v

pub sums_push : (xs : List HItem) (x : HItem) → sums_of (xs ++ x ∷ []) ≡ sums_with (sums_of xs) x
sums_push xs (BoxItem width height depth body) = let x = BoxItem width height depth body in
    by_sums xs x _ _ _ _ _ (kept xs x (stretch_of Finite) refl) (kept xs x (stretch_of Fil) refl)
    (kept xs x (stretch_of Fill) refl) (kept xs x (stretch_of Filll) refl) (kept xs x shrink_of refl)
sums_push xs (Glue width stretch Finite amount body) = let x = Glue width stretch Finite amount body in
    by_sums xs x _ _ _ _ _ (pushed xs x (stretch_of Finite)) (kept xs x (stretch_of Fil) refl)
    (kept xs x (stretch_of Fill) refl) (kept xs x (stretch_of Filll) refl) (pushed xs x shrink_of)
sums_push xs (Glue width stretch Fil amount body) = let x = Glue width stretch Fil amount body in
    by_sums xs x _ _ _ _ _ (kept xs x (stretch_of Finite) refl) (pushed xs x (stretch_of Fil))
    (kept xs x (stretch_of Fill) refl) (kept xs x (stretch_of Filll) refl) (pushed xs x shrink_of)
sums_push xs (Glue width stretch Fill amount body) = let x = Glue width stretch Fill amount body in
    by_sums xs x _ _ _ _ _ (kept xs x (stretch_of Finite) refl) (kept xs x (stretch_of Fil) refl)
    (pushed xs x (stretch_of Fill)) (kept xs x (stretch_of Filll) refl) (pushed xs x shrink_of)
sums_push xs (Glue width stretch Filll amount body) = let x = Glue width stretch Filll amount body in
    by_sums xs x _ _ _ _ _ (kept xs x (stretch_of Finite) refl) (kept xs x (stretch_of Fil) refl)
    (kept xs x (stretch_of Fill) refl) (pushed xs x (stretch_of Filll)) (pushed xs x shrink_of)
sums_push xs (Kern width body) = let x = Kern width body in
    by_sums xs x _ _ _ _ _ (kept xs x (stretch_of Finite) refl) (kept xs x (stretch_of Fil) refl)
    (kept xs x (stretch_of Fill) refl) (kept xs x (stretch_of Filll) refl) (kept xs x shrink_of refl)
sums_push xs (Penalty value body) = let x = Penalty value body in
    by_sums xs x _ _ _ _ _ (kept xs x (stretch_of Finite) refl) (kept xs x (stretch_of Fil) refl)
    (kept xs x (stretch_of Fill) refl) (kept xs x (stretch_of Filll) refl) (kept xs x shrink_of refl)
    ∙ sums_same _ _ _ _ _ _ _ _ _ _ _ _ (no_more (whole_sum_by width_of xs)) refl refl refl refl refl

-- ---- small sums

pub width_small : (x : HItem) → IsInRange x → nat_abs (width_of x) < 2 ^ 30
width_small (BoxItem width height depth body) h = h.0
width_small (Glue width stretch order shrink body) h = h.0
width_small (Kern width body) h = h
width_small (Penalty value body) h = omega arith

if_small : (b : Bool) (z : ℤ) → nat_abs z < 2 ^ 30 → nat_abs (if b then z else pos 0) < 2 ^ 30
if_small true z h = h
if_small false z h = omega arith

stretch_small : (order : Order) (x : HItem) → IsInRange x → nat_abs (stretch_of order (as_item x)) < 2 ^ 30
stretch_small order (BoxItem width height depth body) h = omega arith
stretch_small order (Glue width stretch own shrink body) h = if_small (is_same_order order own) stretch h.1
stretch_small order (Kern width body) h = omega arith
stretch_small order (Penalty value body) h = omega arith

pub shrink_small : (x : HItem) → IsInRange x → nat_abs (shrink_of (as_item x)) < 2 ^ 30
shrink_small (BoxItem width height depth body) h = omega arith
shrink_small (Glue width stretch order shrink body) h = h.2
shrink_small (Kern width body) h = omega arith
shrink_small (Penalty value body) h = omega arith

more_small : (a b : ℤ) (n : ℕ) → nat_abs a < 2 ^ 30 → nat_abs b ≤ 2 ^ 30 * n → nat_abs (a +ℤ b) ≤ 2 ^ 30 * suc n
more_small a b n h k = omega (arith, ints, h, k)

widths_small : (items : List HItem) → AllByRecursion IsInRange items →
    nat_abs (whole_sum_by width_of items) ≤ 2 ^ 30 * length items
widths_small [] all = omega arith
widths_small (x ∷ items) all =
    more_small (width_of x) (whole_sum_by width_of items) (length items) (width_small x all.0) (widths_small items all.1)

amounts_small : (g : Item → ℤ) → ((x : HItem) → IsInRange x → nat_abs (g (as_item x)) < 2 ^ 30) →
    (items : List HItem) → AllByRecursion IsInRange items →
    nat_abs (whole_sum_by g (as_items items)) ≤ 2 ^ 30 * length items
amounts_small g small [] all = omega arith
amounts_small g small (x ∷ items) all =
    more_small (g (as_item x)) (whole_sum_by g (as_items items)) (length items) (small x all.0)
    (amounts_small g small items all.1)

pub sums_small : (items : List HItem) → AllByRecursion IsInRange items → length items ≤ 2 ^ 11 →
    AreSmall (sums_of items)
sums_small items all few = record {
  total = below (whole_sum_by width_of items) (widths_small items all);
  finite = below (whole_sum_by (stretch_of Finite) (as_items items)) (amounts_small (stretch_of Finite) (stretch_small Finite) items all);
  fil = below (whole_sum_by (stretch_of Fil) (as_items items)) (amounts_small (stretch_of Fil) (stretch_small Fil) items all);
  fill = below (whole_sum_by (stretch_of Fill) (as_items items)) (amounts_small (stretch_of Fill) (stretch_small Fill) items all);
  filll = below (whole_sum_by (stretch_of Filll) (as_items items)) (amounts_small (stretch_of Filll) (stretch_small Filll) items all);
  shrink = below (whole_sum_by shrink_of (as_items items)) (amounts_small shrink_of shrink_small items all);
}
  where
    below : (z : ℤ) → nat_abs z ≤ 2 ^ 30 * length items → nat_abs z < 2 ^ 42
    below z h = omega (arith, h, few)

pub sums_front : (line : List HItem) (i : ℕ) → AllByRecursion IsInRange line → length line ≤ 2 ^ 11 →
    AreSmall (sums_of (take i line))
sums_front line i all few = sums_small (take i line) (all_take IsInRange i line all) (few_taken i line few)
  where
    few_taken : (k : ℕ) (xs : List HItem) → length xs ≤ 2 ^ 11 → length (take k xs) ≤ 2 ^ 11
    few_taken k xs h = short k xs (2 ^ 11) h
      where
        short : (k : ℕ) (xs : List HItem) (n : ℕ) → length xs ≤ n → length (take k xs) ≤ n
        short zero xs n l = omega arith
        short (suc k) [] n l = l
        short (suc k) (x ∷ xs) zero l = absurd (omega (arith, l))
        short (suc k) (x ∷ xs) (suc n) l = let r = short k xs n (omega (arith, l)) in omega (arith, r)
