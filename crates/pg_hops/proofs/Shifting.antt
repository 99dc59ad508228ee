-- Totals shifted by what items add are the totals with these items.
use Rattle.std.proofs.Common.{◌≡◌, ◌∙◌, refl, sym, ap, arith, ℤ, pos, ◌+ℤ◌, ◌-ℤ◌, Bool, true}
use Rattle.std.proofs.lemmas.Int.{ints}
use Rattle.std.specs.Prelude.{◌||◌, not, if◌then◌else◌, unwrap_or}
use Rattle.std.specs.Int.{int_max, int_min}
use Rattle.pg_list.specs.declared.item.Item.{Item}
use Rattle.pg_list.specs.declared.item.Item.TheVariants.{BoxItem, Rule, Glue, Kern, Penalty, Insert, Carry}
use Rattle.pg_list.specs.declared.item.Order.TheVariants.{Finite, Fil, Fill, Filll}
use Rattle.pg_list.specs.Shapes.{is_discardable}
use Rattle.pg_list.specs.Totals.{is_same_order}
use Rattle.pg_sums.specs.declared.totals.Totals.{Totals}
use Rattle.pg_sums.specs.Step.{counted, with_box, with_item}
use Rattle.pg_hops.specs.declared.shift.Shift.{Shift}
use Rattle.pg_hops.specs.Shift.{no_shift, shifted, with_box_behind, with_shift}

abbrev made : ℤ → ℤ → Bool → ℤ → ℤ → ℤ → ℤ → ℤ → Totals
made total depth has finite fil fill filll shrink = record {
  total = total;
  depth = depth;
  has_box = has;
  finite = finite;
  fil = fil;
  fill = fill;
  filll = filll;
  shrink = shrink;
}

-- totals with the same sums are the same
pub same_totals : (a b : Totals) → a.total ≡ b.total → a.depth ≡ b.depth → a.has_box ≡ b.has_box →
    a.finite ≡ b.finite → a.fil ≡ b.fil → a.fill ≡ b.fill → a.filll ≡ b.filll → a.shrink ≡ b.shrink → a ≡ b
same_totals a b total depth has finite fil fill filll shrink =
    ap (λ z. made z a.depth a.has_box a.finite a.fil a.fill a.filll a.shrink) total
    ∙ ap (λ z. made b.total z a.has_box a.finite a.fil a.fill a.filll a.shrink) depth
    ∙ ap (λ z. made b.total b.depth z a.finite a.fil a.fill a.filll a.shrink) has
    ∙ ap (λ z. made b.total b.depth b.has_box z a.fil a.fill a.filll a.shrink) finite
    ∙ ap (λ z. made b.total b.depth b.has_box b.finite z a.fill a.filll a.shrink) fil
    ∙ ap (λ z. made b.total b.depth b.has_box b.finite b.fil z a.filll a.shrink) fill
    ∙ ap (λ z. made b.total b.depth b.has_box b.finite b.fil b.fill z a.shrink) filll
    ∙ ap (λ z. made b.total b.depth b.has_box b.finite b.fil b.fill b.filll z) shrink

-- ---- the sums of one item

box_total : (t d s e z h k m : ℤ) → z ≡ pos 0 →
    ((((((t +ℤ d) +ℤ s) -ℤ e) +ℤ z) +ℤ e) +ℤ h +ℤ k) -ℤ m ≡ ((t +ℤ d) +ℤ ((s +ℤ h) +ℤ k)) -ℤ m
box_total t d s e z h k m none = omega (arith, ints, none)

wide_total : (t d s e w : ℤ) → ((((t +ℤ d) +ℤ s) -ℤ e) +ℤ e) +ℤ w ≡ ((t +ℤ d) +ℤ (s +ℤ w)) -ℤ pos 0
wide_total t d s e w = omega (arith, ints)

joined : (a b c : ℤ) → (a +ℤ b) +ℤ c ≡ a +ℤ (b +ℤ c)
joined a b c = omega (arith, ints)

module _ (topskip maxdepth : ℤ) (t : Totals) (s : Shift) (box : t.has_box ≡ true) where
  box_step : (h d : ℤ) → with_box topskip maxdepth (shifted t s) h d ≡ shifted t (with_box_behind maxdepth s h d)
  box_step h d = same_totals (with_box topskip maxdepth (shifted t s) h d) (shifted t (with_box_behind maxdepth s h d))
      (box_total t.total t.depth s.height (unwrap_or s.depth t.depth)
      (if t.has_box then pos 0 else int_max (pos 0) (topskip -ℤ h)) h d (int_min maxdepth d)
      (ap (λ b. if b then pos 0 else int_max (pos 0) (topskip -ℤ h)) box))
      refl (sym box) refl refl refl refl refl

  item_step : (x : Item) → with_item topskip maxdepth (shifted t s) x ≡ shifted t (with_shift maxdepth s x)
  item_step (BoxItem h d body) = box_step h d
  item_step (Rule h d body) = box_step h d
  item_step (Glue w amount order less body) =
      same_totals (with_item topskip maxdepth (shifted t s) (Glue w amount order less body))
      (shifted t (with_shift maxdepth s (Glue w amount order less body)))
      (wide_total t.total t.depth s.height (unwrap_or s.depth t.depth) w) refl refl
      (joined t.finite s.finite (if is_same_order Finite order then amount else pos 0))
      (joined t.fil s.fil (if is_same_order Fil order then amount else pos 0))
      (joined t.fill s.fill (if is_same_order Fill order then amount else pos 0))
      (joined t.filll s.filll (if is_same_order Filll order then amount else pos 0))
      (joined t.shrink s.shrink less)
  item_step (Kern w body) =
      same_totals (with_item topskip maxdepth (shifted t s) (Kern w body))
      (shifted t (with_shift maxdepth s (Kern w body)))
      (wide_total t.total t.depth s.height (unwrap_or s.depth t.depth) w) refl refl refl refl refl refl refl
  item_step (Penalty v body) = refl
  item_step (Insert c z body) = refl
  item_step (Carry body) = refl

  -- behind a box one more item shifts by what it adds
  pub shift_step : (x : Item) → counted topskip maxdepth (shifted t s) x ≡ shifted t (with_shift maxdepth s x)
  shift_step x =
      ap (λ b. if b || not (is_discardable x) then with_item topskip maxdepth (shifted t s) x else shifted t s) box
      ∙ item_step x

-- what no items add changes nothing
pub shift_none : (t : Totals) → shifted t no_shift ≡ t
shift_none t = same_totals (shifted t no_shift) t (nothing t.total t.depth) refl refl
    (more t.finite) (more t.fil) (more t.fill) (more t.filll) (more t.shrink)
  where
    nothing : (a d : ℤ) → ((a +ℤ d) +ℤ pos 0) -ℤ d ≡ a
    nothing a d = omega (arith, ints)

    more : (a : ℤ) → a +ℤ pos 0 ≡ a
    more a = omega (arith, ints)
