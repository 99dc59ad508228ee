-- Where no gap gives, as in versions 1 and 2, what gaps give is 0.
use Rattle.std.proofs.Common.{◌≡◌, refl, ap, ◌∙◌, ℕ, zero, suc, ◌≤◌, List, [], ◌∷◌, length, Bool, true, false, arith, ℤ, pos}
use Rattle.std.specs.Prelude.{◌&&◌, ◌==◌, if◌then◌else◌, ◌+ℤ◌, ◌*ℤ◌}
use Rattle.std.proofs.lemmas.Bool.Decides.{nat_tests}
use Rattle.std.proofs.lemmas.Int.{ints}
use Rattle.pg_list.specs.declared.item.Item.{Item}
use Rattle.pg_list.specs.Whole.{whole_sum_by}
use Rattle.pg_style.specs.Ranges.{AreRigidClasses, IsRigid, IsRigidArea, IsRigidKind, IsRigidStyle, IsStyle}
use Rattle.pg_style.specs.Values.{AreaRuleValue, StyleValue}
use Rattle.pg_style.specs.declared.style.Class.{Class}
use Rattle.pg_style.specs.declared.style.Gap.{Gap}
use Rattle.pg_style.specs.declared.style.Kind.{Kind}
use Rattle.pg_style.specs.declared.style.Kind.TheVariants.{Note, Float}
use Rattle.pg_rules.specs.Floats.{area_give, dealt, floats, gap_shrink, gap_stretch, has_all, sizes_of}
use Rattle.pg_rules.specs.Room.{ColumnContext, areas_give, before_bottom, bottom_give, checked_give, class_give, give, is_bottom_allowed, is_top_allowed, skips_give, top_give}

-- this part of a gap that gives nothing is 0
abbrev pub IsNone : (Gap → ℤ) → Type 0
IsNone part = (gap : Gap) → IsRigid gap → part gap ≡ pos 0

pub stretch_none : IsNone gap_stretch
stretch_none gap rigid = rigid.0

pub shrink_none : IsNone gap_shrink
shrink_none gap rigid = rigid.1

none_both : (a b : ℤ) → a ≡ pos 0 → b ≡ pos 0 → a +ℤ b ≡ pos 0
none_both a b p q = omega (arith, ints, p, q)

module _ (part : Gap → ℤ) (none : IsNone part) where
  area_none : (rule : AreaRuleValue) → IsRigidArea rule → (n : ℕ) → area_give part rule n ≡ pos 0
  area_none rule rigid zero = refl
  area_none rule rigid (suc n) = none_both (part rule.sep *ℤ pos n) (part rule.gap)
      (ap (λ (z : ℤ). z *ℤ pos n) (none rule.sep rigid.0) ∙ no_times n) (none rule.gap rigid.1)
    where
      no_times : (n : ℕ) → pos 0 *ℤ pos n ≡ pos 0
      no_times n = omega (arith, ints)

  checked_none : (lists : List (List ℤ)) (allowed : Bool) (rule : AreaRuleValue) (before counts : List ℕ) →
      IsRigidArea rule → checked_give part lists allowed rule before counts ≡ pos 0
  checked_none lists allowed rule before counts rigid = by (allowed && has_all lists before counts)
    where
      by : (b : Bool) → (if b then area_give part rule (length (dealt lists before counts)) else pos 0) ≡ pos 0
      by true = area_none rule rigid (length (dealt lists before counts))
      by false = refl

  kind_none : (items : List Item) (number : ℕ) (kind : Kind) → IsRigidKind kind →
      class_give part items number kind ≡ pos 0
  kind_none items number (Float area distance) rigid = refl
  kind_none items number (Note skip limit) rigid = by (length (sizes_of number items) == 0)
    where
      by : (b : Bool) → (if b then pos 0 else part skip) ≡ pos 0
      by true = refl
      by false = none skip rigid

  classes_none : (items : List Item) (classes : List Class) → AreRigidClasses classes →
      whole_sum_by (λ (class : Class). class_give part items class.number class.kind) classes ≡ pos 0
  classes_none items [] rigid = refl
  classes_none items (class ∷ classes) rigid =
      none_both (class_give part items class.number class.kind)
      (whole_sum_by (λ (class : Class). class_give part items class.number class.kind) classes)
      (kind_none items class.number class.kind rigid.0) (classes_none items classes rigid.1)

  -- the gaps around a text give nothing
  pub rigid_give : (it : ColumnContext) → IsRigidStyle it.document.style → (items : List Item) →
      give part it items ≡ pos 0
  rigid_give it rigid items =
      none_both (areas_give part it) (skips_give part it.document.style items)
      (none_both (top_give part it) (bottom_give part it)
      (checked_none (floats it.document.blocks it.document.style) (is_top_allowed it) it.document.style.top it.before
      it.column.top rigid.top_in)
      (checked_none (floats it.document.blocks it.document.style) (is_bottom_allowed it) it.document.style.bottom
      (before_bottom it) it.column.bottom rigid.bottom_in))
      (classes_none items it.document.style.classes rigid.classes_in)

-- no style of version 1 or 2 has gaps that give
pub early_rigid : (style : StyleValue) → IsStyle style → (style.version == 3) ≡ false → IsRigidStyle style
early_rigid style range e = range.rigid_in (low style.version range.version_to e)
  where
    low : (v : ℕ) → v ≤ 3 → (v == 3) ≡ false → v ≤ 2
    low v h e = grind (arith, nat_tests)
