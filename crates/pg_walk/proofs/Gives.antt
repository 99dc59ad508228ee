-- What the gaps of a full area give is small, and with the skips it is all that is given.
use Rattle.std.proofs.Common.{◌≡◌, refl, sym, ap, ◌∙◌, subst, ℕ, List, ◌<◌, ◌≤◌, ◌^◌, arith, ℤ, ◌+ℤ◌}
use Rattle.std.specs.Prelude.{nat_abs}
use Rattle.pg_list.specs.Whole.{whole_sum_by}
use Rattle.pg_style.specs.Ranges.{IsAreaRule}
use Rattle.pg_style.specs.Values.{AreaRuleValue, StyleValue}
use Rattle.pg_style.specs.declared.style.Class.{Class}
use Rattle.pg_style.specs.declared.style.Gap.{Gap}
use Rattle.pg_rules.specs.Floats.{area_give, gap_shrink}
use Rattle.pg_rules.specs.Reach.{greatest_areas, greatest_give, skip_give}
use Rattle.law_columns.proofs.Gives.{IsPart, give_range}

-- a full area gives little
pub few_area : (part : Gap → ℤ) → IsPart part → (rule : AreaRuleValue) → IsAreaRule rule → (n : ℕ) → n ≡ rule.count →
    (x : ℤ) → x ≡ area_give part rule n → nat_abs x < 2 ^ 33
few_area part sized rule range n full x e =
    let up = (give_range part sized rule range n (subst (λ (m : ℕ). m ≤ 4) (sym full) range.count_in)).1 in
    subst (λ (z : ℤ). nat_abs z < 2 ^ 33) (sym e) (omega (arith, up))

pub same_sum : (a b p q : ℤ) → a ≡ p → b ≡ q → (a +ℤ b) ≡ (p +ℤ q)
same_sum a b p q h k = rw (h, k) refl

-- the areas and the skips of all classes together
pub all_gives : (style : StyleValue) (x y : ℤ) → x ≡ greatest_areas gap_shrink style → (classes : List Class) →
    classes ≡ style.classes → y ≡ whole_sum_by (λ (class : Class). skip_give gap_shrink class.kind) classes →
    (x +ℤ y) ≡ greatest_give gap_shrink style
all_gives style x y e classes is f =
    same_sum _ _ _ _ e (f ∙ ap (whole_sum_by (λ (class : Class). skip_give gap_shrink class.kind)) is)
