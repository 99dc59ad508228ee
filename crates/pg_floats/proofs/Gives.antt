-- What the gaps of an area give, by the number of floats that a list answers.
use Rattle.std.proofs.Common.{◌≡◌, refl, sym, ap, ◌∙◌, ℕ, List, length, Bool, true, false, Option, Some, None, ℤ, pos}
use Rattle.std.specs.Prelude.{◌&&◌, if◌then◌else◌}
use Rattle.std.specs.Option.{option_map_or}
use Rattle.pg_style.specs.Values.{AreaRuleValue}
use Rattle.pg_style.specs.declared.style.Gap.{Gap}
use Rattle.pg_rules.specs.Floats.{area_give, dealt, has_all}
use Rattle.pg_rules.specs.Room.{checked_give}
use Rattle.pg_floats.specs.AreFloats.{count_of}

-- what so many floats give, or nothing
abbrev pub give_at : (Gap → ℤ) → AreaRuleValue → Option ℕ → ℤ
give_at part rule o = option_map_or (area_give part rule) o (pos 0)

give_is : (part : Gap → ℤ) (lists : List (List ℤ)) (rule : AreaRuleValue) (placed counts : List ℕ) →
    give_at part rule (count_of lists placed counts) ≡ checked_give part lists true rule placed counts
give_is part lists rule placed counts = by (has_all lists placed counts)
  where
    by : (b : Bool) → give_at part rule (if b then Some (length (dealt lists placed counts)) else None)
        ≡ (if b then area_give part rule (length (dealt lists placed counts)) else pos 0)
    by true = refl
    by false = refl

pub given : (part : Gap → ℤ) (lists : List (List ℤ)) (allowed : Bool) (rule : AreaRuleValue) (placed counts : List ℕ)
    (o : Option ℕ) → allowed ≡ true → o ≡ count_of lists placed counts →
    give_at part rule o ≡ checked_give part lists allowed rule placed counts
given part lists allowed rule placed counts o a e =
    ap (give_at part rule) e ∙ (give_is part lists rule placed counts
    ∙ ap (λ (b : Bool). checked_give part lists b rule placed counts) (sym a))

pub none_given : (part : Gap → ℤ) (lists : List (List ℤ)) (allowed : Bool) (rule : AreaRuleValue) (placed counts : List ℕ) →
    allowed ≡ false → pos 0 ≡ checked_give part lists allowed rule placed counts
none_given part lists allowed rule placed counts a =
    ap (λ (b : Bool). if b && has_all lists placed counts then area_give part rule (length (dealt lists placed counts))
    else pos 0) (sym a)
