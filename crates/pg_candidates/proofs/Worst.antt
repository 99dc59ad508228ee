-- The numbers of an end that is far too short for several rooms.
use Rattle.std.proofs.Common.{◌≡◌, refl, sym, ap, ◌∙◌, ℕ, arith, Bool, true, false, Option, Some, None, IfSome, ℤ, pos, ◌≤ℤ◌, ◌<ℤ◌, ◌+ℤ◌}
use Rattle.std.specs.Prelude.{◌==◌, if◌then◌else◌, int_lt}
use Rattle.std.proofs.lemmas.Int.{ints}
use Rattle.std.proofs.lemmas.Option.{same_Some}
use Rattle.pg_column.specs.Numbers.{badness_for, cost_for}
use Rattle.pg_column.specs.declared.cost.TextCost.{TextCost}
use Rattle.pg_rules.specs.Cost.{break_demerits}
use Rattle.pg_style.specs.Plain.{plus_give}
use Rattle.pg_style.specs.declared.style.Give.{Give}
use Rattle.pg_style.specs.Values.{StyleValue}
use Rattle.pg_sums.specs.declared.totals.Totals.{Totals}
use Rattle.pg_candidates.specs.Nears.{IsWorstAt, IsWorstCost, at_goal, worst_at}
use Rattle.pg_candidates.specs.declared.kind.EndKind.{EndKind}
use Rattle.pg_candidates.proofs.Beside.{loosest}
use Rattle.pg_candidates.proofs.Short.{less_stretch, worse_by}

same_numbers : (g t y z p : ℤ) (b c f k : ℕ) → b ≡ c → f ≡ k → y ≡ z →
    ◌≡◌ {A = TextCost}
    (record { goal = g; total = t; badness = b; fitness = f; penalty = p; demerits = y })
    (record { goal = g; total = t; badness = c; fitness = k; penalty = p; demerits = z })
same_numbers g t y z p b c f k r s u = rw (r, s, u) refl

-- the same numbers of what is equal
pub same_cost : (style : StyleValue) (g h : ℤ) → g ≡ h → (a b : Give) → a ≡ b → (t u : Totals) → t ≡ u →
    (s r : Bool) → s ≡ r → (p q : ℤ) → p ≡ q → cost_for style g a t s p ≡ cost_for style h b u r q
same_cost style g h e a b f t u i s r j p q k =
    ap (λ (z : ℤ). cost_for style z a t s p) e ∙ (ap (λ (z : Give). cost_for style h z t s p) f
    ∙ (ap (λ (z : Totals). cost_for style h b z s p) i ∙ (ap (λ (z : Bool). cost_for style h b u z p) j
    ∙ ap (λ (z : ℤ). cost_for style h b u r z) k)))

-- at a goal that is not below, with gaps that give no more
module _ (style : StyleValue) (most : ℤ) (kind : EndKind) (totals : Totals) (given : Give) (goal : ℤ) (room : Give)
    (gives : room.stretch ≤ℤ most) where
  moved : (own : ℤ) → kind.is_spent ≡ false → IsWorstAt style most totals given own → own ≤ℤ goal →
      at_goal goal (cost_for style own (record { stretch = most +ℤ given.stretch; shrink = pos 0 }) totals kind.is_spent
      kind.penalty)
      ≡ cost_for style goal (plus_give room given) totals kind.is_spent kind.penalty
  moved own unspent worst up =
      let here : badness_for style own (record { stretch = most +ℤ given.stretch; shrink = pos 0 }) totals kind.is_spent
      ≡ 10000 =
      ap (λ (b : Bool). badness_for style own (record { stretch = most +ℤ given.stretch; shrink = pos 0 }) totals b)
      unspent ∙ worse_by totals own own _ _ (pos 0) _ (omega (arith, ints)) (omega (arith, ints)) worst.short worst.bad in
      let there : badness_for style goal (plus_give room given) totals kind.is_spent ≡ 10000 =
      ap (λ (b : Bool). badness_for style goal (plus_give room given) totals b) unspent
      ∙ worse_by totals own goal _ _ (pos 0) _ up
      (less_stretch style.ragged totals.finite room.stretch most given.stretch gives) worst.short worst.bad in
      let short = worst.short in
      let higher : totals.total <ℤ goal = omega (arith, ints, short, up) in
      same_numbers goal totals.total _ _ kind.penalty _ _ _ _ (here ∙ sym there)
      (loosest (style.version == 1) totals.total own _ short here
      ∙ sym (loosest (style.version == 1) totals.total goal _ higher there))
      (ap (λ (n : ℕ). break_demerits style n kind.penalty) (here ∙ sym there))

  -- what is answered without a division is right
  pub worst_is : (o : Option TextCost) → IfSome o (IsWorstCost style most kind totals given) → (cost : TextCost) →
      worst_at goal o ≡ Some cost →
      cost ≡ cost_for style goal (plus_give room given) totals kind.is_spent kind.penalty
  worst_is None w cost e = absurd cc
  worst_is (Some worst) w cost e = by (int_lt goal worst.goal) refl e
    where
      by : (b : Bool) → int_lt goal worst.goal ≡ b → (if b then None else Some (at_goal goal worst)) ≡ Some cost →
          cost ≡ cost_for style goal (plus_give room given) totals kind.is_spent kind.penalty
      by true p e = absurd cc
      by false p e =
          let up : worst.goal ≤ℤ goal = grind (arith, ints, p) in
          sym (same_Some (at_goal goal worst) cost e)
          ∙ (ap (at_goal goal) w.is ∙ moved worst.goal w.unspent w.worst up)
