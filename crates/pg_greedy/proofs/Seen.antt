-- What a look at one break finds.
use Rattle.std.proofs.Common.{◌≡◌, ◌∙◌, refl, sym, ap, ap₂, ℕ, suc, ◌+◌, Bool, true, false, List, take, length, Option, Some, None, pos, negsuc}
use Rattle.std.specs.Prelude.{◌==◌, ◌&&◌, ◌||◌, if◌then◌else◌, is_some, unwrap_or, ℤ, ◌+ℤ◌, int_le}
use Rattle.std.specs.List.{list_any}
use Rattle.pg_lemmas.proofs.Bools.{both, if_false, if_true}
use Rattle.pg_lemmas.proofs.Numbers.{eq_yes}
use Rattle.pg_list.specs.Shapes.{is_box}
use Rattle.pg_list.specs.declared.item.Item.{Item}
use Rattle.pg_list.specs.Badness.{fill_badness, has_infinite, is_over}
use Rattle.pg_list.specs.Break.{break_penalty, is_spent}
use Rattle.pg_list.specs.Totals.{shrink, stretch}
use Rattle.pg_list.specs.declared.item.Order.TheVariants.{Finite}
use Rattle.pg_style.specs.Values.{StyleValue}
use Rattle.pg_style.specs.declared.style.Give.{Give}
use Rattle.pg_rules.specs.Floats.{gap_shrink, gap_stretch}
use Rattle.pg_rules.specs.Room.{skips_give}
use Rattle.pg_greedy.proofs.Costs.{badness_same, cost_same, over_same, stops_same}
use Rattle.pg_greedy.specs.Ahead.{better, look}
use Rattle.pg_greedy.specs.Breaks.{badness_at, break_cost, cost_by, front, front_goal, front_shrink, front_stretch, front_total, is_over_at, is_seen, penalty_at, stops_at}
use Rattle.pg_greedy.specs.Looking.{IsLook, IsPriced, counted, judged_at, seen_penalty}
use Rattle.pg_greedy.specs.declared.judged.Judged.{Judged}
use Rattle.pg_greedy.specs.declared.look.Candidate.{Candidate}
use Rattle.pg_greedy.specs.declared.look.Looked.TheVariants.{GoesOn, Ends}

-- ---- the penalty of a break

module _ (items : List Item) (k : ℕ) where
  pub no_break : None ≡ break_penalty items k → None ≡ seen_penalty items k
  no_break e = sym (if_false (is_some (break_penalty items k)) _ _ (ap is_some (sym e)))

  pub break_at_end : (penalty : ℤ) → Some penalty ≡ break_penalty items k → k ≡ length items →
      Some (negsuc 9999) ≡ seen_penalty items k
  break_at_end penalty e last = sym (if_true (is_some (break_penalty items k)) _ _ (ap is_some (sym e))
      ∙ ap Some (if_true (k == length items) (negsuc 9999) _ (eq_yes k (length items) last)))

  pub break_inside : (penalty : ℤ) → Some penalty ≡ break_penalty items k → (k == length items) ≡ false →
      Some penalty ≡ seen_penalty items k
  break_inside penalty e inside = sym (if_true (is_some (break_penalty items k)) _ _ (ap is_some (sym e))
      ∙ ap Some (if_false (k == length items) (negsuc 9999) _ inside
      ∙ ap (λ (o : Option ℤ). unwrap_or o (pos 0)) (sym e)))

  -- a break with a penalty is one, and the penalty is that of the break
  record IsBreak (penalty : ℤ) : Type 0 where
    pub is_there : is_some (break_penalty items k) ≡ true
    pub penalty_is : penalty ≡ penalty_at items k

  is_break : (penalty : ℤ) → seen_penalty items k ≡ Some penalty → IsBreak penalty
  is_break penalty e = by (is_some (break_penalty items k)) refl e
    where
      same : Some (penalty_at items k) ≡ Some penalty → penalty ≡ penalty_at items k
      same e = cc

      by : (b : Bool) → is_some (break_penalty items k) ≡ b →
          (if b then Some (penalty_at items k) else None) ≡ Some penalty →
          IsBreak penalty
      by true t e = record { is_there = t; penalty_is = same e }
      by false t e = absurd cc

  unseen : seen_penalty items k ≡ None → is_some (break_penalty items k) ≡ false
  unseen e = by (is_some (break_penalty items k)) refl e
    where
      by : (b : Bool) → is_some (break_penalty items k) ≡ b → (if b then Some (penalty_at items k) else None) ≡ None →
          is_some (break_penalty items k) ≡ false
      by true t e = absurd cc
      by false t e = t

-- ---- a break, judged

module _ (style : StyleValue) (items : List Item) (k : ℕ) where
  judged_none : is_seen items k ≡ false → None ≡ judged_at style items k
  judged_none e = sym (if_false (is_seen items k) _ _ e)

  pub no_box : list_any is_box (take k items) ≡ false → None ≡ judged_at style items k
  no_box e =
      judged_none (ap (λ b. is_some (break_penalty items k) && b) e ∙ and_false (is_some (break_penalty items k)))
    where
      and_false : (b : Bool) → (b && false) ≡ false
      and_false true = refl
      and_false false = refl

  pub judged_unseen : None ≡ seen_penalty items k → None ≡ judged_at style items k
  judged_unseen e = judged_none (ap (λ b. b && list_any is_box (take k items)) (unseen items k (sym e)))

  pub judged_seen : (penalty goal : ℤ) (spent : Bool) (give : Give) (judged : Judged) →
      Some penalty ≡ seen_penalty items k → list_any is_box (take k items) ≡ true → goal ≡ front_goal style items k →
      spent ≡ is_spent items k → give.stretch ≡ skips_give gap_stretch style (front items k) →
      give.shrink ≡ skips_give gap_shrink style (front items k) →
      judged.cost ≡ cost_by (is_over (front_total style items k) (shrink (front items k) +ℤ give.shrink) goal) penalty
      (fill_badness spent goal (front_total style items k) (has_infinite (front items k))
      (stretch Finite (front items k) +ℤ give.stretch) (shrink (front items k) +ℤ give.shrink)) →
      judged.stops ≡ (is_over (front_total style items k) (shrink (front items k) +ℤ give.shrink) goal
      || int_le penalty (negsuc 9999)) →
      Some judged ≡ judged_at style items k
  judged_seen penalty goal spent give judged e box g s m l cost stops =
      let it = is_break items k penalty (sym e) in
      let whole = front_total style items k in
      let more : (stretch Finite (front items k) +ℤ give.stretch) ≡ front_stretch style items k =
      ap (λ (z : ℤ). stretch Finite (front items k) +ℤ z) m in
      let less : (shrink (front items k) +ℤ give.shrink) ≡ front_shrink style items k =
      ap (λ (z : ℤ). shrink (front items k) +ℤ z) l in
      let over = over_same whole less g in
      let bad : fill_badness spent goal whole (has_infinite (front items k))
      (stretch Finite (front items k) +ℤ give.stretch) (shrink (front items k) +ℤ give.shrink)
      ≡ badness_at style items k =
      badness_same spent whole (has_infinite (front items k)) g more less
      ∙ ap (λ (t : Bool). fill_badness t (front_goal style items k) whole (has_infinite (front items k))
      (front_stretch style items k) (front_shrink style items k)) s in
      let cost_is : judged.cost ≡ break_cost style items k = cost ∙ cost_same over it.penalty_is bad in
      let stops_is : judged.stops ≡ stops_at style items k = stops ∙ stops_same over it.penalty_is in
      ap₂ (λ c t. made c t) cost_is stops_is
      ∙ sym (if_true (is_seen items k) _ _
      (both (is_some (break_penalty items k)) (list_any is_box (take k items)) it.is_there box))
    where
      made : ℤ → Bool → Option Judged
      made c t = Some (record { cost = c; stops = t })

  -- a judged break is seen, and what it costs is told
  pub record IsJudged (judged : Judged) : Type 0 where
    pub seen : is_seen items k ≡ true
    pub cost : judged.cost ≡ break_cost style items k
    pub stops : judged.stops ≡ stops_at style items k

  judged_is : (judged : Judged) → Some judged ≡ judged_at style items k → IsJudged judged
  judged_is judged e = by (is_seen items k) refl e
    where
      here : Judged
      here = record { cost = break_cost style items k; stops = stops_at style items k }

      by : (b : Bool) → is_seen items k ≡ b → Some judged ≡ (if b then Some here else None) → IsJudged judged
      by true seen same =
          let is : judged ≡ here = ap (λ (o : Option Judged). unwrap_or o judged) same in
          record { seen = seen; cost = ap (λ (it : Judged). it.cost) is; stops = ap (λ (it : Judged). it.stops) is }
      by false seen same = absurd cc

  -- ---- one step of the look

  pub cost_told : (judged : Judged) → Some judged ≡ judged_at style items k → judged.cost ≡ break_cost style items k
  cost_told judged e = (judged_is judged e).cost

  pub look_ends : (best : Option Candidate) (judged : Judged) (count : ℕ) → Some judged ≡ judged_at style items k →
      judged.stops ≡ true → count ≡ better style items (counted best) k → (n : ℕ) →
      look style items k (suc n) (counted best) ≡ Some count
  look_ends best judged count e stops is n =
      let it = judged_is judged e in
      if_true (is_seen items k) _ _ it.seen
      ∙ (if_true (stops_at style items k) _ _ (sym it.stops ∙ stops) ∙ ap Some (sym is))

  pub look_goes_on : (best : Option Candidate) (judged : Judged) (count : ℕ) → Some judged ≡ judged_at style items k →
      judged.stops ≡ false → count ≡ better style items (counted best) k → (n : ℕ) →
      look style items k (suc n) (counted best) ≡ look style items (k + 1) n (Some count)
  look_goes_on best judged count e stops is n =
      let it = judged_is judged e in
      if_true (is_seen items k) _ _ it.seen
      ∙ (if_false (stops_at style items k) _ _ (sym it.stops ∙ stops)
      ∙ ap (λ (m : ℕ). look style items (k + 1) n (Some m)) (sym is))
