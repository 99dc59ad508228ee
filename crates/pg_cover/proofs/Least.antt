-- The least place where a step ends that no label covers.
use Rattle.std.proofs.Common.{◌≡◌, refl, sym, ap, subst, ◌∙◌, ◌⊎◌, inl, inr, zero, suc, List, [], ◌∷◌, ◌++◌, Bool, true, false, Option, Some, None, append_assoc, arith}
use Rattle.std.specs.Prelude.{Contains, if◌then◌else◌, ◌+ℤ◌}
use Rattle.std.specs.Bool.{Decides}
use Rattle.std.specs.Ordering.{is_lt}
use Rattle.std.specs.declared.cmp.Ordering.TheVariants.{Less}
use Rattle.std.proofs.lemmas.List.Elements.{Contains-append_left, Contains-append_right}
use Rattle.pg_list.specs.declared.galley.Place.{Place}
use Rattle.pg_plan.specs.Order.{place_cmp}
use Rattle.pg_plan.specs.declared.pages.PageMove.{PageMove}
use Rattle.pg_plan.specs.declared.states.Label.{Label}
use Rattle.pg_plan.specs.declared.states.State.{State}
use Rattle.pg_table.specs.Space.{AreWanted, Lawful, Meaning}
use Rattle.pg_table.specs.declared.step.Step.{Step}
use Rattle.std.proofs.lemmas.Option.{same_Some}
use Rattle.pg_cover.specs.Covered.{CoveredBy, CoversStep, has_cover, IsNotBefore, IsOpenEnd, IsOpenOf, LeastBehind, LeastOf, OpenTo, least_with}
use Rattle.pg_plan.proofs.OrderLaws.{place_total}
use Rattle.pg_lemmas.proofs.Bools.{not_both}
use Rattle.pg_lemmas.proofs.Orders.{lt_less}
use Rattle.pg_cover.proofs.Places.{less_chain, not_less_itself}
use Rattle.pg_cover.proofs.Spared.{cover_of}

module _ {K : Type 0} (sp : Meaning State PageMove K) (labels : List Label) (label : Label) where
  keep_end : (x : Step State PageMove) (done : List (Step State PageMove)) (to : Place) →
      IsOpenEnd sp labels label done to → IsOpenEnd sp labels label (x ∷ done) to
  keep_end x done to o = record {
    step = o.step;
    listed = Contains-append_right (x ∷ []) done o.step o.listed;
    ends = o.ends;
    uncovered = o.uncovered;
  }

  cases : (x : Step State PageMove) (done : List (Step State PageMove)) (step : Step State PageMove) →
      Contains (x ∷ done) step → (x ≡ step) ⊎ Contains done step
  cases x done step (zero, within, is) = inl is
  cases x done step (suc k, within, is) = inr (k, omega arith, is)

  -- the least place is the new one or the old one, and not behind either
  pub least_more : (x : Step State PageMove) (done : List (Step State PageMove)) (least : Option Place) (b : Bool) →
      Decides b (CoversStep sp labels label x) → LeastOf sp labels label done least →
      LeastOf sp labels label (x ∷ done) (least_with b least x.by.column.to)
  least_more x done least true d old = record {
    found = λ to e. keep_end x done to (old.found to e);
    bound = λ step c. each step (cases x done step c);
  }
    where
      each : (step : Step State PageMove) → (x ≡ step) ⊎ Contains done step →
          CoversStep sp labels label step ⊎ IsNotBefore least step.by.column.to
      each step (inl e) = inl (subst (CoversStep sp labels label) e (d.0 refl))
      each step (inr c) = old.bound step c
  least_more x done None false d old = record {
    found = λ to e. record {
      step = x;
      listed = (0, omega arith, refl);
      ends = same_Some x.by.column.to to e;
      uncovered = λ k. not_both false (d.1 k) refl;
    };
    bound = λ step c. each step (cases x done step c);
  }
    where
      each : (step : Step State PageMove) → (x ≡ step) ⊎ Contains done step →
          CoversStep sp labels label step ⊎ IsNotBefore (Some x.by.column.to) step.by.column.to
      each step (inl e) = inr (subst (λ (s : Step State PageMove). place_cmp s.by.column.to x.by.column.to ≡ Less → ⊥)
          e (not_less_itself place_total x.by.column.to))
      each step (inr c) = none (old.bound step c)
        where
          none : CoversStep sp labels label step ⊎ ⊥ →
              CoversStep sp labels label step ⊎ IsNotBefore (Some x.by.column.to) step.by.column.to
          none (inl k) = inl k
          none (inr z) = absurd z
  least_more x done (Some old_place) false d old = by (is_lt (place_cmp x.by.column.to old_place)) refl
    where
      here : (to : Place) → x.by.column.to ≡ to → IsOpenEnd sp labels label (x ∷ done) to
      here to e = record {
        step = x;
        listed = (0, omega arith, refl);
        ends = e;
        uncovered = λ k. not_both false (d.1 k) refl;
      }

      by : (b : Bool) → b ≡ is_lt (place_cmp x.by.column.to old_place) →
          LeastOf sp labels label (x ∷ done) (Some (if b then x.by.column.to else old_place))
      by true e = record {
        found = λ to f. here to (same_Some x.by.column.to to f);
        bound = λ step c. each step (cases x done step c);
      }
        where
          each : (step : Step State PageMove) → (x ≡ step) ⊎ Contains done step →
              CoversStep sp labels label step ⊎ IsNotBefore (Some x.by.column.to) step.by.column.to
          each step (inl f) = inr (subst (λ (s : Step State PageMove). place_cmp s.by.column.to x.by.column.to ≡ Less
              → ⊥) f (not_less_itself place_total x.by.column.to))
          each step (inr c) = over (old.bound step c)
            where
              over : CoversStep sp labels label step ⊎ IsNotBefore (Some old_place) step.by.column.to →
                  CoversStep sp labels label step ⊎ IsNotBefore (Some x.by.column.to) step.by.column.to
              over (inl k) = inl k
              over (inr n) = inr (λ l. n (less_chain place_total step.by.column.to x.by.column.to old_place l
                  (lt_less (place_cmp x.by.column.to old_place) (sym e))))
      by false e = record {
        found = λ to f. keep_end x done to (old.found to f);
        bound = λ step c. each step (cases x done step c);
      }
        where
          each : (step : Step State PageMove) → (x ≡ step) ⊎ Contains done step →
              CoversStep sp labels label step ⊎ IsNotBefore (Some old_place) step.by.column.to
          each step (inl f) = inr (subst (λ (s : Step State PageMove). place_cmp s.by.column.to old_place ≡ Less → ⊥)
              f (λ l. not_both (is_lt (place_cmp x.by.column.to old_place)) (ap is_lt l) (sym e)))
          each step (inr c) = old.bound step c

  pub behind_more : (all rest new : List (Step State PageMove)) (x : Step State PageMove) (least : Option Place)
      (b : Bool) → rest ≡ new ++ x ∷ [] → Decides b (CoversStep sp labels label x) →
      LeastBehind sp labels label all rest least →
      LeastBehind sp labels label all new (least_with b least x.by.column.to)
  behind_more all rest new x least b e d old = record {
    done = x ∷ old.done;
    all_is = old.all_is ∙ (ap (λ (z : List (Step State PageMove)). z ++ old.done) e
        ∙ append_assoc new (x ∷ []) old.done);
    least_of = least_more x old.done least b d old.least_of;
  }

  pub own_behind : (all rest new : List (Step State PageMove)) (x : Step State PageMove) (least : Option Place) →
      rest ≡ new ++ x ∷ [] → LeastBehind sp labels label all rest least →
      ((step : Step State PageMove) → Contains all step → sp.Own step.to) → sp.Own x.to
  own_behind all rest new x least e old own = own x (subst (λ (z : List (Step State PageMove)). Contains z x)
      (sym (old.all_is ∙ ap (λ (z : List (Step State PageMove)). z ++ old.done) e))
      (Contains-append_left (new ++ x ∷ []) old.done x (Contains-append_right new (x ∷ []) x (0, omega arith, refl))))

  -- ---- the wanted steps of a label

  -- what leads to what no label covers is among them
  among_wanted : (steps : List (Step State PageMove)) →
      AreWanted sp label.state (λ v c. has_cover sp labels v (label.cost +ℤ c)) steps → (to : Place) →
      (o : OpenTo sp labels label to) → Contains steps (record { to = o.next; by = o.move; cost = o.pays })
  among_wanted steps wanted to o = by (wanted.whole o.move o.next o.pays o.follow)
    where
      by : Contains steps (record { to = o.next; by = o.move; cost = o.pays })
          ⊎ (has_cover sp labels o.next (label.cost +ℤ o.pays) ≡ true) →
          Contains steps (record { to = o.next; by = o.move; cost = o.pays })
      by (inl at) = at
      by (inr h) = absurd (o.uncovered (cover_of sp labels o.next (label.cost +ℤ o.pays) h))

  pub open_least : (steps : List (Step State PageMove)) (least : Option Place) →
      AreWanted sp label.state (λ v c. has_cover sp labels v (label.cost +ℤ c)) steps →
      LeastOf sp labels label steps least → IsOpenOf sp labels label least
  open_least steps None wanted l = none
    where
      none : (to : Place) → OpenTo sp labels label to → ⊥
      none to o = by (l.bound (record { to = o.next; by = o.move; cost = o.pays }) (among_wanted steps wanted to o))
        where
          by : CoveredBy sp labels o.next (label.cost +ℤ o.pays) ⊎ ⊥ → ⊥
          by (inl k) = o.uncovered k
          by (inr z) = z
  open_least steps (Some to) wanted l = (some (l.found to refl), before)
    where
      some : IsOpenEnd sp labels label steps to → OpenTo sp labels label to
      some o = record {
        move = o.step.by;
        next = o.step.to;
        pays = o.step.cost;
        follow = wanted.sound o.step o.listed;
        ends = o.ends;
        uncovered = o.uncovered;
      }

      before : (other : Place) → place_cmp other to ≡ Less → OpenTo sp labels label other → ⊥
      before other less o = by (l.bound (record { to = o.next; by = o.move; cost = o.pays })
          (among_wanted steps wanted other o))
        where
          by : CoveredBy sp labels o.next (label.cost +ℤ o.pays) ⊎ (place_cmp o.move.column.to to ≡ Less → ⊥) → ⊥
          by (inl k) = o.uncovered k
          by (inr n) = n (subst (λ (z : Place). place_cmp z to ≡ Less) (sym o.ends) less)

  pub own_steps : (eq : K → K → Bool) → Lawful eq sp → sp.Own label.state → (steps : List (Step State PageMove)) →
      AreWanted sp label.state (λ v c. has_cover sp labels v (label.cost +ℤ c)) steps →
      (step : Step State PageMove) → Contains steps step → sp.Own step.to
  own_steps eq law own steps wanted step c =
      law.own_next label.state step.by step.to step.cost own (wanted.sound step c)
