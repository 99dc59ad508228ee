-- Of the lists of labels of a galley one at most is its frontier.
use Rattle.std.proofs.Common.{◌≡◌, ◌∙◌, refl, sym, ap, ap₂, subst, arith, zero, suc, ◌⊎◌, inl, inr, List, [], ◌∷◌}
use Rattle.std.specs.Prelude.{Contains}
use Rattle.std.specs.declared.cmp.Ordering.{Ordering}
use Rattle.std.specs.declared.cmp.Ordering.TheVariants.{Less, Equal, Greater}
use Rattle.std.proofs.lemmas.Cmp.{tied_itself}
use Rattle.pg_list.specs.GalleyValue.{GalleyValue}
use Rattle.pg_plan.specs.declared.states.Label.{Label}
use Rattle.pg_plan.specs.declared.states.State.{State}
use Rattle.pg_style.specs.Values.{StyleValue}
use Rattle.pg_rules.specs.Frontier.{Frontier, RisesByState, state_cmp}
use Rattle.law_columns.proofs.StateOrder.{states_total}
use Rattle.law_course.specs.MarkLaws.{FrontierIsOne}

-- ---- a label among labels

abbrev Among : Label → List Label → Type 0
Among x [] = ⊥
Among x (y ∷ ys) = (x ≡ y) ⊎ Among x ys

among : (xs : List Label) (x : Label) → Contains xs x → Among x xs
among [] x (k, less, is) = absurd (omega (arith, less))
among (y ∷ ys) x (zero, less, is) = inl (sym is)
among (y ∷ ys) x (suc k, less, is) = inr (among ys x (k, omega (arith, less), is))

contained : (xs : List Label) (x : Label) → Among x xs → Contains xs x
contained [] x m = absurd m
contained (y ∷ ys) x (inl is) = (0, omega arith, sym is)
contained (y ∷ ys) x (inr later) =
    let (k, less, is) = contained ys x later in (suc k, omega (arith, less), is)

-- ---- lists that rise

not_less_itself : (u : State) → state_cmp u u ≡ Less → ⊥
not_less_itself u e = by (state_cmp u u) (tied_itself states_total u) e
  where
    by : (o : Ordering) → o ≡ Equal → o ≡ Less → ⊥
    by Less p q = absurd cc
    by Equal p q = absurd cc
    by Greater p q = absurd cc

later_rises : (x : Label) (xs : List Label) → RisesByState (x ∷ xs) → RisesByState xs
later_rises x [] rises = tt
later_rises x (y ∷ ys) rises = rises.1

-- the first comes before all others
first_before : (x : Label) (xs : List Label) → RisesByState (x ∷ xs) → (z : Label) → Among z xs →
    state_cmp x.state z.state ≡ Less
first_before x [] rises z m = absurd m
first_before x (y ∷ ys) rises z (inl is) =
    subst (λ (it : Label). state_cmp x.state it.state ≡ Less) (sym is) rises.0
first_before x (y ∷ ys) rises z (inr later) =
    states_total.trans x.state y.state z.state rises.0 (first_before y ys rises.1 z later)

same_first : (x : Label) (xs : List Label) (y : Label) (ys : List Label) → RisesByState (x ∷ xs) →
    RisesByState (y ∷ ys) → Among x (y ∷ ys) → Among y (x ∷ xs) → x ≡ y
same_first x xs y ys r s (inl is) back = is
same_first x xs y ys r s (inr later) (inl is) = sym is
same_first x xs y ys r s (inr later) (inr other) =
    absurd (not_less_itself x.state
    (states_total.trans x.state y.state x.state (first_before x xs r y other) (first_before y ys s x later)))

-- a label behind the first of one list is behind the first of the other
later_too : (x : Label) (xs : List Label) (y : Label) (ys : List Label) → RisesByState (x ∷ xs) → x ≡ y →
    (z : Label) → Among z xs → Among z (y ∷ ys) → Among z ys
later_too x xs y ys r same z m (inr later) = later
later_too x xs y ys r same z m (inl is) =
    absurd (not_less_itself x.state (subst (λ (it : Label). state_cmp x.state it.state ≡ Less) (is ∙ sym same)
    (first_before x xs r z m)))

same_lists : (xs ys : List Label) → RisesByState xs → RisesByState ys → ((z : Label) → Among z xs → Among z ys) →
    ((z : Label) → Among z ys → Among z xs) → xs ≡ ys
same_lists [] [] r s to back = refl
same_lists [] (y ∷ ys) r s to back = absurd (back y (inl refl))
same_lists (x ∷ xs) [] r s to back = absurd (to x (inl refl))
same_lists (x ∷ xs) (y ∷ ys) r s to back =
    let head = same_first x xs y ys r s (to x (inl refl)) (back y (inl refl)) in
    ap₂ (λ z zs. z ∷ zs) head (same_lists xs ys (later_rises x xs r) (later_rises y ys s)
    (λ z m. later_too x xs y ys r head z m (to z (inr m)))
    (λ z m. later_too y ys x xs s (sym head) z m (back z (inr m))))

pub frontier_one : (g : GalleyValue) (s : StyleValue) → FrontierIsOne g s
frontier_one g s xs ys a b = same_lists xs ys a.rises b.rises
    (λ z m. among ys z ((b.complete z).1 ((a.complete z).0 (contained xs z m))))
    (λ z m. among xs z ((a.complete z).1 ((b.complete z).0 (contained ys z m))))
