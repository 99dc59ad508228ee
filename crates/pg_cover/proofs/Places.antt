-- What comes before what, in a total order.
use Rattle.std.proofs.Common.{◌≡◌}
use Rattle.std.specs.Cmp.{IsTotalOrder}
use Rattle.std.specs.declared.cmp.Ordering.{Ordering}
use Rattle.std.specs.declared.cmp.Ordering.TheVariants.{Less, Equal, Greater}
use Rattle.std.proofs.lemmas.Cmp.{tied_itself}

pub not_less_itself : {X : Type 0} {R : X → X → Ordering} → IsTotalOrder R → (x : X) → R x x ≡ Less → ⊥
not_less_itself {X} {R} o x e = by (R x x) (tied_itself o x) e
  where
    by : (r : Ordering) → r ≡ Equal → r ≡ Less → ⊥
    by Less p q = absurd cc
    by Equal p q = absurd cc
    by Greater p q = absurd cc

pub less_chain : {X : Type 0} {R : X → X → Ordering} → IsTotalOrder R → (a b c : X) → R a b ≡ Less → R b c ≡ Less →
    R a c ≡ Less
less_chain o a b c p q = o.trans a b c p q
