-- Orders.
use Rattle.std.proofs.Common.{◌≡◌, refl, true, false, ap, ℕ, ◌<◌}
use Rattle.std.specs.declared.cmp.Ordering.{Ordering}
use Rattle.std.specs.declared.cmp.Ordering.TheVariants.{Less, Equal, Greater}
use Rattle.std.specs.Ordering.{ordering_then, ordering_reverse, is_gt, is_lt, nat_cmp}
use Rattle.std.proofs.lemmas.Cmp.{by_ranked, ranked}

-- what compares as less is less
pub lt_less : (o : Ordering) → is_lt o ≡ true → o ≡ Less
lt_less Less e = refl
lt_less Equal e = absurd cc
lt_less Greater e = absurd cc

-- where one is above the other, the other is not above the one
pub not_gt_back : (o p : Ordering) → o ≡ ordering_reverse p → is_gt p ≡ true → is_gt o ≡ false
not_gt_back o Greater e h = ap is_gt e
not_gt_back o Less e h = cc
not_gt_back o Equal e h = cc

-- two orders, one after the other, say equal only where both do
pub then_equal : (o p : Ordering) → ordering_then o p ≡ Equal → (o ≡ Equal) × (p ≡ Equal)
then_equal Less p e = absurd cc
then_equal Equal p e = (refl, e)
then_equal Greater p e = absurd cc

pub nat_equal : (a b : ℕ) → nat_cmp a b ≡ Equal → a ≡ b
nat_equal a b e = by_ranked (a < b) (a ≡ b) (b < a) (nat_cmp a b) (ranked a b (nat_cmp a b) refl)
    (λ o _. absurd cc) (λ _ p. p) (λ o _. absurd cc)

pub nat_less : (a b : ℕ) → nat_cmp a b ≡ Less → a < b
nat_less a b e = by_ranked (a < b) (a ≡ b) (b < a) (nat_cmp a b) (ranked a b (nat_cmp a b) refl)
    (λ _ p. p) (λ o _. absurd cc) (λ o _. absurd cc)

-- neither after the other: the comparison ties
pub tied : (o p : Ordering) → o ≡ ordering_reverse p → is_gt o ≡ false → is_gt p ≡ false → o ≡ Equal
tied Less Greater e h k = cc
tied Less Less e h k = cc
tied Less Equal e h k = cc
tied Equal p e h k = refl
tied Greater p e h k = cc
