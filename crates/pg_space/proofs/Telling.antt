-- What is told of a galley and a style is told of equal ones.
use Rattle.std.proofs.Common.{◌≡◌, subst}
use Rattle.pg_list.specs.GalleyValue.{GalleyValue}
use Rattle.pg_style.specs.Values.{StyleValue}

pub of_equal : (P : GalleyValue → StyleValue → Type 0) (g h : GalleyValue) (s t : StyleValue) → g ≡ h → s ≡ t →
    P g s → P h t
of_equal P g h s t same alike told =
    subst (λ (a : GalleyValue). P a t) same (subst (λ (b : StyleValue). P g b) alike told)
