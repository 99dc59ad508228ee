-- Labels that cover, as a test.
use Rattle.std.proofs.Common.{◌≡◌, sym, subst, Bool, List, true, false, not, T}
use Rattle.std.specs.Prelude.{ℤ, ◌+ℤ◌, ◌&&◌, int_le}
use Rattle.std.proofs.lemmas.Int.{to_z-of_z}
use Rattle.std.proofs.lemmas.List.Folds.{Any-from_list_any, list_any-from_Any}
use lib.Signed.{le_z_yes}
use mir.Syntax.{w128}
use mir.Val.{SFits, of_z, to_z}
use Rattle.pg_plan.specs.declared.states.Label.{Label}
use Rattle.pg_plan.specs.declared.states.State.{State}
use Rattle.pg_table.specs.Space.{Meaning}
use Rattle.std.proofs.lemmas.Bool.{not-false}
use Rattle.pg_lemmas.proofs.Bools.{both, both_of, true_of}
use Rattle.pg_cover.specs.Covered.{CoveredBy, has_cover}

module _ {M K : Type 0} (sp : Meaning State M K) (labels : List Label) (state : State) (cost : ℤ) where
  -- the label covers
  abbrev does : Label → Bool
  does label = sp.no_worse label.state state && int_le label.cost cost

  pub cover_of : has_cover sp labels state cost ≡ true → CoveredBy sp labels state cost
  unfolding has_cover
  cover_of h =
      let a = Any-from_list_any does labels h in
      let d = both_of (sp.no_worse a.1.state state) (int_le a.1.cost cost) a.4 in
      record {
        label = a.1;
        listed = (a.0, a.2, a.3);
        does = record { no_worse = d.0; no_dearer = le_z_yes (subst T (sym d.1) tt) };
      }

  pub of_cover : CoveredBy sp labels state cost → has_cover sp labels state cost ≡ true
  unfolding has_cover
  of_cover k = list_any-from_Any does labels (
    k.listed.0,
    k.label,
    k.listed.1,
    k.listed.2,
    both (sp.no_worse k.label.state state) (int_le k.label.cost cost) k.does.no_worse
        (true_of (int_le k.label.cost cost) k.does.no_dearer.le),
  )

-- what is not wanted is spared, where the code reads the cost of the move
pub unwanted_spared : {M K : Type 0} (sp : Meaning State M K) (labels : List Label) (state : State) (a b : ℤ)
    (r : Bool) → SFits w128 b → (r ≡ true → CoveredBy sp labels state (a +ℤ to_z w128 (of_z w128 b))) → not r ≡ false →
    has_cover sp labels state (a +ℤ b) ≡ true
unwanted_spared sp labels state a b r fits f h =
    of_cover sp labels state (a +ℤ b) (rw (to_z-of_z w128 b fits) at (f (not-false r h)))
