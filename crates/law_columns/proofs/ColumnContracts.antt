-- The law in the form of its contract.
use Rattle.std.proofs.Common.{◌≡◌, sym, subst, [], true}
use Rattle.pg_list.specs.GalleyValue.{GalleyValue}
use Rattle.pg_style.specs.Values.{StyleValue}
use Rattle.pg_rules.specs.Legal.{document}
use Rattle.pg_plan.specs.declared.states.PageKey.{PageKey}
use Rattle.pg_rules.specs.NoWorse.{key, is_same_key, are_no_older}
use Rattle.pg_rules.specs.States.{is_done}
use Rattle.pg_rules.specs.Ranges.{AreInRange}
use Rattle.law_columns.specs.ColumnLaws.{NoWorseFollow, NoWorseDone}
use Rattle.law_columns.proofs.Simulation.{simulates, key_same, with_ages}
use Rattle.law_columns.proofs.StyleFacts.{tables_of}
use Rattle.pg_lemmas.proofs.Bools.{both_of}

module _ (g : GalleyValue) (s : StyleValue) (range : AreInRange g s) where
  pub no_worse_follow : NoWorseFollow g s
  no_worse_follow u v m x c own p f =
      simulates (document g s) (tables_of (document g s) range.style_in) u v m x c own p f

  pub no_worse_done : NoWorseDone g s
  no_worse_done u v p d =
      let t = both_of (is_same_key (key u) (key v)) (are_no_older u.ages v.ages) p in
      subst (λ (k : PageKey). is_done (document g s) (with_ages k []) ≡ true)
      (sym (key_same (key u) (key v) t.0)) d
