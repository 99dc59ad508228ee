use Rattle.std.proofs.Common.{◌≡◌, ◌∙◌, ◌++◌, ◌∷◌, [], sym, ap, subst, arith, append-nil, List, ℕ, Some}
use Rattle.std.specs.Prelude.{slice_get}
use Rattle.std.proofs.lemmas.List.{append_assoc}
use Rattle.pg_lemmas.proofs.Lists.{some_at}
use Rattle.pg_table.specs.Label.{RunOf}
use Rattle.pg_walk.proofs.runs.picks_back.Goals as goal

pub back-smaller : goal.back-smaller
back-smaller c =
    let labels = c.args.labels.now in
    let here = some_at labels c.back.at c.back.invariant.within in
    let up = c.parent_of-at.ensures here.0 here.1 in
    let less = c.requires.grounded c.back.at here.0 c.in-Some.pick here.1 (sym (c.in-Some.ensures here.0 here.1)) in
    omega (arith, up, less)

pub back-preserved : goal.back-preserved
back-preserved c =
    let labels = c.args.labels.now in
    let here = some_at labels c.back.at c.back.invariant.within in
    let up = c.parent_of-at.ensures here.0 here.1 in
    let moved = sym (c.in-Some.ensures here.0 here.1) in
    let less = c.requires.grounded c.back.at here.0 c.in-Some.pick here.1 moved in
    record {
      within = omega (arith, up, less, c.back.invariant.within);
      leads = λ e p ms first at run.
          let there : slice_get labels here.0.parent ≡ Some p =
          subst (λ (n : ℕ). slice_get labels n ≡ Some p) up at in
          let whole : RunOf labels e (c.back.way.items ++ c.in-Some.pick ∷ ms) =
          c.back.invariant.leads e here.0 (c.in-Some.pick ∷ ms) first here.1 (moved, (p, (there, run))) in
          subst (RunOf labels e)
          (sym (append_assoc c.back.way.items (c.in-Some.pick ∷ []) ms)
          ∙ ap (λ (xs : List ℕ). xs ++ ms) (sym c.in_ok-push.ensures.items)) whole;
    }

pub returns : goal.returns
returns c = λ e first.
    let labels = c.args.labels.now in
    let here = some_at labels c.back.at c.back.invariant.within in
    subst (RunOf labels e) (append-nil c.back.way.items)
    (c.back.invariant.leads e here.0 [] first here.1 (sym (c.in_default.ensures here.0 here.1)))
