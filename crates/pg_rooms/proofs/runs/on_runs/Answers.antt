use Rattle.std.proofs.Common.{◌≡◌, subst, sym, List, Option, None, ℕ, ap}
use Rattle.std.specs.Prelude.{IfOk}
use Rattle.pg_rooms.specs.Runs.{laid_on, IsLow}
use Rattle.pg_rooms.specs.declared.laid.Laid.{Laid}
use Rattle.pg_rooms.proofs.Running.{all_low}
use Rattle.std.specs.List.{AllByRecursion}
use Rattle.pg_rooms.proofs.runs.on_runs.Goals as goal

pub returns-in-Some-clause-small : goal.returns-in-Some-clause-small
returns-in-Some-clause-small c = all_low c.args.first.items c.requires

pub returns-in-None-clause-value : goal.returns-in-None-clause-value
returns-in-None-clause-value c =
    let style = c.args.sources.now.style.now in
    subst (λ (must : Option ℕ). IfOk c.all_runs.result (λ all. all.items ≡ laid_on style must c.args.first.items))
    (sym c.in-None.is)
    (subst (λ (first : List Laid). IfOk c.all_runs.result (λ all. all.items ≡ laid_on style None first))
    c.as_slice.ensures.value c.all_runs.ensures.value)

pub returns-in-None-clause-small : goal.returns-in-None-clause-small
returns-in-None-clause-small c = c.all_runs.ensures.small

pub all_runs-requires : goal.all_runs-requires
all_runs-requires c = subst (AllByRecursion (λ (it : Laid). IsLow it.room)) (sym c.as_slice.ensures.value) c.requires

pub returns-in-Some-clause-value : goal.returns-in-Some-clause-value
returns-in-Some-clause-value c =
    ap (λ (must : Option ℕ). laid_on c.args.sources.now.style.now must c.args.first.items) (sym c.in-Some.is)
