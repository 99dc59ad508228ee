use Rattle.std.proofs.Common.{sym, subst, true}
use Rattle.std.specs.List.{AllByRecursion}
use Rattle.pg_list.specs.GalleyValue.{GalleyValue}
use Rattle.pg_showbox.specs.declared.state.Within.TheVariants.{Outside}
use Rattle.pg_showbox.specs.Shown.{IsShownBlock}
use Rattle.pg_showbox.proofs.ShownLemmas.{read_shown}
use Rattle.pg_showbox.proofs.read.read_galley.Goals as goal

pub returns-in-Some-clause-shown : goal.returns-in-Some-clause-shown
returns-in-Some-clause-shown c =
    subst (λ (galley : GalleyValue). AllByRecursion IsShownBlock galley.blocks) (sym c.of.ensures)
    (read_shown true c.args.wrap 1 c.args.text.now Outside c.in_ok-state.state c.in_ok-state.ensures.read)
