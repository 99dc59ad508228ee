use Rattle.std.proofs.Common.{false}
use Rattle.std.specs.Prelude.{None}
use Rattle.pg_showbox.specs.declared.state.Within.TheVariants.{Listing}
use Rattle.pg_showbox.proofs.ShownLemmas.{read_shown}
use Rattle.pg_showbox.proofs.read.read_blocks.Goals as goal

pub returns-clause-shown : goal.returns-clause-shown
returns-clause-shown c = read_shown false None c.args.first_line c.args.text.now Listing c.in_ok-state.state
    c.in_ok-state.ensures.read
