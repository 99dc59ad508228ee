use Rattle.pg_changes.proofs.Least.{greatest_text, least_bottom, least_column, least_looseness, least_tolerance, least_top}
use Rattle.pg_changes.proofs.laws.least_are_least.Goals as goal

pub returns-clause-tolerance : goal.returns-clause-tolerance
returns-clause-tolerance c = least_tolerance c.args.galley.now c.args.style.now c.requires

pub returns-clause-looseness : goal.returns-clause-looseness
returns-clause-looseness c = least_looseness c.args.galley.now c.args.style.now c.requires

pub returns-clause-text : goal.returns-clause-text
returns-clause-text c = greatest_text c.args.galley.now c.args.style.now c.requires

pub returns-clause-top : goal.returns-clause-top
returns-clause-top c = least_top c.args.galley.now c.args.style.now c.requires

pub returns-clause-bottom : goal.returns-clause-bottom
returns-clause-bottom c = least_bottom c.args.galley.now c.args.style.now c.requires

pub returns-clause-column : goal.returns-clause-column
returns-clause-column c = least_column c.args.galley.now c.args.style.now c.requires
