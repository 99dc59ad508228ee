use Rattle.law_looser.proofs.Counts.{more_counts}
use Rattle.law_looser.proofs.Looser.{less_text, more_looseness, more_tolerance}
use Rattle.law_looser.proofs.laws.looser_keeps_legal.Goals as goal

pub returns-clause-tolerance : goal.returns-clause-tolerance
returns-clause-tolerance c = more_tolerance c.args.galley.now c.args.style.now

pub returns-clause-looseness : goal.returns-clause-looseness
returns-clause-looseness c = more_looseness c.args.galley.now c.args.style.now

pub returns-clause-text : goal.returns-clause-text
returns-clause-text c = less_text c.args.galley.now c.args.style.now

pub returns-clause-counts : goal.returns-clause-counts
returns-clause-counts c = more_counts c.args.galley.now c.args.style.now
