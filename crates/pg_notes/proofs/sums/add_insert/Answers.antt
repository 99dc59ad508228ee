use Rattle.std.proofs.Common.{◌∙◌, sym}
use Rattle.pg_notes.proofs.Kept.{found_sums, unfound_sums}
use Rattle.pg_notes.proofs.sums.add_insert.Goals as goal

pub returns-in-Some-clause-sums : goal.returns-in-Some-clause-sums
returns-in-Some-clause-sums c = λ items body order are.
    found_sums items c.args.number c.args.size body c.args.classes.now c.args.sums.now c.in-Some.index _ order
    (sym c.position_of.ensures ∙ c.in-Some.is) c.requires.places are

pub returns-in_default-clause-sums : goal.returns-in_default-clause-sums
returns-in_default-clause-sums c = λ items body order are.
    unfound_sums items c.args.number c.args.size body c.args.classes.now c.args.sums.now
    (sym c.position_of.ensures ∙ c.in_default.is) are
