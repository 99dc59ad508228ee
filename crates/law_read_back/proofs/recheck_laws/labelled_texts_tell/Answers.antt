use Rattle.law_read_back.proofs.Rechecked.{best_text_tells, none_text_tells}
use Rattle.law_read_back.proofs.recheck_laws.labelled_texts_tell.Goals as goal

pub returns-clause-best : goal.returns-clause-best
returns-clause-best c =
    best_text_tells c.args.galley.now c.args.style.now c.pages_are_a_space.ensures.wide
    c.runs_are_beginnings.ensures.beginnings c.unbroken_plans_keep_rules.ensures.legal c.states_are_in_range.ensures
    c.pages_read_back.ensures c.frontier_passes.ensures.best

pub returns-clause-none : goal.returns-clause-none
returns-clause-none c =
    none_text_tells c.args.galley.now c.args.style.now c.pages_are_a_space.ensures.wide
    c.runs_are_beginnings.ensures.beginnings c.unbroken_plans_keep_rules.ensures.legal c.states_are_in_range.ensures
    c.none_reads_back.ensures c.frontier_passes.ensures.none
