use Rattle.law_course.proofs.FewPages.{legal_small}
use Rattle.law_course.proofs.size_laws.legal_plans_are_small.Goals as goal

pub returns : goal.returns
returns c =
    legal_small c.args.galley.now c.args.style.now c.requires c.pages_are_a_space.ensures.wide
    c.runs_are_beginnings.ensures.runs c.runs_are_beginnings.ensures.beginnings
    c.unbroken_plans_keep_rules.ensures.legal
