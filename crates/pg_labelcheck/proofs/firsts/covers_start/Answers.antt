use Rattle.std.proofs.Common.{refl, subst, sym}
use Rattle.pg_rules.specs.IsState.{IsState}
use Rattle.pg_sources.specs.Document.{doc_of}
use Rattle.pg_space.specs.PagesLawful.{pages_lawful}
use Rattle.pg_labelcheck.proofs.Opened.{start_decided}
use Rattle.pg_labelcheck.proofs.firsts.covers_start.Goals as goal

pub covers-requires-clause-to : goal.covers-requires-clause-to
covers-requires-clause-to c = subst (IsState (doc_of c.args.space.now.sources)) (sym c.in_ok-start.ensures)
    (pages_lawful c.args.space.now.sources.galley.now c.args.space.now.sources.style.now
    c.args.space.now.sources.in_range).own_start

pub returns : goal.returns
returns c = start_decided (doc_of c.args.space.now.sources) c.args.labels.now c.covers.result _ _
    c.in_ok-start.ensures refl c.covers.ensures
