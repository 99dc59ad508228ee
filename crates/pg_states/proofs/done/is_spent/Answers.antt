use Rattle.std.proofs.Common.{◌∙◌, ap, subst, sym}
use Rattle.pg_list.specs.declared.galley.Place.{Place}
use Rattle.pg_rules.specs.IsState.{IsPlace}
use Rattle.pg_rules.specs.Legal.{is_spent_at}
use Rattle.pg_sources.specs.Document.{doc_of}
use Rattle.pg_states.proofs.done.is_spent.Goals as goal

pub returns : goal.returns
returns c =
    c.is_spent_at.ensures c.args.sources.now.style.now
    (subst (IsPlace c.args.sources.now.galley.now.blocks) (sym c.place.ensures) c.requires.place)
    ∙ ap (λ (at : Place). is_spent_at (doc_of c.args.sources.now) at) c.place.ensures
