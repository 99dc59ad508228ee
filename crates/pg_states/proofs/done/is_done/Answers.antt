use Rattle.std.proofs.Common.{◌∙◌, ap, List, ℕ}
use Rattle.pg_rules.specs.Legal.{has_dealt_all}
use Rattle.pg_sources.specs.Document.{doc_of}
use Rattle.pg_states.proofs.Both.{missed, passed}
use Rattle.pg_states.proofs.done.is_done.Goals as goal

pub is_spent-requires : goal.is_spent-requires
is_spent-requires c = c.requires

pub returns-then-is_spent : goal.returns-then-is_spent
returns-then-is_spent c = passed c.is_spent.result _ _ c.is_spent.ensures c.if-is_spent.true c.has_placed_all.result
    (c.has_placed_all.ensures ∙ ap (λ (placed : List ℕ). has_dealt_all (doc_of c.args.sources.now) placed)
    c.placed.ensures)

pub returns-else-is_spent : goal.returns-else-is_spent
returns-else-is_spent c = missed c.is_spent.result _ _ c.is_spent.ensures c.if-is_spent.false
