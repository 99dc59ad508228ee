use Rattle.std.proofs.Common.{sym, ap, ◌∙◌, ℕ, List}
use Rattle.std.proofs.lemmas.Bool.{ne_eqb}
use Rattle.pg_rules.specs.History.{made_wide, placed_of}
use Rattle.pg_rules.specs.Legal.{document}
use Rattle.pg_judge.proofs.Step.{wide_first, wide_later}
use Rattle.pg_judge.proofs.progress.Progress.next_wide.Goals as goal

pub wide_height-requires-clause-list : goal.wide_height-requires-clause-list
wide_height-requires-clause-list c = c.requires.list

pub wide_height-requires-clause-slots : goal.wide_height-requires-clause-slots
wide_height-requires-clause-slots c = c.requires.kept.slots

pub wide_height-requires-clause-few : goal.wide_height-requires-clause-few
wide_height-requires-clause-few c = c.requires.kept.few

pub returns-then-self-eq1-clause-value : goal.returns-then-self-eq1-clause-value
returns-then-self-eq1-clause-value c = λ m ms e going.
    let galley = c.args.galley.now in
    let style = c.args.style.now in
    wide_first galley style c.args.list.now c.requires.list m ms c.args.self.now going c.if-self-eq1.true
    c.wide_height.result (c.wide_height.ensures.value (placed_of style ms) going.placed
    ∙ ap (λ (counts : List ℕ). made_wide (document galley style) (placed_of style ms) counts) (sym e))

pub returns-then-self-eq1-clause-size : goal.returns-then-self-eq1-clause-size
returns-then-self-eq1-clause-size c = c.wide_height.ensures.size

pub returns-else-self-eq1-clause-value : goal.returns-else-self-eq1-clause-value
returns-else-self-eq1-clause-value c = λ m ms e going.
    wide_later c.args.galley.now c.args.style.now c.args.list.now c.requires.list m ms c.args.self.now going
    (ne_eqb c.args.self.now.column 1 c.if-self-eq1.false)

pub returns-else-self-eq1-clause-size : goal.returns-else-self-eq1-clause-size
returns-else-self-eq1-clause-size c = c.requires.kept.wide
