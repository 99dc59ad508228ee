use Rattle.std.proofs.Common.{◌∙◌, length, subst, sym}
use Rattle.std.specs.Int.{w128}
use Rattle.std.specs.Prelude.{Ok}
use Rattle.std.proofs.Common.{rules}
use Rattle.std.proofs.lemmas.Int.{to_z-of_z}
use Rattle.std.proofs.lemmas.Result.{on_ok_weaker}
use Rattle.pg_rules.specs.Cost.{cost}
use Rattle.pg_rules.specs.Legal.{breach}
use Rattle.pg_judge.specs.Settled.{JudgesPlan}
use Rattle.pg_table.specs.Space.{Small}
use Rattle.pg_course.proofs.Fits.{legal_line}
use Rattle.pg_course.proofs.compare.print_first.Goals as goal

pub saving-requires-clause-cost : goal.saving-requires-clause-cost
saving-requires-clause-cost c =
    let told : JudgesPlan c.args.basis.now.galley.now c.args.basis.now.style.now c.args.first.now (Ok c.in-Ok.cost) =
    subst (JudgesPlan c.args.basis.now.galley.now c.args.basis.now.style.now c.args.first.now) c.in-Ok.is
    c.judge-judged.ensures in
    subst Small (sym told.1) (c.requires.legal c.args.first.now (record { unbroken = told.0 })).cost

pub returns-in-Ok : goal.returns-in-Ok
returns-in-Ok c =
    let told : JudgesPlan c.args.basis.now.galley.now c.args.basis.now.style.now c.args.first.now (Ok c.in-Ok.cost) =
    subst (JudgesPlan c.args.basis.now.galley.now c.args.basis.now.style.now c.args.first.now) c.in-Ok.is
    c.judge-judged.ensures in
    on_ok_weaker c.print_saved.result (λ written. legal_line (length c.args.first.now.pages)
    (breach c.args.basis.now.galley.now c.args.basis.now.style.now c.args.first.now)
    (cost c.args.basis.now.galley.now c.args.basis.now.style.now c.args.first.now) c.args.best.now _ _ _
    c.args.out.now.items
    c.print_saved.new.out.items told.0 c.page_count-pages.ensures told.1
    (to_z-of_z w128 c.saving.result (record { sfits = search rules }) ∙ c.saving.ensures) written)
    c.print_saved.ensures.ok
