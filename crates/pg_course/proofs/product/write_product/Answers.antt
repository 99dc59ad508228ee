use Rattle.std.proofs.Common.{[], ◌∷◌, subst, sym}
use Rattle.pg_session.specs.Shows.{AreCounted, show_of}
use Rattle.pg_command.specs.Lines.{status_of}
use Rattle.pg_course.specs.Counted.{UnlessMemory, made_shows}
use Rattle.pg_course.specs.declared.product.Product.{Product}
use Rattle.pg_course.proofs.Counts.{shown_counted, unless_memory}
use Rattle.pg_course.proofs.product.write_product.Goals as goal

pub returns-in-Pages-clause-counted : goal.returns-in-Pages-clause-counted
returns-in-Pages-clause-counted g c =
    let session = c.args.session.now in
    subst (λ (product : Product). UnlessMemory (status_of c.write_shown.result) (AreCounted session.style
    (made_shows product session.style session.galley (show_of session ∷ [])) c.args.steps.now c.write_shown.new.steps))
    (sym c.in-Pages.is)
    (unless_memory (status_of c.write_shown.result)
    (shown_counted session c.write_shown.new.session c.args.steps.now c.write_shown.new.steps) c.write_shown.ensures.shown)

pub returns-in-Heads-clause-counted : goal.returns-in-Heads-clause-counted
returns-in-Heads-clause-counted g c =
    let session = c.args.session.now in
    subst (λ (product : Product). UnlessMemory (status_of c.write_heads.result) (AreCounted session.style
    (made_shows product session.style session.galley (show_of session ∷ [])) c.args.steps.now c.write_heads.new.steps))
    (sym c.in-Heads.is)
    (unless_memory (status_of c.write_heads.result)
    (shown_counted session c.write_heads.new.session c.args.steps.now c.write_heads.new.steps) c.write_heads.ensures.shown)

pub returns-in-Sheets-clause-counted : goal.returns-in-Sheets-clause-counted
returns-in-Sheets-clause-counted g c =
    let session = c.args.session.now in
    subst (λ (product : Product). UnlessMemory (status_of c.write_sheets.result) (AreCounted session.style
    (made_shows product session.style session.galley (show_of session ∷ [])) c.args.steps.now c.write_sheets.new.steps))
    (sym c.in-Sheets.is)
    (unless_memory (status_of c.write_sheets.result)
    (shown_counted session c.write_sheets.new.session c.args.steps.now c.write_sheets.new.steps) c.write_sheets.ensures.shown)

pub returns-in-Comparison-clause-counted : goal.returns-in-Comparison-clause-counted
returns-in-Comparison-clause-counted g c =
    let session = c.args.session.now in
    subst (λ (product : Product). UnlessMemory (status_of c.write_comparison.result) (AreCounted session.style
    (made_shows product session.style session.galley (show_of session ∷ [])) c.args.steps.now
    c.write_comparison.new.steps)) (sym c.in-Comparison.is) c.write_comparison.ensures.counted
