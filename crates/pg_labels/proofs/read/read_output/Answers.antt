use Rattle.std.proofs.Common.{◌∙◌, ap, subst, sym}
use Rattle.pg_scan.specs.Parts.{parts_of}
use Rattle.pg_labels.specs.Reading.{IsFew, run}
use Rattle.pg_labels.specs.declared.draft.Draft.{Draft}
use Rattle.pg_labels.proofs.Few.{few}
use Rattle.pg_labels.proofs.read.read_output.Goals as goal

pub returns-in-Ok-clause-few : goal.returns-in-Ok-clause-few
returns-in-Ok-clause-few c =
    let read = ap (λ (draft : Draft). run draft 1 (parts_of 10 c.args.text.now)) (sym c.new-draft.ensures)
    ∙ c.in_ok-read_lines.ensures in
    subst IsFew (sym c.in-Ok.ensures) (few c.args.text.now c.read_lines.new.draft read c.requires)
