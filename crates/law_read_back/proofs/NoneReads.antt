-- The text of labels behind `no legal pagination` reads back.
use Rattle.std.proofs.Common.{◌≡◌, refl, ap, ◌<◌, ◌^◌, Bool, List, ◌++◌, length}
use Rattle.std.specs.Prelude.{codes, Some, Ok}
use Rattle.pg_plan.specs.declared.states.Label.{Label}
use Rattle.pg_labels.specs.LabelText.{label_text}
use Rattle.pg_labels.specs.Drafts.{started, said, step, none_line}
use Rattle.pg_labels.specs.Reading.{output_of, said_by}
use Rattle.pg_labels.specs.declared.draft.Stands.TheVariants.{NoneLegal}
use Rattle.pg_pages.specs.PageText.{none_text}
use Rattle.pg_labels.specs.declared.output.Shown.TheVariants.{NoLegal}
use Rattle.law_read_back.specs.Ranges.{ArePrintedLabels}
use Rattle.law_read_back.proofs.Runs.{reads_line}
use Rattle.law_read_back.proofs.LabelTexts.{reads_all}

none_step : step started (codes "no legal pagination") ≡ Some (said started (codes "no legal pagination") NoneLegal)
unfolding step none_line
none_step = refl

pub none_reads : (fitness : Bool) (labels : List Label) → length labels < 2 ^ 64 → ArePrintedLabels fitness labels →
    output_of (none_text ++ label_text fitness labels)
    ≡ Ok (record { shown = NoLegal; page_text = none_text; labels = labels })
unfolding output_of
none_reads fitness labels small h =
    let e = said started (codes "no legal pagination") NoneLegal in
    ap said_by (reads_all started fitness none_text e labels
    (reads_line started e (codes "no legal pagination") refl none_step) refl refl small h)
