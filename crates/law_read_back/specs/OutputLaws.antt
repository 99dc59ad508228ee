-- Printed output texts read back, in the words of the contracts.
use Rattle.std.specs.Prelude.{◌≡◌, ◌==◌, ◌≤◌, ◌<◌, ◌^◌, Bool, true, not, List, ◌++◌, length, Ok, ℤ}
use Rattle.pg_list.specs.GalleyValue.{GalleyValue}
use Rattle.pg_plan.specs.declared.states.Label.{Label}
use Rattle.pg_plan.specs.declared.pages.Pagination.{Pagination}
use Rattle.pg_style.specs.Values.{StyleValue}
use Rattle.pg_rules.specs.Legal.{Legal, document}
use Rattle.pg_floats.specs.AreFloats.{float_total}
use Rattle.pg_pages.specs.PageText.{page_text, none_text}
use Rattle.pg_labels.specs.LabelText.{label_text}
use Rattle.pg_labels.specs.Reading.{output_of}
use Rattle.pg_labels.specs.declared.output.Output.{Output}
use Rattle.pg_labels.specs.declared.output.Shown.TheVariants.{Pages, NoLegal}
use Rattle.law_words.specs.Ranges.{is_wide}
use Rattle.law_read_back.specs.StateRanges.{AreStatesInRange}
use Rattle.law_read_back.specs.Ranges.{ArePrintedLabels}

-- what is read of the text of a pagination and of labels
abbrev pub pages_output : GalleyValue → StyleValue → Pagination → ℤ → List Label → Output
pages_output galley style plan cost labels =
    record { shown = Pages plan cost; page_text = page_text galley style plan cost; labels = labels }

-- what is read where none is legal
abbrev pub no_pages_output : List Label → Output
no_pages_output labels = record { shown = NoLegal; page_text = none_text; labels = labels }

-- a legal pagination with any cost of 128 bits, and labels in range behind it
abbrev pub PagesReadBack : GalleyValue → StyleValue → Type 0
PagesReadBack galley style = (plan : Pagination) (cost : ℤ) (fitness : Bool) (labels : List Label) →
    Legal galley style plan → is_wide cost ≡ true → length plan.pages < 2 ^ 64 → length labels < 2 ^ 64 →
    ArePrintedLabels fitness labels →
    output_of (page_text galley style plan cost ++ label_text fitness labels)
    ≡ Ok (pages_output galley style plan cost labels)

-- labels in range, behind the line that says that no pagination is legal
abbrev pub NoneReadsBack : Type 0
NoneReadsBack = (fitness : Bool) (labels : List Label) → length labels < 2 ^ 64 → ArePrintedLabels fitness labels →
    output_of (none_text ++ label_text fitness labels) ≡ Ok (no_pages_output labels)

-- labels that are states, with costs of 128 bits, are in range, with their fitness told in version 2, where the galley
-- has at most 2^12 floats
abbrev pub StatesAreInRange : GalleyValue → StyleValue → Type 0
StatesAreInRange galley style = (labels : List Label) → float_total galley.blocks style ≤ 2 ^ 12 →
    AreStatesInRange (document galley style) labels → ArePrintedLabels (not (style.version == 1)) labels
