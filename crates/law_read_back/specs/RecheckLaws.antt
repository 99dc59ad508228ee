-- What a run with labels writes, read again.
use Rattle.std.specs.Prelude.{◌≡◌, ◌==◌, ◌≤◌, ◌<◌, ◌^◌, ℕ, not, List, ◌++◌, length, Ok}
use Rattle.pg_list.specs.GalleyValue.{GalleyValue}
use Rattle.pg_plan.specs.declared.pages.Pagination.{Pagination}
use Rattle.pg_plan.specs.declared.states.Label.{Label}
use Rattle.pg_style.specs.Values.{StyleValue}
use Rattle.pg_rules.specs.Best.{Best}
use Rattle.pg_rules.specs.Cost.{cost}
use Rattle.pg_rules.specs.Frontier.{Frontier}
use Rattle.pg_floats.specs.AreFloats.{float_total}
use Rattle.pg_pages.specs.PageText.{page_text, none_text}
use Rattle.pg_labels.specs.LabelText.{label_text}
use Rattle.pg_labels.specs.Reading.{output_of}
use Rattle.pg_labels.specs.declared.output.Output.{Output}
use Rattle.law_check.specs.CheckLaws.{NoneIsLegal, ShowsSolution}

-- the text is an output text, and shows what solving the galley tells
pub record TellsSolution (galley : GalleyValue) (style : StyleValue) (text : List ℕ) : Type 0 where
  pub output : Output
  pub read : output_of text ≡ Ok output
  pub shows : ShowsSolution galley style output

-- a text with labels behind it, which tell their fitness in version 2
abbrev pub with_labels : StyleValue → List ℕ → List Label → List ℕ
with_labels style pages labels = pages ++ label_text (not (style.version == 1)) labels

-- with the labels of the frontier behind it this text tells the solution, where it has fewer than 2^64 bytes then, and
-- the galley has at most 2^12 floats
abbrev pub TellsWithLabels : GalleyValue → StyleValue → List ℕ → Type 0
TellsWithLabels galley style pages = (labels : List Label) → float_total galley.blocks style ≤ 2 ^ 12 →
    Frontier galley style labels → length (with_labels style pages labels) < 2 ^ 64 →
    TellsSolution galley style (with_labels style pages labels)

-- the page text of each best pagination does
abbrev pub BestTextTells : GalleyValue → StyleValue → Type 0
BestTextTells galley style = (plan : Pagination) → Best galley style plan →
    TellsWithLabels galley style (page_text galley style plan (cost galley style plan))

-- where none is legal, the line that says so does
abbrev pub NoneTextTells : GalleyValue → StyleValue → Type 0
NoneTextTells galley style = NoneIsLegal galley style → TellsWithLabels galley style none_text
