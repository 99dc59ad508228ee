-- What is proved of the galley that paragraphs make, and of its text.
use Rattle.std.specs.Prelude.{◌≡◌, ℕ, List, Ok, None}
use Rattle.std.specs.List.{AllByRecursion}
use Rattle.pg_list.specs.GalleyValue.{GalleyValue}
use Rattle.pg_showbox.specs.Reading.{galley_of}
use Rattle.pg_showbox.specs.Shown.{IsShownBlock}
use Rattle.pg_showbox.specs.Text.{galley_text}
use Rattle.pg_hlist.specs.declared.item.HItem.{HItem}
use Rattle.pg_hlist.specs.Reading.{paras_of}
use Rattle.law_lines.specs.declared.rule.LineRule.{LineRule}
use Rattle.law_lines.specs.Galleys.{Broken}
use Rattle.law_lines.specs.Clean.{IsCleanPara}

-- the paragraphs that a text says are within their ranges, and their items have clean lines
abbrev pub ReadsClean : Type 0
ReadsClean = (text : List ℕ) (paras : List (List HItem)) → paras_of text ≡ Ok paras → AllByRecursion IsCleanPara paras

-- each item of the galley that such paragraphs make shows what it is
abbrev pub LinesShowItems : LineRule → Type 0
LinesShowItems rule = (paras : List (List HItem)) (galley : GalleyValue) → AllByRecursion IsCleanPara paras →
    Broken rule paras (Ok galley) → AllByRecursion IsShownBlock galley.blocks

-- the text of the galley that the paragraphs of a text make reads back to that galley
abbrev pub LinesReadBack : LineRule → Type 0
LinesReadBack rule = (text : List ℕ) (paras : List (List HItem)) (galley : GalleyValue) → paras_of text ≡ Ok paras →
    Broken rule paras (Ok galley) → galley_of (galley_text galley) None ≡ Ok galley
