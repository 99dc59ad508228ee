-- From the text of a file of paragraphs to the text of the galley that they make.
use Rattle.std.proofs.Common.{ℕ, List, [], ◌∷◌, ◌++◌, ℤ}
use Rattle.std.specs.Prelude.{Result, Ok, Err}
use Rattle.std.specs.List.{flat_map}
use Rattle.pg_list.specs.GalleyValue.{GalleyValue}
use Rattle.pg_showbox.specs.declared.kinds.ListFault.{ListFault}
use Rattle.pg_showbox.specs.Text.{galley_text}
use Rattle.pg_hlist.specs.declared.item.HItem.{HItem}
use Rattle.pg_hlist.specs.Reading.{paras_of}
use Rattle.law_lines.specs.declared.rule.LineRule.{LineRule}
use Rattle.law_lines.specs.declared.rule.LineFault.{LineFault}
use Rattle.law_lines.specs.declared.rule.LineFault.TheVariants.{NoBreak, Limit, Memory}
use Rattle.law_lines.specs.Listing.{broken}

abbrev pub rule : ℤ → ℕ → ℕ → LineRule
rule width tolerance around = record { width = width; tolerance = tolerance; around = around }

abbrev pub text : List (List ℕ) → List ℕ
text lines = flat_map (λ line. line ++ 10 ∷ []) lines

abbrev pub shown : Result GalleyValue LineFault → Result (List ℕ) ℕ
shown (Ok galley) = Ok (galley_text galley)
shown (Err (NoBreak paragraph)) = Err paragraph
shown (Err (Limit count)) = Err 0
shown (Err Memory) = Err 0

abbrev pub of_paras : LineRule → Result (List (List HItem)) ListFault → Result (List ℕ) ℕ
of_paras rule (Ok paras) = shown (broken rule paras)
of_paras rule (Err fault) = Err 0

abbrev pub lines_of_file : LineRule → List ℕ → Result (List ℕ) ℕ
lines_of_file rule file = of_paras rule (paras_of file)
