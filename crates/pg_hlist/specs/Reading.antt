-- What a file of paragraphs says, or the first line with a fault.
use Rattle.std.specs.Prelude.{◌≡◌, ℕ, List, [], ◌∷◌, ◌++◌, length, Option, Some, None, Result, Ok, Err, is_some, nat_lt, if◌then◌else◌, codes}
use Rattle.pg_showbox.specs.declared.kinds.ListKind.{ListKind}
use Rattle.pg_showbox.specs.declared.kinds.ListKind.TheVariants.{NoListing, BadLine, Limit}
use Rattle.pg_showbox.specs.declared.kinds.ListFault.{ListFault}
use Rattle.pg_scan.specs.Lines.{Line, raw_lines, joined}
use Rattle.pg_showbox.specs.Parts.{◌>>=◌}
use Rattle.pg_scan.specs.Parts.{past}
use Rattle.pg_showbox.specs.Reading.{OrMemory, at_line, then_ok}
use Rattle.pg_hlist.specs.declared.draft.Draft.{Draft}
use Rattle.pg_hlist.specs.declared.item.HItem.{HItem}
use Rattle.pg_hlist.specs.declared.item.ParaLine.{ParaLine}
use Rattle.pg_hlist.specs.declared.item.ParaLine.TheVariants.{Nothing, Blank, Root, Item, Deeper}
use Rattle.pg_hlist.specs.Items.{extended, node_item, para_limit}
use Rattle.pg_hlist.specs.ParsedLine.{line_parsed}

-- nothing was read
abbrev pub empty : Draft
empty = record { paras = []; current = None }

-- the open paragraph, if there is one, ends
abbrev pub ended : List (List HItem) → Option (List HItem) → List (List HItem)
ended paras None = paras
ended paras (Some items) = paras ++ items ∷ []

abbrev pub closed : Draft → Draft
closed s = record { paras = ended s.paras s.current; current = None }

abbrev pub opened : Draft → List HItem → Draft
opened s items = record s { current = Some items }

-- an item stands next
unfoldable pub placed : Draft → Option (List HItem) → HItem → Result Draft ListKind
placed s None item = Err BadLine
placed s (Some items) item = if nat_lt (length items) para_limit then Ok (opened s (items ++ item ∷ [])) else Err Limit

-- a deeper line belongs to the item before it in its paragraph
unfoldable pub longer_last : Draft → Option (List HItem) → List ℕ → Result Draft ListKind
longer_last s None line = Err BadLine
longer_last s (Some []) line = Err BadLine
longer_last s (Some (item ∷ items)) line = Ok (opened s (extended line (item ∷ items)))

-- what a line that says this does
unfoldable pub step : Draft → ParaLine → List ℕ → Result Draft ListKind
step s Nothing line = Ok s
step s Blank line = Ok (closed s)
step s Root line = Ok (opened s [])
step s (Item node) line = placed s s.current (node_item node (past (codes ".") line))
step s Deeper line = longer_last s s.current (past (codes ".") line)

unfoldable pub line_read : Draft → List ℕ → Result Draft ListKind
line_read s text = line_parsed (is_some s.current) text >>= (λ parsed. step s parsed text)

-- lines that were read, unless memory ran out
abbrev pub Runs : Result (Unit {0}) ListFault → Result Draft ListFault → Draft → Type 0
Runs (Ok done) said new = said ≡ Ok new
Runs (Err fault) said new = OrMemory fault.kind (said ≡ Err fault)

-- line by line, up to the first fault
unfoldable pub run : Draft → List Line → Result Draft ListFault
run s [] = Ok s
run s (line ∷ lines) = then_ok (at_line line.number (line_read s line.text)) (λ t. run t lines)

abbrev pub some_paras : List (List HItem) → Result (List (List HItem)) ListFault
some_paras [] = Err (record { line = 0; kind = NoListing })
some_paras (items ∷ paras) = Ok (items ∷ paras)

-- the paragraphs of a file
unfoldable pub paras_of : List ℕ → Result (List (List HItem)) ListFault
paras_of text = then_ok (run empty (joined None 1 (raw_lines text))) (λ s. some_paras (closed s).paras)
