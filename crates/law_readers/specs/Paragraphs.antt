-- What a file of paragraphs says, all lines at once: its paragraphs, and the lines of each item.
use Rattle.std.specs.Prelude.{◌≡◌, ◌≤◌, ◌↔◌, ℕ, Bool, false, not, if◌then◌else◌, is_some, take_while, codes, List, [], ◌∷◌, ◌++◌, length, None, Ok, Err}
use Rattle.std.specs.List.{AllByRecursion}
use Rattle.std.specs.Str.{bytes_eq}
use Rattle.pg_scan.specs.Parts.{after}
use Rattle.pg_showbox.specs.declared.kinds.ListFault.{ListFault}
use Rattle.pg_hlist.specs.Items.{node_item, para_limit}
use Rattle.pg_hlist.specs.ParsedLine.{inside_line, outside_line}
use Rattle.pg_hlist.specs.Reading.{paras_of}
use Rattle.pg_hlist.specs.declared.item.HItem.{HItem}
use Rattle.pg_hlist.specs.declared.item.HNode.{HNode}
use Rattle.pg_hlist.specs.declared.item.ParaLine.TheVariants as said
use Rattle.law_readers.specs.Galleys.{AreClosed, behind_point, further_lines}
use Rattle.law_readers.specs.InOrder.{InOrder}
use Rattle.law_readers.specs.LinesRead.{BeginsWith, lines_read}

-- the line goes on with the item in front of it: it has two points or more
abbrev pub IsDeeper : List ℕ → Type 0
IsDeeper line = inside_line line ≡ Ok said.Deeper

-- the first line says what the item is, deeper lines follow it, and the body is all of them without their first points
pub record SaysItem (lines : List (List ℕ)) (item : HItem) : Type 0 where
  pub first : List ℕ
  pub deeper : List (List ℕ)
  pub node : HNode
  pub are : lines ≡ first ∷ deeper
  pub says : inside_line first ≡ Ok (said.Item node)
  pub goes_on : AllByRecursion IsDeeper deeper
  pub is : item ≡ node_item node (behind_point first ++ further_lines deeper)

-- the line is a root: a paragraph begins
abbrev pub begins_paragraph : List ℕ → Bool
begins_paragraph line = is_some (after (codes "\\hbox(") line)

-- the line goes on with the paragraph in front of it: it is not empty
abbrev pub is_filled : List ℕ → Bool
is_filled line = not (bytes_eq line [])

-- a root, and the lines behind it up to an empty one
pub record Paragraph : Type 0 where
  pub root : List ℕ
  pub lines : List (List ℕ)

-- the paragraphs of a file; all other lines say nothing
abbrev pub paragraphs : List (List ℕ) → List Paragraph
paragraphs [] = []
paragraphs (line ∷ lines) =
    if begins_paragraph line then record { root = line; lines = take_while is_filled lines } ∷ paragraphs lines
    else paragraphs lines

-- a root, and the lines of the items, one behind the other
pub record SaysParagraph (items : List HItem) (paragraph : Paragraph) : Type 0 where
  pub root : outside_line paragraph.root ≡ Ok said.Root
  pub each : InOrder SaysItem paragraph.lines items
  pub few : length items ≤ para_limit

-- one list of items for each paragraph
abbrev pub SayParagraphs : List (List HItem) → List Paragraph → Type 0
SayParagraphs [] [] = Unit {0}
SayParagraphs [] (paragraph ∷ paragraphs) = ⊥
SayParagraphs (items ∷ paras) [] = ⊥
SayParagraphs (items ∷ paras) (paragraph ∷ paragraphs) = SaysParagraph items paragraph × SayParagraphs paras paragraphs

-- ---- laws

-- what is read of a file are its paragraphs
abbrev pub ReadsItsParagraphs : Type 0
ReadsItsParagraphs = (text : List ℕ) (paras : List (List HItem)) → paras_of text ≡ Ok paras →
    SayParagraphs paras (paragraphs (lines_read None text))

-- and what its paragraphs say is read of a file, where there is one at least
abbrev pub ParagraphsAreRead : Type 0
ParagraphsAreRead = (text : List ℕ) (paras : List (List HItem)) → SayParagraphs paras (paragraphs (lines_read None text)) →
    1 ≤ length paras → paras_of text ≡ Ok paras

-- lines outside of paragraphs do not matter: files that differ in such lines have the same paragraphs
abbrev pub PassesOverLinesOutside : Type 0
PassesOverLinesOutside = (more less : List ℕ) (before outside behind : List (List ℕ)) (paras : List (List HItem)) →
    AreClosed before → AllByRecursion (λ line. begins_paragraph line ≡ false) outside →
    lines_read None more ≡ before ++ (outside ++ behind) → lines_read None less ≡ before ++ behind →
    (paras_of more ≡ Ok paras) ↔ (paras_of less ≡ Ok paras)

-- a fault at one of some lines is a fault of every file that begins with these lines
abbrev pub ParagraphFaultsStay : Type 0
ParagraphFaultsStay = (front : List (List ℕ)) (one other : List ℕ) (fault : ListFault) → BeginsWith front one →
    BeginsWith front other → paras_of one ≡ Err fault → 1 ≤ fault.line → fault.line ≤ length front →
    paras_of other ≡ Err fault
