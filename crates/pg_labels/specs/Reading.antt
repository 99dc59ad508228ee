-- What an output text says, or the least number of lines that begin none.
use Rattle.std.specs.Prelude.{◌≡◌, ◌<◌, ◌^◌, ⊤, ℕ, ◌+◌, ◌&&◌, Bool, true, false, if◌then◌else◌, List, [], ◌∷◌, length, reverse, Option, Some, None, Result, Ok, Err, ℤ}
use Rattle.std.specs.Option.{option_map_or}
use Rattle.pg_plan.specs.Order.{columns_of}
use Rattle.pg_plan.specs.declared.pages.Page.{Page}
use Rattle.pg_scan.specs.Parts.{parts_of}
use Rattle.pg_labels.specs.Drafts.{started, pages_of, step, is_whole}
use Rattle.pg_labels.specs.declared.draft.Draft.{Draft}
use Rattle.pg_labels.specs.declared.output.Output.{Output}
use Rattle.pg_labels.specs.declared.output.OutputFault.{OutputFault}
use Rattle.pg_labels.specs.declared.output.OutputFault.TheVariants.{BadText, Memory}
use Rattle.pg_labels.specs.declared.output.Shown.{Shown}
use Rattle.pg_labels.specs.declared.output.Shown.TheVariants.{Pages, NoLegal}

-- nothing
abbrev pub is_none : List ℕ → Bool
is_none [] = true
is_none (c ∷ cs) = false

-- the texts between line feeds, one after another, as lines from this number on; what stands behind the last line feed
-- has to be nothing, and all has to be read then
unfoldable pub run : Draft → ℕ → List (List ℕ) → Result Draft ℕ
run d n [] = Err n
run d n (text ∷ []) = if is_none text && is_whole d then Ok d else Err n
run d n (text ∷ next ∷ rest) = option_map_or (λ e. run e (n + 1) (next ∷ rest)) (step d text) (Err n)

-- these pages at this cost, or that none is legal where no cost was told
abbrev pub shown_of : Option ℤ → List Page → Shown
shown_of None pages = NoLegal
shown_of (Some cost) pages = Pages (record { pages = pages }) cost

-- what was read, as a whole
abbrev pub output_from : Draft → Output
output_from d = record { shown = shown_of d.cost (pages_of d); page_text = d.page_text; labels = d.labels }

-- what was read, or the line at which reading ended
abbrev pub said_by : Result Draft ℕ → Result Output ℕ
said_by (Ok d) = Ok (output_from d)
said_by (Err n) = Err n

-- what the text says, or the line at which it is no output text
unfoldable pub output_of : List ℕ → Result Output ℕ
output_of text = said_by (run started 1 (parts_of 10 text))

-- the answer, unless memory ran out
abbrev pub Gives : {X : Type 0} → Result X OutputFault → Result X ℕ → Type 0
Gives (Ok x) said = said ≡ Ok x
Gives (Err (BadText line)) said = said ≡ Err line
Gives (Err Memory) said = ⊤

-- the lines that were read, unless memory ran out
abbrev pub Reads : Result (Unit {0}) OutputFault → Result Draft ℕ → Draft → Type 0
Reads (Ok done) said draft = said ≡ Ok draft
Reads (Err (BadText line)) said draft = said ≡ Err line
Reads (Err Memory) said draft = ⊤

-- the lines of what is left; none where nothing is left
abbrev pub lines_left : Option (List ℕ) → List (List ℕ)
lines_left None = []
lines_left (Some text) = parts_of 10 text

-- ---- how much a text has room for

-- the pages that are shown
abbrev pub shown_pages : Shown → List Page
shown_pages NoLegal = []
shown_pages (Pages plan cost) = plan.pages

-- fewer than 2 ^ 31 pages, columns and labels
pub record IsFew (output : Output) : Type 0 where
  pub pages : length (shown_pages output.shown) < 2 ^ 31
  pub columns : length (columns_of (reverse (shown_pages output.shown))) < 2 ^ 31
  pub labels : length output.labels < 2 ^ 31
