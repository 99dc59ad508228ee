-- The words of the program.
use Rattle.std.specs.Prelude.{ℕ, ℤ, ◌&&◌, if◌then◌else◌, List, [], ◌∷◌, Option, Some, None, codes}
use Rattle.std.specs.Option.{option_and_then, option_map}
use Rattle.std.specs.Str.{bytes_eq}
use Rattle.pg_command.specs.Words.{IsStyle, StyleName, height_of, named, plain, style_name, wrap_of}
use Rattle.pg_outside.specs.Words.{is_name}
use Rattle.pg_pieces.specs.declared.letters.Form.{Form}
use Rattle.pg_pieces.specs.declared.letters.Form.TheVariants.{Plain, Json}
use Rattle.pg_tell.specs.declared.words.Job.{Job}
use Rattle.pg_tell.specs.declared.words.Job.TheVariants.{Help, Version, Faults, Tell}

-- to tell how the program is used, its version, or all faults; or to tell of the pages of a galley under a style, with
-- the width at which lines are joined, in a form
pub data Command : Type 0 where
  help : Command
  version : Command
  faults : Command
  pages : StyleName → List ℕ → Option ℕ → Form → Command

-- what a job says, without where it lies in memory
abbrev pub command_in : Job → Command
command_in Help = help
command_in Version = version
command_in Faults = faults
command_in (Tell style galley wrap form) = pages (style_name style) galley.now wrap form

-- a job whose height, if it has one, is one of a page
abbrev pub IsInRange : Job → Type 0
IsInRange (Tell style galley wrap form) = IsStyle style
IsInRange job = Unit {0}

-- `STYLE GALLEY`
abbrev pub styled_pages : Form → Option ℕ → List ℕ → List ℕ → Option Command
styled_pages form wrap style galley =
    if is_name style && is_name galley then Some (pages (named style) galley wrap form) else None

-- `--height H GALLEY`
abbrev pub plain_pages : Form → Option ℕ → List ℕ → List ℕ → Option Command
plain_pages form wrap word galley =
    if is_name galley then option_map (λ (height : ℤ). pages (plain height) galley wrap form) (height_of word) else None

-- the width behind its option
abbrev pub wrap_in : List ℕ → List ℕ → Option ℕ
wrap_in option value = if bytes_eq option (codes "--wrap") then wrap_of value else None

-- `--wrap N STYLE GALLEY`
abbrev pub wrapped_pages : Form → List ℕ → List ℕ → List ℕ → List ℕ → Option Command
wrapped_pages form option value style galley =
    option_and_then (λ (wrap : ℕ). styled_pages form (Some wrap) style galley) (wrap_in option value)

-- `--height H GALLEY`, behind the other option or without it
abbrev pub tall_pages : Form → Option ℕ → List ℕ → List ℕ → List ℕ → Option Command
tall_pages form wrap option value galley =
    if bytes_eq option (codes "--height") then plain_pages form wrap value galley else None

-- both options, in any order
abbrev pub both_pages : Form → List ℕ → List ℕ → List ℕ → List ℕ → List ℕ → Option Command
both_pages form one two three four galley =
    if bytes_eq one (codes "--wrap")
    then option_and_then (λ (wrap : ℕ). tall_pages form (Some wrap) three four galley) (wrap_of two)
    else option_and_then (λ (wrap : ℕ). tall_pages form (Some wrap) one two galley) (wrap_in three four)

-- `[--wrap N] STYLE GALLEY`, or `--height H [--wrap N] GALLEY`
abbrev pub files_of : Form → List (List ℕ) → Option Command
files_of form (style ∷ galley ∷ []) = styled_pages form None style galley
files_of form (option ∷ value ∷ galley ∷ []) = tall_pages form None option value galley
files_of form (option ∷ value ∷ style ∷ galley ∷ []) = wrapped_pages form option value style galley
files_of form (one ∷ two ∷ three ∷ four ∷ galley ∷ []) = both_pages form one two three four galley
files_of form words = None

-- a word that stands alone
abbrev pub word_alone : List ℕ → Option Command
word_alone word =
    if bytes_eq word (codes "--help") then Some help
    else (if bytes_eq word (codes "--version") then Some version
    else (if bytes_eq word (codes "--faults") then Some faults else None))

-- what the words ask for: `--help`, `--version`, `--faults`, or files, with `--json` in front or without
abbrev pub command_of : List (List ℕ) → Option Command
command_of [] = None
command_of (word ∷ []) = word_alone word
command_of (word ∷ words) = if bytes_eq word (codes "--json") then files_of Json words else files_of Plain (word ∷ words)
