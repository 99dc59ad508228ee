-- The words of a command.
use Rattle.std.specs.Prelude.{ℕ, ◌^◌, ◌≤◌, List, [], ◌∷◌, length, ◌&&◌, ◌==◌, ◌||◌, Bool, true, false, not, nat_lt}
use Rattle.std.specs.Prelude.{if◌then◌else◌, Option, Some, None, is_some, codes, ℤ, pos, negsuc, ◌≤ℤ◌, ◌<ℤ◌}
use Rattle.std.specs.Prelude.{IfSome}
use Rattle.std.specs.Option.{option_map, option_map_or, option_and_then}
use Rattle.std.specs.Str.{bytes_eq}
use Rattle.pg_outside.specs.Words.{is_name}
use Rattle.pg_scaled.specs.declared.read.Front.{Front}
use Rattle.pg_scaled.specs.declared.read.Front.TheVariants.{Value}
use Rattle.pg_scaled.specs.Scaled.{scaled_value}
use Rattle.pg_scan.specs.Parts.{word_number}
use Rattle.pg_command.specs.declared.job.StyleWord.{StyleWord}
use Rattle.pg_command.specs.declared.job.StyleWord.TheVariants.{Named, Plain}
use Rattle.pg_command.specs.declared.job.Job.{Job}
use Rattle.pg_command.specs.declared.job.Job.TheVariants.{Run, Edit, Show, Make, Check, Lines, Heads, Compare, Fold}
use Rattle.pg_command.specs.declared.options.OptionName.{OptionName}
use Rattle.pg_command.specs.declared.options.OptionName.TheVariants as option
use Rattle.pg_command.specs.declared.options.Options.{Options}

-- which style a run takes: that of the file of this name, or the plain one of this page height
pub data StyleName : Type 0 where
  named : List ℕ → StyleName
  plain : ℤ → StyleName

-- a command: to paginate the galley of this name, with the labels of the search or without, or to print it, with the
-- width at which lines are joined; to edit a galley by the script of a name, under a style, and to paginate it at each
-- show; to make a galley of so many paragraphs; to check against a style and a galley, of these names, the output
-- text of a name; to break the paragraphs of a file into lines of a width, of a tolerance, in so many lines more or
-- less; to tell the running heads and references of the pages, or what they save over first fit; or to lay them on
-- sheets that are folded so often, so many put into each other
pub data Command : Type 0 where
  run : StyleName → List ℕ → Bool → Option ℕ → Command
  edit : List ℕ → List ℕ → List ℕ → Bool → Option ℕ → Command
  show : List ℕ → Option ℕ → Command
  make : ℕ → Command
  check : List ℕ → List ℕ → List ℕ → Option ℕ → Command
  lines : ℤ → ℕ → ℕ → List ℕ → Command
  heads : List ℕ → List ℕ → Option ℕ → Command
  compare : List ℕ → List ℕ → Option ℕ → Command
  fold : List ℕ → List ℕ → ℕ → ℕ → Option ℕ → Command

-- what a word for a style says, without where it lies in memory
abbrev pub style_name : StyleWord → StyleName
style_name (Named name) = named name.now
style_name (Plain height) = plain height

-- what a job says, without where it lies in memory
abbrev pub command_in : Job → Command
command_in (Run job) = run (style_name job.style) job.galley.now job.labels job.wrap
command_in (Edit job) = edit job.style.now job.galley.now job.script.now job.labels job.wrap
command_in (Show galley wrap) = show galley.now wrap
command_in (Make count) = make count
command_in (Check job) = check job.style.now job.galley.now job.output.now job.wrap
command_in (Lines job) = lines job.width job.tolerance job.around job.file.now
command_in (Heads job) = heads job.style.now job.galley.now job.wrap
command_in (Compare job) = compare job.style.now job.galley.now job.wrap
command_in (Fold job) = fold job.style.now job.galley.now job.folds job.nest job.wrap

-- a page height is above 0 and below 2^30
abbrev pub IsHeight : ℤ → Type 0
IsHeight height = (pos 1 ≤ℤ height) × (height <ℤ pos (2 ^ 30))

-- a word for a style: its height, if it has one, is one of a page
abbrev pub IsStyle : StyleWord → Type 0
IsStyle (Named name) = Unit {0}
IsStyle (Plain height) = IsHeight height

-- lines of this width, at worst so bad, in so many lines more or less
pub record IsLineRule (wide : ℤ) (worst others : ℕ) : Type 0 where
  pub width : IsHeight wide
  pub tolerance : worst ≤ 10000
  pub around : others ≤ 2

-- sheets are folded 1 to 4 times
abbrev pub IsFolds : ℕ → Type 0
IsFolds folds = (1 ≤ folds) × (folds ≤ 4)

-- 1 to 16 sheets are put into each other
abbrev pub IsNest : ℕ → Type 0
IsNest nest = (1 ≤ nest) × (nest ≤ 16)

-- a job whose height, if it has one, is one of a page, and whose numbers are in their ranges
abbrev pub IsInRange : Job → Type 0
IsInRange (Run job) = IsStyle job.style
IsInRange (Edit job) = Unit {0}
IsInRange (Show galley wrap) = Unit {0}
IsInRange (Make count) = count ≤ 2000
IsInRange (Check job) = Unit {0}
IsInRange (Lines job) = IsLineRule job.width job.tolerance job.around
IsInRange (Heads job) = Unit {0}
IsInRange (Compare job) = Unit {0}
IsInRange (Fold job) = IsFolds job.folds × IsNest job.nest

-- ---- the words of options and names

-- a number above 0
abbrev pub is_positive : ℤ → Bool
is_positive (pos n) = nat_lt 0 n
is_positive (negsuc n) = false

-- a height is a whole scaled number above 0
abbrev pub height_from : Front → ℕ → Option ℤ
height_from (Value value len) size = if len == size && is_positive value then Some value else None
height_from front size = None

-- the height that a word says, if it says one
abbrev pub height_of : List ℕ → Option ℤ
height_of word = height_from (scaled_value word) (length word)

-- a width at which lines are joined is 1 to 65535, in 1 to 10 digits
abbrev pub wrap_of : List ℕ → Option ℕ
wrap_of word = word_number 1 65535 word

-- how many paragraphs are made is 0 to 2000, in 1 to 10 digits
abbrev pub paragraphs_of : List ℕ → Option ℕ
paragraphs_of word = word_number 0 2000 word

-- how bad a line may be is 0 to 10000, in 1 to 10 digits
abbrev pub tolerance_of : List ℕ → Option ℕ
tolerance_of word = word_number 0 10000 word

-- how many lines more and less than the best are wanted is 0 to 2, in 1 to 10 digits
abbrev pub around_of : List ℕ → Option ℕ
around_of word = word_number 0 2 word

-- how often a sheet is folded is 1 to 4, in 1 to 10 digits
abbrev pub folds_of : List ℕ → Option ℕ
folds_of word = word_number 1 4 word

-- how many sheets are put into each other is 1 to 16, in 1 to 10 digits
abbrev pub nest_of : List ℕ → Option ℕ
nest_of word = word_number 1 16 word

-- ---- options between a command and its names

-- no option stands there
abbrev pub no_options : Options
no_options = record {
  height = None;
  labels = false;
  wrap = None;
  width = None;
  tolerance = None;
  around = None;
  folds = None;
  nest = None;
}

-- each option's value is one that it may have
pub record AreOptions (options : Options) : Type 0 where
  pub height : IfSome options.height IsHeight
  pub width : IfSome options.width IsHeight
  pub tolerance : IfSome options.tolerance (λ tolerance. tolerance ≤ 10000)
  pub around : IfSome options.around (λ around. around ≤ 2)
  pub folds : IfSome options.folds IsFolds
  pub nest : IfSome options.nest IsNest

-- an option that tells how paragraphs are broken
abbrev pub has_line_rule : Options → Bool
has_line_rule options = is_some options.width || is_some options.tolerance || is_some options.around

-- an option that tells how sheets are folded
abbrev pub has_folding : Options → Bool
has_folding options = is_some options.folds || is_some options.nest

-- the option for labels, which has no value
abbrev pub is_labels : List ℕ → Bool
is_labels word = bytes_eq word (codes "--labels")

-- the option of this name that has a value
abbrev pub option_named : List ℕ → Option OptionName
option_named word =
    if bytes_eq word (codes "--height") then Some option.Height
    else (if bytes_eq word (codes "--wrap") then Some option.Wrap
    else (if bytes_eq word (codes "--width") then Some option.Width
    else (if bytes_eq word (codes "--tolerance") then Some option.Tolerance
    else (if bytes_eq word (codes "--around") then Some option.Around
    else (if bytes_eq word (codes "--folds") then Some option.Folds
    else (if bytes_eq word (codes "--nest") then Some option.Nest else None))))))

-- the option for labels too: none where it stands a second time
abbrev pub with_labels : Options → Option Options
with_labels options = if options.labels then None else Some (record options { labels = true })

-- a value where none stood
abbrev pub once : {A : Type 0} → Option A → Option A → Option A
once None value = value
once (Some old) value = None

-- one more option with its value: none where it stands a second time, or its value is no such value
abbrev pub with_option : Options → OptionName → List ℕ → Option Options
with_option options option.Height value =
    option_map (λ (it : ℤ). record options { height = Some it }) (once options.height (height_of value))
with_option options option.Wrap value =
    option_map (λ (it : ℕ). record options { wrap = Some it }) (once options.wrap (wrap_of value))
with_option options option.Width value =
    option_map (λ (it : ℤ). record options { width = Some it }) (once options.width (height_of value))
with_option options option.Tolerance value =
    option_map (λ (it : ℕ). record options { tolerance = Some it }) (once options.tolerance (tolerance_of value))
with_option options option.Around value =
    option_map (λ (it : ℕ). record options { around = Some it }) (once options.around (around_of value))
with_option options option.Folds value =
    option_map (λ (it : ℕ). record options { folds = Some it }) (once options.folds (folds_of value))
with_option options option.Nest value =
    option_map (λ (it : ℕ). record options { nest = Some it }) (once options.nest (nest_of value))

-- the options in front, each that has a value with it as the next word, and the names behind them; the last word is a
-- name
unfoldable pub options_in : Options → List (List ℕ) → Option (Options × List (List ℕ))
options_in options [] = Some (options, [])
options_in options (word ∷ []) = Some (options, word ∷ [])
options_in options (word ∷ value ∷ words) =
    if is_labels word
    then option_and_then (λ (more : Options). options_in more (value ∷ words)) (with_labels options)
    else option_map_or
    (λ (name : OptionName). option_and_then (λ (more : Options). options_in more words)
    (with_option options name value))
    (option_named word)
    (Some (options, word ∷ value ∷ words))

-- `run --height H GALLEY`, or `run STYLE GALLEY`
abbrev pub run_named : Options → List (List ℕ) → Option Command
run_named options (galley ∷ []) =
    if is_name galley
    then option_map (λ (height : ℤ). run (plain height) galley options.labels options.wrap) options.height
    else None
run_named options (style ∷ galley ∷ []) =
    if is_name style && (is_name galley && not (is_some options.height))
    then Some (run (named style) galley options.labels options.wrap)
    else None
run_named options names = None

-- `edit STYLE GALLEY SCRIPT`, which takes no height
abbrev pub edit_named : Options → List (List ℕ) → Option Command
edit_named options (style ∷ galley ∷ script ∷ []) =
    if is_name style && (is_name galley && (is_name script && not (is_some options.height)))
    then Some (edit style galley script options.labels options.wrap)
    else None
edit_named options names = None

-- `show GALLEY`, which takes no height and no labels
abbrev pub show_named : Options → List (List ℕ) → Option Command
show_named options (galley ∷ []) =
    if not (is_name galley) || is_some options.height || options.labels then None else Some (show galley options.wrap)
show_named options names = None

-- `make N`, which takes no option
abbrev pub make_named : Options → List (List ℕ) → Option Command
make_named options (word ∷ []) =
    if is_some options.height || options.labels || is_some options.wrap then None
    else option_map make (paragraphs_of word)
make_named options names = None

-- `check STYLE GALLEY OUTPUT`, which takes no height and no labels
abbrev pub check_named : Options → List (List ℕ) → Option Command
check_named options (style ∷ galley ∷ output ∷ []) =
    if is_name style && (is_name galley && (is_name output && not (is_some options.height || options.labels)))
    then Some (check style galley output options.wrap)
    else None
check_named options names = None

-- the style and the galley of a command that tells of pages, which takes no height and no labels
abbrev pub two_files : Options → List (List ℕ) → Option (List ℕ × List ℕ)
two_files options (style ∷ galley ∷ []) =
    if is_name style && (is_name galley && not (is_some options.height || options.labels))
    then Some (style, galley)
    else None
two_files options names = None

-- `heads STYLE GALLEY` and `compare STYLE GALLEY`
abbrev pub pages_named : (List ℕ → List ℕ → Option ℕ → Command) → Options → List (List ℕ) → Option Command
pages_named tell options names =
    option_map (λ (files : List ℕ × List ℕ). tell files.0 files.1 options.wrap) (two_files options names)

-- `lines --width W --tolerance T --around K FILE`, where all three are due, and no other option is taken
abbrev pub lines_named : Options → List (List ℕ) → Option Command
lines_named options (file ∷ []) =
    if not (is_name file) || is_some options.height || options.labels || is_some options.wrap || has_folding options
    then None
    else option_and_then (λ (width : ℤ). option_and_then (λ (tolerance : ℕ). option_map (λ (around : ℕ).
    lines width tolerance around file) options.around) options.tolerance) options.width
lines_named options names = None

-- `fold --folds F --nest N STYLE GALLEY`, where both are due, and of the others that for joined lines is taken
abbrev pub fold_named : Options → List (List ℕ) → Option Command
fold_named options names = option_and_then (λ (files : List ℕ × List ℕ).
    if has_line_rule options then None
    else option_and_then (λ (folds : ℕ). option_map (λ (nest : ℕ).
    fold files.0 files.1 folds nest options.wrap) options.nest) options.folds) (two_files options names)

-- the other commands, which take no option of those two
abbrev pub plain_job_of : List ℕ → Options → List (List ℕ) → Option Command
plain_job_of word options names =
    if bytes_eq word (codes "run") then run_named options names
    else (if bytes_eq word (codes "show") then show_named options names
    else (if bytes_eq word (codes "make") then make_named options names
    else (if bytes_eq word (codes "check") then check_named options names
    else (if bytes_eq word (codes "edit") then edit_named options names
    else (if bytes_eq word (codes "heads") then pages_named heads options names
    else (if bytes_eq word (codes "compare") then pages_named compare options names else None))))))

-- the command of the first word, with the options and names behind it
abbrev pub job_of : List ℕ → (Options × List (List ℕ)) → Option Command
job_of word (options, names) =
    if bytes_eq word (codes "lines") then lines_named options names
    else (if bytes_eq word (codes "fold") then fold_named options names
    else (if has_line_rule options || has_folding options then None else plain_job_of word options names))

-- the command of these words: a command's name, options, names
abbrev pub command_of : List (List ℕ) → Option Command
command_of [] = None
command_of (word ∷ words) = option_and_then (job_of word) (options_in no_options words)
