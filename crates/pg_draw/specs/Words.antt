-- The words of the program.
use Rattle.std.specs.Prelude.{ℕ, if◌then◌else◌, List, [], ◌∷◌, Option, Some, None, codes}
use Rattle.std.specs.Option.{option_map, option_and_then}
use Rattle.std.specs.Str.{bytes_eq}
use Rattle.pg_outside.specs.Words.{is_name}
use Rattle.pg_draw.specs.declared.words.Job.{Job}
use Rattle.pg_draw.specs.declared.words.Options.{Options}
use Rattle.pg_draw.specs.declared.words.Request.{Request}
use Rattle.pg_draw.specs.declared.words.Request.TheVariants as request

-- what the options name: a style, another text, and the file that the page goes to
pub record OptionNames : Type 0 where
  pub style : Option (List ℕ)
  pub other : Option (List ℕ)
  pub target : Option (List ℕ)

-- the text that is drawn, and what the options name
pub record Names : Type 0 where
  pub output : List ℕ
  pub options : OptionNames

-- what is asked of the program
pub data Asked : Type 0 where
  Help : Asked
  Version : Asked
  Draw : Names → Asked

-- what options say, without where it lies in memory
abbrev pub option_names : Options → OptionNames
option_names options = record {
  style = option_map (λ name. name.now) options.style;
  other = option_map (λ name. name.now) options.other;
  target = option_map (λ name. name.now) options.target;
}

-- what a job says, without where it lies in memory
abbrev pub names_in : Job → Names
names_in job = record { output = job.output.now; options = option_names job.options }

-- what a request asks
abbrev pub asked_in : Request → Asked
asked_in request.Help = Help
asked_in request.Version = Version
asked_in (request.Draw job) = Draw (names_in job)

-- no options
abbrev pub no_options : OptionNames
no_options = record { style = None; other = None; target = None }

-- the name, where there was none before
abbrev pub once : Option (List ℕ) → List ℕ → Option (List ℕ)
once None name = if is_name name then Some name else None
once (Some before) name = None

-- one option more, which may not stand twice
abbrev pub with_option : OptionNames → List ℕ → List ℕ → Option OptionNames
with_option it option name =
    if bytes_eq option (codes "--style")
    then option_map (λ style. record it { style = Some style }) (once it.style name)
    else if bytes_eq option (codes "--other")
    then option_map (λ other. record it { other = Some other }) (once it.other name)
    else if bytes_eq option (codes "-o")
    then option_map (λ target. record it { target = Some target }) (once it.target name)
    else None

-- the option in front of words, where they begin with one, and the words behind it
unfoldable pub one_option : OptionNames → List (List ℕ) → Option (OptionNames × List (List ℕ))
one_option it [] = Some (it, [])
one_option it (output ∷ []) = Some (it, output ∷ [])
one_option it (option ∷ name ∷ words) = option_map (λ more. (more, words)) (with_option it option name)

-- a text alone behind the options
abbrev pub output_named : OptionNames → List (List ℕ) → Option Names
output_named it (output ∷ []) = if is_name output then Some (record { output = output; options = it }) else None
output_named it words = None

-- options in any order, of which there are three, and a text
unfoldable pub names_of : List (List ℕ) → Option Names
names_of words = option_and_then (λ first. option_and_then (λ second. option_and_then (λ third.
    output_named third.0 third.1) (one_option second.0 second.1)) (one_option first.0 first.1))
    (one_option no_options words)

-- what the words ask for
abbrev pub asked_of : List (List ℕ) → Option Asked
asked_of (word ∷ []) = if bytes_eq word (codes "--help") then Some Help
    else if bytes_eq word (codes "--version") then Some Version
    else option_map Draw (names_of (word ∷ []))
asked_of words = option_map Draw (names_of words)
