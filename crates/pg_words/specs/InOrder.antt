-- Words in their order: what stands next in a line.
use Rattle.std.specs.Prelude.{ℕ, ◌^◌, List, [], ◌∷◌, Option, Some, None}
use Rattle.std.specs.Option.{option_map}
use Rattle.std.specs.Str.{bytes_eq}
use Rattle.pg_list.specs.declared.galley.Place.{Place}
use Rattle.pg_list.specs.Places.{place}
use Rattle.pg_scan.specs.Parts.{parts_of}
use Rattle.pg_words.specs.Read.{◌>>=◌, if_true, number_below}

-- the words of a line are what stands between single blanks
abbrev pub words_of : List ℕ → List (List ℕ)
words_of line = parts_of 32 line

-- the words of what is left; none where nothing is left
abbrev pub words_left : Option (List ℕ) → List (List ℕ)
words_left None = []
words_left (Some text) = words_of text

-- this word stands next: the words behind it
abbrev pub due : List ℕ → List (List ℕ) → Option (List (List ℕ))
due text [] = None
due text (word ∷ words) = if_true (bytes_eq word text) words

-- what the next word says, and the words behind it
abbrev pub next : {A : Type 0} → (List ℕ → Option A) → List (List ℕ) → Option (A × List (List ℕ))
next says [] = None
next says (word ∷ words) = option_map (λ x. (x, words)) (says word)

-- any word
abbrev pub any_word : List ℕ → Option (List ℕ)
any_word word = Some word

-- no word is left
abbrev pub ended : List (List ℕ) → Option (Unit {0})
ended [] = Some tt
ended (word ∷ words) = None

-- the place that the next three words say, and the words behind them
unfoldable pub place_at : List (List ℕ) → Option (Place × List (List ℕ))
place_at words = do
  block ← next (number_below (2 ^ 32)) words
  variant ← next (number_below (2 ^ 32)) block.1
  index ← next (number_below (2 ^ 32)) variant.1
  Some (place block.0 variant.0 index.0, index.1)
