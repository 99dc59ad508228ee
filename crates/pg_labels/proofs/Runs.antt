-- Lines, one after another.
use Rattle.std.proofs.Common.{◌≡◌, refl, ap, ◌∙◌, ℕ, ◌+◌, ◌≤◌, ◌<◌, List, [], ◌∷◌, length, Bool, true, false, Option, Some, None, arith}
use Rattle.std.specs.Prelude.{◌==◌, if◌then◌else◌, MatchOption, IfSome, is_some, Ok, Err}
use Rattle.std.specs.Option.{option_map, option_map_or}
use Rattle.pg_scan.specs.Lines.{onto_first}
use Rattle.pg_scan.specs.Parts.{parts_of}
use Rattle.pg_labels.specs.Drafts.{Tried, step}
use Rattle.pg_words.specs.EntriesLeft.{size_left}
use Rattle.pg_labels.specs.Reading.{run, lines_left}
use Rattle.pg_labels.specs.declared.draft.Draft.{Draft}

-- there is a part
pub some_part : (s : ℕ) (text : List ℕ) → (part : List ℕ) × ((parts : List (List ℕ)) × (parts_of s text ≡ part ∷ parts))
unfolding parts_of
some_part s [] = ([], ([], refl))
some_part s (c ∷ cs) = by (c == s) (parts_of s cs)
  where
    by : (b : Bool) (ps : List (List ℕ)) → (part : List ℕ) × ((parts : List (List ℕ))
        × ((if b then [] ∷ ps else onto_first c ps) ≡ part ∷ parts))
    by true ps = ([], (ps, refl))
    by false [] = (c ∷ [], ([], refl))
    by false (p ∷ ps) = (c ∷ p, (ps, refl))

-- a line with others behind it
run_on : (d : Draft) (n : ℕ) (line : List ℕ) (after : List (List ℕ)) (text : List ℕ) → after ≡ parts_of 10 text →
    run d n (line ∷ after) ≡ option_map_or (λ e. run e (n + 1) after) (step d line) (Err n)
unfolding run
run_on d n line after text e = by (some_part 10 text)
  where
    by : (part : List ℕ) × ((parts : List (List ℕ)) × (parts_of 10 text ≡ part ∷ parts)) →
        run d n (line ∷ after) ≡ option_map_or (λ x. run x (n + 1) after) (step d line) (Err n)
    by (part, (parts, f)) = let all : after ≡ part ∷ parts = e ∙ f in rw all refl

module _ {B : Type 0} (now : B → List ℕ) where
  -- what is cut off a text, in the words of the cut
  abbrev pub IsCut : Option B → List ℕ → List ℕ → Type 0
  IsCut behind text line = MatchOption behind (parts_of 10 text ≡ line ∷ [])
      (λ r. parts_of 10 text ≡ line ∷ parts_of 10 (now r))

  -- the line may stand there
  pub run_more : (behind : Option B) (d e : Draft) (n : ℕ) (text line : List ℕ) → IsCut behind text line →
      is_some behind ≡ true → step d line ≡ Some e →
      run d n (parts_of 10 text) ≡ run e (n + 1) (lines_left (option_map now behind))
  run_more None d e n text line cut some taken = absurd cc
  run_more (Some r) d e n text line cut some taken = ap (run d n) cut
      ∙ run_on d n line (parts_of 10 (now r)) (now r) refl
      ∙ ap (λ (o : Option Draft). option_map_or (λ x. run x (n + 1) (parts_of 10 (now r))) o (Err n)) taken

  -- the line may not stand there
  pub run_stop : (behind : Option B) (d : Draft) (n : ℕ) (text line : List ℕ) → IsCut behind text line →
      is_some behind ≡ true → step d line ≡ None → run d n (parts_of 10 text) ≡ Err n
  run_stop None d n text line cut some refused = absurd cc
  run_stop (Some r) d n text line cut some refused = ap (run d n) cut
      ∙ run_on d n line (parts_of 10 (now r)) (now r) refl
      ∙ ap (λ (o : Option Draft). option_map_or (λ x. run x (n + 1) (parts_of 10 (now r))) o (Err n)) refused

  pub shorter : (behind : Option B) (text : List ℕ) → IfSome behind (λ r. length (now r) < length text) →
      size_left (option_map now behind) ≤ length text
  shorter None text s = omega arith
  shorter (Some r) text s = let h : length (now r) < length text = s in omega arith

-- nothing is left
pub run_none : {B : Type 0} (now : B → List ℕ) (rest : Option B) (d : Draft) (n : ℕ) →
    ((x : B) → rest ≡ Some x → ⊥) → run d n (lines_left (option_map now rest)) ≡ Err n
unfolding run
run_none now None d n none = refl
run_none now (Some x) d n none = absurd (none x refl)

-- a line that was taken, and one that was not
pub was_taken : (b : Bool) (said : Option Draft) (old new : Draft) → b ≡ true → Tried (Ok b) said old new →
    said ≡ Some new
was_taken true said old new e h = h
was_taken false said old new e h = absurd cc

pub was_refused : (b : Bool) (said : Option Draft) (old new : Draft) → b ≡ false → Tried (Ok b) said old new →
    said ≡ None
was_refused false said old new e h = h.0
was_refused true said old new e h = absurd cc
