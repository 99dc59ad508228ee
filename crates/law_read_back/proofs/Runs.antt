-- Lines that take one draft to another, whatever follows them.
use Rattle.std.proofs.Common.{◌≡◌, refl, ap, subst, ◌∙◌, ◌+◌, ℕ, true, List, [], ◌∷◌, ◌++◌, append_assoc}
use Rattle.std.specs.Prelude.{Option, Some, Err}
use Rattle.std.specs.Option.{option_map_or}
use Rattle.pg_scan.specs.Parts.{parts_of}
use Rattle.pg_labels.specs.Drafts.{step}
use Rattle.pg_labels.specs.Reading.{run}
use Rattle.pg_labels.specs.declared.draft.Draft.{Draft}
use Rattle.pg_labels.proofs.Runs.{some_part}
use Rattle.law_words.proofs.Cut.{lacks, part_here}

abbrev pub Reads : Draft → List ℕ → Draft → Type 0
Reads d text e = (n : ℕ) (rest : List ℕ) → (m : ℕ) × (run d n (parts_of 10 (text ++ rest)) ≡ run e m (parts_of 10 rest))

pub reads_none : (d : Draft) → Reads d [] d
reads_none d n rest = (n, refl)

pub reads_then : (d e f : Draft) (a b : List ℕ) → Reads d a e → Reads e b f → Reads d (a ++ b) f
reads_then d e f a b first second n rest =
    let one = first n (b ++ rest) in
    let two = second one.0 rest in
    (two.0, ap (λ (text : List ℕ). run d n (parts_of 10 text)) (append_assoc a b rest) ∙ one.1 ∙ two.1)

run_step : (d e : Draft) (n : ℕ) (text : List ℕ) (parts : List (List ℕ)) →
    (part : List ℕ) × ((more : List (List ℕ)) × (parts ≡ part ∷ more)) → step d text ≡ Some e →
    run d n (text ∷ parts) ≡ run e (n + 1) parts
unfolding run
run_step d e n text [] (part, (more, is)) h = absurd cc
run_step d e n text (p ∷ ps) some h =
    ap (λ (o : Option Draft). option_map_or (λ (f : Draft). run f (n + 1) (p ∷ ps)) o (Err n)) h

pub reads_line : (d e : Draft) (text : List ℕ) → lacks 10 text ≡ true → step d text ≡ Some e →
    Reads d (text ++ 10 ∷ []) e
reads_line d e text none h n rest = (
  n + 1,
  ap (λ (t : List ℕ). run d n (parts_of 10 t)) (append_assoc text (10 ∷ []) rest)
      ∙ ap (run d n) (part_here 10 text rest none)
      ∙ run_step d e n text (parts_of 10 rest) (some_part 10 rest) h,
)

pub reads_to : (d e f : Draft) (text : List ℕ) → e ≡ f → Reads d text e → Reads d text f
reads_to d e f text same h = subst (Reads d text) same h

pub reads_as : (d e : Draft) (a b : List ℕ) → a ≡ b → Reads d a e → Reads d b e
reads_as d e a b same h = subst (λ (t : List ℕ). Reads d t e) same h
