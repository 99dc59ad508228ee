-- Lines that are taken one after another.
use Rattle.std.proofs.Common.{◌≡◌, ◌∙◌, refl, sym, ap, subst, arith, ℕ, zero, suc, ◌+◌, ◌≤◌, List, [], ◌∷◌, ◌++◌, length, take, length-append}
use Rattle.std.specs.Prelude.{◌&&◌, Option, Some, None, Err}
use Rattle.std.specs.Option.{option_map_or}
use Rattle.pg_labels.specs.Drafts.{is_whole, step}
use Rattle.pg_labels.specs.Reading.{is_none, run}
use Rattle.pg_labels.specs.declared.draft.Draft.{Draft}
use Rattle.law_readers.proofs.Stops.{at_end, same_line}

-- each line may stand behind what the lines in front of it made of a draft
abbrev pub Takes : Draft → List (List ℕ) → Draft → Type 0
Takes d [] e = d ≡ e
Takes d (line ∷ lines) e = (it : Draft) × (step d line ≡ Some it) × Takes it lines e

pub takes_both : (d it e : Draft) (lines more : List (List ℕ)) → Takes d lines it → Takes it more e →
    Takes d (lines ++ more) e
takes_both d it e [] more first second = subst (λ (x : Draft). Takes x more e) (sym first) second
takes_both d it e (line ∷ lines) more (next, is, rest) second =
    (next, is, takes_both next it e lines more rest second)

-- the lines in front of a fault are taken
pub front_taken : (d : Draft) (n count : ℕ) (lines : List (List ℕ)) → 1 ≤ length lines →
    run d n lines ≡ Err (n + count) → (e : Draft) × Takes d (take count lines) e
unfolding run
front_taken d n zero lines some is = (d, refl)
front_taken d n (suc count) [] some is = absurd (omega (arith, some))
front_taken d n (suc count) (x ∷ []) some is =
    absurd (let same = at_end d (is_none x && is_whole d) n (n + suc count) is in omega (arith, same))
front_taken d n (suc count) (x ∷ y ∷ lines) some is =
    by (λ it h. front_taken it (n + 1) count (y ∷ lines) (omega arith) h) (step d x) refl is
  where
    by : ((it : Draft) → run it (n + 1) (y ∷ lines) ≡ Err ((n + 1) + count) →
        (e : Draft) × Takes it (take count (y ∷ lines)) e) →
        (o : Option Draft) → step d x ≡ o → option_map_or (λ it. run it (n + 1) (y ∷ lines)) o (Err n) ≡ Err (n + suc count) →
        (e : Draft) × Takes d (take (suc count) (x ∷ y ∷ lines)) e
    by on None at h = absurd (let same = same_line n (n + suc count) h in omega (arith, same))
    by on (Some it) at h =
        let sum : n + suc count ≡ (n + 1) + count = omega arith in
        let more = on it (h ∙ ap (λ (m : ℕ). Err m) sum) in (more.0, (it, at, more.1))

-- a line with others behind it
run_on : (d it : Draft) (n : ℕ) (line : List ℕ) (after : List (List ℕ)) → 1 ≤ length after → step d line ≡ Some it →
    run d n (line ∷ after) ≡ run it (n + 1) after
unfolding run
run_on d it n line [] some is = absurd (omega (arith, some))
run_on d it n line (next ∷ after) some is = rw is refl

-- lines that are taken are read
pub takes_run : (d e : Draft) (n : ℕ) (lines rest : List (List ℕ)) → Takes d lines e → 1 ≤ length rest →
    run d n (lines ++ rest) ≡ run e (n + length lines) rest
takes_run d e n [] rest taken some =
    let same : n ≡ n + 0 = omega arith in
    ap (λ (x : Draft). run x n rest) taken ∙ ap (λ (k : ℕ). run e k rest) same
takes_run d e n (line ∷ lines) rest (it, is, taken) some =
    let long = length-append lines rest in
    let sum : (n + 1) + length lines ≡ n + length (line ∷ lines) = omega arith in
    run_on d it n line (lines ++ rest) (omega (arith, long, some)) is
    ∙ takes_run it e (n + 1) lines rest taken some ∙ ap (λ (k : ℕ). run e k rest) sum
