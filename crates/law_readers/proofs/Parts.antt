-- The steps of a script are those of its parts.
use Rattle.std.proofs.Common.{◌≡◌, ◌∙◌, refl, sym, ap, subst, arith, ℕ, ◌+◌, Bool, true, false, List, [], ◌∷◌, ◌++◌, length, Option, Some, None}
use Rattle.std.specs.Prelude.{if◌then◌else◌, take_while, Result, Ok, Err}
use Rattle.std.specs.List.{cons_option}
use Rattle.pg_lemmas.proofs.Bools.{by_bool}
use Rattle.pg_list.specs.declared.blocks.Block.{Block}
use Rattle.pg_scan.specs.Lines.{has_point, joined, raw_lines}
use Rattle.pg_showbox.specs.Reading.{at_line, line_read, run, then_ok}
use Rattle.pg_showbox.specs.State.{ended, started}
use Rattle.pg_showbox.specs.declared.kinds.ListFault.{ListFault}
use Rattle.pg_showbox.specs.declared.kinds.ListKind.{ListKind}
use Rattle.pg_showbox.specs.declared.state.ReaderState.{ReaderState}
use Rattle.pg_showbox.specs.declared.state.Within.TheVariants.{Listing}
use Rattle.pg_edits.specs.Instructions.{instruction_of}
use Rattle.pg_edits.specs.Script.{◌>>=◌, as_blocks, blocks_at, change, fault_at, items_said, line_said, no_items, script_of, step_said, steps_from, told}
use Rattle.pg_edits.specs.declared.instruction.Instruction.{Instruction}
use Rattle.pg_edits.specs.declared.instruction.Instruction.TheVariants as said
use Rattle.pg_edits.specs.declared.kinds.ScriptFault.{ScriptFault}
use Rattle.pg_edits.specs.declared.kinds.ScriptKind.{ScriptKind}
use Rattle.pg_edits.specs.declared.kinds.ScriptKind.TheVariants.{UnknownWord}
use Rattle.pg_edits.specs.declared.script.ScriptStep.{ScriptStep}
use Rattle.pg_edits.specs.declared.script.ScriptStep.TheVariants.{Show}
use Rattle.law_readers.specs.Scripts.{Both, ReadsPartByPart, further_down}
use Rattle.law_readers.proofs.Ordered.{taken_more, taken_none}

abbrev Steps : Type 0
Steps = Result (List ScriptStep) ScriptFault

-- ---- a script in two parts

-- the steps of both, or the first fault
abbrev both : Steps → Steps → Steps
both first second = first >>= (λ front. second >>= (λ back. Ok (front ++ back)))

same_again : (r : Steps) → r ≡ both (Ok []) r
same_again (Ok steps) = refl
same_again (Err fault) = refl

-- item lines of the first part end with it
front_items : (front back : List (List ℕ)) → take_while has_point back ≡ [] →
    take_while has_point (front ++ back) ≡ take_while has_point front
front_items [] back none = none
front_items (line ∷ front) back none = by_bool (has_point line)
    (λ point. taken_more has_point line (front ++ back) point
    ∙ ap (λ (lines : List (List ℕ)). line ∷ lines) (front_items front back none)
    ∙ sym (taken_more has_point line front point))
    (λ other. taken_none has_point line (front ++ back) other ∙ sym (taken_none has_point line front other))

step_more : (step : Option ScriptStep) (front back : List ScriptStep) →
    cons_option step (front ++ back) ≡ cons_option step front ++ back
step_more None front back = refl
step_more (Some step) front back = refl

step_both : (r : Result (Option ScriptStep) ScriptFault) (front back : Steps) →
    (r >>= (λ step. both front back >>= (λ later. Ok (cons_option step later))))
    ≡ both (r >>= (λ step. front >>= (λ later. Ok (cons_option step later)))) back
step_both (Err fault) front back = refl
step_both (Ok step) (Err fault) back = refl
step_both (Ok step) (Ok front) (Err fault) = refl
step_both (Ok step) (Ok front) (Ok back) = ap (λ (steps : List ScriptStep). Ok steps) (step_more step front back)

steps_both : (n : ℕ) (front back : List (List ℕ)) → take_while has_point back ≡ [] →
    steps_from n (front ++ back) ≡ both (steps_from n front) (steps_from (n + length front) back)
unfolding steps_from
steps_both n [] back none =
    let same : n ≡ n + 0 = omega arith in
    same_again (steps_from n back) ∙ ap (λ (k : ℕ). both (Ok []) (steps_from k back)) same
steps_both n (line ∷ front) back none =
    let sum : (n + 1) + length front ≡ n + length (line ∷ front) = omega arith in
    by (steps_both (n + 1) front back none ∙ ap (λ (k : ℕ). both (steps_from (n + 1) front) (steps_from k back)) sum)
    (has_point line)
  where
    by : steps_from (n + 1) (front ++ back)
        ≡ both (steps_from (n + 1) front) (steps_from (n + length (line ∷ front)) back) →
        (point : Bool) → (if point then steps_from (n + 1) (front ++ back)
        else (line_said n line (take_while has_point (front ++ back))
        >>= (λ step. steps_from (n + 1) (front ++ back) >>= (λ later. Ok (cons_option step later)))))
        ≡ both (if point then steps_from (n + 1) front else (line_said n line (take_while has_point front)
        >>= (λ step. steps_from (n + 1) front >>= (λ later. Ok (cons_option step later)))))
        (steps_from (n + length (line ∷ front)) back)
    by later true = later
    by later false = ap (λ (items : List (List ℕ)). line_said n line items
        >>= (λ step. steps_from (n + 1) (front ++ back) >>= (λ later. Ok (cons_option step later))))
        (front_items front back none)
        ∙ ap (λ (r : Steps). line_said n line (take_while has_point front)
        >>= (λ step. r >>= (λ later. Ok (cons_option step later)))) later
        ∙ step_both (line_said n line (take_while has_point front)) (steps_from (n + 1) front)
        (steps_from (n + length (line ∷ front)) back)

-- ---- lines that stand further down

abbrev list_down : {A : Type 0} → ℕ → Result A ListFault → Result A ListFault
list_down k (Ok x) = Ok x
list_down k (Err fault) = Err (record fault { line = fault.line + k })

abbrev down : {A : Type 0} → ℕ → Result A ScriptFault → Result A ScriptFault
down k (Ok x) = Ok x
down k (Err fault) = Err (further_down k fault)

run_down : (s : ReaderState) (first k : ℕ) (items : List (List ℕ)) →
    run false s (joined None (first + k) items) ≡ list_down k (run false s (joined None first items))
unfolding run joined
run_down s first k [] = refl
run_down s first k (line ∷ lines) =
    let sum : (first + k) + 1 ≡ (first + 1) + k = omega arith in
    by (λ t. ap (λ (n : ℕ). run false t (joined None n lines)) sum ∙ run_down t (first + 1) k lines)
    (line_read false s line)
  where
    by : ((t : ReaderState) →
        run false t (joined None ((first + k) + 1) lines) ≡ list_down k (run false t (joined None (first + 1) lines))) →
        (r : Result ReaderState ListKind) →
        then_ok (at_line (first + k) r) (λ t. run false t (joined None ((first + k) + 1) lines))
        ≡ list_down k (then_ok (at_line first r) (λ t. run false t (joined None (first + 1) lines)))
    by more (Ok t) = more t
    by more (Err kind) = refl

blocks_down : (first k : ℕ) (items : List (List ℕ)) →
    blocks_at (first + k) items ≡ list_down k (blocks_at first items)
unfolding blocks_at
blocks_down first k items =
    ap (λ (r : Result ReaderState ListFault). then_ok (then_ok r
    (λ s. at_line ((first + k) + length items) (ended s s.within))) (λ s. Ok s.blocks))
    (run_down (started Listing) first k items)
    ∙ by (run false (started Listing) (joined None first items))
  where
    sum : (first + k) + length items ≡ (first + length items) + k
    sum = omega arith

    at_the_end : (r : Result ReaderState ListKind) →
        then_ok (at_line ((first + k) + length items) r) (λ s. Ok s.blocks)
        ≡ list_down k (then_ok (at_line (first + length items) r) (λ s. Ok s.blocks))
    at_the_end (Ok s) = refl
    at_the_end (Err kind) = ap (λ (n : ℕ). Err (record { line = n; kind = kind })) sum

    by : (r : Result ReaderState ListFault) →
        then_ok (then_ok (list_down k r) (λ s. at_line ((first + k) + length items) (ended s s.within))) (λ s. Ok s.blocks)
        ≡ list_down k (then_ok (then_ok r (λ s. at_line (first + length items) (ended s s.within))) (λ s. Ok s.blocks))
    by (Ok s) = at_the_end (ended s s.within)
    by (Err fault) = refl

as_down : (k : ℕ) (r : Result (List Block) ListFault) → as_blocks (list_down k r) ≡ down k (as_blocks r)
as_down k (Ok blocks) = refl
as_down k (Err fault) = refl

bind_down : {A B : Type 0} (k : ℕ) (r : Result A ScriptFault) (f g : A → Result B ScriptFault) →
    ((x : A) → f x ≡ down k (g x)) → (down k r >>= f) ≡ down k (r >>= g)
bind_down k (Ok x) f g same = same x
bind_down k (Err fault) f g same = refl

none_down : (k n : ℕ) (items : List (List ℕ)) → no_items (n + k) items ≡ down k (no_items n items)
none_down k n [] = refl
none_down k n (item ∷ items) =
    let sum : (n + k) + 1 ≡ (n + 1) + k = omega arith in ap (λ (at : ℕ). Err (fault_at at UnknownWord)) sum

items_down : (k n : ℕ) (items : List (List ℕ)) → items_said (n + k) items ≡ down k (items_said n items)
items_down k n [] = refl
items_down k n (item ∷ items) =
    let sum : (n + k) + 1 ≡ (n + 1) + k = omega arith in
    ap (λ (at : ℕ). as_blocks (blocks_at at (item ∷ items))) sum
    ∙ ap as_blocks (blocks_down (n + 1) k (item ∷ items)) ∙ as_down k (blocks_at (n + 1) (item ∷ items))

step_down : (k n : ℕ) (instruction : Instruction) (items : List (List ℕ)) →
    step_said (n + k) instruction items ≡ down k (step_said n instruction items)
unfolding step_said
step_down k n said.Nothing items = ap (λ (r : Result (Unit {0}) ScriptFault). r >>= (λ _. Ok None)) (none_down k n items)
    ∙ bind_down k (no_items n items) (λ _. Ok None) (λ _. Ok None) (λ _. refl)
step_down k n said.Show items = ap (λ (r : Result (Unit {0}) ScriptFault). r >>= (λ _. Ok (Some Show))) (none_down k n items)
    ∙ bind_down k (no_items n items) (λ _. Ok (Some Show)) (λ _. Ok (Some Show)) (λ _. refl)
step_down k n (said.Delete at gone) items =
    ap (λ (r : Result (Unit {0}) ScriptFault). r >>= (λ _. Ok (change at gone []))) (none_down k n items)
    ∙ bind_down k (no_items n items) (λ _. Ok (change at gone [])) (λ _. Ok (change at gone [])) (λ _. refl)
step_down k n (said.Put at gone) items =
    ap (λ (r : Result (List Block) ScriptFault). r >>= (λ fresh. Ok (change at gone fresh))) (items_down k n items)
    ∙ bind_down k (items_said n items) (λ fresh. Ok (change at gone fresh)) (λ fresh. Ok (change at gone fresh))
    (λ fresh. refl)

line_down : (k n : ℕ) (line : List ℕ) (items : List (List ℕ)) →
    line_said (n + k) line items ≡ down k (line_said n line items)
unfolding line_said
line_down k n line items = by (instruction_of line)
  where
    by : (r : Result Instruction ScriptKind) →
        (told (n + k) r >>= (λ instruction. step_said (n + k) instruction items))
        ≡ down k (told n r >>= (λ instruction. step_said n instruction items))
    by (Ok instruction) = step_down k n instruction items
    by (Err kind) = refl

steps_down : (k n : ℕ) (lines : List (List ℕ)) → steps_from (n + k) lines ≡ down k (steps_from n lines)
unfolding steps_from
steps_down k n [] = refl
steps_down k n (line ∷ lines) =
    let sum : (n + k) + 1 ≡ (n + 1) + k = omega arith in
    by (ap (λ (m : ℕ). steps_from m lines) sum ∙ steps_down k (n + 1) lines) (has_point line)
  where
    by : steps_from ((n + k) + 1) lines ≡ down k (steps_from (n + 1) lines) →
        (point : Bool) → (if point then steps_from ((n + k) + 1) lines
        else (line_said (n + k) line (take_while has_point lines)
        >>= (λ step. steps_from ((n + k) + 1) lines >>= (λ more. Ok (cons_option step more)))))
        ≡ down k (if point then steps_from (n + 1) lines else (line_said n line (take_while has_point lines)
        >>= (λ step. steps_from (n + 1) lines >>= (λ more. Ok (cons_option step more)))))
    by later true = later
    by later false = ap (λ (r : Result (Option ScriptStep) ScriptFault). r
        >>= (λ step. steps_from ((n + k) + 1) lines >>= (λ more. Ok (cons_option step more))))
        (line_down k n line (take_while has_point lines))
        ∙ bind_down k (line_said n line (take_while has_point lines))
        (λ step. steps_from ((n + k) + 1) lines >>= (λ more. Ok (cons_option step more)))
        (λ step. steps_from (n + 1) lines >>= (λ more. Ok (cons_option step more)))
        (λ step. ap (λ (r : Steps). r >>= (λ more. Ok (cons_option step more))) later
        ∙ bind_down k (steps_from (n + 1) lines) (λ more. Ok (cons_option step more))
        (λ more. Ok (cons_option step more)) (λ more. refl))

-- ---- the law

told_both : (lines : ℕ) (front back all : Steps) → all ≡ both front (down lines back) → Both lines front back all
told_both lines (Ok front) (Ok back) all e = e
told_both lines (Ok front) (Err fault) all e = e
told_both lines (Err fault) (Ok back) all e = e
told_both lines (Err fault) (Err other) all e = e

front_both : (r : Result (Unit {0}) ScriptFault) (front back : Steps) →
    (r >>= (λ _. both front back)) ≡ both (r >>= (λ _. front)) back
front_both (Ok done) front back = refl
front_both (Err fault) front back = refl

-- item lines in front of all others, and then the steps
abbrev behind_items : List (List ℕ) → Steps → Steps
behind_items items steps = no_items 0 items >>= (λ _. steps)

pub reads_parts : ReadsPartByPart
unfolding script_of
reads_parts script first second cut =
    subst (λ (back : Steps). Both (length (raw_lines first))
    (behind_items (take_while has_point (raw_lines first)) (steps_from 1 (raw_lines first))) back
    (behind_items (take_while has_point (raw_lines script)) (steps_from 1 (raw_lines script))))
    (sym (ap (λ (items : List (List ℕ)). behind_items items (steps_from 1 (raw_lines second))) cut.begins))
    (told_both (length (raw_lines first))
    (behind_items (take_while has_point (raw_lines first)) (steps_from 1 (raw_lines first)))
    (steps_from 1 (raw_lines second))
    (behind_items (take_while has_point (raw_lines script)) (steps_from 1 (raw_lines script)))
    (ap (λ (items : List (List ℕ)). behind_items items (steps_from 1 (raw_lines script))) all_items
    ∙ ap (behind_items (take_while has_point (raw_lines first))) all_steps
    ∙ front_both (no_items 0 (take_while has_point (raw_lines first))) (steps_from 1 (raw_lines first))
    (down (length (raw_lines first)) (steps_from 1 (raw_lines second)))))
  where
    all_items : take_while has_point (raw_lines script) ≡ take_while has_point (raw_lines first)
    all_items = ap (take_while has_point) cut.lines ∙ front_items (raw_lines first) (raw_lines second) cut.begins

    all_steps : steps_from 1 (raw_lines script)
        ≡ both (steps_from 1 (raw_lines first)) (down (length (raw_lines first)) (steps_from 1 (raw_lines second)))
    all_steps = ap (steps_from 1) cut.lines
        ∙ steps_both 1 (raw_lines first) (raw_lines second) cut.begins
        ∙ ap (both (steps_from 1 (raw_lines first))) (steps_down (length (raw_lines first)) 1 (raw_lines second))
