-- Steps, line after line.
use Rattle.std.proofs.Common.{◌≡◌, ◌∙◌, ◌+◌, ℕ, refl, ap, sym, arith, List, [], ◌∷◌, ◌++◌, length, map, true, false, Option, Some, None, append_assoc, append-nil, nat_eq}
use Rattle.std.specs.Prelude.{Result, Ok, Err, take_while}
use Rattle.std.specs.List.{AllByRecursion, cons_option}
use Rattle.std.specs.Option.{option_to_list}
use Rattle.std.proofs.lemmas.Bool.Decides.{nat_tests}
use Rattle.pg_scan.specs.Lines.{Line, joined, raw_lines, has_point}
use Rattle.pg_edits.specs.Script.{◌>>=◌, OrMemory, fault_at, line_said, no_items, script_of, steps_from}
use Rattle.pg_edits.specs.declared.kinds.ScriptFault.{ScriptFault}
use Rattle.pg_edits.specs.declared.kinds.ScriptKind.TheVariants.{UnknownWord}
use Rattle.pg_edits.specs.declared.script.ScriptStep.{ScriptStep}
use Rattle.pg_edits.proofs.ItemBlocks.{some_line}
use Rattle.pg_edits.proofs.ItemLines.{IsItem, are_items, first_point, no_items_first, one_taken}
use Rattle.pg_edits.proofs.Memory.{or_memory}

-- ---- one line more

-- the first line of a text whose lines are numbered
lines_told : (n : ℕ) (lines : List (List ℕ)) → map (λ (line : Line). line.text) (joined None n lines) ≡ lines
unfolding joined
lines_told n [] = refl
lines_told n (line ∷ lines) = ap (λ (ls : List (List ℕ)). line ∷ ls) (lines_told (n + 1) lines)

first_line : (n m : ℕ) (line : List ℕ) (lines later : List (List ℕ)) →
    joined None n lines ≡ record { number = n; text = line } ∷ joined None m later → lines ≡ line ∷ later
first_line n m line lines later e = sym (lines_told n lines)
    ∙ ap (map (λ (l : Line). l.text)) e ∙ ap (λ (ls : List (List ℕ)). line ∷ ls) (lines_told m later)

past_items : (n : ℕ) (items later : List (List ℕ)) → AllByRecursion IsItem items →
    steps_from n (items ++ later) ≡ steps_from (n + length items) later
unfolding steps_from
past_items n [] later each = ap (λ (k : ℕ). steps_from k later) (omega arith)
past_items n (item ∷ items) later each = rw each.0 (past_items (n + 1) items later each.1
    ∙ ap (λ (k : ℕ). steps_from k later) (omega arith))

-- the steps so far, and those that come behind them
abbrev pub then_later : List ScriptStep → Result (List ScriptStep) ScriptFault → Result (List ScriptStep) ScriptFault
then_later steps said = said >>= (λ later. Ok (steps ++ later))

one_step : (steps : List ScriptStep) (step : Option ScriptStep) (said : Result (List ScriptStep) ScriptFault) →
    then_later steps (said >>= (λ later. Ok (cons_option step later))) ≡ then_later (steps ++ option_to_list step) said
one_step steps None (Ok later) = ap (λ (xs : List ScriptStep). Ok (xs ++ later)) (sym (append-nil steps))
one_step steps (Some step) (Ok later) = ap Ok (sym (append_assoc steps (step ∷ []) later))
one_step steps step (Err fault) = refl

pub ended : (steps : List ScriptStep) (text : List ℕ) (n : ℕ) → raw_lines text ≡ [] →
    then_later steps (steps_from n (raw_lines text)) ≡ Ok steps
unfolding steps_from
ended steps text n none = rw none (ap Ok (append-nil steps))

-- a text of this line, these item lines and what stands behind them
pub record Stands (text line : List ℕ) (items behind : List (List ℕ)) : Type 0 where
  pub after : List (List ℕ)
  pub first : raw_lines text ≡ line ∷ after
  pub point : has_point text ≡ false
  pub cut : after ≡ items ++ behind
  pub taken : take_while has_point after ≡ items

-- as the next line is taken and held, and the item lines behind it are split off
pub stands : (n m : ℕ) (text line held after : List ℕ) (items behind : List (List ℕ)) →
    joined None n (raw_lines text) ≡ record { number = n; text = held } ∷ joined None m (raw_lines after) →
    line ≡ held → has_point text ≡ false → raw_lines after ≡ items ++ behind →
    take_while has_point (raw_lines after) ≡ items → Stands text line items behind
stands n m text line held after items behind first same point cut taken = record {
  after = raw_lines after;
  first = rw same (first_line n m held (raw_lines text) (raw_lines after) first);
  point = point;
  cut = cut;
  taken = taken;
}

module _ (n : ℕ) (text line : List ℕ) (items behind : List (List ℕ)) (h : Stands text line items behind) where
  opened : steps_from n (raw_lines text) ≡ (line_said n line items
      >>= (λ step. steps_from (n + 1) h.after >>= (λ later. Ok (cons_option step later))))
  unfolding steps_from
  opened = ap (steps_from n) h.first ∙ rw (first_point text line h.after h.first ∙ h.point, h.taken) refl

  rest_is : steps_from (n + 1) h.after ≡ steps_from (n + (1 + length items)) behind
  rest_is =
      let each = are_items h.after in
      let items_each = rw h.taken at each in
      ap (steps_from (n + 1)) h.cut ∙ past_items (n + 1) items behind items_each
      ∙ ap (λ (k : ℕ). steps_from k behind) (omega arith)

  abbrev then_all : Result (Option ScriptStep) ScriptFault → Result (List ScriptStep) ScriptFault
  then_all said = said >>= (λ step. steps_from (n + 1) h.after >>= (λ later. Ok (cons_option step later)))

  -- the line has no fault: its step joins the others
  pub taken_on : (steps next : List ScriptStep) (step : Option ScriptStep) (count : ℕ) →
      line_said n line items ≡ Ok step → next ≡ steps ++ option_to_list step → count ≡ length items →
      then_later steps (steps_from n (raw_lines text)) ≡ then_later next (steps_from (n + (1 + count)) behind)
  taken_on steps next step count said is many = ap (then_later steps) (opened ∙ ap then_all said
      ∙ ap (λ r. r >>= (λ later. Ok (cons_option step later))) rest_is)
      ∙ one_step steps step (steps_from (n + (1 + length items)) behind)
      ∙ rw (is, many) refl

  -- the line has the first fault
  pub refused : (steps : List ScriptStep) (fault : ScriptFault) →
      OrMemory fault.kind (line_said n line items ≡ Err fault) →
      OrMemory fault.kind (then_later steps (steps_from n (raw_lines text)) ≡ Err fault)
  refused steps fault said = or_memory fault.kind (λ e. ap (then_later steps) (opened ∙ ap then_all e)) said

-- ---- the first line

pub no_front : (text : List ℕ) → has_point text ≡ false → script_of text ≡ steps_from 1 (raw_lines text)
unfolding script_of
no_front text none = rw (no_items_first text none) refl

pub a_front : (text : List ℕ) → has_point text ≡ true → script_of text ≡ Err (fault_at 1 UnknownWord)
unfolding script_of
a_front [] point = absurd cc
a_front (c ∷ cs) point =
    let some : nat_eq (length (c ∷ cs)) 0 ≡ false = grind (arith, nat_tests) in
    let it = some_line (c ∷ cs) some in
    by it.0 it.1.0 it.1.1 (first_point (c ∷ cs) it.0 it.1.0 it.1.1 ∙ point)
  where
    by : (line : List ℕ) (lines : List (List ℕ)) → raw_lines (c ∷ cs) ≡ line ∷ lines → has_point line ≡ true →
        (no_items 0 (take_while has_point (raw_lines (c ∷ cs))) >>= (λ _. steps_from 1 (raw_lines (c ∷ cs))))
        ≡ Err (fault_at 1 UnknownWord)
    by line lines e first =
        let taken : no_items 0 (take_while has_point (line ∷ lines)) ≡ Err (fault_at 1 UnknownWord) =
        ap (no_items 0) (one_taken line lines first) in
        rw (e, taken) refl
