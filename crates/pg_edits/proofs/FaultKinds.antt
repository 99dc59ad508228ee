-- Which kinds the faults of a script have.
use Rattle.std.proofs.Common.{◌≡◌, ◌+◌, ℕ, List, [], ◌∷◌, Bool, true, false, Option, Some, None}
use Rattle.std.specs.Prelude.{Result, Ok, Err, IfErr, if◌then◌else◌, take_while}
use Rattle.std.specs.List.{cons_option}
use Rattle.pg_list.specs.declared.blocks.Block.{Block}
use Rattle.pg_showbox.specs.declared.kinds.ListFault.{ListFault}
use Rattle.pg_edits.specs.Instructions.{instruction_of, or_bad, words_said}
use Rattle.pg_edits.specs.Kinds.{IsScriptKind}
use Rattle.pg_edits.specs.Script.{◌>>=◌, Gives, OrMemory, as_blocks, blocks_at, items_said, line_said, no_items, step_said, steps_from, told}
use Rattle.pg_edits.specs.declared.instruction.Instruction.{Instruction}
use Rattle.pg_edits.specs.declared.instruction.Instruction.TheVariants as said
use Rattle.pg_edits.specs.declared.kinds.ScriptFault.{ScriptFault}
use Rattle.pg_edits.specs.declared.kinds.ScriptKind.{ScriptKind}
use Rattle.pg_edits.specs.declared.kinds.ScriptKind.TheVariants.{UnknownWord, BadNumber, NoBlocks, Blocks, Memory}
use Rattle.pg_edits.specs.declared.script.ScriptStep.{ScriptStep}
use Rattle.pg_edits.proofs.ListKinds.{NamedAt, blocks_named}
use Rattle.pg_scan.specs.Lines.{has_point}

-- ---- one line

-- the fault of a line by itself
record IsPlain {A : Type 0} (r : Result A ScriptKind) : Type 0 where
  kind : IfErr r IsScriptKind

ok_plain : {A : Type 0} (x : A) → IsPlain {A = A} (Ok x)
ok_plain x = record { kind = tt }

unknown_plain : {A : Type 0} → IsPlain {A = A} (Err UnknownWord)
unknown_plain = record { kind = tt }

if_plain : {A : Type 0} (b : Bool) (x y : Result A ScriptKind) → IsPlain x → IsPlain y → IsPlain (if b then x else y)
if_plain true x y h k = h
if_plain false x y h k = k

bad_plain : (o : Option Instruction) → IsPlain (or_bad o)
bad_plain None = record { kind = tt }
bad_plain (Some instruction) = record { kind = tt }

words_plain : (words : List (List ℕ)) → IsPlain (words_said words)
unfolding words_said
words_plain [] = search unknown_plain
words_plain (word ∷ words) = search (if_plain, bad_plain, unknown_plain) depth 12

line_plain : (line : List ℕ) → IsPlain (instruction_of line)
unfolding instruction_of
line_plain line = search (if_plain, ok_plain, words_plain)

-- ---- with item lines

abbrev HasKind : {A : Type 0} → Result A ScriptFault → Type 0
HasKind r = IfErr r (λ fault. IsScriptKind fault.kind)

then_kind : {A B : Type 0} (r : Result A ScriptFault) (f : A → Result B ScriptFault) → HasKind r →
    ((x : A) → HasKind (f x)) → HasKind (r >>= f)
then_kind (Ok x) f h k = k x
then_kind (Err fault) f h k = h

told_kind : {A : Type 0} (n : ℕ) (r : Result A ScriptKind) → IsPlain r → HasKind (told n r)
told_kind n (Ok x) h = tt
told_kind n (Err kind) h = h.kind

none_kind : (n : ℕ) (items : List (List ℕ)) → HasKind (no_items n items)
none_kind n [] = tt
none_kind n (item ∷ items) = tt

as_blocks_kind : (r : Result (List Block) ListFault) → NamedAt r → HasKind (as_blocks r)
as_blocks_kind (Ok blocks) h = tt
as_blocks_kind (Err fault) h = h

items_kind : (n : ℕ) (items : List (List ℕ)) → HasKind (items_said n items)
items_kind n [] = tt
items_kind n (item ∷ items) = as_blocks_kind (blocks_at (n + 1) (item ∷ items)) (blocks_named (n + 1) (item ∷ items))

step_kind : (n : ℕ) (instruction : Instruction) (items : List (List ℕ)) → HasKind (step_said n instruction items)
unfolding step_said
step_kind n said.Nothing items = then_kind (no_items n items) (λ _. Ok _) (none_kind n items) (λ _. tt)
step_kind n said.Show items = then_kind (no_items n items) (λ _. Ok _) (none_kind n items) (λ _. tt)
step_kind n (said.Delete at gone) items = then_kind (no_items n items) (λ _. Ok _) (none_kind n items) (λ _. tt)
step_kind n (said.Put at gone) items = then_kind (items_said n items) (λ fresh. Ok _) (items_kind n items) (λ fresh. tt)

line_kind : (n : ℕ) (line : List ℕ) (items : List (List ℕ)) → HasKind (line_said n line items)
unfolding line_said
line_kind n line items = then_kind (told n (instruction_of line)) (λ instruction. step_said n instruction items)
    (told_kind n (instruction_of line) (line_plain line)) (λ instruction. step_kind n instruction items)

-- ---- all lines

either_kind : {A : Type 0} (b : Bool) (x y : Result A ScriptFault) → HasKind x → HasKind y →
    HasKind (if b then x else y)
either_kind true x y h k = h
either_kind false x y h k = k

pub steps_kind : (n : ℕ) (lines : List (List ℕ)) → HasKind (steps_from n lines)
unfolding steps_from
steps_kind n [] = tt
steps_kind n (line ∷ lines) =
    let later = steps_kind (n + 1) lines in
    let with_step : Option ScriptStep → Result (List ScriptStep) ScriptFault =
    λ step. steps_from (n + 1) lines >>= (λ more. Ok (cons_option step more)) in
    let said = line_said n line (take_while has_point lines) in
    either_kind (has_point line) (steps_from (n + 1) lines) (said >>= with_step) later
    (then_kind said with_step (line_kind n line (take_while has_point lines))
    (λ step. then_kind (steps_from (n + 1) lines) (λ more. Ok (cons_option step more)) later (λ more. tt)))

-- the fault of an answer has such a kind
pub answer_kind : {X : Type 0} (answer said : Result X ScriptFault) → Gives answer said → HasKind said → HasKind answer
answer_kind (Ok x) said gives kind = tt
answer_kind (Err fault) said gives kind = by fault.kind gives (λ e. rw e at kind)
  where
    by : (kind : ScriptKind) → OrMemory kind (said ≡ Err fault) → (said ≡ Err fault → IsScriptKind kind) →
        IsScriptKind kind
    by UnknownWord h f = tt
    by BadNumber h f = tt
    by NoBlocks h f = tt
    by (Blocks kind) h f = f h
    by Memory h f = tt
