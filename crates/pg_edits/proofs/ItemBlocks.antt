-- The blocks of item lines, where there are any.
use Rattle.std.proofs.Common.{◌≡◌, ◌∙◌, ◌+◌, ℕ, refl, ap, sym, arith, List, [], ◌∷◌, length, map, true, false, nat_eq}
use Rattle.std.specs.Prelude.{Result, Ok, Err, ◌==◌, Bool, if◌then◌else◌}
use Rattle.std.proofs.lemmas.Bool.Decides.{nat_tests}
use Rattle.pg_lemmas.proofs.Lists.{no_items as no_elements}
use Rattle.pg_list.specs.declared.blocks.Block.{Block}
use Rattle.pg_scan.specs.Lines.{lines_of, onto_first, raw_lines, trimmed}
use Rattle.pg_showbox.specs.Reading.{OrMemory as OrListMemory, all_read, blocks_of}
use Rattle.pg_showbox.specs.declared.kinds.ListFault.{ListFault}
use Rattle.pg_showbox.specs.declared.kinds.ListKind.{ListKind}
use Rattle.pg_showbox.specs.declared.kinds.ListKind.TheVariants as list
use Rattle.pg_edits.specs.Kinds.{script_kind}
use Rattle.pg_edits.specs.Script.{OrMemory, as_blocks, blocks_at, fault_at, items_said, no_items}
use Rattle.pg_edits.specs.declared.kinds.ScriptFault.{ScriptFault}
use Rattle.pg_edits.specs.declared.kinds.ScriptKind.TheVariants.{NoBlocks, UnknownWord}

empty : (text : List ℕ) → nat_eq (length text) 0 ≡ true → text ≡ []
empty text none = let long : length text ≡ 0 = grind (arith, nat_tests, none) in no_elements text long

-- a text has no line, or some
pub some_line : (text : List ℕ) → nat_eq (length text) 0 ≡ false → (line : List ℕ) × ((lines : List (List ℕ))
    × (raw_lines text ≡ line ∷ lines))
unfolding lines_of
some_line [] some = absurd cc
some_line (c ∷ cs) some = by (c == 10) (lines_of cs)
  where
    by : (b : Bool) (more : List (List ℕ)) → (line : List ℕ) × ((lines : List (List ℕ))
        × (map trimmed (if b then [] ∷ more else onto_first c more) ≡ line ∷ lines))
    by true more = (trimmed [], (map trimmed more, refl))
    by false [] = (trimmed (c ∷ []), ([], refl))
    by false (next ∷ more) = (trimmed (c ∷ next), (map trimmed more, refl))

pub no_lines : (text : List ℕ) → nat_eq (length text) 0 ≡ true → raw_lines text ≡ []
unfolding lines_of
no_lines text none = rw (empty text none) refl

pub none_behind : (text : List ℕ) (n : ℕ) → nat_eq (length text) 0 ≡ true → no_items n (raw_lines text) ≡ Ok tt
unfolding lines_of
none_behind text n none = rw (empty text none) refl

pub some_behind : (text : List ℕ) (n : ℕ) → nat_eq (length text) 0 ≡ false →
    no_items n (raw_lines text) ≡ Err (fault_at (n + 1) UnknownWord)
some_behind text n some = let it = some_line text some in ap (no_items n) it.1.1

pub no_blocks : (text : List ℕ) (n : ℕ) → nat_eq (length text) 0 ≡ true →
    items_said n (raw_lines text) ≡ Err (fault_at n NoBlocks)
unfolding lines_of
no_blocks text n none = rw (empty text none) refl

same_blocks : (text : List ℕ) (first : ℕ) → blocks_of text first ≡ blocks_at first (raw_lines text)
unfolding blocks_of all_read blocks_at
same_blocks text first = refl

pub blocks_behind : (text : List ℕ) (n : ℕ) → nat_eq (length text) 0 ≡ false →
    items_said n (raw_lines text) ≡ as_blocks (blocks_of text (n + 1))
blocks_behind text n some =
    let it = some_line text some in
    ap (items_said n) it.1.1 ∙ ap (λ (items : List (List ℕ)). as_blocks (blocks_at (n + 1) items)) (sym it.1.1)
    ∙ ap as_blocks (sym (same_blocks text (n + 1)))

-- a fault of the item lines is one of the script
pub fault_behind : (kind : ListKind) (line : ℕ) (said : Result (List Block) ListFault)
    (all : Result (List Block) ScriptFault) → all ≡ as_blocks said →
    OrListMemory kind (said ≡ Err (record { line = line; kind = kind })) →
    OrMemory (script_kind kind) (all ≡ Err (fault_at line (script_kind kind)))
fault_behind list.NoListing line said all is h = is ∙ ap as_blocks h
fault_behind list.BadLine line said all is h = is ∙ ap as_blocks h
fault_behind list.UnknownNode line said all is h = is ∙ ap as_blocks h
fault_behind list.BadNumber line said all is h = is ∙ ap as_blocks h
fault_behind list.OutOfRange line said all is h = is ∙ ap as_blocks h
fault_behind list.Truncated line said all is h = is ∙ ap as_blocks h
fault_behind list.InfiniteShrink line said all is h = is ∙ ap as_blocks h
fault_behind list.RunningSize line said all is h = is ∙ ap as_blocks h
fault_behind list.NegativeSize line said all is h = is ∙ ap as_blocks h
fault_behind list.ChoiceShape line said all is h = is ∙ ap as_blocks h
fault_behind list.ChoiceInserts line said all is h = is ∙ ap as_blocks h
fault_behind list.Limit line said all is h = is ∙ ap as_blocks h
fault_behind list.Memory line said all is h = tt
