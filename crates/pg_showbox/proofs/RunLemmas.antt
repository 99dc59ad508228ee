-- Lines that are read one by one.
use Rattle.std.proofs.Common.{◌≡◌, ℕ, List, [], ◌∷◌, refl, length, Bool, Bor, ap, sym, ◌∙◌}
use Rattle.std.specs.Prelude.{Result, Ok, Err, Option, Some, None, option_copied, unwrap_or}
use Rattle.pg_showbox.specs.declared.kinds.ListKind.{ListKind}
use Rattle.pg_showbox.specs.declared.kinds.ListKind.TheVariants.{NoListing, BadLine, UnknownNode, BadNumber, OutOfRange, Truncated, InfiniteShrink, RunningSize, NegativeSize, ChoiceShape, ChoiceInserts, Limit, Memory}
use Rattle.pg_showbox.specs.declared.state.ReaderState.{ReaderState}
use Rattle.pg_scan.specs.Lines.{Line, raw_lines, joined}
use Rattle.pg_scan.specs.Parts.{or_all}
use Rattle.pg_showbox.specs.State.{Steps}
use Rattle.pg_showbox.specs.Reading.{line_read, run, OrMemory}
use Rattle.pg_scan.proofs.LineLemmas.{no_line}
use Rattle.pg_lemmas.proofs.Lists.{no_items}

pub run_more : (is_file : Bool) (s t : ReaderState) (lines rest : List Line) (n : ℕ) (text : List ℕ)
    → lines ≡ record { number = n; text = text } ∷ rest → line_read is_file s text ≡ Ok t
    → run is_file s lines ≡ run is_file t rest
unfolding run
run_more is_file s t lines rest n text e is = rw (e, is) refl

pub run_fault : (is_file : Bool) (s : ReaderState) (lines rest : List Line) (n : ℕ) (text : List ℕ) (kind : ListKind)
    → lines ≡ record { number = n; text = text } ∷ rest → line_read is_file s text ≡ Err kind
    → run is_file s lines ≡ Err (record { line = n; kind = kind })
unfolding run
run_fault is_file s lines rest n text kind e is = rw (e, is) refl

pub run_end : (is_file : Bool) (s : ReaderState) (lines : List Line) → lines ≡ [] → run is_file s lines ≡ Ok s
unfolding run
run_end is_file s lines e = rw e refl

pub no_raw_lines : (text : List ℕ) → length text ≡ 0 → raw_lines text ≡ []
no_raw_lines text e = rw (no_items text e, no_line) refl

pub joined_none : (wrap : Option ℕ) (n : ℕ) (lines : List (List ℕ)) → lines ≡ [] → joined wrap n lines ≡ []
unfolding joined
joined_none wrap n lines e = rw e refl

-- of any state: lines that are read up to a step that fails
pub err_runs : {S : Type 0} (kind : ListKind) (said : Result S ListKind) (new : S) (P : Type 0) → Steps (Err kind) said new
    → (said ≡ Err kind → P) → OrMemory kind P
err_runs NoListing said new P e f = f e
err_runs BadLine said new P e f = f e
err_runs UnknownNode said new P e f = f e
err_runs BadNumber said new P e f = f e
err_runs OutOfRange said new P e f = f e
err_runs Truncated said new P e f = f e
err_runs InfiniteShrink said new P e f = f e
err_runs RunningSize said new P e f = f e
err_runs NegativeSize said new P e f = f e
err_runs ChoiceShape said new P e f = f e
err_runs ChoiceInserts said new P e f = f e
err_runs Limit said new P e f = f e
err_runs Memory said new P e f = tt

-- a line where it stands, or else the one that was put together
pub line_said : (whole : Option (Bor (List ℕ))) (line said : Bor (List ℕ)) (items : List ℕ) → said ≡ unwrap_or whole line
    → line.now ≡ items → or_all items (option_copied whole) ≡ said.now
line_said None line said items e is = sym (ap (λ (text : Bor (List ℕ)). text.now) e ∙ is)
line_said (Some text) line said items e is = sym (ap (λ (text : Bor (List ℕ)). text.now) e)
