-- Lines that are read one by one.
use Rattle.std.proofs.Common.{◌≡◌, ℕ, List, [], ◌∷◌, refl}
use Rattle.std.specs.Prelude.{Ok, Err, None}
use Rattle.pg_showbox.specs.declared.kinds.ListKind.{ListKind}
use Rattle.pg_scan.specs.Lines.{Line, joined}
use Rattle.pg_hlist.specs.declared.draft.Draft.{Draft}
use Rattle.pg_hlist.specs.Reading.{line_read, run}

pub run_more : (s t : Draft) (lines rest : List Line) (n : ℕ) (text : List ℕ) →
    lines ≡ record { number = n; text = text } ∷ rest → line_read s text ≡ Ok t → run s lines ≡ run t rest
unfolding run
run_more s t lines rest n text e is = rw (e, is) refl

pub run_fault : (s : Draft) (lines rest : List Line) (n : ℕ) (text : List ℕ) (kind : ListKind) →
    lines ≡ record { number = n; text = text } ∷ rest → line_read s text ≡ Err kind →
    run s lines ≡ Err (record { line = n; kind = kind })
unfolding run
run_fault s lines rest n text kind e is = rw (e, is) refl

pub run_end : (s : Draft) (lines : List Line) → lines ≡ [] → run s lines ≡ Ok s
unfolding run
run_end s lines e = rw e refl

pub joined_none : (n : ℕ) (lines : List (List ℕ)) → lines ≡ [] → joined None n lines ≡ []
unfolding joined
joined_none n lines e = rw e refl
