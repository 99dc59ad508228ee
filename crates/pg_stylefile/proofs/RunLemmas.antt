-- The runs of a style file, one after another.
use Rattle.std.proofs.Common.{◌≡◌, ◌∙◌, refl, ap, sym, arith, ℕ, ◌+◌, ◌≤◌, zero, suc, drop, List, [], ◌∷◌, ◌++◌}
use Rattle.std.proofs.Common.{Some, Result, Ok, Err, ℤ, append_assoc}
use Rattle.std.specs.List.{AllByRecursion, slice_get}
use Rattle.toml.specs.Data.{Members}
use Rattle.pg_style.specs.declared.style.Run.{Run}
use Rattle.pg_stylefile.specs.declared.fault.StyleFault.{StyleFault}
use Rattle.pg_stylefile.specs.Faults.{◌>>=◌}
use Rattle.pg_stylefile.specs.Tables.{run_of, runs_from, runs_of}

pub drop_at : {A : Type 0} (xs : List A) (i : ℕ) (x : A) → slice_get xs i ≡ Some x → drop i xs ≡ x ∷ drop (i + 1) xs
drop_at [] i x e = absurd (cc)
drop_at (y ∷ ys) zero x e = let same : y ≡ x = cc in ap (λ (first : _). first ∷ ys) same
drop_at (y ∷ ys) (suc i) x e = let next : suc i + 1 ≡ suc (i + 1) = omega arith in rw next (drop_at ys i x e)

-- the runs read so far, and the others
abbrev pub behind : List Run → Result (List Run) StyleFault → Result (List Run) StyleFault
behind read rest = rest >>= (λ (runs : List Run). Ok (read ++ runs))

behind_one : (read : List Run) (run : Run) (rest : Result (List Run) StyleFault)
    → behind read (rest >>= (λ (runs : List Run). Ok (run ∷ runs))) ≡ behind (read ++ run ∷ []) rest
behind_one read run (Ok runs) = ap (λ (all : List Run). Ok all) (sym (append_assoc read (run ∷ []) runs))
behind_one read run (Err fault) = refl

-- one more run is read
pub run_read : (height : ℤ) (position : ℕ) (tables : List Members) (members : Members) (run : Run) (read : List Run)
    (all : Result (List Run) StyleFault)
    → all ≡ behind read (runs_from height position (drop position tables))
    → slice_get tables position ≡ Some members → run_of height position members ≡ Ok run
    → all ≡ behind (read ++ run ∷ []) (runs_from height (position + 1) (drop (position + 1) tables))
run_read height position tables members run read all same there is =
    same ∙ rw (drop_at tables position members there, is)
    (behind_one read run (runs_from height (position + 1) (drop (position + 1) tables)))

-- a run has a fault
pub run_refused : (height : ℤ) (position : ℕ) (tables : List Members) (members : Members) (fault : StyleFault)
    (read : List Run) (all : Result (List Run) StyleFault)
    → all ≡ behind read (runs_from height position (drop position tables))
    → slice_get tables position ≡ Some members → run_of height position members ≡ Err fault → all ≡ Err fault
run_refused height position tables members fault read all same there is = same
    ∙ rw (drop_at tables position members there, is)

pub all_and : (P : Run → Type 0) (runs : List Run) (run : Run) → AllByRecursion P runs → P run
    → AllByRecursion P (runs ++ run ∷ [])
all_and P [] run all one = (one, tt)
all_and P (first ∷ runs) run all one = (all.0, all_and P runs run all.1 one)

-- the first run has a fault
pub first_refused : (height : ℤ) (tables : List Members) (said : Members) (fault : StyleFault)
    → slice_get tables 0 ≡ Some said → run_of height 0 said ≡ Err fault
    → runs_of height tables ≡ Err fault
unfolding runs_of
first_refused height [] said fault there is = absurd (cc)
first_refused height (first ∷ tables) said fault there is =
    let same : first ≡ said = cc in
    rw (same, is)
