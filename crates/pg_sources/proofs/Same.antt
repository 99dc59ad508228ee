-- Counts that are compared.
use Rattle.std.proofs.Common.{◌≡◌, ℕ, List, Bool, true}
use Rattle.std.specs.Prelude.{◌==◌}
use Rattle.std.specs.Cmp.{unsigned_Decides}
use Rattle.std.specs.Cmp.Lexicographic.{pointwise}
use Rattle.std.proofs.lemmas.Slice.Eq.{slice_eq-Decides}
use Rattle.pg_sources.specs.declared.calls.Before.{Before}

-- counts that are equal one by one are the same
pub one_list : (a b : List ℕ) (r : Bool) → r ≡ pointwise (λ (x y : ℕ). x == y) a b → r ≡ true → a ≡ b
one_list a b r e t = (slice_eq-Decides unsigned_Decides a b r e).0 t

pub same_before : (a b : Before) → a.called ≡ b.called → a.flushed ≡ b.flushed → a ≡ b
same_before a b p q = by a.called b.called a.flushed b.flushed p q
  where
    by : (c d f g : List ℕ) → c ≡ d → f ≡ g →
        ◌≡◌ {A = Before} (record { called = c; flushed = f }) (record { called = d; flushed = g })
    by c d f g p q = cc
