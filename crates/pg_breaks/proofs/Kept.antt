-- What the numbers that a galley keeps say of the blocks from one on.
use Rattle.std.proofs.Common.{◌≡◌, refl, ℕ, zero, suc, ◌+◌, List, [], ◌∷◌, drop, arith, Bool, true, false}
use Rattle.std.specs.Prelude.{nat_lt, nat_le, if◌then◌else◌, ◌||◌, not}
use Rattle.std.specs.List.{list_any}
use Rattle.std.proofs.lemmas.Bool.Decides.{nat_tests}
use Rattle.pg_list.specs.declared.blocks.Block.{Block}
use Rattle.pg_list.specs.Places.{count_to_last}

pub front_step : (t any : Bool) (n : ℕ) → any ≡ nat_lt 0 n →
    (t || any) ≡ nat_lt 0 (if nat_lt 0 n then n + 1 else (if t then 1 else 0))
front_step true any n e = grind (arith, nat_tests)
front_step false any n e = grind (arith, nat_tests)

pub back_step : (t any : Bool) (n b : ℕ) → any ≡ nat_lt b n →
    any ≡ nat_lt (suc b) (if nat_lt 0 n then n + 1 else (if t then 1 else 0))
back_step true any n b e = grind (arith, nat_tests)
back_step false any n b e = grind (arith, nat_tests)

pub any_from : (test : Block → Bool) (blocks : List Block) (b : ℕ) →
    list_any test (drop b blocks) ≡ nat_lt b (count_to_last test blocks)
any_from test [] zero = refl
any_from test [] (suc b) = grind (arith, nat_tests)
any_from test (block ∷ blocks) zero =
    front_step (test block) (list_any test blocks) (count_to_last test blocks) (any_from test blocks zero)
any_from test (block ∷ blocks) (suc b) =
    back_step (test block) (list_any test (drop b blocks)) (count_to_last test blocks) b (any_from test blocks b)

pub le_not : (m n : ℕ) → nat_le m n ≡ not (nat_lt n m)
le_not m n = grind (arith, nat_tests)
