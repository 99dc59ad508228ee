-- The runs of columns are the beginnings.
use Rattle.std.proofs.Common.{◌≡◌, refl, subst, List, [], ◌∷◌}
use Rattle.std.specs.Prelude.{ℤ, ◌+ℤ◌}
use Rattle.pg_plan.specs.declared.pages.PageMove.{PageMove}
use Rattle.pg_plan.specs.declared.states.State.{State}
use Rattle.pg_rules.specs.Room.{Document}
use Rattle.pg_rules.specs.Cost.{cost_of}
use Rattle.pg_rules.specs.States.{state_at}
use Rattle.pg_rules.specs.Follow.{Follow}
use Rattle.pg_table.specs.Space.{Run}
use Rattle.law_columns.specs.Stands.{IsBeginning}
use Rattle.law_columns.proofs.Beginnings.{Facts, beginning_before, empty_beginning}
use Rattle.law_columns.proofs.Push.{column_pays, follows, stands}
use Rattle.law_space.specs.PageSpace.{wide_meaning}

pub run_of_beginning : (doc : Document) → Facts doc → (ms : List PageMove) → IsBeginning doc ms →
    Run (wide_meaning doc) ms (state_at doc ms) (cost_of doc ms)
run_of_beginning doc facts [] b = (refl, refl)
run_of_beginning doc facts (m ∷ ms) b = (
  state_at doc ms,
  (
    cost_of doc ms,
    column_pays doc m ms,
    (
      run_of_beginning doc facts ms (beginning_before doc facts m ms b),
      follows doc m ms b.stand.0 b.waits,
      refl,
    ),
  ),
)

-- the moves of a run are a beginning, with its state and cost
pub record IsRunOf (doc : Document) (ms : List PageMove) (v : State) (c : ℤ) : Type 0 where
  pub beginning : IsBeginning doc ms
  pub state : v ≡ state_at doc ms
  pub cost : c ≡ cost_of doc ms

pub beginning_of_run : (doc : Document) → Facts doc → (ms : List PageMove) (v : State) (c : ℤ) →
    Run (wide_meaning doc) ms v c → IsRunOf doc ms v c
beginning_of_run doc facts [] v c (e, z) = record { beginning = empty_beginning doc facts; state = e; cost = z }
beginning_of_run doc facts (m ∷ ms) v c (u, (n, k, (run, step, sum))) =
    let before : IsRunOf doc ms u n = beginning_of_run doc facts ms u n run in
    let here : Follow doc (state_at doc ms) m v k =
    subst (λ (x : State). Follow doc x m v k) before.state step in
    let s = stands doc m ms v k facts.tables before.beginning.waits here in
    record {
      beginning = record { stand = (s.0, before.beginning.stand); waits = s.1.0 };
      state = s.1.1.0;
      cost = let p : n ≡ cost_of doc ms = before.cost in let q : k ≡ column_pays doc m ms = s.1.1.1 in
          total n k (cost_of doc ms) (column_pays doc m ms) c p q sum;
    }
  where
    total : (n k a b c : ℤ) → n ≡ a → k ≡ b → c ≡ n +ℤ k → c ≡ a +ℤ b
    total n k a b c p q r = cc
