-- The law in the form of its contract.
use Rattle.std.proofs.Common.{◌≡◌, ℕ, ◌+◌, ◌≤◌, arith}
use Rattle.std.specs.List.{AllByRecursion}
use Rattle.pg_list.specs.Shapes.{IsBlock}
use Rattle.pg_list.specs.declared.galley.Place.{Place}
use Rattle.pg_rules.specs.IsState.{IsPlace}
use Rattle.pg_rules.specs.Reach.{IsReach}
use Rattle.pg_rules.specs.Room.{Document}
use Rattle.law_space.specs.ReachAt.{reach_at}
use Rattle.law_space.proofs.ReachAt.{reach_is}

-- a place has one reach
pub reach_one : (doc : Document) (from : Place) (m n : ℕ) → IsReach doc from m → IsReach doc from n → m ≡ n
reach_one doc from m n a b =
    let p : a.last.block + 1 ≤ n = b.greatest a.last a.reached in
    let q : b.last.block + 1 ≤ m = a.greatest b.last b.reached in
    omega (arith, p, q, a.one_more, b.one_more)

pub reach_only : (doc : Document) → AllByRecursion IsBlock doc.blocks → (from : Place) (n : ℕ) →
    IsPlace doc.blocks from → IsReach doc from n → n ≡ reach_at doc from
reach_only doc each from n p r = reach_one doc from n (reach_at doc from) r (reach_is doc each from p)
