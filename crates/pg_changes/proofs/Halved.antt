-- What a search by halves leaves.
use Rattle.std.proofs.Common.{◌≡◌, subst, ℕ, Bool, true}
use Rattle.pg_list.specs.GalleyValue.{GalleyValue}
use Rattle.pg_style.specs.Values.{StyleValue}
use Rattle.pg_changes.specs.Changes.{Helps, NoneLegal, TellsValue}
use Rattle.pg_changes.specs.Numbers.{IsNamed, step_back, with_number}
use Rattle.pg_changes.specs.declared.number.Number.{Number}

pub helps_by : (g : GalleyValue) (s : StyleValue) (number : Number) (bad good : ℕ) (is : Bool) → IsNamed s number →
    NoneLegal g (with_number s number bad) → TellsValue g s number good true →
    (is ≡ true → bad ≡ step_back number good) → Helps g s (record { number = number; value = good; is_least = is })
helps_by g s number bad good is named none tells by = record {
  named = named;
  range = tells.range;
  some = tells.legal;
  least = λ e. subst (λ (v : ℕ). NoneLegal g (with_number s number v)) (by e) none;
}
