-- The least rule of a column is that of its parts.
use Rattle.std.proofs.Common.{◌≡◌, refl, ℕ, [], ◌∷◌, Bool, true, false, Option}
use Rattle.std.specs.Option.{option_or}
use Rattle.pg_rules.specs.Legal.{unless}
use Rattle.pg_column.proofs.Judging.{fault_by}
use Rattle.pg_judge.specs.Moves.{least_rule}
use Rattle.pg_judge.specs.Verdict.{first_false}

-- rules 7 to 10
abbrev pub added_rule : Bool → Bool → Bool → Bool → Option ℕ
added_rule g h i j = option_or (unless g 7) (option_or (unless h 8) (option_or (unless i 9) (unless j 10)))

pub least_is : (c d e f g h i j k l m : Bool) → least_rule (fault_by c d e f k m) (added_rule g h i j) l
    ≡ first_false 2 (true ∷ c ∷ d ∷ e ∷ f ∷ g ∷ h ∷ i ∷ j ∷ k ∷ l ∷ m ∷ [])
least_is false d e f g h i j k l m = refl
least_is true false e f g h i j k l m = refl
least_is true true false f g h i j k l m = refl
least_is true true true false g h i j k l m = refl
least_is true true true true false h i j false l m = refl
least_is true true true true true false i j false l m = refl
least_is true true true true true true false j false l m = refl
least_is true true true true true true true false false l m = refl
least_is true true true true true true true true false l m = refl
least_is true true true true false h i j true l false = refl
least_is true true true true true false i j true l false = refl
least_is true true true true true true false j true l false = refl
least_is true true true true true true true false true l false = refl
least_is true true true true true true true true true false false = refl
least_is true true true true true true true true true true false = refl
least_is true true true true false h i j true l true = refl
least_is true true true true true false i j true l true = refl
least_is true true true true true true false j true l true = refl
least_is true true true true true true true false true l true = refl
least_is true true true true true true true true true false true = refl
least_is true true true true true true true true true true true = refl
