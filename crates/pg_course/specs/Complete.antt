-- A check of what a run with labels writes.
use Rattle.std.specs.Prelude.{◌≡◌, ◌≤◌, ◌^◌, ℕ, ⊤, true, List, [], ◌∷◌, length, Option, Some, IfSome}
use Rattle.pg_outside.specs.Outside.{Held, OverOutput, Rose}
use Rattle.pg_command.specs.declared.status.Status.{Status}
use Rattle.pg_command.specs.declared.status.Status.TheVariants.{Done, Memory}
use Rattle.pg_command.specs.Words.{Command, check, named, run}
use Rattle.pg_course.specs.Calls.{OverShelf}
use Rattle.pg_course.specs.Course.{Course}

-- the file `output` holds the text, of at most 2^26 bytes, that `run --labels` writes for this style, galley and wrap
pub record HoldsRun (style galley output : List ℕ) (wrap : Option ℕ) (held : Held) : Type 0 where
  pub text : List ℕ
  pub is_held : held output ≡ Some text
  pub short : length text ≤ 2 ^ 26
  pub end : Status
  pub line : List ℕ
  pub written : Course (Some (run (named style) galley true wrap)) held (text ∷ []) end line

-- it ended well, or memory ran out
abbrev pub IsDoneOrMemory : Status → Type 0
IsDoneOrMemory Done = ⊤
IsDoneOrMemory Memory = ⊤
IsDoneOrMemory status = ⊥

-- a check of a file that holds what a run with labels writes for the same files ends well, where neither count rose, or
-- memory runs out; of other commands nothing is said
abbrev pub IsComplete : Option Command → OverShelf → OverOutput → Status → Type 0
IsComplete (Some (check style galley output wrap)) shelf out status =
    (Rose shelf.before shelf.after → ⊥) → (Rose out.before out.after → ⊥) →
    IfSome shelf.told (λ held. HoldsRun style galley output wrap held → IsDoneOrMemory status)
IsComplete command shelf out status = ⊤
