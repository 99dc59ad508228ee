-- What is said where there is no memory for a line.
use Rattle.std.proofs.Common.{◌≡◌, ◌∙◌, refl, inl, inr, subst, List, ℕ}
use Rattle.std.specs.Prelude.{codes, Option, Result, Ok, Err, OnOk, OnErr}
use Rattle.std.specs.Io.KnownBytes.{Appends}
use Rattle.pg_outside.specs.Outside.{AppendsFront, Rose, over_sink}
use Rattle.pg_outside.specs.declared.sink.WriteFailed.{WriteFailed}
use Rattle.pg_draw.specs.Texts.{Said}
use Rattle.pg_draw.specs.Lines.{line_of}
use Rattle.pg_draw.specs.declared.ending.Ending.{Ending}
use Rattle.pg_draw.specs.declared.ending.Ending.TheVariants.{Memory}
use Rattle.pg_draw.specs.declared.ending.Status.TheVariants as status

no_memory : codes "pg_draw: out of memory\n" ≡ line_of Memory
no_memory = refl

pub no_memory_said : (written : Result (Unit {0}) WriteFailed) (ending : Ending) (old new : Option (List ℕ))
    (before after : ℕ) (bytes : List ℕ) → bytes ≡ codes "pg_draw: out of memory\n" →
    OnOk written (Appends old new bytes) → OnErr written (AppendsFront old new bytes) →
    OnErr written (Rose before after) → Said ending (over_sink old new before after) status.Memory
no_memory_said (Ok x) ending old new before after bytes is all front rose =
    inr (refl, inl (subst (Appends old new) (is ∙ no_memory) all))
no_memory_said (Err e) ending old new before after bytes is all front rose =
    inr (refl, inr (rose, subst (AppendsFront old new) (is ∙ no_memory) front))
