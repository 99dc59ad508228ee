-- The classes of a style file, one after another.
use Rattle.std.proofs.Common.{◌≡◌, ◌∙◌, refl, ℕ, ◌+◌, false, is_some, drop, List, [], ◌∷◌}
use Rattle.std.proofs.Common.{Option, Some, None, Result, Ok, Err}
use Rattle.std.specs.Prelude.{if◌then◌else◌}
use Rattle.std.specs.List.{slice_get}
use Rattle.toml.specs.Data.{Members}
use Rattle.pg_style.specs.declared.style.Class.{Class}
use Rattle.pg_stylefile.specs.declared.fault.StyleFault.{StyleFault}
use Rattle.pg_stylefile.specs.Tables.{with_next, classes_from}
use Rattle.pg_stylefile.proofs.RunLemmas.{drop_at}

pub none_there : (found : Option Class) → is_some found ≡ false → found ≡ None
none_there None e = refl
none_there (Some class) e = absurd (cc)

-- one more class is read
pub class_read : (version position : ℕ) (tables : List Members) (said : Members) (earlier classes : List Class)
    (all : Result (List Class) StyleFault)
    → all ≡ classes_from version position earlier (drop position tables) → slice_get tables position ≡ Some said
    → with_next version position said earlier ≡ Ok classes
    → all ≡ classes_from version (position + 1) classes (drop (position + 1) tables)
class_read version position tables said earlier classes all same there is = same ∙ rw (drop_at tables position said there, is)

-- a class has a fault
pub class_refused : (version position : ℕ) (tables : List Members) (said : Members) (earlier : List Class)
    (fault : StyleFault) (all : Result (List Class) StyleFault)
    → all ≡ classes_from version position earlier (drop position tables) → slice_get tables position ≡ Some said
    → with_next version position said earlier ≡ Err fault → all ≡ Err fault
class_refused version position tables said earlier fault all same there is = same ∙ rw (drop_at tables position said there, is)
