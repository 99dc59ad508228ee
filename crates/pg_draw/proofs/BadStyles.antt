-- What a fault of a style tells.
use Rattle.std.proofs.Common.{◌≡◌, ℕ, List}
use Rattle.std.specs.Prelude.{Option, Some, None, Err}
use Rattle.pg_stylefile.specs.Faults.{UnlessMemory}
use Rattle.pg_stylefile.specs.Style.{style_of_text}
use Rattle.pg_stylefile.specs.declared.fault.StyleFault.{StyleFault}
use Rattle.pg_stylefile.specs.declared.fault.StyleKind.{StyleKind}
use Rattle.pg_stylefile.specs.declared.fault.StyleKind.TheVariants.{Toml, MissingKey, UnknownKey, WrongKind, OutOfRange, Decreasing, DuplicateClass, NoRun, Memory}
use Rattle.pg_draw.specs.Texts.{IsBadStyle, fault_number}

told : (kind : StyleKind) (P : Type 0) (number : ℕ) → UnlessMemory kind P → fault_number kind ≡ Some number → P
told Toml P number said is = said
told MissingKey P number said is = said
told UnknownKey P number said is = said
told WrongKind P number said is = said
told OutOfRange P number said is = said
told Decreasing P number said is = said
told DuplicateClass P number said is = said
told NoRun P number said is = said
told Memory P number said is = absurd cc

pub bad_style : (text : List ℕ) (fault : StyleFault) (number : ℕ) →
    UnlessMemory fault.kind (style_of_text text ≡ Err fault) → fault_number fault.kind ≡ Some number →
    IsBadStyle text number
bad_style text fault number said is = record { fault = fault; said = told fault.kind _ number said is; is = is }
