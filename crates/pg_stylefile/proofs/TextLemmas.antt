-- The root table of a text.
use Rattle.std.proofs.Common.{◌≡◌, List, ℕ, Some, None, Ok, Err}
use Rattle.std.specs.Str.{IsUtf8}
use Rattle.std.proofs.lemmas.Str.{is_utf8-from_IsUtf8}
use Rattle.pg_lemmas.proofs.Utf8.{no_utf8}
use Rattle.toml.specs.Data.{Members}
use Rattle.toml.specs.Parse.{parse_document}
use Rattle.pg_stylefile.specs.declared.fault.StyleKind.TheVariants.{Toml}
use Rattle.pg_stylefile.specs.Faults.{bare_fault}
use Rattle.pg_stylefile.specs.Style.{table_of_text}

pub not_utf8 : (text : List ℕ) → (IsUtf8 text → ⊥) → table_of_text text ≡ Err (bare_fault Toml)
not_utf8 text not = rw (no_utf8 text not)

pub read_as : (text read : List ℕ) (said : Members) → read ≡ text → IsUtf8 text → parse_document read ≡ Some said
    → table_of_text text ≡ Ok said
read_as text read said same utf8 parsed = rw (is_utf8-from_IsUtf8 text utf8, ← same, parsed)

pub refused_as : (text read : List ℕ) → read ≡ text → IsUtf8 text → parse_document read ≡ None
    → table_of_text text ≡ Err (bare_fault Toml)
refused_as text read same utf8 parsed = rw (is_utf8-from_IsUtf8 text utf8, ← same, parsed)
