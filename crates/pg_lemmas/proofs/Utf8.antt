-- A text that is UTF-8, and one that is none.
use Rattle.std.proofs.Common.{◌≡◌, refl, Bool, true, false, List, ℕ}
use Rattle.std.specs.Str.{IsUtf8, is_utf8}
use Rattle.std.proofs.lemmas.Str.{IsUtf8-from_is_utf8, is_utf8-from_IsUtf8}

by : (text : List ℕ) (b : Bool) → is_utf8 text ≡ b → (IsUtf8 text → ⊥) → is_utf8 text ≡ false
by text true is not = absurd (not (IsUtf8-from_is_utf8 text is))
by text false is not = is

pub no_utf8 : (text : List ℕ) → (IsUtf8 text → ⊥) → is_utf8 text ≡ false
no_utf8 text not = by text (is_utf8 text) refl not

pub some_utf8 : (text : List ℕ) → IsUtf8 text → is_utf8 text ≡ true
some_utf8 text is = is_utf8-from_IsUtf8 text is
