-- That totals with a limit of depth are accepted.
use Rattle.std.proofs.Common.{◌≡◌, ◌∙◌, ap, refl, arith, Bool, true, false, List, ℤ, pos, ◌≤ℤ◌}
use Rattle.std.specs.Prelude.{◌-ℤ◌, ◌&&◌, if◌then◌else◌, int_le, int_lt}
use Rattle.std.specs.Int.{int_min}
use Rattle.pg_drawing.specs.Laws.{IsTotal}
use Rattle.pg_drawing.specs.Totals.{adds_up, hanging, is_total, with_items}
use Rattle.pg_drawing.specs.declared.model.Mark.{Mark}

same : (h d : ℤ) → int_le (h -ℤ d) (h -ℤ d) ≡ true
same h d = grind arith

less : (h d l : ℤ) → int_lt d l ≡ false → int_le (h -ℤ d) (h -ℤ l) ≡ true
less h d l e = grind arith

below : (h l : ℤ) → pos 0 ≤ℤ l → int_le (h -ℤ l) h ≡ true
below h l e = grind arith

low_depth : (d l : ℤ) → int_lt d l ≡ false → pos 0 ≤ℤ l → int_lt d (pos 0) ≡ false
low_depth d l e f = grind arith

no_depth : (h d : ℤ) → int_lt d (pos 0) ≡ false → int_le (h -ℤ d) h ≡ true
no_depth h d e = grind arith

ends : (b : Bool) (h d : ℤ) → int_lt d (pos 0) ≡ b →
    (int_le (h -ℤ d) (h -ℤ d) && (if b then int_le (h -ℤ d) (h -ℤ d) else int_le (h -ℤ d) h)) ≡ true
ends true h d e = rw (same h d) refl
ends false h d e = rw (same h d, no_depth h d e) refl

chosen : (b : Bool) (h d l : ℤ) → int_lt d l ≡ b → pos 0 ≤ℤ l → is_total h d (h -ℤ (if b then d else l)) ≡ true
chosen true h d l e low = ends (int_lt d (pos 0)) h d refl
chosen false h d l e low = rw (less h d l e, low_depth d l e low, below h l low) refl

accepts : (h d l : ℤ) → pos 0 ≤ℤ l → is_total h d (h -ℤ int_min l d) ≡ true
accepts h d l low = chosen (int_lt d l) h d l refl low

pub total_adds_up : (marks : List Mark) (total : ℤ) → IsTotal marks total → adds_up marks total ≡ true
total_adds_up marks total (limit, low, is) =
    ap (is_total (with_items (pos 0) marks) (hanging (pos 0) marks)) is
    ∙ accepts (with_items (pos 0) marks) (hanging (pos 0) marks) limit low
