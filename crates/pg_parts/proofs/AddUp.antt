-- The parts add up.
use Rattle.std.proofs.Common.{◌≡◌, refl, arith, [], ◌∷◌, true, false, Bool, ℕ}
use Rattle.std.specs.Prelude.{ℤ, pos, ◌+◌, ◌+ℤ◌, ◌-ℤ◌, if◌then◌else◌, Option, Some, None}
use Rattle.std.specs.Option.{option_map_or}
use Rattle.std.proofs.lemmas.Int.{ints}
use Rattle.pg_list.specs.Whole.{square}
use Rattle.pg_rules.specs.ColumnRules.{text_badness}
use Rattle.pg_rules.specs.Cost.{cost_of, column_demerits, pick_demerits, text_demerits}
use Rattle.pg_rules.specs.History.{context}
use Rattle.pg_rules.specs.Room.{ColumnContext, is_text, size_of}
use Rattle.pg_parts.specs.Parts.{PartsAddUp, badness_part, empty_part, fitness_part, float_part, line_part, part_sum, penalty_part, run_part}
use Rattle.pg_parts.specs.declared.part.Part.TheVariants.{Line, Badness, Penalties, Empty, Picks, Runs, Floats, Fitness}

cases : (t : Bool) (size : Option ℕ) (l : ℤ) (w d : ℕ → ℤ) (e : ℤ) →
    (if t then option_map_or d size (pos 0) else e)
    ≡ (((if t then option_map_or (λ (n : ℕ). l) size (pos 0) else pos 0)
    +ℤ (if t then option_map_or (λ (n : ℕ). w n -ℤ l) size (pos 0) else pos 0))
    +ℤ (if t then option_map_or (λ (n : ℕ). d n -ℤ w n) size (pos 0) else pos 0))
    +ℤ (if t then pos 0 else e)
cases true (Some n) l w d e = omega (arith, ints)
cases true None l w d e = refl
cases false size l w d e = omega (arith, ints)

column_adds_up : (it : ColumnContext) →
    column_demerits it ≡ ((line_part it +ℤ badness_part it) +ℤ penalty_part it) +ℤ empty_part it
column_adds_up it = cases (is_text it) (size_of it) (square (pos it.document.style.line))
    (λ n. square (pos (it.document.style.line + text_badness it n)))
    (text_demerits it) (pos it.document.style.float_column.demerits)

step : (c l b p e k r f t cl cb cp ce ck cr cf ct cd : ℤ) →
    c ≡ l +ℤ (b +ℤ (p +ℤ (e +ℤ (k +ℤ (r +ℤ (f +ℤ (t +ℤ pos 0))))))) → cd ≡ ((cl +ℤ cb) +ℤ cp) +ℤ ce →
    (c +ℤ ((cd +ℤ ck) +ℤ ((cr +ℤ cf) +ℤ ct)))
    ≡ (l +ℤ cl) +ℤ ((b +ℤ cb) +ℤ ((p +ℤ cp) +ℤ ((e +ℤ ce) +ℤ ((k +ℤ ck) +ℤ ((r +ℤ cr) +ℤ ((f +ℤ cf)
    +ℤ ((t +ℤ ct) +ℤ pos 0)))))))
step c l b p e k r f t cl cb cp ce ck cr cf ct cd h i = omega (arith, ints)

pub add_up : PartsAddUp
add_up doc [] = refl
add_up doc (m ∷ ms) =
    let it : ColumnContext = context doc m ms in
    step (cost_of doc ms) (part_sum doc ms Line) (part_sum doc ms Badness) (part_sum doc ms Penalties)
    (part_sum doc ms Empty) (part_sum doc ms Picks) (part_sum doc ms Runs) (part_sum doc ms Floats)
    (part_sum doc ms Fitness) (line_part it) (badness_part it) (penalty_part it) (empty_part it) (pick_demerits it)
    (run_part doc m ms) (float_part doc m ms) (fitness_part doc m ms) (column_demerits it) (add_up doc ms)
    (column_adds_up it)
