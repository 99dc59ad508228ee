-- The entries of a distance table.
use Rattle.std.proofs.Common.{◌≡◌, ◌∙◌, refl, ap, sym, arith, ℕ, ◌+◌, ◌<◌, Bool, true, false, ◌&&◌, is_some, get_or}
use Rattle.std.proofs.Common.{drop, List, [], ◌∷◌, ◌++◌, length, Option, Some, None, Result, Ok, Err, ℤ, pos, negsuc}
use Rattle.std.specs.Prelude.{nat_le, nat_lt, if◌then◌else◌}
use Rattle.std.specs.Option.{ok_or}
use Rattle.std.specs.List.{AllByRecursion, list_all}
use Rattle.std.proofs.lemmas.Bool.Decides.{nat_tests}
use Rattle.toml.proofs.Views.{items_view-drop}
use Rattle.toml.specs.declared.value.Value.{Value}
use Rattle.toml.specs.Data.{as_integer}
use Rattle.toml.specs.View.{view, items_view}
use Rattle.pg_style.specs.Ranges.{IsDistance, Rises, AreDemerits, rises, has_table_range}
use Rattle.pg_stylefile.specs.declared.fault.StyleKind.{StyleKind}
use Rattle.pg_stylefile.specs.declared.fault.StyleKind.TheVariants.{WrongKind, OutOfRange}
use Rattle.pg_stylefile.specs.Faults.{◌>>=◌}
use Rattle.pg_stylefile.specs.Values.{are_whole, whole_in, whole_of, each_entry, made_table, entries_of}
use Rattle.pg_lemmas.proofs.Bools.{both_of}

-- a turn of the loop over the elements
pub whole_turn : (values : List Value) (i : ℕ) (value : Value) (b : Bool) → i < length values
    → value ≡ get_or values i value → b ≡ is_some (as_integer (view value))
    → are_whole (items_view (drop i values)) ≡ (b && are_whole (items_view (drop (i + 1) values)))
whole_turn values i value b within is test =
    rw (items_view-drop values i value within)
    (ap (λ (x : Bool). x && are_whole (items_view (drop (i + 1) values)))
    (ap (λ (v : Value). is_some (as_integer (view v))) (sym is) ∙ sym test))

-- the entries read so far, and the others
abbrev pub behind : List ℕ → Result (List ℕ) StyleKind → Result (List ℕ) StyleKind
behind read rest = rest >>= (λ (entries : List ℕ). Ok (read ++ entries))

all_within : (entries : List ℕ) → AllByRecursion AreDemerits entries
    → list_all (λ (n : ℕ). nat_le n 100000000) entries ≡ true
all_within [] all = refl
all_within (n ∷ entries) all = let here : nat_le n 100000000 ≡ true = grind (arith, nat_tests, all.0) in
    rw (here, all_within entries all.1)

all_rise : (entries : List ℕ) → Rises entries → rises entries ≡ true
all_rise [] up = refl
all_rise (x ∷ []) up = refl
all_rise (x ∷ y ∷ entries) up = let here : nat_le x y ≡ true = grind (arith, nat_tests, up.0) in
    rw (here, all_rise (y ∷ entries) up.1)

in_range : (entries : List ℕ) → IsDistance entries → has_table_range entries ≡ true
in_range entries is =
    let some : nat_lt 0 (length entries) ≡ true = grind (arith, nat_tests, is.some) in
    let few : nat_le (length entries) 9 ≡ true = grind (arith, nat_tests, is.few) in
    rw (some, few, all_within entries is.each)

-- a table that exists passes the tests
pub tested : (entries : List ℕ) → IsDistance entries → made_table entries ≡ Ok entries
unfolding made_table
tested entries is = rw (in_range entries is, all_rise entries is.rises)

-- a whole number fails by its range alone
abbrev Fails : Result ℕ StyleKind → Type 0
Fails (Ok n) = Unit {0}
Fails (Err kind) = kind ≡ OutOfRange

choice_fails : (b : Bool) (n : ℕ) → Fails (if b then Ok n else Err OutOfRange)
choice_fails true n = tt
choice_fails false n = refl

whole_fails : (found : Option ℤ) → is_some found ≡ true → Fails (ok_or found WrongKind >>= whole_in 0 100000000)
whole_fails None some = absurd (cc)
whole_fails (Some (pos n)) some = choice_fails (nat_le 0 n && nat_le n 100000000) n
whole_fails (Some (negsuc n)) some = refl

-- as many entries as elements, or a fault of their range
abbrev Counted : ℕ → Result (List ℕ) StyleKind → Type 0
Counted n (Ok entries) = length entries ≡ n
Counted n (Err kind) = kind ≡ OutOfRange

counted_step : (first : Result ℕ StyleKind) (rest : Result (List ℕ) StyleKind) (n : ℕ) → Fails first → Counted n rest
    → Counted (n + 1) (first >>= (λ (entry : ℕ). rest >>= (λ (entries : List ℕ). Ok (entry ∷ entries))))
counted_step (Ok entry) (Ok entries) n fails counted = omega (arith, counted)
counted_step (Ok entry) (Err kind) n fails counted = counted
counted_step (Err kind) rest n fails counted = fails

counted : (values : List Value) → are_whole (items_view values) ≡ true → Counted (length values)
    (each_entry (items_view values))
unfolding whole_of
counted [] whole = refl
counted (value ∷ values) whole =
    let subtables = both_of (is_some (as_integer (view value))) (are_whole (items_view values)) whole in
    let more : length values + 1 ≡ length (value ∷ values) = omega arith in
    rw (← more)
    (counted_step (whole_of 0 100000000 (view value)) (each_entry (items_view values)) (length values)
    (whole_fails (as_integer (view value)) subtables.0) (counted values subtables.1))

false_inside : (a b c : Bool) → b ≡ false → (a && (b && c)) ≡ false
false_inside true b c e = rw e
false_inside false b c e = refl

none_made : (n : ℕ) (read : Result (List ℕ) StyleKind) → Counted n read → 9 < n → (read >>= made_table) ≡ Err OutOfRange
unfolding made_table
none_made n (Ok entries) counted many =
    let long : nat_le (length entries) 9 ≡ false = grind (arith, nat_tests, counted) in
    rw (false_inside (nat_lt 0 (length entries)) (nat_le (length entries) 9)
    (list_all (λ (n : ℕ). nat_le n 100000000) entries) long)
none_made n (Err kind) counted many = rw counted

-- more than nine entries are no table
pub too_many : (values : List Value) → are_whole (items_view values) ≡ true → 9 < length values
    → entries_of (items_view values) ≡ Err OutOfRange
unfolding entries_of
too_many values whole many = none_made (length values) (each_entry (items_view values)) (counted values whole) many
