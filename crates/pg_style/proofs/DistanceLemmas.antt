-- Entries that pass the tests are a distance table.
use Rattle.std.proofs.Common.{◌≡◌, ◌∙◌, sym, ap, subst, arith, ℕ, ◌≤◌, List, [], ◌∷◌, ◌++◌, length, drop, true}
use Rattle.std.specs.Prelude.{◌&&◌, nat_le, nat_lt, replicate}
use Rattle.std.specs.List.{AllByRecursion, list_all}
use Rattle.std.proofs.lemmas.Bool.Decides.{nat_tests}
use Rattle.std.proofs.lemmas.List.{take_at, drop-replicate}
use Rattle.pg_style.specs.Filled.{IsFilled, filled}
use Rattle.pg_style.specs.Ranges.{IsDistance, Rises, AreDemerits, rises, has_table_range}
use Rattle.pg_lemmas.proofs.Bools.{both_of}

each_within : (entries : List ℕ) → list_all (λ (n : ℕ). nat_le n 100000000) entries ≡ true → AllByRecursion AreDemerits entries
each_within [] e = tt
each_within (n ∷ entries) e =
    let parts = both_of (nat_le n 100000000) (list_all (λ (m : ℕ). nat_le m 100000000) entries) e in
    let first = parts.0 in
    let within : n ≤ 100000000 = grind (arith, nat_tests) in
    (within, each_within entries parts.1)

all_rise : (entries : List ℕ) → rises entries ≡ true → Rises entries
all_rise [] e = tt
all_rise (x ∷ []) e = tt
all_rise (x ∷ y ∷ entries) e =
    let parts = both_of (nat_le x y) (rises (y ∷ entries)) e in
    let first = parts.0 in
    let up : x ≤ y = grind (arith, nat_tests) in
    (up, all_rise (y ∷ entries) parts.1)

pub is_distance : (entries : List ℕ) → has_table_range entries ≡ true → rises entries ≡ true → IsDistance entries
is_distance entries range up =
    let parts = both_of (nat_lt 0 (length entries)) (nat_le (length entries) 9 && list_all (λ (n : ℕ). nat_le n 100000000) entries) range in
    let more = both_of (nat_le (length entries) 9) (list_all (λ (n : ℕ). nat_le n 100000000) entries) parts.1 in
    let first = parts.0 in
    let second = more.0 in
    record { some = grind (arith, nat_tests); few = grind (arith, nat_tests); rises = all_rise entries up; each = each_within entries more.1 }

-- the places into which the entries were copied
pub copied_in : (entries copied : List ℕ) → copied ≡ entries → IsDistance entries
    → IsFilled (record { entries = copied ++ drop (length entries) (replicate 9 0); count = length entries })
copied_in entries copied same is =
    let front = ap (λ (zs : List ℕ). zs ++ drop (length entries) (replicate 9 0)) same in
    let meant = take_at copied (drop (length entries) (replicate 9 0)) (length entries) (ap length same) ∙ same in
    record {
      is = subst IsDistance (sym meant) is;
      count = ap length meant;
      places = ap filled meant ∙ ap (λ (zs : List ℕ). entries ++ zs) (sym (drop-replicate (length entries) 9 0)) ∙ sym front;
    }
