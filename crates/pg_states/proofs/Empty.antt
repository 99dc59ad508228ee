-- Where no float of a class waits and none is called, none is left, none pays, and the ages ahead stay as they are.
use Rattle.std.proofs.Common.{◌≡◌, refl, sym, ap, ◌∙◌, ℕ, zero, suc, ◌+◌, ◌-◌, ◌≤◌, List, [], ◌∷◌, ◌++◌, length, take, drop, true, arith}
use Rattle.std.specs.Prelude.{◌==◌, nat_le}
use Rattle.std.proofs.lemmas.Bool.{eqb-true, leb-true}
use Rattle.std.proofs.lemmas.List.{append-nil}
use Rattle.std.proofs.Math.Seq.{drop-nil}
use Rattle.pg_lemmas.proofs.Bools.{both_of}
use Rattle.pg_style.specs.Values.{StyleValue}
use Rattle.pg_floats.specs.History.{ages_of}
use Rattle.pg_rules.specs.Floats.{distance_table, entry}
use Rattle.pg_states.specs.Lines.{are_young, is_line_empty, later, line_in, paid_by, with_zeros}
use Rattle.pg_states.specs.Settling.{AreSettled}
use Rattle.pg_states.proofs.Ahead.{AreAhead, next_ahead}
use Rattle.pg_states.proofs.Next.{next_settled}

none_waits : (waits ages : List ℕ) (slot : ℕ) → entry waits slot ≡ 0 → ages_of waits ages slot ≡ []
none_waits [] ages slot e = refl
none_waits (count ∷ waits) ages zero e = ap (λ (n : ℕ). take n ages) e
none_waits (count ∷ waits) ages (suc slot) e = none_waits waits (drop count ages) slot e

no_line : (waits ages before reached : List ℕ) (slot : ℕ) → is_line_empty waits before reached slot ≡ true →
    line_in waits ages before reached slot ≡ []
no_line waits ages before reached slot h =
    let b = both_of (entry waits slot == 0) (nat_le (entry reached slot) (entry before slot)) h in
    let w : entry waits slot ≡ 0 = eqb-true (entry waits slot) 0 b.0 in
    let l : entry reached slot ≤ entry before slot = leb-true (entry reached slot) (entry before slot) b.1 in
    let z : entry reached slot - entry before slot ≡ 0 = omega (arith, l) in
    ap (λ (xs : List ℕ). with_zeros xs (entry reached slot - entry before slot)) (none_waits waits ages slot w)
    ∙ ap (λ (n : ℕ). with_zeros [] n) z

take_none : (n : ℕ) → ◌≡◌ {A = List ℕ} (take n []) []
take_none zero = refl
take_none (suc n) = refl

nothing_behind : (xs : List ℕ) (pages taken : ℕ) → xs ≡ xs ++ later pages (drop taken [])
nothing_behind xs pages taken =
    sym (append-nil xs) ∙ ap (λ (ys : List ℕ). xs ++ later pages ys) (sym (drop-nil taken))

-- one more class of which no float waits and none is called
pub next_empty : (style : StyleValue) (waits ages before reached placed after : List ℕ) (pages slot : ℕ)
    (left : List ℕ) (sum : ℕ) → is_line_empty waits before reached slot ≡ true →
    AreSettled style (line_in waits ages before reached) placed after pages slot left sum →
    AreSettled style (line_in waits ages before reached) placed after pages (slot + 1) left sum
next_empty style waits ages before reached placed after pages slot left sum h s =
    next_settled style (line_in waits ages before reached) placed after pages slot [] (distance_table style slot)
    taken (no_line waits ages before reached slot h) refl refl left left sum 0 sum s
    (ap (are_young (length (distance_table style slot)) pages) (sym (drop-nil taken)))
    (nothing_behind left pages taken) (ap (paid_by (distance_table style slot)) (sym (take_none taken)))
    (omega arith) (omega arith)
  where
    taken : ℕ
    taken = entry after slot - entry placed slot

pub same_ahead : (waits ages before reached : List ℕ) (slot : ℕ) (ahead : List ℕ) →
    is_line_empty waits before reached slot ≡ true → AreAhead waits ages slot ahead →
    AreAhead waits ages (slot + 1) ahead
same_ahead waits ages before reached slot ahead h a =
    let b = both_of (entry waits slot == 0) (nat_le (entry reached slot) (entry before slot)) h in
    next_ahead waits ages slot ahead ahead a
    (ap (λ (n : ℕ). drop n ahead) (sym (eqb-true (entry waits slot) 0 b.0)))
