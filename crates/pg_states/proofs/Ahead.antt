-- The ages of a class and of those behind it.
use Rattle.std.proofs.Common.{◌≡◌, refl, sym, ap, ◌∙◌, ℕ, zero, suc, ◌+◌, List, [], ◌∷◌, take, drop, arith}
use Rattle.std.proofs.Math.Seq.{drop-nil}
use Rattle.pg_floats.specs.History.{ages_of}
use Rattle.pg_rules.specs.Floats.{entry}
use Rattle.pg_states.specs.Lines.{with_zeros}

-- among these ages each class from one on has those that it has among all
abbrev pub AreAhead : List ℕ → List ℕ → ℕ → List ℕ → Type 0
AreAhead waits ages slot ahead = (k : ℕ) → ages_of waits ages (slot + k) ≡ ages_of (drop slot waits) ahead k

first_of : (waits ages : List ℕ) → ages_of waits ages 0 ≡ take (entry waits 0) ages
first_of [] ages = refl
first_of (count ∷ waits) ages = refl

later_of : (waits ages : List ℕ) (k : ℕ) →
    ages_of waits ages (suc k) ≡ ages_of (drop 1 waits) (drop (entry waits 0) ages) k
later_of [] ages k = refl
later_of (count ∷ waits) ages k = refl

entry_ahead : (waits : List ℕ) (slot : ℕ) → entry (drop slot waits) 0 ≡ entry waits slot
entry_ahead [] zero = refl
entry_ahead [] (suc slot) = refl
entry_ahead (count ∷ waits) zero = refl
entry_ahead (count ∷ waits) (suc slot) = entry_ahead waits slot

one_less : (waits : List ℕ) (slot : ℕ) → drop 1 (drop slot waits) ≡ drop (slot + 1) waits
one_less [] zero = refl
one_less [] (suc slot) = sym (drop-nil (suc slot + 1))
one_less (count ∷ waits) zero = refl
one_less (count ∷ waits) (suc slot) =
    let e : suc (slot + 1) ≡ suc slot + 1 = omega arith in
    one_less waits slot ∙ ap (λ (n : ℕ). drop n (count ∷ waits)) e

own_ages : (waits ages : List ℕ) (slot : ℕ) (ahead : List ℕ) → AreAhead waits ages slot ahead →
    ages_of waits ages slot ≡ take (entry waits slot) ahead
own_ages waits ages slot ahead h =
    let z : slot ≡ slot + 0 = omega arith in
    ap (ages_of waits ages) z ∙ (h 0 ∙ (first_of (drop slot waits) ahead
    ∙ ap (λ (n : ℕ). take n ahead) (entry_ahead waits slot)))

-- the floats of the next class
pub own_line : (waits ages : List ℕ) (slot : ℕ) (ahead own : List ℕ) (fresh : ℕ) → AreAhead waits ages slot ahead →
    own ≡ with_zeros (take (entry waits slot) ahead) fresh → with_zeros (ages_of waits ages slot) fresh ≡ own
own_line waits ages slot ahead own fresh h e =
    ap (λ (xs : List ℕ). with_zeros xs fresh) (own_ages waits ages slot ahead h) ∙ sym e

pub next_ahead : (waits ages : List ℕ) (slot : ℕ) (ahead next : List ℕ) → AreAhead waits ages slot ahead →
    next ≡ drop (entry waits slot) ahead → AreAhead waits ages (slot + 1) next
next_ahead waits ages slot ahead next h e k =
    let s : slot + 1 + k ≡ slot + suc k = omega arith in
    ap (ages_of waits ages) s ∙ (h (suc k) ∙ (later_of (drop slot waits) ahead k
    ∙ (ap (λ (ws : List ℕ). ages_of ws (drop (entry (drop slot waits) 0) ahead) k) (one_less waits slot)
    ∙ (ap (λ (n : ℕ). ages_of (drop (slot + 1) waits) (drop n ahead) k) (entry_ahead waits slot)
    ∙ ap (λ (xs : List ℕ). ages_of (drop (slot + 1) waits) xs k) (sym e)))))
