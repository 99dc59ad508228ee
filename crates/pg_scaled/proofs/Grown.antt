-- Texts that grow.
use Rattle.std.proofs.Common.{◌≡◌, ◌∙◌, sym, ap, ℕ, arith, List, [], ◌++◌, take, length, append_assoc, append-nil, length-append, subst}
use Rattle.std.specs.Prelude.{OnOk, Result, Ok, Err}
use Rattle.std.proofs.lemmas.List.{take-take}
use Rattle.std.proofs.Math.Seq.{take-append_seam}
use Rattle.pg_scaled.specs.Scaled.{Grows}

-- what has grown has grown since before
pub grows_on : (a b c : List ℕ) → Grows a b → Grows b c → Grows a c
grows_on a b c one two = (
  omega (arith, one.0, two.0),
  sym (take-take (length a) (length b) c one.0) ∙ ap (λ (xs : List ℕ). take (length a) xs) two.1 ∙ one.1,
)

pub grown : (old more new : List ℕ) → new ≡ old ++ more → Grows old new
grown old more new e = subst (λ (text : List ℕ). Grows old text) (sym e)
    ((let long = length-append old more in omega (arith, long)), take-append_seam old more)

-- nothing was printed
pub grows_same : (old new : List ℕ) → new ≡ old → Grows old new
grows_same old new e = grown old [] new (e ∙ sym (append-nil old))

-- a text more was printed, or nothing more
pub grows_by : (old mid more new : List ℕ) → Grows old mid → new ≡ mid ++ more → Grows old new
grows_by old mid more new g e = grows_on old mid new g (grown mid more new e)

pub grows_no_more : (old mid new : List ℕ) → Grows old mid → new ≡ mid → Grows old new
grows_no_more old mid new g e = subst (λ (text : List ℕ). Grows old text) (sym e) g

pub on_ok : {T E : Type 0} (r : Result T E) (P Q : Type 0) → (P → Q) → OnOk r P → OnOk r Q
on_ok (Ok x) P Q f p = f p
on_ok (Err e) P Q f p = tt

-- two parts one behind the other
pub two_parts : (old mid new front end : List ℕ) → mid ≡ old ++ front → new ≡ mid ++ end →
    new ≡ old ++ (front ++ end)
two_parts old mid new front end e f = f ∙ ap (λ (text : List ℕ). text ++ end) e ∙ append_assoc old front end

-- the same text in other words
pub on_same : {T E : Type 0} (r : Result T E) (old new text whole : List ℕ) → text ≡ whole →
    OnOk r (new ≡ old ++ text) → OnOk r (new ≡ old ++ whole)
on_same r old new text whole e = on_ok r (new ≡ old ++ text) (new ≡ old ++ whole)
    (λ p. p ∙ ap (λ (more : List ℕ). old ++ more) e)
