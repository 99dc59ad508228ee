-- Texts that grow.
use Rattle.std.proofs.Common.{◌≡◌, ◌∙◌, sym, ap, ℕ, List, [], ◌++◌, append_assoc, append-nil}
use Rattle.std.specs.Prelude.{OnOk, Result}
use Rattle.pg_scaled.specs.Scaled.{Grows}
pub use Rattle.pg_scaled.proofs.Grown.{grown, grows_on, on_ok, on_same, two_parts}

-- nothing was printed
pub grows_same : (text : List ℕ) → Grows text text
grows_same text = grown text [] text (sym (append-nil text))

-- three parts, and four, one behind the other
pub grows_three : (a b c d : List ℕ) → Grows a b → Grows b c → Grows c d → Grows a d
grows_three a b c d one two three = grows_on a c d (grows_on a b c one two) three

pub grows_four : (a b c d e : List ℕ) → Grows a b → Grows b c → Grows c d → Grows d e → Grows a e
grows_four a b c d e one two three four = grows_on a d e (grows_three a b c d one two three) four

-- two parts one behind the other, where the second may be refused
pub on_two : {T E : Type 0} (r : Result T E) (old mid new front end : List ℕ) → mid ≡ old ++ front →
    OnOk r (new ≡ mid ++ end) → OnOk r (new ≡ old ++ (front ++ end))
on_two r old mid new front end e = on_ok r (new ≡ mid ++ end) (new ≡ old ++ (front ++ end))
    (λ f. two_parts old mid new front end e f)

-- three parts, of which the last may be refused
pub on_three : {T E : Type 0} (r : Result T E) (old a b new first second third : List ℕ) → a ≡ old ++ first →
    b ≡ a ++ second → OnOk r (new ≡ b ++ third) → OnOk r (new ≡ old ++ (first ++ second ++ third))
on_three r old a b new first second third p q =
    on_two r old b new (first ++ second) third (two_parts old a b first second p q)

-- what is printed, and what is still ahead
pub carried : (out new part more ahead whole : List ℕ) → new ≡ out ++ part → part ++ more ≡ ahead → out ++ ahead ≡ whole →
    new ++ more ≡ whole
carried out new part more ahead whole e f g = ap (λ (text : List ℕ). text ++ more) e ∙ append_assoc out part more
    ∙ ap (λ (text : List ℕ). out ++ text) f ∙ g
