-- The text of labels, one more at its end.
use Rattle.std.proofs.Common.{◌≡◌, sym, ap, ◌∙◌, ℕ, suc, ◌+◌, ◌<◌, Bool, List, [], ◌∷◌, ◌++◌, length, take, get_or, append_assoc, arith}
use Rattle.std.proofs.lemmas.List.{length-take, append-nil}
use Rattle.pg_lemmas.proofs.Lists.{one_more}
use Rattle.pg_plan.specs.declared.states.Label.{Label}
use Rattle.pg_labels.specs.LabelText.{label_line, labels_from}

from_more : (fitness : Bool) (n : ℕ) (xs : List Label) (x : Label) →
    labels_from fitness n (xs ++ x ∷ []) ≡ labels_from fitness n xs ++ label_line fitness (n + length xs) x
from_more fitness n [] x = let e : n + 0 ≡ n = omega arith in append-nil (label_line fitness n x)
    ∙ ap (λ (k : ℕ). label_line fitness k x) (sym e)
from_more fitness n (y ∷ ys) x =
    let e : n + 1 + length ys ≡ n + suc (length ys) = omega arith in
    ap (λ (z : List ℕ). label_line fitness n y ++ z) (from_more fitness (n + 1) ys x)
    ∙ (sym (append_assoc (label_line fitness n y) (labels_from fitness (n + 1) ys)
    (label_line fitness (n + 1 + length ys) x))
    ∙ ap (λ (k : ℕ). label_line fitness n y ++ labels_from fitness (n + 1) ys ++ label_line fitness k x) e)

pub text_more : (fitness : Bool) (labels : List Label) (i : ℕ) (x : Label) (number : ℕ)
    (old head before after : List ℕ) → i < length labels → x ≡ get_or labels i x → number ≡ i + 1 →
    before ≡ old ++ (head ++ labels_from fitness 1 (take i labels)) →
    after ≡ before ++ label_line fitness number x → after ≡ old ++ (head ++ labels_from fitness 1 (take (i + 1) labels))
text_more fitness labels i x number old head before after within is n b a =
    let taken = length-take i labels in
    let same : number ≡ 1 + length (take i labels) = omega (arith, taken) in
    a ∙ ap (λ (z : List ℕ). z ++ label_line fitness number x) b
    ∙ append_assoc old (head ++ labels_from fitness 1 (take i labels)) (label_line fitness number x)
    ∙ ap (λ (z : List ℕ). old ++ z) (append_assoc head (labels_from fitness 1 (take i labels))
    (label_line fitness number x)
    ∙ ap (λ (z : List ℕ). head ++ z)
    (ap (λ (k : ℕ). labels_from fitness 1 (take i labels) ++ label_line fitness k x) same
    ∙ sym (from_more fitness 1 (take i labels) x)
    ∙ ap (labels_from fitness 1) (sym (one_more labels i x within is))))
