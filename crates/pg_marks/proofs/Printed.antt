-- The text of heads, one more at its end.
use Rattle.std.proofs.Common.{◌≡◌, sym, ap, ◌∙◌, ℕ, suc, ◌+◌, ◌<◌, List, [], ◌∷◌, ◌++◌, length, take, get_or, append_assoc, append-nil, length-take, arith}
use Rattle.pg_lemmas.proofs.Lists.{one_more}
use Rattle.pg_marks.specs.HeadsText.{head_line, heads_text}
use Rattle.pg_marks.specs.declared.lists.Head.{Head}

last_head : (n : ℕ) (xs : List Head) (x : Head) →
    heads_text n (xs ++ x ∷ []) ≡ heads_text n xs ++ head_line (n + length xs) x
last_head n [] x = let e : n ≡ n + 0 = omega arith in append-nil (head_line n x) ∙ ap (λ k. head_line k x) e
last_head n (y ∷ ys) x =
    let e : (n + 1) + length ys ≡ n + suc (length ys) = omega arith in
    ap (λ text. head_line n y ++ text) (last_head (n + 1) ys x ∙ ap (λ k. heads_text (n + 1) ys ++ head_line k x) e)
    ∙ sym (append_assoc (head_line n y) (heads_text (n + 1) ys) (head_line (n + suc (length ys)) x))

pub text_more : (heads : List Head) (i : ℕ) (x : Head) (number : ℕ) (old before after : List ℕ) →
    i < length heads → x ≡ get_or heads i x → number ≡ i →
    before ≡ old ++ heads_text 1 (take i heads) → after ≡ before ++ head_line (number + 1) x →
    after ≡ old ++ heads_text 1 (take (i + 1) heads)
text_more heads i x number old before after within is n b a =
    let taken = length-take i heads in
    let same : number + 1 ≡ 1 + length (take i heads) = omega (arith, taken, n, within) in
    a ∙ (ap (λ text. text ++ head_line (number + 1) x) b
    ∙ (append_assoc old (heads_text 1 (take i heads)) (head_line (number + 1) x)
    ∙ ap (λ text. old ++ text) (ap (λ k. heads_text 1 (take i heads) ++ head_line k x) same
    ∙ (sym (last_head 1 (take i heads) x) ∙ ap (heads_text 1) (sym (one_more heads i x within is))))))
