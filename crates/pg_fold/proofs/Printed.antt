-- The text of sheets, one more at its end.
use Rattle.std.proofs.Common.{◌≡◌, sym, ap, ◌∙◌, ℕ, suc, ◌+◌, ◌<◌, List, [], ◌∷◌, ◌++◌, length, take, get_or, append_assoc, append-nil, length-take, arith}
use Rattle.pg_lemmas.proofs.Lists.{one_more}
use Rattle.pg_fold.specs.SheetsText.{sheet_lines, sheets_text}
use Rattle.pg_fold.specs.declared.sheets.Sheet.{Sheet}

last_sheet : (n : ℕ) (xs : List Sheet) (x : Sheet) →
    sheets_text n (xs ++ x ∷ []) ≡ sheets_text n xs ++ sheet_lines (n + length xs) x
last_sheet n [] x = let e : n ≡ n + 0 = omega arith in append-nil (sheet_lines n x) ∙ ap (λ k. sheet_lines k x) e
last_sheet n (y ∷ ys) x =
    let e : (n + 1) + length ys ≡ n + suc (length ys) = omega arith in
    ap (λ text. sheet_lines n y ++ text) (last_sheet (n + 1) ys x
    ∙ ap (λ k. sheets_text (n + 1) ys ++ sheet_lines k x) e)
    ∙ sym (append_assoc (sheet_lines n y) (sheets_text (n + 1) ys) (sheet_lines (n + suc (length ys)) x))

pub text_more : (sheets : List Sheet) (i : ℕ) (x : Sheet) (number : ℕ) (old before after : List ℕ) →
    i < length sheets → x ≡ get_or sheets i x → number ≡ i →
    before ≡ old ++ sheets_text 1 (take i sheets) → after ≡ before ++ sheet_lines (number + 1) x →
    after ≡ old ++ sheets_text 1 (take (i + 1) sheets)
text_more sheets i x number old before after within is n b a =
    let taken = length-take i sheets in
    let same : number + 1 ≡ 1 + length (take i sheets) = omega (arith, taken, n, within) in
    a ∙ (ap (λ text. text ++ sheet_lines (number + 1) x) b
    ∙ (append_assoc old (sheets_text 1 (take i sheets)) (sheet_lines (number + 1) x)
    ∙ ap (λ text. old ++ text) (ap (λ k. sheets_text 1 (take i sheets) ++ sheet_lines k x) same
    ∙ (sym (last_sheet 1 (take i sheets) x) ∙ ap (sheets_text 1) (sym (one_more sheets i x within is))))))
