-- Each draft can be completed to an output text.
use Rattle.std.proofs.Common.{◌≡◌, ◌∙◌, refl, sym, ap, subst, arith, ℕ, zero, suc, ◌+◌, ◌-◌, ◌<◌, ◌^◌, Bool, true, false, List, [], ◌∷◌, ◌++◌, length, length-append}
use Rattle.std.specs.Prelude.{codes, decimal, nat_lt, Option, Some, None, pos}
use Rattle.std.specs.Str.{bytes_eq}
use Rattle.std.proofs.lemmas.Fmt.{decimal_digit, decimal_injective}
use Rattle.pg_lemmas.proofs.Bools.{by_bool}
use Rattle.pg_list.specs.Places.{place}
use Rattle.pg_plan.specs.declared.states.Label.{Label}
use Rattle.pg_plan.specs.declared.states.Side.TheVariants.{L}
use Rattle.pg_scan.specs.Parts.{parts_of}
use Rattle.pg_words.specs.InOrder.{place_at, words_of}
use Rattle.pg_words.specs.Read.{number_below, numbers_word, numeral, positive_word, side_word, whole_word, column_word}
use Rattle.pg_labels.specs.Drafts.{◌or_else◌, area_line, area_number, column_line, column_or_later, ends_at, has_all_labels, is_whole, label_line, labels_line, none_line, numbers_line, page_line, point_line, said, step, step_at, wide_line}
use Rattle.pg_labels.specs.LabelLines.{count_of, label_from, label_front, label_of, label_rest}
use Rattle.pg_labels.specs.PageLines.{column_of, column_words, page_of, page_words, set_of, set_words, without_of}
use Rattle.pg_labels.specs.declared.draft.Draft.{Draft}
use Rattle.pg_labels.specs.declared.draft.Stands.{Stands}
use Rattle.pg_labels.specs.declared.draft.Stands.TheVariants.{Start, NoneLegal, Head, Begun, ColumnBegun, GoesOn, Labels}
use Rattle.law_words.proofs.Blanks.{any_decimal_lacks}
use Rattle.law_words.proofs.Cut.{AllLack, lacks, lacks_append, part_here}
use Rattle.law_words.proofs.Equal.{bytes_same, same_bytes}
use Rattle.law_readers.proofs.Counted.{AreFew}
use Rattle.law_readers.proofs.Taken.{Takes}

-- lines without line feeds follow, and nothing is left to say behind them
abbrev pub Completes : Draft → Type 0
Completes d = (more : List (List ℕ)) × (e : Draft) × Takes d more e × (is_whole e ≡ true) × AllLack 10 more

behind_line : (d it : Draft) (line : List ℕ) → step d line ≡ Some it → lacks 10 line ≡ true → Completes it →
    Completes d
behind_line d it line is lack (more, e, taken, whole, all) = (line ∷ more, e, (it, is, taken), whole, (lack, all))

step_is : (stands : Stands) (d : Draft) (line : List ℕ) (o : Option Draft) → d.stands ≡ stands →
    step_at stands d line ≡ o → step d line ≡ o
unfolding step
step_is stands d line o at e = ap (λ (s : Stands). step_at s d line) at ∙ e

-- ---- the labels that are left

-- the end of the line of a label at the front of the galley
rest_of : Bool → List ℕ
rest_of false = codes "0 0 0 1 L - - - - 0"
rest_of true = codes "0 0 0 1 L - - - - - 0"

line_of : Bool → ℕ → List ℕ
line_of fitness number = codes "label" ++ 32 ∷ (decimal number ++ 32 ∷ rest_of fitness)

a_label : Label
a_label = record {
  state = record {
    place = place 0 0 0;
    column = 1;
    side = L;
    run = None;
    wide = None;
    fitness = None;
    placed = [];
    ages = [];
  };
  cost = pos 0;
}

line_words : (fitness : Bool) (number : ℕ) →
    words_of (line_of fitness number) ≡ codes "label" ∷ decimal number ∷ words_of (rest_of fitness)
unfolding line_of
line_words fitness number = part_here 32 (codes "label") (decimal number ++ 32 ∷ rest_of fitness) refl
    ∙ ap (λ (words : List (List ℕ)). codes "label" ∷ words)
    (part_here 32 (decimal number) (rest_of fitness) (any_decimal_lacks 32 number (omega arith)))

line_lacks : (fitness : Bool) (number : ℕ) → lacks 10 (line_of fitness number) ≡ true
unfolding line_of rest_of
line_lacks false number = lacks_append 10 (decimal number) (32 ∷ codes "0 0 0 1 L - - - - 0")
    (any_decimal_lacks 10 number (omega arith)) refl
line_lacks true number = lacks_append 10 (decimal number) (32 ∷ codes "0 0 0 1 L - - - - - 0")
    (any_decimal_lacks 10 number (omega arith)) refl

words_say : (fitness : Bool) (number : ℕ) →
    label_of fitness number (codes "label" ∷ decimal number ∷ words_of (rest_of fitness)) ≡ Some a_label
unfolding label_of label_front label_rest label_from place_at number_below numeral numbers_word positive_word side_word whole_word column_word parts_of rest_of a_label
words_say false number = rw (same_bytes (decimal number)) refl
words_say true number = rw (same_bytes (decimal number)) refl

line_says : (fitness : Bool) (number : ℕ) → label_of fitness number (words_of (line_of fitness number)) ≡ Some a_label
line_says fitness number = ap (label_of fitness number) (line_words fitness number) ∙ words_say fitness number

-- fewer labels than were said
lacks_labels : (d : Draft) (left : ℕ) → d.count ≡ decimal (length d.labels + suc left) →
    length d.labels + suc left < 2 ^ 64 → has_all_labels d ≡ false
lacks_labels d left is small = by_bool (has_all_labels d)
    (λ all. absurd (let same : length d.labels ≡ length d.labels + suc left =
    decimal_injective (length d.labels) (length d.labels + suc left) (omega (arith, small)) small
    (bytes_same (decimal (length d.labels)) d.count all ∙ is) in omega (arith, same))) (λ e. e)

one_label : (fitness : Bool) (d : Draft) (line : List ℕ) (label : Label) → has_all_labels d ≡ false →
    label_of fitness (length d.labels + 1) (words_of line) ≡ Some label →
    label_line fitness d line ≡ Some (record d { labels = d.labels ++ label ∷ [] })
unfolding label_line
one_label fitness d line label few says = rw (few, says) refl

whole_at : (d : Draft) (fitness : Bool) → d.stands ≡ Labels fitness → d.count ≡ decimal (length d.labels) →
    is_whole d ≡ true
whole_at d fitness at is = subst (λ (s : Stands). ends_at s d ≡ true) (sym at)
    (subst (λ (count : List ℕ). bytes_eq (decimal (length d.labels)) count ≡ true) (sym is)
    (same_bytes (decimal (length d.labels))))

labels_left : (left : ℕ) (d : Draft) (fitness : Bool) → d.stands ≡ Labels fitness →
    d.count ≡ decimal (length d.labels + left) → length d.labels + left < 2 ^ 64 → Completes d
labels_left zero d fitness at is small =
    let sum : length d.labels + 0 ≡ length d.labels = omega arith in
    ([], d, refl, whole_at d fitness at (is ∙ ap decimal sum), tt)
labels_left (suc left) d fitness at is small =
    let long : length (d.labels ++ a_label ∷ []) ≡ length d.labels + 1 = length-append d.labels (a_label ∷ []) in
    let sum : length d.labels + suc left ≡ length (d.labels ++ a_label ∷ []) + left = omega (arith, long) in
    behind_line d (record d { labels = d.labels ++ a_label ∷ [] }) (line_of fitness (length d.labels + 1))
    (step_is (Labels fitness) d (line_of fitness (length d.labels + 1)) _ at
    (one_label fitness d (line_of fitness (length d.labels + 1)) a_label (lacks_labels d left is small)
    (line_says fitness (length d.labels + 1)))) (line_lacks fitness (length d.labels + 1))
    (labels_left left (record d { labels = d.labels ++ a_label ∷ [] }) fitness at (is ∙ ap decimal sum)
    (omega (arith, sum, small)))

-- ---- in front of the labels

zero_line : List ℕ
zero_line = codes "labels 0"

-- no labels follow
no_labels : (d : Draft) → d.labels ≡ [] →
    step d zero_line ≡ Some (record d { stands = Labels false; count = codes "0" }) → Completes d
unfolding zero_line
no_labels d none is =
    let empty : length d.labels + 0 ≡ 0 = let e = ap length none in omega (arith, e) in
    behind_line d (record d { stands = Labels false; count = codes "0" }) (codes "labels 0") is refl
    (labels_left 0 (record d { stands = Labels false; count = codes "0" }) false refl
    (sym (ap decimal empty ∙ decimal_digit 0 (omega arith))) (omega (arith, empty)))

-- the line is one of labels wherever such a line may stand
zero_says : (d : Draft) → labels_line d zero_line ≡ Some (record d { stands = Labels false; count = codes "0" })
unfolding labels_line count_of numeral parts_of zero_line
zero_says d = refl

no_page : (d : Draft) → page_line d zero_line ≡ None
unfolding page_line page_of page_words parts_of zero_line
no_page d = refl

no_column : (d : Draft) → column_line d zero_line ≡ None
unfolding column_line column_of column_words parts_of zero_line
no_column d = refl

no_area : (d : Draft) (next : ℕ) → area_line d next zero_line ≡ None
unfolding area_line area_number zero_line
no_area d next = refl

no_wide : (d : Draft) (has_wide : Bool) → wide_line has_wide d zero_line ≡ None
unfolding wide_line zero_line
no_wide d true = refl
no_wide d false = refl

no_point : (d : Draft) (in_area : Bool) → point_line in_area d zero_line ≡ None
unfolding zero_line
no_point d true = refl
no_point d false = refl

-- a line that is the last of several kinds
last_kind : (o p : Option Draft) (e : Draft) → o ≡ None → p ≡ Some e → (o or_else p) ≡ Some e
last_kind None p e none is = is
last_kind (Some x) p e none is = absurd cc

none_kind : (o p : Option Draft) → o ≡ None → p ≡ None → (o or_else p) ≡ None
none_kind None p none is = is
none_kind (Some x) p none is = absurd cc

behind_page : (d : Draft) →
    column_or_later d zero_line ≡ Some (record d { stands = Labels false; count = codes "0" })
behind_page d = last_kind (column_line d zero_line) _ _ (no_column d)
    (last_kind (page_line d zero_line) _ _ (no_page d) (zero_says d))

-- behind the numbers of a column
behind_numbers : (d : Draft) (next : ℕ) → d.stands ≡ GoesOn next → d.labels ≡ [] → Completes d
behind_numbers d next at none = no_labels d none (step_is (GoesOn next) d zero_line _ at
    (last_kind (point_line (nat_lt 0 next) d zero_line or_else area_line d next zero_line) _ _
    (none_kind (point_line (nat_lt 0 next) d zero_line) (area_line d next zero_line) (no_point d (nat_lt 0 next))
    (no_area d next)) (behind_page d)))

without_line : List ℕ
without_line = codes "without text demerits 0"

without_says : (d : Draft) → numbers_line d without_line ≡ Some (said d without_line (GoesOn 0))
unfolding numbers_line set_of set_words without_of whole_word positive_word numeral parts_of without_line
without_says d = refl

illegal_line : List ℕ
illegal_line = codes "no legal pagination"

illegal_says : (d : Draft) → none_line d illegal_line ≡ Some (said d illegal_line NoneLegal)
unfolding none_line illegal_line
illegal_says d = refl

first_kind : (o p : Option Draft) (e : Draft) → o ≡ Some e → (o or_else p) ≡ Some e
first_kind None p e is = absurd cc
first_kind (Some x) p e is = is

pub completes : (stands : Stands) (d : Draft) → d.stands ≡ stands → AreFew stands d → Completes d
unfolding without_line illegal_line
completes Start d at none =
    behind_line d (said d (codes "no legal pagination") NoneLegal) (codes "no legal pagination")
    (step_is Start d (codes "no legal pagination") _ at (first_kind (none_line d (codes "no legal pagination")) _ _
    (illegal_says d))) refl
    (no_labels (said d (codes "no legal pagination") NoneLegal) none
    (step_is NoneLegal (said d (codes "no legal pagination") NoneLegal) zero_line _ refl (zero_says _)))
completes NoneLegal d at none = no_labels d none (step_is NoneLegal d zero_line _ at (zero_says d))
completes Head d at none = no_labels d none (step_is Head d zero_line _ at
    (last_kind (page_line d zero_line) _ _ (no_page d) (zero_says d)))
completes (Begun has_wide) d at none = no_labels d none (step_is (Begun has_wide) d zero_line _ at
    (last_kind (point_line has_wide d zero_line or_else wide_line has_wide d zero_line) _ _
    (none_kind (point_line has_wide d zero_line) (wide_line has_wide d zero_line) (no_point d has_wide)
    (no_wide d has_wide)) (behind_page d)))
completes ColumnBegun d at none =
    behind_line d (said d (codes "without text demerits 0") (GoesOn 0)) (codes "without text demerits 0")
    (step_is ColumnBegun d (codes "without text demerits 0") _ at (without_says d)) refl
    (behind_numbers (said d (codes "without text demerits 0") (GoesOn 0)) 0 refl none)
completes (GoesOn next) d at none = behind_numbers d next at none
completes (Labels fitness) d at (count, is, few, small) =
    let sum : count ≡ length d.labels + (count - length d.labels) = omega (arith, few) in
    labels_left (count - length d.labels) d fitness at (is ∙ ap decimal sum) (omega (arith, sum, small))
