-- The ages of floats in the state behind columns are those by their pages.
use Rattle.std.proofs.Common.{◌≡◌, refl, sym, ap, subst, ◌∙◌, ℕ, ◌+◌, ◌-◌, ◌≤◌, ◌<◌, inl, inr, List, [], ◌∷◌, map, length, Bool, true, false, arith}
use Rattle.std.specs.Prelude.{if◌then◌else◌, ◌==◌}
use Rattle.pg_plan.specs.declared.pages.PageMove.{PageMove}
use Rattle.pg_rules.specs.Room.{Document}
use Rattle.pg_rules.specs.Floats.{entry, called, float_numbers}
use Rattle.pg_rules.specs.History.{next_column, next_page, place_of, placed_of, is_called, calling_page}
use Rattle.pg_rules.specs.States.{age, waiting, state_at}
use Rattle.pg_rules.specs.Follow.{is_same_float, age_among, age_in, turns}
use Rattle.law_places.proofs.Among.{Among}
use Rattle.law_columns.proofs.Waiting.{between_of, placed_more}
use Rattle.pg_lemmas.proofs.Bools.{both_of, both, by_bool, if_false, if_true}
use Rattle.std.proofs.lemmas.Bool.{eqb-true}
use Rattle.pg_lemmas.proofs.Numbers.{eq_refl, less_true}

pub same_float : (a b : ℕ × ℕ) → is_same_float a b ≡ true → a ≡ b
same_float (a, b) (c, d) h =
    let t = both_of (a == c) (b == d) h in
    let p : a ≡ c = eqb-true a c t.0 in
    let q : b ≡ d = eqb-true b d t.1 in
    cc

same_itself : (a : ℕ × ℕ) → is_same_float a a ≡ true
same_itself (a, b) = both (a == a) (b == b) (eq_refl a) (eq_refl b)

pub age_found : (g : ℕ × ℕ → ℕ) (xs : List (ℕ × ℕ)) (float : ℕ × ℕ) → Among float xs →
    age_among xs (map g xs) float ≡ g float
age_found g [] float a = absurd a
age_found g (x ∷ xs) float (inl e) =
    if_true (is_same_float x float) (g x) (age_among xs (map g xs) float)
    (subst (λ z. is_same_float x z ≡ true) e (same_itself x)) ∙ ap g e
age_found g (x ∷ xs) float (inr a) =
    by_bool (is_same_float x float)
    (λ t. if_true (is_same_float x float) (g x) (age_among xs (map g xs) float) t ∙ ap g (same_float x float t))
    (λ f. if_false (is_same_float x float) (g x) (age_among xs (map g xs) float) f ∙ age_found g xs float a)

step : (b : Bool) (x c n : ℕ) → (b ≡ true → x ≡ n - c) → (if b then x else 0) ≡ n - (if b then c else n)
step true x c n h = h refl
step false x c n h = omega arith

pub ages_agree : (doc : Document) (m : PageMove) (ms : List PageMove) (float : ℕ × ℕ) →
    float.0 < length (float_numbers doc.style) → entry (placed_of doc.style ms) float.0 ≤ float.1 →
    age_in doc (state_at doc ms) float ≡ next_page doc.style ms - calling_page doc (m ∷ ms) float
ages_agree doc m ms float h p =
    step (is_called doc (place_of ms) float)
    (age_among (waiting doc ms) (map (age doc ms) (waiting doc ms)) float) (calling_page doc ms float)
    (next_page doc.style ms)
    (λ t. age_found (age doc ms) (waiting doc ms) float
    (between_of doc.style (placed_of doc.style ms) (called doc.blocks doc.style (place_of ms)) float
    (record { slot = h; from = p; to = less_true _ _ t })))

page_step : (b : Bool) (c n : ℕ) → c ≤ n → (if b then c else n) ≤ n
page_step true c n h = h
page_step false c n h = omega arith

page_up : (b : Bool) (n : ℕ) → n ≤ (if b then n + 1 else n)
page_up true n = omega arith
page_up false n = omega arith

pub calling_le : (doc : Document) (ms : List PageMove) (float : ℕ × ℕ) →
    calling_page doc ms float ≤ next_page doc.style ms
calling_le doc [] float = omega arith
calling_le doc (m ∷ ms) float =
    let a : (if is_called doc (place_of ms) float then calling_page doc ms float else next_page doc.style ms)
    ≤ next_page doc.style ms = page_step (is_called doc (place_of ms) float) (calling_page doc ms float)
    (next_page doc.style ms) (calling_le doc ms float) in
    let b : next_page doc.style ms
    ≤ (if next_column doc.style ms == doc.style.columns then next_page doc.style ms
    + 1 else next_page doc.style ms) =
    page_up (next_column doc.style ms == doc.style.columns) (next_page doc.style ms) in
    omega arith

turn_step : (b : Bool) (c n : ℕ) → c ≤ n → (if b then n + 1 else n) - c ≡ (n - c) + (if b then 1 else 0)
turn_step true c n h = omega arith
turn_step false c n h = omega arith

-- the age on the next page, of a float that waits behind the column
pub age_turned : (doc : Document) (m : PageMove) (ms : List PageMove) (float : ℕ × ℕ) →
    float.0 < length (float_numbers doc.style) → entry (placed_of doc.style (m ∷ ms)) float.0 ≤ float.1 →
    age_in doc (state_at doc ms) float + turns doc.style (state_at doc ms) ≡ age doc (m ∷ ms) float
age_turned doc m ms float h p =
    let q : entry (placed_of doc.style ms) float.0 ≤ entry (placed_of doc.style (m ∷ ms)) float.0 =
    placed_more doc.style (placed_of doc.style ms) m float.0 h in
    let le : (if is_called doc (place_of ms) float then calling_page doc ms float else next_page doc.style ms)
    ≤ next_page doc.style ms = page_step (is_called doc (place_of ms) float) (calling_page doc ms float)
    (next_page doc.style ms) (calling_le doc ms float) in
    ap (λ (z : ℕ). z + turns doc.style (state_at doc ms)) (ages_agree doc m ms float h (omega arith))
    ∙ sym (turn_step (next_column doc.style ms == doc.style.columns) (calling_page doc (m ∷ ms) float)
    (next_page doc.style ms) le)
