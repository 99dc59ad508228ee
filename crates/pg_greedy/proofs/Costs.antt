-- What a break costs that neither is over nor ejects the page.
use Rattle.std.proofs.Common.{◌≡◌, ◌∙◌, sym, ap, ℕ, Bool, true, false, pos, negsuc}
use Rattle.std.specs.Prelude.{ℤ, ◌||◌, ◌+ℤ◌, int_le, nat_lt, if◌then◌else◌}
use Rattle.std.proofs.lemmas.Bool.{cond-true, cond-false}
use Rattle.pg_list.specs.Badness.{fill_badness, is_over}
use Rattle.pg_greedy.specs.Breaks.{cost_by}

pub cost_fair : (over : Bool) (penalty : ℤ) (badness : ℕ) (sum : ℤ) → over ≡ false →
    int_le penalty (negsuc 9999) ≡ false → nat_lt badness 10000 ≡ true →
    sum ≡ pos badness +ℤ penalty → sum ≡ cost_by over penalty badness
cost_fair over penalty badness sum o e b s =
    s ∙ sym (cond-false over (pos 1073741823) (if int_le penalty (negsuc 9999) then penalty
    else (if nat_lt badness 10000 then pos badness +ℤ penalty else pos 100000)) o
    ∙ (cond-false (int_le penalty (negsuc 9999)) penalty
    (if nat_lt badness 10000 then pos badness +ℤ penalty else pos 100000) e
    ∙ cond-true (nat_lt badness 10000) (pos badness +ℤ penalty) (pos 100000) b))

-- ---- the same of equal parts

pub sum_same : {a a' b b' : ℤ} → a ≡ a' → b ≡ b' → a +ℤ b ≡ a' +ℤ b'
sum_same p q = cc

pub over_same : (whole : ℤ) {s s' g g' : ℤ} → s ≡ s' → g ≡ g' → is_over whole s g ≡ is_over whole s' g'
over_same whole {s} {s'} {g} {g'} p q = ap (λ (z : ℤ). is_over whole z g) p ∙ ap (is_over whole s') q

pub badness_same : (spent : Bool) (whole : ℤ) (infinite : Bool) {g g' m m' l l' : ℤ} → g ≡ g' → m ≡ m' → l ≡ l' →
    fill_badness spent g whole infinite m l ≡ fill_badness spent g' whole infinite m' l'
badness_same spent whole infinite {g} {g'} {m} {m'} {l} {l'} p q r =
    ap (λ (z : ℤ). fill_badness spent z whole infinite m l) p
    ∙ (ap (λ (z : ℤ). fill_badness spent g' whole infinite z l) q ∙ ap (fill_badness spent g' whole infinite m') r)

pub cost_same : {o o' : Bool} {p p' : ℤ} {b b' : ℕ} → o ≡ o' → p ≡ p' → b ≡ b' → cost_by o p b ≡ cost_by o' p' b'
cost_same {o} {o'} {p} {p'} {b} {b'} e f g =
    ap (λ (x : Bool). cost_by x p b) e ∙ (ap (λ (z : ℤ). cost_by o' z b) f ∙ ap (cost_by o' p') g)

pub stops_same : {o o' : Bool} {p p' : ℤ} → o ≡ o' → p ≡ p' →
    (o || int_le p (negsuc 9999)) ≡ (o' || int_le p' (negsuc 9999))
stops_same {o} {o'} {p} {p'} e f =
    ap (λ (x : Bool). x || int_le p (negsuc 9999)) e ∙ ap (λ (z : ℤ). o' || int_le z (negsuc 9999)) f
