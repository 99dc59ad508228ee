-- What is too short for one room is too short for each greater one.
use Rattle.std.proofs.Common.{◌≡◌, refl, sym, ap, ◌∙◌, ℕ, ◌+◌, ◌*◌, ◌≤◌, ◌<◌, arith, Bool, true, false, Option, Some, None, IfSome, ℤ, pos, negsuc, ◌≤ℤ◌, ◌<ℤ◌, ◌+ℤ◌, ◌-ℤ◌, ◌^◌}
use Rattle.std.specs.Prelude.{◌/◌, ◌==◌, ◌&&◌, ◌||◌, not, if◌then◌else◌, int_le, int_lt, nat_abs, nat_le, nat_lt, unwrap_or}
use Rattle.std.proofs.lemmas.Int.{ints}
use Rattle.std.proofs.lemmas.Nat.{le-div, mul-le}
use Rattle.std.proofs.Math.Nat.{div-mul-le_self, mul-le-mul_left}
use Rattle.pg_breaks.specs.Near.{place_forced, place_spent}
use Rattle.pg_column.specs.Numbers.{badness_for, give_by, goal_by, most_room}
use Rattle.pg_column.specs.declared.cost.TextRoom.{TextRoom}
use Rattle.pg_notes.specs.NotesValue.{skips}
use Rattle.pg_style.specs.Values.{StyleValue}
use Rattle.pg_style.specs.declared.style.Give.{Give}
use Rattle.pg_column.specs.Passed.{fits}
use Rattle.pg_list.specs.Badness.{badness, cubed, is_over, ratio}
use Rattle.pg_lemmas.proofs.Bools.{if_false, if_true}
use Rattle.pg_rules.specs.Room.{Document}
use Rattle.pg_sums.specs.Step.{badness_by, has_infinite}
use Rattle.pg_sums.specs.declared.totals.Totals.{Totals}
use Rattle.law_walk.specs.Candidates.{Candidate, cost_in, is_over_in, keeps_text}
use Rattle.pg_candidates.specs.Nears.{IsWithin, IsWorst, IsWorstGoal}

-- ---- the badness

div_up : (a b s : ℕ) → 0 < s → a ≤ b → a / s ≤ b / s
div_up a b s h le =
    let q = div-mul-le_self a s in le-div (a / s) b s h (omega (arith, q, le))

-- a ratio up to 1290 is at most 8190 bad
mild : (r : ℕ) → r ≤ 1290 → (r * r * r + 131072) / 262144 < 10000
mild r h =
    let two : r * r ≤ 1664100 = grind (arith, h) in
    let three : r * r * r ≤ 2146689000 = grind (arith, h, two) in
    let q = div-mul-le_self (r * r * r + 131072) 262144 in omega (arith, q, three)

worst : (r : ℕ) → cubed r ≡ 10000 → 1290 < r
worst r e = by (nat_lt 1290 r) refl
  where
    by : (b : Bool) → nat_lt 1290 r ≡ b → 1290 < r
    by true t = grind arith
    by false t =
        let le : r ≤ 1290 = grind arith in
        let m = mild r le in
        let same = sym (if_false (nat_lt 1290 r) 10000 ((r * r * r + 131072) / 262144) t) ∙ e in
        absurd (omega (arith, m, same))

cubed_past : (r : ℕ) → 1290 < r → cubed r ≡ 10000
cubed_past r h = if_true (nat_lt 1290 r) 10000 ((r * r * r + 131072) / 262144) (grind (arith, h))

-- over the three cases of a ratio
ratio_up : (t u s : ℕ) → 0 < s → t ≤ u → 1290 < ratio t s → 1290 < ratio u s
ratio_up t u s pos_s le h = by (nat_le t 7230584) (nat_le u 7230584) (nat_le 1663497 s) refl refl refl h
  where
    by : (a b c : Bool) → nat_le t 7230584 ≡ a → nat_le u 7230584 ≡ b → nat_le 1663497 s ≡ c →
        1290 < (if a then t * 297 / s else (if c then t / (s / 297) else t)) →
        1290 < (if b then u * 297 / s else (if c then u / (s / 297) else u))
    by true true c p q r h = let d = div_up (t * 297) (u * 297) s pos_s (omega (arith, le)) in omega (arith, d, h)
    by false true c p q r h =
        let a : 7230584 < t = grind arith in
        let b : u ≤ 7230584 = grind arith in absurd (omega (arith, a, b, le))
    by true false true p q r h =
        let a : t ≤ 7230584 = grind arith in
        let b : 1663497 ≤ s = grind arith in
        let m = div-mul-le_self (t * 297) s in
        let n : 1291 * s ≤ t * 297 / s * s = mul-le 1291 s (t * 297 / s) s h (omega arith) in
        absurd (omega (arith, a, b, m, n))
    by true false false p q r h = let b : 7230584 < u = grind arith in omega (arith, b)
    by false false true p q r h =
        let b : 1663497 ≤ s = grind arith in
        let d = div_up t u (s / 297) (le-div 1 s 297 (omega arith) (omega (arith, b))) le in omega (arith, d, h)
    by false false false p q r h = let b : 7230584 < u = grind arith in omega (arith, b)

worse_nat : (t u s : ℕ) → t ≤ u → badness (pos t) (pos s) ≡ 10000 → badness (pos u) (pos s) ≡ 10000
worse_nat t u s le e = by (t == 0) (u == 0) (s == 0) refl refl refl e
  where
    by : (a b c : Bool) → (t == 0) ≡ a → (u == 0) ≡ b → (s == 0) ≡ c →
        (if a then 0 else (if c then 10000 else cubed (ratio t s))) ≡ 10000 →
        (if b then 0 else (if c then 10000 else cubed (ratio u s))) ≡ 10000
    by true b c p q r e = absurd cc
    by false true c p q r e =
        let a : t ≡ 0 → ⊥ = grind arith in
        let z : u ≡ 0 = grind arith in absurd (a (omega (arith, z, le)))
    by false false true p q r e = refl
    by false false false p q r e =
        let h : 0 < s = grind arith in cubed_past (ratio u s) (ratio_up t u s h le (worst (ratio t s) e))

worse_neg : (t u s : ℕ) → t ≤ u → badness (pos t) (negsuc s) ≡ 10000 → badness (pos u) (negsuc s) ≡ 10000
worse_neg t u s le e = by (t == 0) (u == 0) refl refl e
  where
    by : (a b : Bool) → (t == 0) ≡ a → (u == 0) ≡ b → ◌≡◌ {A = ℕ} (if a then 0 else 10000) 10000 →
        ◌≡◌ {A = ℕ} (if b then 0 else 10000) 10000
    by true b p q e = absurd cc
    by false true p q e =
        let a : t ≡ 0 → ⊥ = grind arith in
        let z : u ≡ 0 = grind arith in absurd (a (omega (arith, z, le)))
    by false false p q e = refl

-- more to fill is no less bad
pub worse : (t u s : ℤ) → t ≤ℤ u → badness t s ≡ 10000 → badness u s ≡ 10000
worse (pos t) (pos u) (pos s) le e = worse_nat t u s (omega (arith, ints, le)) e
worse (pos t) (pos u) (negsuc s) le e = worse_neg t u s (omega (arith, ints, le)) e
worse (pos t) (negsuc u) s le e = absurd (omega (arith, ints, le))
worse (negsuc t) u s le e = absurd cc

-- ---- less to fill it with

div_down : (a s r : ℕ) → 0 < r → r ≤ s → a / s ≤ a / r
div_down a s r h le =
    let q = div-mul-le_self a s in
    let m : a / s * r ≤ a / s * s = mul-le-mul_left (a / s) le in
    le-div (a / s) a r h (omega (arith, q, m))

ratio_stiff : (t s r : ℕ) → 0 < r → r ≤ s → 1290 < ratio t s → 1290 < ratio t r
ratio_stiff t s r some le h = by (nat_le t 7230584) (nat_le 1663497 s) (nat_le 1663497 r) refl refl refl h
  where
    by : (a b c : Bool) → nat_le t 7230584 ≡ a → nat_le 1663497 s ≡ b → nat_le 1663497 r ≡ c →
        1290 < (if a then t * 297 / s else (if b then t / (s / 297) else t)) →
        1290 < (if a then t * 297 / r else (if c then t / (r / 297) else t))
    by true b c p q o h = let d = div_down (t * 297) s r some le in omega (arith, d, h)
    by false true true p q o h =
        let low : 1663497 ≤ r = grind arith in
        let d = div_down t (s / 297) (r / 297) (le-div 1 r 297 (omega arith) (omega (arith, low)))
        (div_up r s 297 (omega arith) le) in omega (arith, d, h)
    by false false true p q o h =
        let low : 1663497 ≤ r = grind arith in
        let less : s < 1663497 = grind arith in absurd (omega (arith, low, less, le))
    by false b false p q o h = let high : 7230584 < t = grind arith in omega (arith, high)

stiffer_nat : (t s r : ℕ) → r ≤ s → badness (pos t) (pos s) ≡ 10000 → badness (pos t) (pos r) ≡ 10000
stiffer_nat t s r le e = by (t == 0) (s == 0) (r == 0) refl refl refl e
  where
    by : (a b c : Bool) → (t == 0) ≡ a → (s == 0) ≡ b → (r == 0) ≡ c →
        (if a then 0 else (if b then 10000 else cubed (ratio t s))) ≡ 10000 →
        (if a then 0 else (if c then 10000 else cubed (ratio t r))) ≡ 10000
    by true b c p q o e = absurd cc
    by false b true p q o e = refl
    by false true false p q o e =
        let z : s ≡ 0 = grind arith in
        let n : r ≡ 0 → ⊥ = grind arith in absurd (n (omega (arith, z, le)))
    by false false false p q o e =
        let h : 0 < r = grind arith in cubed_past (ratio t r) (ratio_stiff t s r h le (worst (ratio t s) e))

stiffer_neg : (t s r : ℕ) → badness (pos t) (pos s) ≡ 10000 → badness (pos t) (negsuc r) ≡ 10000
stiffer_neg t s r e = by (t == 0) e
  where
    by : (a : Bool) → (if a then 0 else (if s == 0 then 10000 else cubed (ratio t s))) ≡ 10000 →
        ◌≡◌ {A = ℕ} (if a then 0 else 10000) 10000
    by true e = absurd cc
    by false e = refl

-- less to fill it with is no less bad
pub stiffer : (t s r : ℤ) → r ≤ℤ s → badness t s ≡ 10000 → badness t r ≡ 10000
stiffer (pos t) (pos s) (pos r) le e = stiffer_nat t s r (omega (arith, ints, le)) e
stiffer (pos t) (pos s) (negsuc r) le e = stiffer_neg t s r e
stiffer (pos t) (negsuc s) (pos r) le e = absurd (omega (arith, ints, le))
stiffer (pos t) (negsuc s) (negsuc r) le e = e
stiffer (negsuc t) s r le e = absurd cc

-- ---- a segment below its goal

pub not_over : (total shrink goal : ℤ) → total <ℤ goal → is_over total shrink goal ≡ false
not_over total shrink goal h = by (int_le goal total) (grind (arith, ints, h))
  where
    by : (b : Bool) → b ≡ false → (b && int_lt shrink (total -ℤ goal)) ≡ false
    by false e = refl
    by true e = absurd cc

pub worse_by : (t : Totals) (g h more more' less less' : ℤ) → g ≤ℤ h → more' ≤ℤ more → t.total <ℤ g →
    badness_by false g more less t ≡ 10000 → badness_by false h more' less' t ≡ 10000
worse_by t g h more more' less less' up down short e =
    let a : int_lt t.total g ≡ true = grind (arith, ints, short) in
    let higher : t.total <ℤ h = omega (arith, ints, short, up) in
    let b : int_lt t.total h ≡ true = grind (arith, ints, higher) in
    if_true (int_lt t.total h) _ _ b ∙ by (has_infinite t) (sym (if_true (int_lt t.total g) _ _ a) ∙ e)
  where
    by : (i : Bool) → (if i then 0 else badness (g -ℤ t.total) more) ≡ 10000 →
        (if i then 0 else badness (h -ℤ t.total) more') ≡ 10000
    by true e = absurd cc
    by false e = stiffer (h -ℤ t.total) more more' down
        (worse (g -ℤ t.total) (h -ℤ t.total) more (omega (arith, ints, up)) e)

pub less_stretch : (o : Option ℤ) (f a b k : ℤ) → a ≤ℤ b → unwrap_or o (f +ℤ (a +ℤ k)) ≤ℤ unwrap_or o (f +ℤ (b +ℤ k))
less_stretch None f a b k le = omega (arith, ints, le)
less_stretch (Some x) f a b k le = omega (arith, ints)

-- what is worst whatever the gaps of areas give is so with what they do give
pub bad_in : (style : StyleValue) (most : ℤ) (c : Candidate) (room : TextRoom) → IsWithin most room →
    IsWorst style most c room.size → badness_for style (goal_by style room c.passed.notes)
    (give_by style room c.passed.notes) c.passed.totals false ≡ 10000
bad_in style most c room le w =
    worse_by c.passed.totals _ _ _ _ (pos 0) _ (omega (arith, ints))
    (less_stretch style.ragged c.passed.totals.finite room.give.stretch most
    (skips style.classes c.passed.notes).stretch le.stretch) w.short w.bad

spoilt : (f b o x : Bool) → f ≡ false → b ≡ false → ((o && (f || b)) && x) ≡ false
spoilt f true o x p q = absurd cc
spoilt true false o x p q = absurd cc
spoilt false false true x p q = refl
spoilt false false false x p q = refl

above : (n : ℕ) → n < 10000 → nat_le 10000 n ≡ false
above n h = grind (arith, h)

-- what is worst in a room keeps the rules there in no way, where that is refused
pub no_end_in : (doc : Document) (most : ℤ) (room : TextRoom) (c : Candidate) → IsWithin most room →
    place_forced doc.blocks c.to ≡ false → place_spent doc.blocks c.to ≡ false → doc.style.tolerance < 10000 →
    IsWorst doc.style most c room.size → keeps_text doc room c ≡ false
no_end_in doc most room c le forced spent strict w =
    let here : (cost_in doc room c).badness ≡ 10000 =
    ap (λ (b : Bool). badness_for doc.style (goal_by doc.style room c.passed.notes) (give_by doc.style room c.passed.notes)
    c.passed.totals b) spent ∙ bad_in doc.style most c room le w in
    let none = above doc.style.tolerance strict in
    spoilt (place_forced doc.blocks c.to) _ (not (is_over_in doc.style room c.passed))
    (fits c.passed.bound (most_room room)) forced
    (ap (λ (n : ℕ). nat_le n doc.style.tolerance) here ∙ none)

-- ---- a goal at which it is the worst

pub goal_small : (style : StyleValue) (most : ℤ) (totals : Totals) (given : Give) (o : Option ℤ) →
    IfSome o (IsWorstGoal style most totals given) → IfSome o (λ (goal : ℤ). nat_abs goal < 2 ^ 52)
goal_small style most totals given None w = tt
goal_small style most totals given (Some goal) w = w.size
