-- The first line of a text.
use Rattle.std.proofs.Common.{◌≡◌, ◌∙◌, ◌≤◌, ◌<◌, ◌+◌, ℕ, suc, ap, sym, arith, List, [], ◌∷◌, ◌++◌, refl, length, take, drop, true, false, subst, inl, inr, append_assoc, get_or, ◌-◌, ◌≢◌}
use Rattle.std.proofs.lemmas.List.{take_more}
use Rattle.std.proofs.lemmas.Bool.Decides.{nat_tests}
use Rattle.std.specs.Prelude.{◌==◌, Option, if◌then◌else◌, Bool}
use Rattle.std.specs.List.{prefix_len}
use Rattle.std.proofs.lemmas.Bool.{cases_Bool}
use Rattle.pg_scan.specs.Lines.{lines_of, onto_first, is_no_feed, trimmed, in_front, raw_lines, Line, is_full, merged, joined}

feed_step : (c : ℕ) (cs : List ℕ) → (c == 10) ≡ true → (prefix_len is_no_feed (c ∷ cs) ≡ 0)
    × (lines_of (c ∷ cs) ≡ [] ∷ lines_of cs)
unfolding lines_of
feed_step c cs e = (rw e refl, rw e refl)

other_step : (c : ℕ) (cs : List ℕ) → (c == 10) ≡ false
    → (prefix_len is_no_feed (c ∷ cs) ≡ 1 + prefix_len is_no_feed cs)
    × (lines_of (c ∷ cs) ≡ onto_first c (lines_of cs))
unfolding lines_of
other_step c cs e = (rw e refl, rw e refl)

pub no_line : lines_of [] ≡ []
unfolding lines_of
no_line = refl

-- a text without a line feed is one line
one_line : (c : ℕ) (cs : List ℕ) → length (c ∷ cs) ≤ prefix_len is_no_feed (c ∷ cs)
    → lines_of (c ∷ cs) ≡ (c ∷ cs) ∷ []
one_line c [] none = elim (cases_Bool (c == 10)) [
  | inl feed ↦ let s = feed_step c [] feed in absurd (omega (arith, s.0))
  | inr other ↦ let s = other_step c [] other in s.1 ∙ ap (onto_first c) no_line
]
one_line c (d ∷ ds) none = elim (cases_Bool (c == 10)) [
  | inl feed ↦ let s = feed_step c (d ∷ ds) feed in absurd (omega (arith, s.0))
  | inr other ↦ let s = other_step c (d ∷ ds) other in s.1 ∙ ap (onto_first c) (one_line d ds (omega (arith, s.0)))
]

pub last_line : (text : List ℕ) → 0 < length text → length text ≤ prefix_len is_no_feed text
    → lines_of text ≡ text ∷ lines_of []
last_line [] some none = absurd (omega arith)
last_line (c ∷ cs) some none = one_line c cs none ∙ ap (λ (ls : List (List ℕ)). (c ∷ cs) ∷ ls) (sym no_line)

-- the first line of a text that has a line feed
pub a_line : (text : List ℕ) (n : ℕ) → n ≡ prefix_len is_no_feed text → n < length text
    → lines_of text ≡ take n text ∷ lines_of (drop (suc n) text)
a_line [] n e some = absurd (omega arith)
a_line (c ∷ cs) n e some = elim (cases_Bool (c == 10)) [
  | inl feed ↦ let s = feed_step c cs feed in let none : n ≡ 0 = e ∙ s.0 in
      subst (λ (k : ℕ). lines_of (c ∷ cs) ≡ take k (c ∷ cs) ∷ lines_of (drop (suc k) (c ∷ cs))) (sym none) s.1
  | inr other ↦ let s = other_step c cs other in let k = prefix_len is_no_feed cs in let here : n ≡ suc k =
      omega (arith, e, s.0) in
      let more = a_line cs k refl (omega arith) in
      subst (λ (j : ℕ). lines_of (c ∷ cs) ≡ take j (c ∷ cs) ∷ lines_of (drop (suc j) (c ∷ cs))) (sym here)
      (s.1 ∙ ap (onto_first c) more)
]

-- carriage returns at the end of a line
pub one_return : (line : List ℕ) → trimmed (line ++ 13 ∷ []) ≡ trimmed line
unfolding trimmed
one_return [] = refl
one_return (c ∷ cs) = ap (in_front c) (one_return cs)

some_front : (c : ℕ) (cs ds : List ℕ) (d : ℕ) → cs ≡ ds ++ d ∷ [] → in_front c cs ≡ c ∷ cs
some_front c cs [] d e = rw e refl
some_front c cs (x ∷ xs) d e = rw e refl

pub no_return : (line : List ℕ) (d : ℕ) → (d == 13) ≡ false → trimmed (line ++ d ∷ []) ≡ line ++ d ∷ []
unfolding trimmed
no_return [] d e = rw e refl
no_return (c ∷ cs) d e = ap (in_front c) (no_return cs d e) ∙ some_front c (cs ++ d ∷ []) cs d refl

-- the last byte of the front of a line that may still have carriage returns
pub less_return : (line : List ℕ) (n m : ℕ) → 0 < n → n ≤ length line → m ≡ n - 1 → get_or line m 0 ≡ 13
    → trimmed (take m line) ≡ trimmed (take n line)
less_return line n m some within e is =
    let n_is : n ≡ m + 1 = omega arith in
    let last = take_more line m 0 (omega arith) in
    rw (n_is, last, is) (sym (one_return (take m line)))

pub at_byte : (line : List ℕ) (n m : ℕ) → 0 < n → n ≤ length line → m ≡ n - 1 → get_or line m 0 ≢ 13
    → trimmed (take n line) ≡ take n line
at_byte line n m some within e other =
    let n_is : n ≡ m + 1 = omega arith in
    let last = take_more line m 0 (omega arith) in
    rw (n_is, last) (no_return (take m line) (get_or line m 0) (grind (arith, nat_tests)))

pub none_left : (line : List ℕ) (n : ℕ) → n ≡ 0 → trimmed (take n line) ≡ []
unfolding trimmed
none_left line n e = rw e refl

-- the invariant of the loop over the parts of a line: what follows the last part goes behind it
abbrev pub with_rest : Bool → ℕ → List ℕ → List Line → List Line
with_rest full n line lines = if full then merged n line lines else record { number = n; text = line } ∷ lines

pub first_part : (wrap : Option ℕ) (n : ℕ) (text after line part : List ℕ) (full : Bool)
    → lines_of text ≡ line ∷ lines_of after → part ≡ trimmed line → full ≡ is_full wrap part
    → joined wrap n (raw_lines text) ≡ with_rest full n part (joined wrap (n + 1) (raw_lines after))
unfolding joined
first_part wrap n text after line part full e is test = rw (e, ← is, ← test) refl

join_parts : (full : Bool) (n next : ℕ) (front part : List ℕ) (lines : List Line)
    → merged n front (with_rest full next part lines) ≡ with_rest full n (front ++ part) lines
join_parts false n next front part lines = refl
join_parts true n next front part [] = refl
join_parts true n next front part (line ∷ lines) = ap (λ (t : List ℕ). record { number = n; text = t } ∷ lines)
    (sym (append_assoc front part line.text))

pub next_part : (wrap : Option ℕ) (n next : ℕ) (front rest after line part : List ℕ) (full : Bool)
    → lines_of rest ≡ line ∷ lines_of after → part ≡ trimmed line → full ≡ is_full wrap part
    → merged n front (joined wrap next (raw_lines rest)) ≡ with_rest full n (front ++ part)
    (joined wrap (next + 1) (raw_lines after))
next_part wrap n next front rest after line part full e is test =
    ap (merged n front) (first_part wrap next rest after line part full e is test)
    ∙ join_parts full n next front part (joined wrap (next + 1) (raw_lines after))

pub no_part : (wrap : Option ℕ) (n next : ℕ) (front rest : List ℕ) → lines_of rest ≡ []
    → merged n front (joined wrap next (raw_lines rest)) ≡ record { number = n; text = front } ∷ joined wrap next
    (raw_lines rest)
unfolding joined
no_part wrap n next front rest e = rw e refl

pub raw_count : (text after line : List ℕ) → lines_of text ≡ line ∷ lines_of after
    → length (raw_lines text) ≡ length (raw_lines after) + 1
raw_count text after line e = rw e (omega arith)
