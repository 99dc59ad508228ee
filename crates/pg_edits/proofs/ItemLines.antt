-- The item lines in front of a text.
use Rattle.std.proofs.Common.{◌≡◌, ◌∙◌, ◌≤◌, ◌<◌, ◌+◌, ◌-◌, ℕ, suc, refl, ap, sym, subst, arith, List, [], ◌∷◌, ◌++◌, length, take, map, Bool, true, false, inl, inr, append_assoc, append-nil, length-append}
use Rattle.std.specs.Prelude.{IsTrue, ◌==◌, not, take_while, MatchOption, Option, Some, None}
use Rattle.std.specs.Option.{unwrap_or}
use Rattle.std.specs.List.{AllByRecursion, prefix_len}
use Rattle.std.proofs.lemmas.Bool.{cases_Bool}
use Rattle.std.proofs.lemmas.Bool.Decides.{nat_tests}
use Rattle.std.proofs.lemmas.List.{take_at, map-append}
use Rattle.pg_lemmas.proofs.Lists.{all_append}
use Rattle.pg_scan.specs.Lines.{lines_of, raw_lines, trimmed, in_front, is_no_feed, onto_first, has_point}
use Rattle.pg_scan.specs.Parts.{parts_of}
use Rattle.pg_edits.proofs.TextParts.{IsUncut, first_part, only_part, uncut}
use Rattle.pg_showbox.proofs.ReadBack.{no_feed_is}

abbrev pub IsItem : List ℕ → Type 0
IsItem line = IsTrue (has_point line)

-- ---- the first byte of a line

front_point : (c : ℕ) (cs : List ℕ) → has_point (in_front c cs) ≡ (c == 46)
front_point c [] = elim (cases_Bool (c == 13)) [
  | inl return ↦ let is : c ≡ 13 = grind (arith, nat_tests, return) in rw is refl
  | inr other ↦ rw other refl
]
front_point c (d ∷ ds) = refl

trimmed_point : (line : List ℕ) → has_point (trimmed line) ≡ has_point line
unfolding trimmed
trimmed_point [] = refl
trimmed_point (c ∷ cs) = front_point c (trimmed cs)

line_point : (text line : List ℕ) (lines : List (List ℕ)) → lines_of text ≡ line ∷ lines →
    has_point line ≡ has_point text
unfolding lines_of
line_point [] line lines e = absurd cc
line_point (c ∷ cs) line lines e = elim (cases_Bool (c == 10)) [
  | inl feed ↦ let is : c ≡ 10 = grind (arith, nat_tests, feed) in
      let same : ◌≡◌ {A = List (List ℕ)} ([] ∷ lines_of cs) (line ∷ lines) = rw feed at e in
      let empty : [] ≡ line = cc in
      rw (is, sym empty) refl
  | inr other ↦ by (lines_of cs) (rw other at e)
]
  where
    by : (more : List (List ℕ)) → onto_first c more ≡ line ∷ lines → has_point line ≡ (c == 46)
    by [] e = let is : c ∷ [] ≡ line = cc in rw (sym is) refl
    by (next ∷ more) e = let is : c ∷ next ≡ line = cc in rw (sym is) refl

-- a point stands in front of a text where one stands in front of its first line
pub first_point : (text line : List ℕ) (lines : List (List ℕ)) → raw_lines text ≡ line ∷ lines →
    has_point line ≡ has_point text
first_point text line lines e = by (lines_of text) refl e
  where
    by : (all : List (List ℕ)) → lines_of text ≡ all → map trimmed all ≡ line ∷ lines →
        has_point line ≡ has_point text
    by [] is e = absurd cc
    by (first ∷ more) is e = let same : trimmed first ≡ line = cc in
        ap has_point (sym same) ∙ trimmed_point first ∙ line_point text first more is

pub no_items_first : (text : List ℕ) → has_point text ≡ false → take_while has_point (raw_lines text) ≡ []
no_items_first text none = by (raw_lines text) refl
  where
    by : (all : List (List ℕ)) → raw_lines text ≡ all → take_while has_point all ≡ []
    by [] e = refl
    by (line ∷ lines) e = rw (first_point text line lines e ∙ none) refl

-- ---- item lines in front of others

pub one_taken : (line : List ℕ) (lines : List (List ℕ)) → has_point line ≡ true →
    take_while has_point (line ∷ lines) ≡ line ∷ take_while has_point lines
one_taken line lines point =
    let next : 1 + prefix_len has_point lines ≡ suc (prefix_len has_point lines) = omega arith in
    rw (point, next) refl

items_taken : (items later : List (List ℕ)) → AllByRecursion IsItem items → take_while has_point later ≡ [] →
    take_while has_point (items ++ later) ≡ items
items_taken [] later each none = none
items_taken (item ∷ items) later each none = one_taken item (items ++ later) each.0
    ∙ ap (λ (xs : List (List ℕ)). item ∷ xs) (items_taken items later each.1 none)

pub are_items : (lines : List (List ℕ)) → AllByRecursion IsItem (take_while has_point lines)
are_items [] = tt
are_items (line ∷ lines) = elim (cases_Bool (has_point line)) [
  | inl point ↦ rw (one_taken line lines point) (point, are_items lines)
  | inr none ↦ rw none tt
]

-- ---- a text that is cut behind lines

lines_line : (line rest : List ℕ) → IsUncut 10 line → lines_of (line ++ 10 ∷ rest) ≡ line ∷ lines_of rest
unfolding lines_of
lines_line [] rest h = refl
lines_line (c ∷ cs) rest h = rw (no_feed_is c h.0, lines_line cs rest h.1) refl

lines_last : (line : List ℕ) → has_point line ≡ true → IsUncut 10 line → lines_of line ≡ line ∷ []
unfolding lines_of
lines_last [] some h = absurd cc
lines_last (c ∷ []) some h = rw (no_feed_is c h.0) refl
lines_last (c ∷ d ∷ ds) some h = rw (no_feed_is c h.0, more d ds h.1) refl
  where
    more : (d : ℕ) (ds : List ℕ) → IsUncut 10 (d ∷ ds) → lines_of (d ∷ ds) ≡ (d ∷ ds) ∷ []
    more d [] h = rw (no_feed_is d h.0) refl
    more d (x ∷ xs) h = rw (no_feed_is d h.0, more x xs h.1) refl

-- a text is cut behind whole lines, so many, each with a point in front; only where nothing is left the last of them
-- may lack its line feed
pub record IsCut (text front rest : List ℕ) (n : ℕ) : Type 0 where
  pub both : text ≡ front ++ rest
  pub whole : (more : List ℕ) → (rest ≡ [] → more ≡ []) → lines_of (front ++ more) ≡ lines_of front ++ lines_of more
  pub items : AllByRecursion IsItem (raw_lines front)
  pub count : n ≡ length (raw_lines front)
  pub few : n ≤ length front

pub cut_nowhere : (text : List ℕ) → IsCut text [] text 0
unfolding lines_of
cut_nowhere text = record { both = refl; whole = λ more h. refl; items = tt; count = refl; few = omega arith }

not_empty : (rest : List ℕ) → has_point rest ≡ true → rest ≡ [] → ⊥
not_empty [] point e = absurd cc
not_empty (c ∷ cs) point e = absurd cc

-- one line more
one_item : (front line : List ℕ) (lines : List (List ℕ)) → AllByRecursion IsItem (map trimmed lines) →
    has_point line ≡ true → AllByRecursion IsItem (map trimmed (lines ++ line ∷ []))
one_item front line lines each point = subst (AllByRecursion IsItem) (sym (map-append trimmed lines (line ∷ [])))
    (all_append IsItem (map trimmed lines) (trimmed line ∷ []) each (trimmed_point line ∙ point, tt))

one_longer : (line : List ℕ) (lines : List (List ℕ)) → length (map trimmed (lines ++ line ∷ []))
    ≡ length (map trimmed lines) + 1
one_longer line lines = ap length (map-append trimmed lines (line ∷ []))
    ∙ length-append (map trimmed lines) (trimmed line ∷ [])

line_front : (line behind : List ℕ) → has_point (line ++ 10 ∷ behind) ≡ true → has_point line ≡ true
line_front [] behind point = absurd cc
line_front (c ∷ cs) behind point = point

module _ (text front rest : List ℕ) (n : ℕ) (cut : IsCut text front rest n) (point : has_point rest ≡ true) where
  -- behind a line with its line feed
  pub cut_line : (line behind : List ℕ) → parts_of 10 rest ≡ line ∷ parts_of 10 behind →
      IsCut text (front ++ (line ++ 10 ∷ [])) behind (n + 1)
  unfolding lines_of
  cut_line line behind parts = record {
    both = cut.both ∙ ap (λ (t : List ℕ). front ++ t) is ∙ sym (regroup behind);
    whole = λ more h. ap lines_of (regroup more) ∙ longer more ∙ sym (append_assoc (lines_of front) (line ∷ [])
        (lines_of more)) ∙ ap (λ (ls : List (List ℕ)). ls ++ lines_of more) (sym ended);
    items = subst (λ (ls : List (List ℕ)). AllByRecursion IsItem (map trimmed ls)) (sym ended)
        (one_item front line (lines_of front) cut.items pointed);
    count = cut_count
        ∙ sym (ap (λ (ls : List (List ℕ)). length (map trimmed ls)) ended ∙ one_longer line (lines_of front));
    few =
        let long = length-append front (line ++ 10 ∷ []) in
        let more = length-append line (10 ∷ []) in
        omega (arith, cut.few, long, more);
  }
    where
      is : rest ≡ line ++ 10 ∷ behind
      is = first_part 10 rest line behind parts

      clean : IsUncut 10 line
      clean = (subst (AllByRecursion (IsUncut 10)) parts (uncut 10 rest)).0

      pointed : has_point line ≡ true
      pointed = line_front line behind (ap has_point (sym is) ∙ point)

      regroup : (more : List ℕ) → (front ++ (line ++ 10 ∷ [])) ++ more ≡ front ++ (line ++ 10 ∷ more)
      regroup more = append_assoc front (line ++ 10 ∷ []) more
          ∙ ap (λ (t : List ℕ). front ++ t) (append_assoc line (10 ∷ []) more)

      longer : (more : List ℕ) → lines_of (front ++ (line ++ 10 ∷ more)) ≡ lines_of front ++ line ∷ lines_of more
      longer more = cut.whole (line ++ 10 ∷ more) (λ e. absurd (not_empty rest point e))
          ∙ ap (λ (ls : List (List ℕ)). lines_of front ++ ls) (lines_line line more clean)

      ended : lines_of (front ++ (line ++ 10 ∷ [])) ≡ lines_of front ++ line ∷ []
      ended = longer []

      cut_count : n + 1 ≡ length (raw_lines front) + 1
      cut_count = ap (λ (k : ℕ). k + 1) cut.count

  -- behind the last line, which lacks its line feed
  pub cut_last : (line : List ℕ) → parts_of 10 rest ≡ line ∷ [] → IsCut text (front ++ line) [] (n + 1)
  unfolding lines_of
  cut_last line parts = record {
    both = cut.both ∙ ap (λ (t : List ℕ). front ++ t) is ∙ sym (append-nil (front ++ line));
    whole = λ more h. last more (h refl);
    items = subst (λ (ls : List (List ℕ)). AllByRecursion IsItem (map trimmed ls)) (sym ended)
        (one_item front line (lines_of front) cut.items pointed);
    count = ap (λ (k : ℕ). k + 1) cut.count
        ∙ sym (ap (λ (ls : List (List ℕ)). length (map trimmed ls)) ended ∙ one_longer line (lines_of front));
    few =
        let long = length-append front line in
        let some = long_enough line pointed in
        omega (arith, cut.few, long, some);
  }
    where
      is : rest ≡ line
      is = only_part 10 rest line parts

      clean : IsUncut 10 line
      clean = (subst (AllByRecursion (IsUncut 10)) parts (uncut 10 rest)).0

      pointed : has_point line ≡ true
      pointed = ap has_point (sym is) ∙ point

      ended : lines_of (front ++ line) ≡ lines_of front ++ line ∷ []
      ended = cut.whole line (λ e. absurd (not_empty rest point e))
          ∙ ap (λ (ls : List (List ℕ)). lines_of front ++ ls) (lines_last line pointed clean)

      last : (more : List ℕ) → more ≡ [] →
          lines_of ((front ++ line) ++ more) ≡ lines_of (front ++ line) ++ lines_of more
      last more none = rw none (ap lines_of (append-nil (front ++ line)) ∙ sym (append-nil (lines_of (front ++ line))))

      long_enough : (line : List ℕ) → has_point line ≡ true → 0 < length line
      long_enough [] point = absurd cc
      long_enough (c ∷ cs) point = omega arith

-- behind the next line, as a text is cut at its first line feed; nothing is left behind the last
pub cut_next : {B : Type 0} (now : B → List ℕ) (text rest : List ℕ) (n : ℕ) (line : List ℕ) (behind : Option B)
    (end left : B) → (front : List ℕ) × IsCut text front rest n → has_point rest ≡ true →
    MatchOption behind (parts_of 10 rest ≡ line ∷ []) (λ r. parts_of 10 rest ≡ line ∷ parts_of 10 (now r)) →
    left ≡ unwrap_or behind end → now end ≡ [] → (front : List ℕ) × IsCut text front (now left) (n + 1)
cut_next now text rest n line None end left (front, cut) point parts is none = (
  front ++ line,
  subst (λ (t : List ℕ). IsCut text (front ++ line) t (n + 1)) (sym (ap now is ∙ none))
      (cut_last text front rest n cut point line parts),
)
cut_next now text rest n line (Some r) end left (front, cut) point parts is none = (
  front ++ (line ++ 10 ∷ []),
  subst (λ (t : List ℕ). IsCut text (front ++ (line ++ 10 ∷ [])) t (n + 1))
      (sym (ap now is)) (cut_line text front rest n cut point line (now r) parts),
)

-- ---- what is cut off

module _ (text front rest : List ℕ) (n : ℕ) (cut : IsCut text front rest n) where
  pub front_is : take (length text - length rest) text ≡ front
  front_is =
      let long = ap length cut.both ∙ length-append front rest in
      let few : length text - length rest ≡ length front = omega (arith, long) in
      rw few (ap (take (length front)) cut.both ∙ take_at front rest (length front) refl)

  pub lines_cut : raw_lines text ≡ raw_lines front ++ raw_lines rest
  lines_cut = ap raw_lines cut.both ∙ ap (map trimmed) (cut.whole rest (λ e. e))
      ∙ map-append trimmed (lines_of front) (lines_of rest)

  pub items_cut : has_point rest ≡ false → take_while has_point (raw_lines text) ≡ raw_lines front
  items_cut none = ap (take_while has_point) lines_cut
      ∙ items_taken (raw_lines front) (raw_lines rest) cut.items (no_items_first rest none)
