-- Each line that is read is clean.
use Rattle.std.proofs.Common.{◌≡◌, ◌∙◌, ℕ, ap, List, [], ◌∷◌, ◌++◌, refl, false, inl, inr}
use Rattle.std.specs.Prelude.{IsTrue, Option, not, ◌==◌, ◌+◌, map}
use Rattle.std.specs.List.{AllByRecursion}
use Rattle.std.proofs.lemmas.Bool.{cases_Bool}
use Rattle.pg_scan.specs.Lines.{Line, lines_of, onto_first, is_no_feed, trimmed, in_front, IsClean, raw_lines, is_full, merged, joined}
use Rattle.pg_lemmas.proofs.Lists.{all_append}

abbrev pub NoFeed : List ℕ → Type 0
NoFeed line = AllByRecursion (λ c. IsTrue (is_no_feed c)) line

onto_no_feed : (c : ℕ) (lines : List (List ℕ)) → IsTrue (is_no_feed c) → AllByRecursion NoFeed lines
    → AllByRecursion NoFeed (onto_first c lines)
onto_no_feed c [] h each = ((h, tt), tt)
onto_no_feed c (line ∷ lines) h each = ((h, each.0), each.1)

no_feed_test : (c : ℕ) → (c == 10) ≡ false → IsTrue (is_no_feed c)
no_feed_test c e = ap not e

lines_no_feed : (text : List ℕ) → AllByRecursion NoFeed (lines_of text)
unfolding lines_of
lines_no_feed [] = tt
lines_no_feed (c ∷ cs) = elim (cases_Bool (c == 10)) [
  | inl feed ↦ rw feed (tt, lines_no_feed cs)
  | inr other ↦ rw other (onto_no_feed c (lines_of cs) (no_feed_test c other) (lines_no_feed cs))
]

front_no_feed : (c : ℕ) (cs : List ℕ) → IsTrue (is_no_feed c) → NoFeed cs → NoFeed (in_front c cs)
front_no_feed c [] h each = elim (cases_Bool (c == 13)) [ inl e ↦ rw e tt | inr e ↦ rw e (h, tt) ]
front_no_feed c (d ∷ ds) h each = (h, each)

trimmed_no_feed : (line : List ℕ) → NoFeed line → NoFeed (trimmed line)
unfolding trimmed
trimmed_no_feed [] h = tt
trimmed_no_feed (c ∷ cs) h = front_no_feed c (trimmed cs) h.0 (trimmed_no_feed cs h.1)

-- carriage returns are dropped once
front_again : (c : ℕ) (cs : List ℕ) → trimmed cs ≡ cs → trimmed (in_front c cs) ≡ in_front c cs
unfolding trimmed
front_again c [] h = elim (cases_Bool (c == 13)) [ inl e ↦ rw e refl | inr e ↦ rw (e, e) refl ]
front_again c (d ∷ ds) h = ap (in_front c) h

trimmed_again : (line : List ℕ) → trimmed (trimmed line) ≡ trimmed line
unfolding trimmed
trimmed_again [] = refl
trimmed_again (c ∷ cs) = front_again c (trimmed cs) (trimmed_again cs)

trimmed_clean : (line : List ℕ) → NoFeed line → IsClean (trimmed line)
trimmed_clean line h = record { no_feed = trimmed_no_feed line h; no_return = trimmed_again line }

raw_clean : (lines : List (List ℕ)) → AllByRecursion NoFeed lines → AllByRecursion IsClean (map trimmed lines)
raw_clean [] each = tt
raw_clean (line ∷ lines) each = (trimmed_clean line each.0, raw_clean lines each.1)

-- the rest of a line that ends in no carriage return does not either
rest_no_return : (c : ℕ) (cs ds : List ℕ) → in_front c ds ≡ c ∷ cs → ds ≡ cs
rest_no_return c cs [] e = elim (cases_Bool (c == 13)) [
  | inl is ↦ let wrong = rw is at e in absurd (cc)
  | inr other ↦ let same = rw other at e in cc
]
rest_no_return c cs (d ∷ ds) e = cc

front_of_both : (c : ℕ) (cs ds : List ℕ) → trimmed (c ∷ cs) ≡ c ∷ cs → in_front c (cs ++ ds) ≡ c ∷ (cs ++ ds)
unfolding trimmed
front_of_both c [] [] h = h
front_of_both c [] (d ∷ ds) h = refl
front_of_both c (x ∷ xs) ds h = refl

both_no_return : (front back : List ℕ) → trimmed front ≡ front → trimmed back ≡ back → trimmed (front ++ back) ≡ front
    ++ back
unfolding trimmed
both_no_return [] back f b = b
both_no_return (c ∷ cs) back f b =
    ap (in_front c) (both_no_return cs back (rest_no_return c cs (trimmed cs) f) b) ∙ front_of_both c cs back f

both_clean : (front back : List ℕ) → IsClean front → IsClean back → IsClean (front ++ back)
both_clean front back f b = record {
  no_feed = all_append (λ c. IsTrue (is_no_feed c)) front back f.no_feed b.no_feed;
  no_return = both_no_return front back f.no_return b.no_return;
}

abbrev pub IsCleanLine : Line → Type 0
IsCleanLine line = IsClean line.text

merged_clean : (n : ℕ) (part : List ℕ) (lines : List Line) → IsClean part → AllByRecursion IsCleanLine lines
    → AllByRecursion IsCleanLine (merged n part lines)
merged_clean n part [] h each = (h, tt)
merged_clean n part (line ∷ lines) h each = (both_clean part line.text h each.0, each.1)

joined_all : (wrap : Option ℕ) (n : ℕ) (lines : List (List ℕ)) → AllByRecursion IsClean lines
    → AllByRecursion IsCleanLine (joined wrap n lines)
unfolding joined
joined_all wrap n [] each = tt
joined_all wrap n (line ∷ lines) each =
    let more = joined_all wrap (n + 1) lines each.1 in
    elim (cases_Bool (is_full wrap line)) [
      | inl full ↦ rw full (merged_clean n line (joined wrap (n + 1) lines) each.0 more)
      | inr other ↦ rw other (each.0, more)
    ]

-- the lines of a text are clean, joined or not
pub joined_clean : (wrap : Option ℕ) (n : ℕ) (text : List ℕ)
    → AllByRecursion IsCleanLine (joined wrap n (raw_lines text))
joined_clean wrap n text = joined_all wrap n (raw_lines text) (raw_clean (lines_of text) (lines_no_feed text))
