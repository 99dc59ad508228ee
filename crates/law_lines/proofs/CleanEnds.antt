-- Clean lines, and the text of several.
use Rattle.std.proofs.Common.{◌≡◌, ◌∙◌, refl, sym, ap, ℕ, not, true, false, List, [], ◌∷◌, ◌++◌, append_assoc}
use Rattle.std.specs.Prelude.{◌==◌, IsTrue}
use Rattle.pg_lemmas.proofs.Bools.{both_of, not_true}
use Rattle.pg_lemmas.proofs.Lists.{all_append}
use Rattle.pg_scan.specs.Lines.{IsClean, in_front, is_no_feed, trimmed}
use Rattle.pg_scan.proofs.CleanLines.{NoFeed}
use Rattle.law_words.proofs.Cut.{lacks}
use Rattle.pg_showbox.specs.Shown.{deeper_text}

-- ---- a line that ends in no carriage return

kept_front : (c : ℕ) (cs : List ℕ) → (c == 13) ≡ false → in_front c cs ≡ c ∷ cs
kept_front c [] e = rw e refl
kept_front c (d ∷ ds) e = refl

no_returns : (text : List ℕ) → lacks 13 text ≡ true → trimmed text ≡ text
unfolding trimmed
no_returns [] h = refl
no_returns (c ∷ cs) h =
    let t = both_of (not (c == 13)) (lacks 13 cs) h in
    ap (in_front c) (no_returns cs t.1) ∙ kept_front c cs (not_true (c == 13) t.0)

before_some : (c : ℕ) (cs : List ℕ) (b : ℕ) (bs : List ℕ) → in_front c (cs ++ b ∷ bs) ≡ c ∷ (cs ++ b ∷ bs)
before_some c [] b bs = refl
before_some c (d ∷ ds) b bs = refl

behind_any : (front : List ℕ) (b : ℕ) (bs : List ℕ) → trimmed (b ∷ bs) ≡ b ∷ bs →
    trimmed (front ++ b ∷ bs) ≡ front ++ b ∷ bs
unfolding trimmed
behind_any [] b bs h = h
behind_any (c ∷ cs) b bs h = ap (in_front c) (behind_any cs b bs h) ∙ before_some c cs b bs

no_feeds_in : (text : List ℕ) → lacks 10 text ≡ true → NoFeed text
no_feeds_in [] h = tt
no_feeds_in (c ∷ cs) h = let t = both_of (not (c == 10)) (lacks 10 cs) h in (t.0, no_feeds_in cs t.1)

-- a text without line feeds and carriage returns is clean
pub plain_clean : (text : List ℕ) → lacks 10 text ≡ true → lacks 13 text ≡ true → IsClean text
plain_clean text h k = record { no_feed = no_feeds_in text h; no_return = no_returns text k }

-- and so is a line that ends in such a text
pub ends_clean : (front : List ℕ) (b : ℕ) (bs : List ℕ) → NoFeed front → lacks 10 (b ∷ bs) ≡ true →
    lacks 13 (b ∷ bs) ≡ true → IsClean (front ++ b ∷ bs)
ends_clean front b bs f h k = record {
  no_feed = all_append (λ c. IsTrue (is_no_feed c)) front (b ∷ bs) f (no_feeds_in (b ∷ bs) h);
  no_return = behind_any front b bs (no_returns (b ∷ bs) k);
}

-- ---- a line and its point

rest_is : (cs line : List ℕ) → in_front 46 cs ≡ 46 ∷ line → cs ≡ line
rest_is [] line e = cc
rest_is (c ∷ cs) line e = cc

pub behind_point : (line : List ℕ) → IsClean (46 ∷ line) → IsClean line
unfolding trimmed
behind_point line h = record { no_feed = h.no_feed.1; no_return = rest_is (trimmed line) line h.no_return }

pub with_point : (line : List ℕ) → IsClean line → IsClean (46 ∷ line)
unfolding trimmed
with_point line h = record {
  no_feed = (refl, h.no_feed);
  no_return = ap (in_front 46) h.no_return ∙ kept_front 46 line refl;
}

-- ---- further lines

pub deeper_append : (xs ys : List (List ℕ)) → deeper_text (xs ++ ys) ≡ deeper_text xs ++ deeper_text ys
deeper_append [] ys = refl
deeper_append (line ∷ lines) ys =
    ap (λ (t : List ℕ). 10 ∷ t) (ap (λ (t : List ℕ). line ++ t) (deeper_append lines ys)
    ∙ sym (append_assoc line (deeper_text lines) (deeper_text ys)))
