-- Lines that are joined, and their numbers.
use Rattle.std.proofs.Common.{◌≡◌, ◌∙◌, refl, sym, ap, arith, ℕ, ◌+◌, ◌≤◌, Bool, true, false, List, [], ◌∷◌, ◌++◌, length, map, inl, inr, Option, Some, None}
use Rattle.std.specs.Prelude.{if◌then◌else◌}
use Rattle.std.specs.List.{AllByRecursion}
use Rattle.std.proofs.lemmas.Bool.{cases_Bool}
use Rattle.pg_scan.specs.Lines.{Line, is_full, joined, merged, raw_lines}
use Rattle.law_readers.specs.InOrder.{InOrder}
use Rattle.law_readers.specs.LinesRead.{EndsWhole, IsBroken, lines_read}

abbrev pub texts : List Line → List (List ℕ)
texts lines = map (λ (line : Line). line.text) lines

-- ---- lines cut in two

joined_some : (wrap : Option ℕ) (n : ℕ) (line : List ℕ) (lines : List (List ℕ)) →
    1 ≤ length (joined wrap n (line ∷ lines))
unfolding joined
joined_some wrap n line lines = elim (cases_Bool (is_full wrap line)) [
  | inl full ↦ rw full (some (joined wrap (n + 1) lines))
  | inr other ↦ rw other (omega arith)
]
  where
    some : (more : List Line) → 1 ≤ length (merged n line more)
    some [] = omega arith
    some (next ∷ more) = omega arith

merged_both : (n : ℕ) (part : List ℕ) (front back : List Line) → 1 ≤ length front →
    merged n part (front ++ back) ≡ merged n part front ++ back
merged_both n part [] back some = absurd (omega (arith, some))
merged_both n part (line ∷ front) back some = refl

-- behind a whole line others are joined for themselves
pub joined_both : (wrap : Option ℕ) (n : ℕ) (front back : List (List ℕ)) → EndsWhole wrap front →
    joined wrap n (front ++ back) ≡ joined wrap n front ++ joined wrap (n + length front) back
unfolding joined
joined_both wrap n [] back whole = let same : n ≡ n + 0 = omega arith in ap (λ (k : ℕ). joined wrap k back) same
joined_both wrap n (line ∷ []) back whole = rw whole refl
joined_both wrap n (line ∷ next ∷ front) back whole =
    let sum : (n + 1) + length (next ∷ front) ≡ n + length (line ∷ next ∷ front) = omega arith in
    let more : joined wrap (n + 1) ((next ∷ front) ++ back)
    ≡ joined wrap (n + 1) (next ∷ front) ++ joined wrap (n + length (line ∷ next ∷ front)) back =
    joined_both wrap (n + 1) (next ∷ front) back whole
    ∙ ap (λ (k : ℕ). joined wrap (n + 1) (next ∷ front) ++ joined wrap k back) sum in
    by (is_full wrap line) more
  where
    by : (full : Bool) → joined wrap (n + 1) ((next ∷ front) ++ back)
        ≡ joined wrap (n + 1) (next ∷ front) ++ joined wrap (n + length (line ∷ next ∷ front)) back →
        (if full then merged n line (joined wrap (n + 1) ((next ∷ front) ++ back))
        else record { number = n; text = line } ∷ joined wrap (n + 1) ((next ∷ front) ++ back))
        ≡ (if full then merged n line (joined wrap (n + 1) (next ∷ front))
        else record { number = n; text = line } ∷ joined wrap (n + 1) (next ∷ front))
        ++ joined wrap (n + length (line ∷ next ∷ front)) back
    by true more = ap (merged n line) more ∙ merged_both n line (joined wrap (n + 1) (next ∷ front))
        (joined wrap (n + length (line ∷ next ∷ front)) back) (joined_some wrap (n + 1) next front)
    by false more = ap (λ (lines : List Line). record { number = n; text = line } ∷ lines) more

-- lines that are never joined end whole
pub ends_whole : (lines : List (List ℕ)) → EndsWhole None lines
ends_whole [] = tt
ends_whole (line ∷ []) = refl
ends_whole (line ∷ next ∷ lines) = ends_whole (next ∷ lines)

-- ---- numbers

abbrev pub From : ℕ → List Line → Type 0
From n lines = AllByRecursion (λ (line : Line). n ≤ line.number) lines

from_less : (n m : ℕ) (lines : List Line) → n ≤ m → From m lines → From n lines
from_less n m [] less each = tt
from_less n m (line ∷ lines) less each =
    (let first = each.0 in omega (arith, less, first), from_less n m lines less each.1)

-- lines are numbered from their first on
pub joined_from : (wrap : Option ℕ) (n : ℕ) (lines : List (List ℕ)) → From n (joined wrap n lines)
unfolding joined
joined_from wrap n [] = tt
joined_from wrap n (line ∷ lines) =
    by (is_full wrap line) (from_less n (n + 1) (joined wrap (n + 1) lines) (omega arith) (joined_from wrap (n + 1) lines))
  where
    merges : (more : List Line) → From n more → From n (merged n line more)
    merges [] each = (omega arith, tt)
    merges (next ∷ more) each = (omega arith, each.1)

    by : (full : Bool) → From n (joined wrap (n + 1) lines) →
        From n (if full then merged n line (joined wrap (n + 1) lines)
        else record { number = n; text = line } ∷ joined wrap (n + 1) lines)
    by true more = merges (joined wrap (n + 1) lines) more
    by false more = (omega arith, more)

-- ---- lines that were broken

merged_text : (n : ℕ) (part first : List ℕ) (lines : List Line) (more : List (List ℕ)) →
    texts lines ≡ first ∷ more → texts (merged n part lines) ≡ (part ++ first) ∷ more
merged_text n part first [] more e = absurd cc
merged_text n part first (line ∷ lines) more e =
    let same : line.text ≡ first = cc in
    let rest : texts lines ≡ more = cc in
    ap (λ (text : List ℕ). (part ++ text) ∷ texts lines) same
    ∙ ap (λ (others : List (List ℕ)). (part ++ first) ∷ others) rest

one_whole : (width n : ℕ) (parts : List (List ℕ)) (line : List ℕ) (rest : List (List ℕ)) → IsBroken width parts line →
    texts (joined (Some width) n (parts ++ rest)) ≡ line ∷ texts (joined (Some width) (n + length parts) rest)
unfolding joined
one_whole width n [] line rest broken = absurd broken
one_whole width n (part ∷ []) line rest (short, is) =
    rw short (ap (λ (x : List ℕ). x ∷ texts (joined (Some width) (n + 1) rest)) (sym is))
one_whole width n (part ∷ next ∷ parts) line rest (behind, long, is, more) =
    let sum : (n + 1) + length (next ∷ parts) ≡ n + length (part ∷ next ∷ parts) = omega arith in
    rw long (merged_text n part behind (joined (Some width) (n + 1) ((next ∷ parts) ++ rest))
    (texts (joined (Some width) ((n + 1) + length (next ∷ parts)) rest))
    (one_whole width (n + 1) (next ∷ parts) behind rest more)
    ∙ ap (λ (k : ℕ). (part ++ behind) ∷ texts (joined (Some width) k rest)) sum
    ∙ ap (λ (x : List ℕ). x ∷ texts (joined (Some width) (n + length (part ∷ next ∷ parts)) rest)) (sym is))

all_whole : (width n : ℕ) (parts lines : List (List ℕ)) → InOrder (IsBroken width) parts lines →
    texts (joined (Some width) n parts) ≡ lines
unfolding joined
all_whole width n parts [] none = rw none refl
all_whole width n parts (line ∷ lines) (front, rest, cut, broken, more) =
    ap (λ (x : List (List ℕ)). texts (joined (Some width) n x)) cut
    ∙ one_whole width n front line rest broken
    ∙ ap (λ (x : List (List ℕ)). line ∷ x) (all_whole width (n + length front) rest lines more)

pub none_joined : (n : ℕ) (lines : List (List ℕ)) → texts (joined None n lines) ≡ lines
unfolding joined
none_joined n [] = refl
none_joined n (line ∷ lines) = ap (λ (x : List (List ℕ)). line ∷ x) (none_joined (n + 1) lines)

pub broken_whole : (width : ℕ) (broken whole : List ℕ) →
    InOrder (IsBroken width) (raw_lines broken) (raw_lines whole) →
    lines_read (Some width) broken ≡ lines_read None whole
broken_whole width broken whole are = all_whole width 1 (raw_lines broken) (raw_lines whole) are
    ∙ sym (none_joined 1 (raw_lines whole))
