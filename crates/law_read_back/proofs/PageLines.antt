-- The printed lines of a page text read back: the head, pages, columns and the numbers of columns.
use Rattle.std.proofs.Common.{◌≡◌, refl, ◌<◌, ◌≤◌, ◌^◌, ℕ, true, List, [], ◌∷◌, ◌++◌, append_assoc, arith}
use Rattle.std.specs.Prelude.{decimal, codes, Some, ℤ, nat_abs}
use Rattle.pg_plan.specs.declared.states.Side.{Side}
use Rattle.pg_plan.specs.declared.pages.Column.{Column}
use Rattle.pg_rules.specs.Room.{ColumnContext}
use Rattle.pg_rules.specs.ColumnRules.{text_total, text_goal, text_badness}
use Rattle.pg_rules.specs.Cost.{text_demerits}
use Rattle.pg_scaled.specs.Scaled.{scaled_text}
use Rattle.pg_words.specs.Written.{line, whole_text, counts_text, side_text}
use Rattle.pg_pages.specs.PageText.{set_line, end_penalty, column_ends, column_counts, column_line as printed_column, page_side, page_run, page_line as printed_page, head_counts, head_line as printed_head}
use Rattle.pg_labels.specs.PageLines.{head_of, head_words, page_of, page_words, list_words, column_words, column_from, column_of, demerits_at, set_of, without_of}
use Rattle.pg_labels.specs.PageLines.{set_words as words_of_set}
use Rattle.law_words.proofs.Cut.{joined}
use Rattle.law_words.specs.Ranges.{AllBelow, is_wide}
use Rattle.law_read_back.specs.PageRanges.{IsPrintedColumn, IsPrintedNumbers}
use Rattle.law_words.proofs.Cut.{AllLack, dark_lacks}
use Rattle.law_words.proofs.Equal.{same_bytes}
use Rattle.law_words.proofs.Numbers.{number_reads, numeral_reads}
use Rattle.law_words.proofs.Wholes.{whole_reads, decimal_reads}
use Rattle.law_words.proofs.Lengths.{scaled_reads}
use Rattle.law_words.proofs.Words.{side_lacks, counts_read, side_reads, place_reads}
use Rattle.law_words.proofs.Blanks.{any_decimal_lacks, any_whole_lacks, any_scaled_lacks, any_counts_lack}

-- ---- the head

abbrev pub head_rest : ℕ → ℤ → ℤ → List (List ℕ)
head_rest pages cost width = decimal pages ∷ codes "cost" ∷ whole_text cost ∷ codes "width" ∷ scaled_text width ∷ []

head_regrouped : (p n c z w v e : List ℕ) →
    (p ++ n ++ c ++ z) ++ (w ++ v ++ e) ≡ (p ++ (n ++ (c ++ (z ++ (w ++ v))))) ++ e
head_regrouped p n c z w v e = simp append_assoc

pub head_line_is : (pages : ℕ) (cost width : ℤ) →
    printed_head pages cost width ≡ line (joined 32 (codes "pages" ∷ head_rest pages cost width))
unfolding printed_head head_counts
head_line_is pages cost width = head_regrouped (codes "pages ") (decimal pages) (codes " cost ") (whole_text cost)
    (codes " width ") (scaled_text width) (10 ∷ [])

pub head_words_lack : (s : ℕ) → s ≤ 32 → (pages : ℕ) (cost width : ℤ) →
    AllLack s (codes "pages" ∷ head_rest pages cost width)
head_words_lack s low pages cost width = (
  dark_lacks s low (codes "pages") refl,
  (
    any_decimal_lacks s pages (omega arith),
    (
      dark_lacks s low (codes "cost") refl,
      (
        any_whole_lacks s cost (omega arith),
        (
          dark_lacks s low (codes "width") refl,
          (any_scaled_lacks s width (omega arith), tt),
        ),
      ),
    ),
  ),
)

pub head_reads : (pages : ℕ) (cost width : ℤ) → pages < 10 ^ 64 → is_wide cost ≡ true → nat_abs width ≤ 2 ^ 60 →
    head_of (codes "pages" ∷ head_rest pages cost width) ≡ Some cost
unfolding head_of head_words
head_reads pages cost width few wide small =
    rw (numeral_reads pages few, whole_reads cost wide, scaled_reads width small) refl

-- ---- a page

abbrev pub page_rest : ℕ → Side → ℕ → List ℕ → List (List ℕ)
page_rest number side run wide = decimal number ∷ codes "side" ∷ side_text side ∷ codes "run" ∷ decimal run
    ∷ codes "wide" ∷ counts_text wide ∷ []

page_regrouped : (p n s d r m w c e : List ℕ) →
    (p ++ n ++ s ++ d) ++ (r ++ m ++ w ++ c ++ e) ≡ (p ++ (n ++ (s ++ (d ++ (r ++ (m ++ (w ++ c))))))) ++ e
page_regrouped p n s d r m w c e = simp append_assoc

pub page_line_is : (number : ℕ) (side : Side) (run : ℕ) (wide : List ℕ) →
    printed_page number side run wide ≡ line (joined 32 (codes "page" ∷ page_rest number side run wide))
unfolding printed_page page_side page_run
page_line_is number side run wide = page_regrouped (codes "page ") (decimal number) (codes " side ") (side_text side)
    (codes " run ") (decimal run) (codes " wide ") (counts_text wide) (10 ∷ [])

pub page_words_lack : (s : ℕ) → s ≤ 32 → (number : ℕ) (side : Side) (run : ℕ) (wide : List ℕ) →
    AllLack s (codes "page" ∷ page_rest number side run wide)
page_words_lack s low number side run wide = (
  dark_lacks s low (codes "page") refl,
  (
    any_decimal_lacks s number (omega arith),
    (
      dark_lacks s low (codes "side") refl,
      (
        side_lacks s side (omega arith),
        (
          dark_lacks s low (codes "run") refl,
          (
            any_decimal_lacks s run (omega arith),
            (
              dark_lacks s low (codes "wide") refl,
              (any_counts_lack s wide (omega arith), tt),
            ),
          ),
        ),
      ),
    ),
  ),
)

pub page_reads : (number : ℕ) (side : Side) (run : ℕ) (wide : List ℕ) → run < 2 ^ 8 → AllBelow (2 ^ 16) wide →
    page_of number (codes "page" ∷ page_rest number side run wide)
    ≡ Some (record { run = run; wide = wide; columns = [] })
unfolding page_of page_words
page_reads number side run wide small each =
    rw (
      same_bytes (decimal number),
      side_reads side,
      number_reads (2 ^ 8) run small (omega arith),
      counts_read (2 ^ 16) wide (omega arith) each,
    ) refl

-- ---- a column

abbrev pub counts_words : Column → List (List ℕ)
counts_words column = codes "top" ∷ counts_text column.top ∷ codes "bottom" ∷ counts_text column.bottom
    ∷ codes "picks" ∷ counts_text column.picks ∷ []

abbrev pub to_words : Column → List (List ℕ)
to_words column = codes "to" ∷ decimal column.to.block ∷ decimal column.to.variant ∷ decimal column.to.index
    ∷ counts_words column

abbrev pub column_rest : ℕ → Column → List (List ℕ)
column_rest number column = decimal number ∷ codes "from" ∷ decimal column.from.block ∷ decimal column.from.variant
    ∷ decimal column.from.index ∷ to_words column

column_regrouped : (c n f a b d t x y z p q r s u v e : List ℕ) →
    (c ++ n ++ f ++ (a ++ b ++ d) ++ t ++ (x ++ y ++ z)) ++ (p ++ q ++ r ++ s ++ u ++ v ++ e)
    ≡ (c ++ (n ++ (f ++ (a ++ (b ++ (d ++ (t ++ (x ++ (y ++ (z ++ (p ++ (q ++ (r ++ (s ++ (u ++ v))))))))))))))) ++ e
column_regrouped c n f a b d t x y z p q r s u v e = simp append_assoc

pub column_line_is : (number : ℕ) (column : Column) →
    printed_column number column ≡ line (joined 32 (codes "column" ∷ column_rest number column))
unfolding column_ends column_counts
column_line_is number column = column_regrouped (codes "column ") (decimal number) (codes " from ")
    (decimal column.from.block) (32 ∷ decimal column.from.variant) (32 ∷ decimal column.from.index) (codes " to ")
    (decimal column.to.block) (32 ∷ decimal column.to.variant) (32 ∷ decimal column.to.index) (codes " top ")
    (counts_text column.top) (codes " bottom ") (counts_text column.bottom) (codes " picks ") (counts_text column.picks)
    (10 ∷ [])

pub column_words_lack : (s : ℕ) → s ≤ 32 → (number : ℕ) (column : Column) →
    AllLack s (codes "column" ∷ column_rest number column)
column_words_lack s low number column = (
  dark_lacks s low (codes "column") refl,
  (
    any_decimal_lacks s number (omega arith),
    (
      dark_lacks s low (codes "from") refl,
      (
        any_decimal_lacks s column.from.block (omega arith),
        (
          any_decimal_lacks s column.from.variant (omega arith),
          (
            any_decimal_lacks s column.from.index (omega arith),
            (
              dark_lacks s low (codes "to") refl,
              (
                any_decimal_lacks s column.to.block (omega arith),
                (
                  any_decimal_lacks s column.to.variant (omega arith),
                  (
                    any_decimal_lacks s column.to.index (omega arith),
                    (
                      dark_lacks s low (codes "top") refl,
                      (
                        any_counts_lack s column.top (omega arith),
                        (
                          dark_lacks s low (codes "bottom") refl,
                          (
                            any_counts_lack s column.bottom (omega arith),
                            (
                              dark_lacks s low (codes "picks") refl,
                              (any_counts_lack s column.picks (omega arith), tt),
                            ),
                          ),
                        ),
                      ),
                    ),
                  ),
                ),
              ),
            ),
          ),
        ),
      ),
    ),
  ),
)

pub column_reads : (number : ℕ) (column : Column) → IsPrintedColumn column →
    column_of number (codes "column" ∷ column_rest number column) ≡ Some column
unfolding column_of column_words list_words column_from
column_reads number column h =
    rw (
      same_bytes (decimal number),
      place_reads column.from (to_words column) h.from,
      place_reads column.to (counts_words column) h.to,
      counts_read (2 ^ 16) column.top (omega arith) h.top,
      counts_read (2 ^ 16) column.bottom (omega arith) h.bottom,
      counts_read (2 ^ 32) column.picks (omega arith) h.picks,
    ) refl

-- ---- the numbers of a column

abbrev pub set_words : ℤ → ℤ → ℕ → ℤ → ℤ → List (List ℕ)
set_words goal total badness penalty demerits =
    codes "goal" ∷ scaled_text goal ∷ codes "total" ∷ scaled_text total ∷ codes "badness" ∷ decimal badness
    ∷ codes "penalty" ∷ whole_text penalty ∷ codes "demerits" ∷ whole_text demerits ∷ []

abbrev pub set_rest : ColumnContext → ℕ → List (List ℕ)
set_rest it n = set_words (text_goal it n) (text_total it n) (text_badness it n) (end_penalty it n) (text_demerits it n)

set_regrouped : (g a t b c d p q r z e : List ℕ) →
    (g ++ a ++ t ++ b) ++ (c ++ d ++ p ++ q) ++ (r ++ z ++ e)
    ≡ (g ++ (a ++ (t ++ (b ++ (c ++ (d ++ (p ++ (q ++ (r ++ z))))))))) ++ e
set_regrouped g a t b c d p q r z e = simp append_assoc

pub set_line_is : (it : ColumnContext) (n : ℕ) → set_line it n ≡ line (joined 32 (codes "set" ∷ set_rest it n))
unfolding set_line
set_line_is it n = set_regrouped (codes "set goal ") (scaled_text (text_goal it n)) (codes " total ")
    (scaled_text (text_total it n)) (codes " badness ") (decimal (text_badness it n)) (codes " penalty ")
    (whole_text (end_penalty it n)) (codes " demerits ") (whole_text (text_demerits it n)) (10 ∷ [])

pub set_words_lack : (s : ℕ) → s ≤ 32 → (goal total : ℤ) (badness : ℕ) (penalty demerits : ℤ) →
    AllLack s (codes "set" ∷ set_words goal total badness penalty demerits)
set_words_lack s low goal total badness penalty demerits = (
  dark_lacks s low (codes "set") refl,
  (
    dark_lacks s low (codes "goal") refl,
    (
      any_scaled_lacks s goal (omega arith),
      (
        dark_lacks s low (codes "total") refl,
        (
          any_scaled_lacks s total (omega arith),
          (
            dark_lacks s low (codes "badness") refl,
            (
              any_decimal_lacks s badness (omega arith),
              (
                dark_lacks s low (codes "penalty") refl,
                (
                  any_whole_lacks s penalty (omega arith),
                  (dark_lacks s low (codes "demerits") refl, (any_whole_lacks s demerits (omega arith), tt)),
                ),
              ),
            ),
          ),
        ),
      ),
    ),
  ),
)

pub set_reads : (goal total : ℤ) (badness : ℕ) (penalty demerits : ℤ) →
    IsPrintedNumbers goal total badness penalty demerits →
    set_of (codes "set" ∷ set_words goal total badness penalty demerits) ≡ Some tt
unfolding set_of words_of_set demerits_at
set_reads goal total badness penalty demerits h =
    rw (
      decimal_reads badness h.badness_in,
      whole_reads penalty h.penalty_in,
      whole_reads demerits h.demerits_in,
      scaled_reads goal h.goal_in,
      scaled_reads total h.total_in,
    ) refl

abbrev pub without_rest : ℕ → List (List ℕ)
without_rest demerits = codes "text" ∷ codes "demerits" ∷ decimal demerits ∷ []

pub without_words_lack : (s : ℕ) → s ≤ 32 → (demerits : ℕ) → AllLack s (codes "without" ∷ without_rest demerits)
without_words_lack s low demerits = (
  dark_lacks s low (codes "without") refl,
  (
    dark_lacks s low (codes "text") refl,
    (dark_lacks s low (codes "demerits") refl, (any_decimal_lacks s demerits (omega arith), tt)),
  ),
)

pub without_reads : (demerits : ℕ) → demerits < 2 ^ 127 → without_of (codes "without" ∷ without_rest demerits) ≡ Some tt
unfolding without_of
without_reads demerits small = rw (decimal_reads demerits small) refl
