-- A printed column reads back: its page's head where it begins one, its line, its numbers and its areas.
use Rattle.std.proofs.Common.{◌≡◌, refl, sym, ap, subst, ◌∙◌, ◌<◌, ◌≤◌, ◌+◌, ◌^◌, ℕ, Bool, true, false, List, [], ◌∷◌, ◌++◌, length, append_assoc, append-nil, arith, ℤ}
use Rattle.std.specs.Prelude.{is_some, nat_le, nat_lt, ◌||◌, not, decimal, codes, Option, Some, None, if◌then◌else◌}
use Rattle.std.specs.Option.{option_map, option_map_or}
use Rattle.pg_lemmas.proofs.Numbers.{less_of}
use Rattle.pg_plan.specs.declared.states.Side.{Side}
use Rattle.pg_plan.specs.declared.pages.Column.{Column}
use Rattle.pg_plan.specs.declared.pages.Page.{Page}
use Rattle.pg_rules.specs.Room.{ColumnContext, is_text, size_of, before_bottom}
use Rattle.pg_rules.specs.ColumnRules.{segment, text_total, text_goal, text_badness}
use Rattle.pg_rules.specs.Cost.{text_demerits}
use Rattle.pg_words.specs.Written.{line}
use Rattle.pg_pages.specs.Gaps.{bottom_gaps, gaps_above}
use Rattle.pg_pages.specs.SetGlue.{bottom_widths, glue_widths, note_widths, own_sizes, text_widths}
use Rattle.pg_pages.specs.PageText.{area, hanging_text, set_notes, standing_floats, items_text, set_line, text_area, top_area, bottom_area, text_column, float_column, column_body, end_penalty, column_line as printed_column, page_line as printed_page}
use Rattle.pg_scan.specs.Parts.{parts_of}
use Rattle.pg_labels.specs.Drafts.{◌or_else◌, step, step_at, said, with_column, pages_of, column_number, page_line, column_line, numbers_line, page_or_labels, labels_line, area_line, area_number, wide_line}
use Rattle.pg_labels.specs.PageLines.{page_of, column_of, column_words, set_of, without_of}
use Rattle.pg_labels.specs.PageLines.{set_words as words_of_set}
use Rattle.pg_words.specs.Read.{if_true}
use Rattle.pg_labels.specs.declared.draft.Draft.{Draft}
use Rattle.pg_labels.specs.declared.draft.Stands.{Stands}
use Rattle.pg_labels.specs.declared.draft.Stands.TheVariants.{Start, NoneLegal, Head, Begun, ColumnBegun, GoesOn, Labels}
use Rattle.law_words.proofs.Cut.{joined}
use Rattle.law_words.specs.Ranges.{AllBelow}
use Rattle.law_read_back.specs.PageRanges.{IsPrintedColumn, IsPrintedNumbers, IsPrintedBody}
use Rattle.law_words.proofs.Cut.{lacks, joined_parts, joined_lacks}
use Rattle.law_read_back.proofs.Runs.{Reads, reads_none, reads_then, reads_line, reads_as, reads_to}
use Rattle.law_read_back.proofs.LabelTexts.{no_point}
use Rattle.law_read_back.proofs.GapLines.{hanging_pointed, set_notes_pointed, standing_area_pointed}
use Rattle.law_read_back.proofs.Pointed.{IsPointed, told, items_pointed}
use Rattle.law_read_back.proofs.PageLines.{page_rest, page_line_is, page_words_lack, page_reads, column_rest, column_line_is, column_words_lack, column_reads, set_rest, set_line_is, set_words_lack, set_reads, without_rest, without_words_lack, without_reads}
use Rattle.pg_lemmas.proofs.Lists.{some_is}
use Rattle.std.proofs.lemmas.Bool.{le-leb, leb-true}

-- the pages that are done, and the last one
abbrev pub Held : Type 0
Held = List Page × Option Page

abbrev pub held : Draft → Held
held d = (d.done, d.last)

-- a text was read, with these pages
abbrev pub moved : Draft → Stands → Held → List ℕ → Draft
moved d to pages text = record d { stands = to; done = pages.0; last = pages.1; page_text = d.page_text ++ text }

-- the text is read to where this may stand, with these pages
pub record Leads (d : Draft) (text : List ℕ) (ends : Stands → Bool) (pages : Held) : Type 0 where
  pub to : Stands
  pub stands : ends to ≡ true
  pub reads : Reads d text (moved d to pages text)

pub leads_then : (d : Draft) (a b : List ℕ) (middle ends : Stands → Bool) (between pages : Held) →
    Leads d a middle between →
    ((to : Stands) → middle to ≡ true → Leads (moved d to between a) b ends pages) → Leads d (a ++ b) ends pages
leads_then d a b middle ends between pages first second =
    let one = first.to in
    let next = second first.to first.stands in
    record {
      to = next.to;
      stands = next.stands;
      reads = reads_to d (moved (moved d first.to between a) next.to pages b) (moved d next.to pages (a ++ b)) (a ++ b)
          (ap (λ (t : List ℕ). record d { stands = next.to; done = pages.0; last = pages.1; page_text = t })
          (append_assoc d.page_text a b))
          (reads_then d (moved d first.to between a) (moved (moved d first.to between a) next.to pages b) a b
          first.reads next.reads);
    }

pub leads_as : (d : Draft) (a b : List ℕ) (ends : Stands → Bool) (pages : Held) → a ≡ b →
    Leads d a ends pages → Leads d b ends pages
leads_as d a b ends pages e h = subst (λ (t : List ℕ). Leads d t ends pages) e h

pub leads_none : (d : Draft) (ends : Stands → Bool) → ends d.stands ≡ true → Leads d [] ends (held d)
leads_none d ends h = record {
  to = d.stands;
  stands = h;
  reads = reads_to d d (moved d d.stands (held d) []) []
      (ap (λ (t : List ℕ). record d { page_text = t }) (sym (append-nil d.page_text))) (reads_none d);
}

-- ---- areas

-- a column with its numbers, and areas before this one
abbrev pub up_to : ℕ → Stands → Bool
up_to bound Start = false
up_to bound NoneLegal = false
up_to bound Head = false
up_to bound (Begun has_wide) = false
up_to bound ColumnBegun = false
up_to bound (GoesOn next) = nat_le next bound
up_to bound (Labels fitness) = false

pub up_more : (a b : ℕ) → a ≤ b → (stands : Stands) → up_to a stands ≡ true → up_to b stands ≡ true
up_more a b less Start h = absurd cc
up_more a b less NoneLegal h = absurd cc
up_more a b less Head h = absurd cc
up_more a b less (Begun has_wide) h = absurd cc
up_more a b less ColumnBegun h = absurd cc
up_more a b less (GoesOn next) h = le-leb next b (omega (arith, leb-true next a h))
up_more a b less (Labels fitness) h = absurd cc

area_step : (number : ℕ) (name : List ℕ) → area_number (codes "area " ++ name) ≡ Some number →
    (stands : Stands) → up_to number stands ≡ true → (d : Draft) →
    step_at stands d (codes "area " ++ name) ≡ Some (said d (codes "area " ++ name) (GoesOn (number + 1)))
unfolding area_line
area_step number name is Start h d = absurd cc
area_step number name is NoneLegal h d = absurd cc
area_step number name is Head h d = absurd cc
area_step number name is (Begun has_wide) h d = absurd cc
area_step number name is ColumnBegun h d = absurd cc
area_step number name is (GoesOn next) h d = rw (no_point (nat_lt 0 next) d (codes "area " ++ name) refl, is, h) refl
area_step number name is (Labels fitness) h d = absurd cc

-- an area that is there
named_leads : (number : ℕ) (name : List ℕ) → area_number (codes "area " ++ name) ≡ Some number →
    lacks 10 name ≡ true → (text : List ℕ) → IsPointed text → (d : Draft) → up_to number d.stands ≡ true →
    Leads d (line (codes "area " ++ name) ++ text) (up_to (number + 1)) (held d)
unfolding step
named_leads number name is none text pointed d h =
    let e = said d (codes "area " ++ name) (GoesOn (number + 1)) in
    let one = reads_line d e (codes "area " ++ name) none (area_step number name is d.stands h d) in
    record {
      to = GoesOn (number + 1);
      stands = le-leb (number + 1) (number + 1) (omega arith);
      reads = reads_to d (told e text) (moved d (GoesOn (number + 1)) (held d) (line (codes "area " ++ name) ++ text))
          (line (codes "area " ++ name) ++ text)
          (ap (λ (t : List ℕ). record d { stands = GoesOn (number + 1); page_text = t })
          (append_assoc d.page_text (line (codes "area " ++ name)) text))
          (reads_then d e (told e text) (line (codes "area " ++ name)) text one
          (pointed e (less_of 0 (number + 1) (omega arith))));
    }

area_leads : (number : ℕ) (name : List ℕ) → area_number (codes "area " ++ name) ≡ Some number →
    lacks 10 name ≡ true → (text : List ℕ) → IsPointed text → (d : Draft) → up_to number d.stands ≡ true →
    Leads d (area name text) (up_to (number + 1)) (held d)
area_leads number name is none [] pointed d h =
    leads_none d (up_to (number + 1)) (up_more number (number + 1) (omega arith) d.stands h)
area_leads number name is none (byte ∷ text) pointed d h = named_leads number name is none (byte ∷ text) pointed d h

top_leads : (it : ColumnContext) (widths : List ℤ) (d : Draft) → up_to 0 d.stands ≡ true →
    Leads d (top_area it widths) (up_to 1) (held d)
unfolding area_number
top_leads it widths d h = area_leads 0 (codes "top") refl refl
    (hanging_text it.document it.document.style.top it.before it.column.top widths)
    (hanging_pointed it.document it.document.style.top it.before it.column.top widths) d h

bottom_leads : (it : ColumnContext) (widths : List ℤ) (d : Draft) → up_to 2 d.stands ≡ true →
    Leads d (bottom_area it widths) (up_to 3) (held d)
unfolding area_number
bottom_leads it widths d h = area_leads 2 (codes "bottom") refl refl
    (standing_floats it.document it.document.style.bottom (before_bottom it) it.column.bottom widths)
    (standing_area_pointed it.document it.document.style.bottom (before_bottom it) it.column.bottom widths) d h

text_leads : (it : ColumnContext) (n : ℕ) (d : Draft) → up_to 1 d.stands ≡ true →
    Leads d (text_area it n) (up_to 2) (held d)
unfolding area_number text_area
text_leads it n d h = named_leads 1 (codes "text") refl refl
    (items_text it.document.style.topskip (segment it n) (text_widths it n))
    (items_pointed it.document.style.topskip (segment it n) (text_widths it n)) d h

notes_lead : (it : ColumnContext) (n : ℕ) (d : Draft) → up_to 3 d.stands ≡ true →
    Leads d (area (codes "notes") (set_notes it.document.style (segment it n) (note_widths it n))) (up_to 4) (held d)
unfolding area_number
notes_lead it n d h = area_leads 3 (codes "notes") refl refl
    (set_notes it.document.style (segment it n) (note_widths it n))
    (set_notes_pointed it.document.style (segment it n) (note_widths it n)) d h

-- ---- the numbers of a column

numbers_lead : (d : Draft) (text printed : List ℕ) → d.stands ≡ ColumnBegun → printed ≡ line text →
    lacks 10 text ≡ true → (is_some (set_of (parts_of 32 text)) || is_some (without_of (parts_of 32 text))) ≡ true →
    Leads d printed (up_to 0) (held d)
unfolding step numbers_line
numbers_lead d text printed is same none says =
    let e = said d text (GoesOn 0) in
    let stepped : step d text ≡ Some e =
    ap (λ (s : Stands). step_at s d text) is ∙ ap (λ (b : Bool). if_true b e) says in
    record {
      to = GoesOn 0;
      stands = refl;
      reads = reads_to d e (moved d (GoesOn 0) (held d) printed) printed
          (ap (λ (t : List ℕ). record d { stands = GoesOn 0; page_text = d.page_text ++ t }) (sym same))
          (reads_as d e (line text) printed (sym same) (reads_line d e text none stepped));
    }

set_leads : (it : ColumnContext) (n : ℕ) (d : Draft) → d.stands ≡ ColumnBegun →
    IsPrintedNumbers (text_goal it n) (text_total it n) (text_badness it n) (end_penalty it n) (text_demerits it n) →
    Leads d (set_line it n) (up_to 0) (held d)
set_leads it n d is h =
    let goal = text_goal it n in
    let total = text_total it n in
    let badness = text_badness it n in
    let penalty = end_penalty it n in
    let demerits = text_demerits it n in
    numbers_lead d (joined 32 (codes "set" ∷ set_rest it n)) (set_line it n) is (set_line_is it n)
    (joined_lacks 10 32 (codes "set" ∷ set_rest it n) refl
    (set_words_lack 10 (omega arith) goal total badness penalty demerits))
    (ap (λ (ws : List (List ℕ)). is_some (set_of ws) || is_some (without_of ws))
    (joined_parts 32 (codes "set") (set_rest it n)
    (set_words_lack 32 (omega arith) goal total badness penalty demerits))
    ∙ ap (λ (o : Option (Unit {0})). is_some o || is_some (without_of (codes "set" ∷ set_rest it n)))
    (set_reads goal total badness penalty demerits h))

not_set : (words : List (List ℕ)) → set_of (codes "without" ∷ words) ≡ None
unfolding set_of words_of_set
not_set words = refl

without_leads : (demerits : ℕ) (d : Draft) → d.stands ≡ ColumnBegun → demerits < 2 ^ 127 →
    Leads d (line (codes "without text demerits " ++ decimal demerits)) (up_to 0) (held d)
without_leads demerits d is small =
    numbers_lead d (joined 32 (codes "without" ∷ without_rest demerits))
    (line (codes "without text demerits " ++ decimal demerits)) is refl
    (joined_lacks 10 32 (codes "without" ∷ without_rest demerits) refl (without_words_lack 10 (omega arith) demerits))
    (ap (λ (ws : List (List ℕ)). is_some (set_of ws) || is_some (without_of ws))
    (joined_parts 32 (codes "without") (without_rest demerits) (without_words_lack 32 (omega arith) demerits))
    ∙ ap (λ (o : Option (Unit {0})). is_some o || is_some (without_of (codes "without" ∷ without_rest demerits)))
    (not_set (without_rest demerits))
    ∙ ap (λ (o : Option (Unit {0})). is_some o) (without_reads demerits small))

-- ---- what stands in a column

text_column_leads : (it : ColumnContext) (n : ℕ) (d : Draft) → d.stands ≡ ColumnBegun →
    IsPrintedNumbers (text_goal it n) (text_total it n) (text_badness it n) (end_penalty it n) (text_demerits it n) →
    Leads d (text_column it n) (up_to 4) (held d)
text_column_leads it n d is h =
    let above = top_area it (glue_widths it n) in
    let below = bottom_area it (bottom_widths it n) in
    let top = leads_then d (set_line it n) above (up_to 0) (up_to 1) (held d) (held d) (set_leads it n d is h)
    (λ (to : Stands) (s : up_to 0 to ≡ true). top_leads it (glue_widths it n) (moved d to (held d) (set_line it n)) s) in
    let text = leads_then d (set_line it n ++ above) (text_area it n) (up_to 1) (up_to 2) (held d) (held d) top
    (λ (to : Stands) (s : up_to 1 to ≡ true). text_leads it n (moved d to (held d) (set_line it n ++ above)) s) in
    let bottom = leads_then d (set_line it n ++ above ++ text_area it n) below (up_to 2) (up_to 3)
    (held d) (held d) text
    (λ (to : Stands) (s : up_to 2 to ≡ true).
    bottom_leads it (bottom_widths it n) (moved d to (held d) (set_line it n ++ above ++ text_area it n)) s) in
    leads_then d (set_line it n ++ above ++ text_area it n ++ below)
    (area (codes "notes") (set_notes it.document.style (segment it n) (note_widths it n))) (up_to 3) (up_to 4) (held d)
    (held d) bottom
    (λ (to : Stands) (s : up_to 3 to ≡ true).
    notes_lead it n (moved d to (held d) (set_line it n ++ above ++ text_area it n ++ below)) s)

float_column_leads : (it : ColumnContext) (d : Draft) → d.stands ≡ ColumnBegun →
    it.document.style.float_column.demerits < 2 ^ 127 → Leads d (float_column it) (up_to 4) (held d)
float_column_leads it d is small =
    let numbers = line (codes "without text demerits " ++ decimal it.document.style.float_column.demerits) in
    let above = top_area it (own_sizes (gaps_above it)) in
    let below = bottom_area it (own_sizes (bottom_gaps it)) in
    let top = leads_then d numbers above (up_to 0) (up_to 2) (held d) (held d)
    (without_leads it.document.style.float_column.demerits d is small)
    (λ (to : Stands) (s : up_to 0 to ≡ true). raised
    (top_leads it (own_sizes (gaps_above it)) (moved d to (held d) numbers) s)) in
    leads_then d (numbers ++ above) below (up_to 2) (up_to 4) (held d) (held d) top
    (λ (to : Stands) (s : up_to 2 to ≡ true). raised_too
    (bottom_leads it (own_sizes (bottom_gaps it)) (moved d to (held d) (numbers ++ above)) s))
  where
    raised : {e : Draft} {t : List ℕ} {ps : Held} → Leads e t (up_to 1) ps → Leads e t (up_to 2) ps
    raised l = record { to = l.to; stands = up_more 1 2 (omega arith) l.to l.stands; reads = l.reads }

    raised_too : {e : Draft} {t : List ℕ} {ps : Held} → Leads e t (up_to 3) ps → Leads e t (up_to 4) ps
    raised_too l = record { to = l.to; stands = up_more 3 4 (omega arith) l.to l.stands; reads = l.reads }

pub body_leads : (it : ColumnContext) (d : Draft) → d.stands ≡ ColumnBegun → IsPrintedBody it →
    Leads d (column_body it) (up_to 4) (held d)
body_leads it d is h = by (is_text it) refl
  where
    by : (b : Bool) → b ≡ is_text it →
        Leads d (if b then option_map_or (text_column it) (size_of it) [] else float_column it) (up_to 4) (held d)
    by true e =
        let n = some_is (size_of it) (h.sized (sym e)) in
        leads_as d (text_column it n.0) (option_map_or (text_column it) (size_of it) []) (up_to 4) (held d)
        (ap (λ (o : Option ℕ). option_map_or (text_column it) o []) (sym n.1))
        (text_column_leads it n.0 d is (h.numbers n.0 n.1))
    by false e = float_column_leads it d is h.demerits

-- ---- the line of a column

abbrev pub starts_column : Stands → Bool
starts_column Start = false
starts_column NoneLegal = false
starts_column Head = false
starts_column (Begun has_wide) = true
starts_column ColumnBegun = false
starts_column (GoesOn next) = true
starts_column (Labels fitness) = false

abbrev pub is_column_begun : Stands → Bool
is_column_begun Start = false
is_column_begun NoneLegal = false
is_column_begun Head = false
is_column_begun (Begun has_wide) = false
is_column_begun ColumnBegun = true
is_column_begun (GoesOn next) = false
is_column_begun (Labels fitness) = false

pub column_begun_is : (stands : Stands) → is_column_begun stands ≡ true → stands ≡ ColumnBegun
column_begun_is Start h = absurd cc
column_begun_is NoneLegal h = absurd cc
column_begun_is Head h = absurd cc
column_begun_is (Begun has_wide) h = absurd cc
column_begun_is ColumnBegun h = refl
column_begun_is (GoesOn next) h = absurd cc
column_begun_is (Labels fitness) h = absurd cc

column_next : (stands : Stands) → starts_column stands ≡ true → (d : Draft) (t : List ℕ) →
    step_at stands d (codes "column " ++ t) ≡ (column_line d (codes "column " ++ t)
    or_else page_or_labels d (codes "column " ++ t))
unfolding area_line area_number wide_line
column_next Start h d t = absurd cc
column_next NoneLegal h d t = absurd cc
column_next Head h d t = absurd cc
column_next (Begun false) h d t = refl
column_next (Begun true) h d t = refl
column_next ColumnBegun h d t = absurd cc
column_next (GoesOn next) h d t = rw (no_point (nat_lt 0 next) d (codes "column " ++ t) refl) refl
column_next (Labels fitness) h d t = absurd cc

-- with a column more on the last page
abbrev pub with_held : Column → Held → Held
with_held column pages = (pages.0, option_map (with_column column) pages.1)

pub column_line_leads : (number : ℕ) (column : Column) (d : Draft) → starts_column d.stands ≡ true →
    column_number d.last ≡ number → IsPrintedColumn column →
    Leads d (printed_column number column) is_column_begun (with_held column (held d))
unfolding step column_line
column_line_leads number column d able same h =
    let text = joined 32 (codes "column" ∷ column_rest number column) in
    let e : Draft = record (said d text ColumnBegun) { last = option_map (with_column column) d.last } in
    let says : column_of (column_number d.last) (parts_of 32 text) ≡ Some column =
    ap (λ (k : ℕ). column_of k (parts_of 32 text)) same
    ∙ ap (column_of number) (joined_parts 32 (codes "column") (column_rest number column)
    (column_words_lack 32 (omega arith) number column))
    ∙ column_reads number column h in
    let stepped : step d text ≡ Some e =
    column_next d.stands able d (joined 32 (column_rest number column))
    ∙ ap (λ (o : Option Column).
    option_map (λ (c : Column). record (said d text ColumnBegun) { last = option_map (with_column c) d.last }) o
    or_else page_or_labels d text) says in
    record {
      to = ColumnBegun;
      stands = refl;
      reads = reads_to d e (moved d ColumnBegun (with_held column (held d)) (printed_column number column))
          (printed_column number column)
          (ap (λ (t : List ℕ). moved d ColumnBegun (with_held column (held d)) t) (sym (column_line_is number column)))
          (reads_as d e (line text) (printed_column number column) (sym (column_line_is number column))
          (reads_line d e text (joined_lacks 10 32 (codes "column" ∷ column_rest number column) refl
          (column_words_lack 10 (omega arith) number column)) stepped));
    }

-- ---- the head of a page

abbrev pub starts_page : Stands → Bool
starts_page Start = false
starts_page NoneLegal = false
starts_page Head = true
starts_page (Begun has_wide) = false
starts_page ColumnBegun = false
starts_page (GoesOn next) = true
starts_page (Labels fitness) = false

abbrev pub is_bare : Stands → Bool
is_bare Start = false
is_bare NoneLegal = false
is_bare Head = false
is_bare (Begun has_wide) = not has_wide
is_bare ColumnBegun = false
is_bare (GoesOn next) = false
is_bare (Labels fitness) = false

page_next : (stands : Stands) → starts_page stands ≡ true → (d : Draft) (t : List ℕ) →
    step_at stands d (codes "page " ++ t)
    ≡ (page_line d (codes "page " ++ t) or_else labels_line d (codes "page " ++ t))
unfolding parts_of column_line column_of column_words area_line area_number wide_line
page_next Start h d t = absurd cc
page_next NoneLegal h d t = absurd cc
page_next Head h d t = refl
page_next (Begun has_wide) h d t = absurd cc
page_next ColumnBegun h d t = absurd cc
page_next (GoesOn next) h d t = rw (no_point (nat_lt 0 next) d (codes "page " ++ t) refl) refl
page_next (Labels fitness) h d t = absurd cc

abbrev pub bare_page : ℕ → List ℕ → Page
bare_page run wide = record { run = run; wide = wide; columns = [] }

-- with a page more
abbrev pub with_page : Page → Draft → Held
with_page page d = (pages_of d, Some page)

page_line_leads : (number : ℕ) (side : Side) (run : ℕ) (wide : List ℕ) (d : Draft) → starts_page d.stands ≡ true →
    length (pages_of d) + 1 ≡ number → run < 2 ^ 8 → AllBelow (2 ^ 16) wide →
    Leads d (printed_page number side run wide) is_bare (with_page (bare_page run wide) d)
unfolding step page_line
page_line_leads number side run wide d able same small each =
    let text = joined 32 (codes "page" ∷ page_rest number side run wide) in
    let pages = with_page (bare_page run wide) d in
    let e : Draft = record (said d text (Begun false)) { done = pages_of d; last = Some (bare_page run wide) } in
    let says : page_of (length (pages_of d) + 1) (parts_of 32 text) ≡ Some (bare_page run wide) =
    ap (λ (k : ℕ). page_of k (parts_of 32 text)) same
    ∙ ap (page_of number) (joined_parts 32 (codes "page") (page_rest number side run wide)
    (page_words_lack 32 (omega arith) number side run wide))
    ∙ page_reads number side run wide small each in
    let stepped : step d text ≡ Some e =
    page_next d.stands able d (joined 32 (page_rest number side run wide))
    ∙ ap (λ (o : Option Page).
    option_map (λ (p : Page). record (said d text (Begun false)) { done = pages_of d; last = Some p }) o
    or_else labels_line d text) says in
    record {
      to = Begun false;
      stands = refl;
      reads = reads_to d e (moved d (Begun false) pages (printed_page number side run wide))
          (printed_page number side run wide)
          (ap (λ (t : List ℕ). moved d (Begun false) pages t) (sym (page_line_is number side run wide)))
          (reads_as d e (line text) (printed_page number side run wide) (sym (page_line_is number side run wide))
          (reads_line d e text (joined_lacks 10 32 (codes "page" ∷ page_rest number side run wide) refl
          (page_words_lack 10 (omega arith) number side run wide)) stepped));
    }

wide_step : (stands : Stands) → is_bare stands ≡ true → (d : Draft) →
    step_at stands d (codes "area wide") ≡ Some (said d (codes "area wide") (Begun true))
unfolding wide_line
wide_step Start h d = absurd cc
wide_step NoneLegal h d = absurd cc
wide_step Head h d = absurd cc
wide_step (Begun false) h d = refl
wide_step (Begun true) h d = absurd cc
wide_step ColumnBegun h d = absurd cc
wide_step (GoesOn next) h d = absurd cc
wide_step (Labels fitness) h d = absurd cc

bare_starts : (stands : Stands) → is_bare stands ≡ true → starts_column stands ≡ true
bare_starts Start h = absurd cc
bare_starts NoneLegal h = absurd cc
bare_starts Head h = absurd cc
bare_starts (Begun has_wide) h = refl
bare_starts ColumnBegun h = absurd cc
bare_starts (GoesOn next) h = absurd cc
bare_starts (Labels fitness) h = absurd cc

wide_leads : (text : List ℕ) → IsPointed text → (d : Draft) → is_bare d.stands ≡ true →
    Leads d (area (codes "wide") text) starts_column (held d)
unfolding step
wide_leads [] pointed d h = leads_none d starts_column (bare_starts d.stands h)
wide_leads (byte ∷ text) pointed d h =
    let e = said d (codes "area wide") (Begun true) in
    let one = reads_line d e (codes "area wide") refl (wide_step d.stands h d) in
    record {
      to = Begun true;
      stands = refl;
      reads = reads_to d (told e (byte ∷ text)) (moved d (Begun true) (held d)
          (line (codes "area wide") ++ byte ∷ text))
          (line (codes "area wide") ++ byte ∷ text)
          (ap (λ (t : List ℕ). record d { stands = Begun true; page_text = t })
          (append_assoc d.page_text (line (codes "area wide")) (byte ∷ text)))
          (reads_then d e (told e (byte ∷ text)) (line (codes "area wide")) (byte ∷ text) one (pointed e refl));
    }

pub head_leads : (number : ℕ) (side : Side) (run : ℕ) (wide floats : List ℕ) (d : Draft) → starts_page d.stands ≡ true →
    length (pages_of d) + 1 ≡ number → run < 2 ^ 8 → AllBelow (2 ^ 16) wide → IsPointed floats →
    Leads d (printed_page number side run wide ++ area (codes "wide") floats) starts_column
    (with_page (bare_page run wide) d)
head_leads number side run wide floats d able same small each pointed =
    let pages = with_page (bare_page run wide) d in
    leads_then d (printed_page number side run wide) (area (codes "wide") floats) is_bare starts_column pages pages
    (page_line_leads number side run wide d able same small each)
    (λ (to : Stands) (s : is_bare to ≡ true).
    wide_leads floats pointed (moved d to pages (printed_page number side run wide)) s)
