-- A printed output text with a pagination reads back.
use Rattle.std.proofs.Common.{◌≡◌, refl, sym, ap, ◌∙◌, ◌<◌, ◌≤◌, ◌^◌, ℕ, Bool, true, List, [], ◌∷◌, ◌++◌, length, arith}
use Rattle.std.specs.Prelude.{codes, Option, Some, None, Ok, ℤ, nat_abs, reverse}
use Rattle.std.specs.Option.{option_map}
use Rattle.pg_list.specs.GalleyValue.{GalleyValue}
use Rattle.pg_plan.specs.declared.states.Label.{Label}
use Rattle.pg_plan.specs.declared.pages.Page.{Page}
use Rattle.pg_plan.specs.declared.pages.Pagination.{Pagination}
use Rattle.pg_plan.specs.declared.pages.PageMove.{PageMove}
use Rattle.pg_plan.specs.Order.{columns}
use Rattle.pg_style.specs.Values.{StyleValue}
use Rattle.pg_rules.specs.Legal.{document, misfilled}
use Rattle.pg_words.specs.Written.{line}
use Rattle.pg_pages.specs.PageText.{page_text, columns_text, head_line as printed_head}
use Rattle.law_columns.specs.Pages.{pages_from}
use Rattle.law_columns.proofs.PagesLaws.{plan_back}
use Rattle.pg_labels.specs.LabelText.{label_text}
use Rattle.pg_scan.specs.Parts.{parts_of}
use Rattle.pg_labels.specs.Drafts.{said, started, step, none_line, head_line}
use Rattle.pg_labels.specs.PageLines.{head_of}
use Rattle.pg_labels.specs.Reading.{output_of, said_by}
use Rattle.pg_labels.specs.declared.draft.Draft.{Draft}
use Rattle.pg_labels.specs.declared.draft.Stands.{Stands}
use Rattle.pg_labels.specs.declared.draft.Stands.TheVariants.{Start, NoneLegal, Head, Begun, ColumnBegun, GoesOn, Labels}
use Rattle.pg_labels.specs.declared.output.Output.{Output}
use Rattle.pg_labels.specs.declared.output.Shown.TheVariants.{Pages}
use Rattle.law_words.proofs.Cut.{joined}
use Rattle.law_words.specs.Ranges.{is_wide}
use Rattle.law_read_back.specs.Ranges.{ArePrintedLabels}
use Rattle.law_read_back.specs.PageRanges.{IsPrintedPlan}
use Rattle.law_words.proofs.Cut.{joined_parts, joined_lacks}
use Rattle.law_read_back.proofs.Runs.{Reads, reads_then, reads_line, reads_as, reads_to}
use Rattle.law_read_back.proofs.LabelTexts.{reads_all, can_end}
use Rattle.law_read_back.proofs.PageLines.{head_rest, head_line_is, head_words_lack, head_reads}
use Rattle.law_read_back.proofs.Columns.{moved}
use Rattle.law_read_back.proofs.Pages.{ends_of, columns_lead, held_all, held_of}

-- the head was read
abbrev headed : ℤ → List ℕ → Draft
headed cost text = record {
  stands = Head;
  cost = Some cost;
  done = [];
  last = None;
  page_text = text;
  count = [];
  labels = [];
}

head_leads : (pages : ℕ) (cost width : ℤ) → pages < 10 ^ 64 → is_wide cost ≡ true → nat_abs width ≤ 2 ^ 60 →
    Reads started (printed_head pages cost width) (headed cost (printed_head pages cost width))
unfolding step none_line head_line
head_leads pages cost width few wide small =
    let text = joined 32 (codes "pages" ∷ head_rest pages cost width) in
    let e = headed cost (line text) in
    let says : head_of (parts_of 32 text) ≡ Some cost =
    ap head_of (joined_parts 32 (codes "pages") (head_rest pages cost width)
    (head_words_lack 32 (omega arith) pages cost width))
    ∙ head_reads pages cost width few wide small in
    let stepped : step started text ≡ Some e =
    ap (λ (o : Option ℤ). option_map (λ (z : ℤ). record (said started text Head) { cost = Some z }) o) says in
    reads_to started e (headed cost (printed_head pages cost width)) (printed_head pages cost width)
    (ap (headed cost) (sym (head_line_is pages cost width)))
    (reads_as started e (line text) (printed_head pages cost width) (sym (head_line_is pages cost width))
    (reads_line started e text (joined_lacks 10 32 (codes "pages" ∷ head_rest pages cost width) refl
    (head_words_lack 10 (omega arith) pages cost width)) stepped))

abbrev output_with : Pagination → ℤ → List ℕ → List Label → Output
output_with plan cost text labels = record { shown = Pages plan cost; page_text = text; labels = labels }

ends_can : (ms : List PageMove) (to : Stands) → ends_of ms to ≡ true → can_end to ≡ true
ends_can [] Start h = absurd cc
ends_can [] NoneLegal h = refl
ends_can [] Head h = refl
ends_can [] (Begun has_wide) h = refl
ends_can [] ColumnBegun h = absurd cc
ends_can [] (GoesOn next) h = refl
ends_can [] (Labels fitness) h = absurd cc
ends_can (m ∷ ms) Start h = absurd cc
ends_can (m ∷ ms) NoneLegal h = refl
ends_can (m ∷ ms) Head h = refl
ends_can (m ∷ ms) (Begun has_wide) h = refl
ends_can (m ∷ ms) ColumnBegun h = absurd cc
ends_can (m ∷ ms) (GoesOn next) h = refl
ends_can (m ∷ ms) (Labels fitness) h = absurd cc

pub pages_read : (galley : GalleyValue) (style : StyleValue) (plan : Pagination) (cost : ℤ) (fitness : Bool)
    (labels : List Label) → misfilled style.columns (reverse plan.pages) ≡ None →
    IsPrintedPlan galley style plan cost → length labels < 2 ^ 64 → ArePrintedLabels fitness labels →
    output_of (page_text galley style plan cost ++ label_text fitness labels)
    ≡ Ok (record { shown = Pages plan cost; page_text = page_text galley style plan cost; labels = labels })
unfolding output_of page_text
pages_read galley style plan cost fitness labels filled h small each =
    let doc = document galley style in
    let ms = columns plan in
    let head = printed_head (length plan.pages) cost galley.width in
    let d = headed cost head in
    let leads = columns_lead doc ms h.moves d refl refl in
    let pages = held_of (pages_from style ms) in
    let e = moved d leads.to pages (columns_text doc ms) in
    let all = reads_then started d e head (columns_text doc ms)
    (head_leads (length plan.pages) cost galley.width h.pages h.cost_in h.width) leads.reads in
    ap said_by (reads_all started fitness (head ++ columns_text doc ms) e labels all
    (ends_can ms leads.to leads.stands) refl small each)
    ∙ ap (λ (ps : List Page). Ok (output_with (record { pages = ps }) cost (head ++ columns_text doc ms) labels))
    (held_all (pages_from style ms))
    ∙ ap (λ (p : Pagination). Ok (output_with p cost (head ++ columns_text doc ms) labels))
    (plan_back style plan filled)
