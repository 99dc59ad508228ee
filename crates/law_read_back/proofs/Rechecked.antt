-- What a run with labels writes is read as what it shows.
use Rattle.std.proofs.Common.{◌≡◌, ◌≤◌, ◌<◌, ◌^◌, ◌+◌, inl, inr, ℕ, suc, ap, refl, subst, Bool, List, [], ◌∷◌, ◌++◌, length, true, false}
use Rattle.std.proofs.Common.{arith, length-append}
use Rattle.std.specs.Prelude.{ℤ, Contains, if◌then◌else◌, not, ◌==◌}
use Rattle.std.proofs.lemmas.Int.{ints}
use Rattle.std.proofs.lemmas.List.{length-reverse}
use Rattle.pg_list.specs.GalleyValue.{GalleyValue}
use Rattle.pg_plan.specs.Order.{columns}
use Rattle.pg_plan.specs.declared.pages.Column.{Column}
use Rattle.pg_plan.specs.declared.pages.Page.{Page}
use Rattle.pg_plan.specs.declared.pages.PageMove.{PageMove}
use Rattle.pg_plan.specs.declared.pages.Pagination.{Pagination}
use Rattle.pg_plan.specs.declared.states.Label.{Label}
use Rattle.pg_style.specs.Values.{StyleValue}
use Rattle.pg_rules.specs.Cost.{cost}
use Rattle.pg_rules.specs.Frontier.{Frontier, IsLabel}
use Rattle.pg_rules.specs.History.{next_column}
use Rattle.pg_rules.specs.Legal.{document}
use Rattle.pg_rules.specs.NoWorse.{is_same_key}
use Rattle.pg_rules.specs.Room.{Document}
use Rattle.pg_rules.specs.States.{Prefix, state_of}
use Rattle.pg_table.specs.Space.{Lawful, Small}
use Rattle.law_columns.specs.BeginningLaws.{LegalAreDone}
use Rattle.law_columns.specs.Pages.{add_column, page_with, pages_from}
use Rattle.law_space.specs.SpaceLaws.{BeginningsAreRuns}
use Rattle.law_space.specs.PageSpace.{wide_meaning}
use Rattle.pg_floats.specs.AreFloats.{float_total}
use Rattle.pg_pages.specs.PageText.{none_text, page_text}
use Rattle.pg_labels.specs.LabelText.{label_line, label_front, label_rest, labels_from, labels_line}
use Rattle.pg_labels.specs.declared.output.Output.{Output}
use Rattle.pg_words.specs.Written.{line, whole_text}
use Rattle.law_words.specs.Ranges.{is_wide}
use Rattle.law_read_back.proofs.Moves.{few_is_wide}
use Rattle.law_read_back.specs.OutputLaws.{NoneReadsBack, PagesReadBack, StatesAreInRange, no_pages_output, pages_output}
use Rattle.law_read_back.specs.Ranges.{ArePrintedLabels}
use Rattle.law_read_back.specs.StateRanges.{AreStatesInRange, IsStateInRange}
use Rattle.law_check.specs.CheckLaws.{BestShownPasses, NoneShownPasses, ShowsBest, ShowsNone}
use Rattle.law_check.specs.Tests.{PassesAll}
use Rattle.law_read_back.specs.RecheckLaws.{BestTextTells, NoneTextTells, with_labels}

-- ---- there are no more labels than bytes, and no more pages than columns

line_long : (fitness : Bool) (number : ℕ) (label : Label) → 1 ≤ length (label_line fitness number label)
unfolding label_line
line_long fitness number label =
    let front = label_front number label.state ++ label_rest fitness label.state in
    let end = line (32 ∷ whole_text label.cost) in
    let both : length (front ++ end) ≡ length front + length end = length-append front end in
    omega (arith, both)

labels_few : (fitness : Bool) (number : ℕ) (labels : List Label) →
    length labels ≤ length (labels_from fitness number labels)
labels_few fitness number [] = omega arith
labels_few fitness number (label ∷ labels) =
    let one = line_long fitness number label in
    let more = labels_few fitness (number + 1) labels in
    let both = length-append (label_line fitness number label) (labels_from fitness (number + 1) labels) in
    omega (arith, one, more, both)

text_long : (style : StyleValue) (pages : List ℕ) (labels : List Label) →
    length labels ≤ length (with_labels style pages labels)
text_long style pages labels =
    let front = labels_line (not (style.version == 1)) (length labels) in
    let lines = labels_from (not (style.version == 1)) 1 labels in
    let more = labels_few (not (style.version == 1)) 1 labels in
    let inner = length-append front lines in
    let outer = length-append pages (front ++ lines) in
    omega (arith, more, inner, outer)

one_page : (is_new : Bool) (page : Page) (column : Column) (pages : List Page) (n : ℕ) → length pages ≤ n →
    length (if is_new then page ∷ pages else add_column column pages) ≤ suc n
one_page true page column pages n few = omega (arith, few)
one_page false page column [] n few = omega (arith, few)
one_page false page column (last ∷ pages) n few = omega (arith, few)

pages_few : (style : StyleValue) (ms : List PageMove) → length (pages_from style ms) ≤ length ms
pages_few style [] = omega arith
pages_few style (m ∷ ms) =
    one_page (next_column style ms == 1) (page_with m.run m.wide (m.column ∷ [])) m.column (pages_from style ms)
    (length ms) (pages_few style ms)

-- ---- what is written is in range

each_in_range : (doc : Document) (labels : List Label) →
    ((label : Label) → Contains labels label → IsStateInRange doc label) → AreStatesInRange doc labels
each_in_range doc [] each = tt
each_in_range doc (x ∷ xs) each = (
  each x (0, omega arith, refl),
  each_in_range doc xs (λ label (k, within, is). each label (suc k, omega arith, is)),
)

small_is_wide : (z : ℤ) → Small z → is_wide z ≡ true
small_is_wide z small = few_is_wide z (omega (arith, ints, small.above, small.below))

module _ (g : GalleyValue) (s : StyleValue) (lawful : Lawful is_same_key (wide_meaning (document g s)))
    (runs : BeginningsAreRuns g s) (done : LegalAreDone g s) (ranges : StatesAreInRange g s) where
  cost_wide : (plan : Pagination) → Prefix g s plan → is_wide (cost g s plan) ≡ true
  cost_wide plan prefix = small_is_wide (cost g s plan)
      (lawful.small_run (columns plan) (state_of g s plan) (cost g s plan) (runs plan prefix).run)

  plan_short : (plan : Pagination) → Prefix g s plan → length plan.pages < 2 ^ 64
  plan_short plan prefix =
      let run = runs plan prefix in
      let few = lawful.few_moves (columns plan) (state_of g s plan) (cost g s plan) run.run in
      let pages = pages_few s (columns plan) in
      let same = length-reverse (pages_from s (columns plan)) in
      let is = ap (λ (p : Pagination). length p.pages) run.plan_is in
      omega (arith, few, pages, same, is)

  label_wide : (label : Label) → IsLabel g s label → is_wide label.cost ≡ true
  label_wide label it = subst (λ (z : ℤ). is_wide z ≡ true) it.cost (cost_wide it.plan it.prefix)

  printed : (output : Output) → PassesAll g s output → float_total g.blocks s ≤ 2 ^ 12 →
      Frontier g s output.labels → ArePrintedLabels (not (s.version == 1)) output.labels
  printed output passes few frontier =
      ranges output.labels few (each_in_range (document g s) output.labels (λ label among. record {
        is_state = passes.before.before.before.before.states label among;
        cost = label_wide label ((frontier.complete label).0 among);
      }))

  pub best_text_tells : PagesReadBack g s → BestShownPasses g s → BestTextTells g s
  best_text_tells reads passes plan best labels few frontier short =
      let output = pages_output g s plan (cost g s plan) labels in
      let prefix = ((done plan).0 best.legal).0 in
      let shows : ShowsBest g s output =
      record { plan = plan; best = best; shown = refl; text = refl; frontier = frontier } in
      let long = text_long s (page_text g s plan (cost g s plan)) labels in
      record {
        output = output;
        read =
            reads plan (cost g s plan) (not (s.version == 1)) labels best.legal (cost_wide plan prefix)
            (plan_short plan prefix) (omega (arith, long, short)) (printed output (passes output shows) few frontier);
        shows = inl shows;
      }

  pub none_text_tells : NoneReadsBack → NoneShownPasses g s → NoneTextTells g s
  none_text_tells reads passes none labels few frontier short =
      let output = no_pages_output labels in
      let shows : ShowsNone g s output = record { none = none; shown = refl; frontier = frontier } in
      let long = text_long s none_text labels in
      record {
        output = output;
        read =
            reads (not (s.version == 1)) labels (omega (arith, long, short))
            (printed output (passes output shows) few frontier);
        shows = inr shows;
      }
