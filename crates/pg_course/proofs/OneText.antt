-- What is written of a galley, and how that ends, is one.
use Rattle.std.proofs.Common.{◌≡◌, ◌∙◌, refl, sym, ap, ap₂, subst, ℕ, Bool, true, false, List, length, ◌++◌}
use Rattle.std.proofs.lemmas.Option.{same_Some}
use Rattle.pg_list.specs.GalleyValue.{GalleyValue}
use Rattle.pg_list.specs.Counts.{item_count}
use Rattle.pg_plan.specs.declared.pages.Pagination.{Pagination}
use Rattle.pg_style.specs.Values.{StyleValue}
use Rattle.pg_rules.specs.Cost.{cost}
use Rattle.pg_rules.specs.Legal.{breach}
use Rattle.pg_pages.specs.PageText.{page_text, none_text}
use Rattle.pg_labels.specs.LabelText.{label_text}
use Rattle.pg_marks.specs.Heads.{heads, references}
use Rattle.pg_marks.specs.HeadsText.{marks_text}
use Rattle.pg_greedy.specs.Compare.{best_line, broken_text, first_line, pages_text}
use Rattle.pg_fold.specs.SheetsText.{fold_text}
use Rattle.pg_fold.specs.declared.sheets.Sheet.{Sheet}
use Rattle.pg_fold.specs.Laws.{ReadsInOrder}
use Rattle.pg_fold.proofs.OneReading.{sheets_one}
use Rattle.pg_make.specs.Generated.{made_blocks, made_galley}
use Rattle.pg_make.specs.Made.{made_style}
use Rattle.law_course.proofs.OneBest.{best_one}
use Rattle.law_course.proofs.OneFrontier.{frontier_one}
use Rattle.pg_space.specs.Solves.{HasFrontier}
use Rattle.pg_command.specs.declared.status.Status.{Status}
use Rattle.pg_command.specs.declared.status.Status.TheVariants.{Done, NoLegal}
use Rattle.pg_course.specs.Made.{IsMadeLine, IsMadeNone, MadeOut, none_line, pages_line}
use Rattle.pg_course.specs.Out.{IsBestText, IsLabelledText, IsNoneText, Out, RunOut, tells_fitness}
use Rattle.pg_course.specs.Products.{CompareOut, HeadsOut, IsHeadsText, IsSavedText, IsSheetsText, IsUnsavedText, SheetsOut}
use Rattle.pg_course.proofs.OneFit.{fit_one}

-- a text and an end, by cases: this where there are best pages, that where none is legal
abbrev pub ByEnd : (List ℕ → Type 0) → (List ℕ → Type 0) → List ℕ → Status → Type 0
ByEnd Best None text Done = Best text
ByEnd Best None text NoLegal = None text
ByEnd Best None text end = ⊥

-- a text and an end are one
abbrev pub TellsOne : (List ℕ → Status → Type 0) → Type 0
TellsOne Tells = (text : List ℕ) (end : Status) → Tells text end → (other : List ℕ) (last : Status) →
    Tells other last → (text ≡ other) × (end ≡ last)

by_end_one : (Best None : List ℕ → Type 0) → ((t u : List ℕ) → Best t → Best u → t ≡ u) →
    ((t u : List ℕ) → None t → None u → t ≡ u) → ((t u : List ℕ) → Best t → None u → ⊥) →
    TellsOne (ByEnd Best None)
by_end_one Best None best none both text Done a other Done b = (best text other a b, refl)
by_end_one Best None best none both text Done a other NoLegal b = absurd (both text other a b)
by_end_one Best None best none both text NoLegal a other Done b = absurd (both other text b a)
by_end_one Best None best none both text NoLegal a other NoLegal b = (none text other a b, refl)
by_end_one Best None best none both text Done a other last b = absurd b
by_end_one Best None best none both text NoLegal a other last b = absurd b
by_end_one Best None best none both text end a other last b = absurd a

module _ (g : GalleyValue) (s : StyleValue) where
  none_one : (t u : List ℕ) → IsNoneText g s t → IsNoneText g s u → t ≡ u
  none_one t u a b = a.written ∙ sym b.written

  -- ---- pages, and the labels behind them

  out_is : (text : List ℕ) (end : Status) → Out g s text end → ByEnd (IsBestText g s) (IsNoneText g s) text end
  out_is text Done a = a
  out_is text NoLegal a = a
  out_is text end a = absurd a

  pub out_one : TellsOne (Out g s)
  out_one text end a other last b =
      by_end_one (IsBestText g s) (IsNoneText g s)
      (λ t u x y. x.written ∙ (ap (λ p. page_text g s p (cost g s p)) (best_one g s x.plan y.plan x.best y.best)
      ∙ sym y.written))
      none_one (λ t u x y. y.none x.plan x.best.legal) text end (out_is text end a) other last (out_is other last b)

  labelled_one : (text : List ℕ) (end : Status) → IsLabelledText g s text end → (other : List ℕ) (last : Status) →
      IsLabelledText g s other last → (text ≡ other) × (end ≡ last)
  labelled_one text end a other last b =
      let pages = out_one a.pages end a.out b.pages last b.out in (
        a.written ∙ (ap₂ (λ t labels. t ++ label_text (tells_fitness s) labels) pages.0
            (frontier_one g s a.labels b.labels a.frontier b.frontier) ∙ sym b.written),
        pages.1,
      )

  pub run_one : (labels : Bool) → TellsOne (RunOut labels g s)
  run_one false = out_one
  run_one true = labelled_one

  -- ---- heads

  heads_is : (text : List ℕ) (end : Status) → HeadsOut g s text end → ByEnd (IsHeadsText g s) (IsNoneText g s) text end
  heads_is text Done a = a
  heads_is text NoLegal a = a
  heads_is text end a = absurd a

  pub heads_one : TellsOne (HeadsOut g s)
  heads_one text end a other last b =
      by_end_one (IsHeadsText g s) (IsNoneText g s)
      (λ t u x y. x.written ∙ (ap (λ (p : Pagination). marks_text (heads g.blocks p.pages) (references g.blocks p.pages))
      (best_one g s x.plan y.plan x.best y.best) ∙ sym y.written))
      none_one (λ t u x y. y.none x.plan x.best.legal) text end (heads_is text end a) other last
      (heads_is other last b)

  -- ---- first fit beside the best pages

  compare_is : (text : List ℕ) (end : Status) → CompareOut g s text end →
      ByEnd (IsSavedText g s) (IsUnsavedText g s) text end
  compare_is text Done a = a
  compare_is text NoLegal a = a
  compare_is text end a = absurd a

  saved_one : (t u : List ℕ) → IsSavedText g s t → IsSavedText g s u → t ≡ u
  saved_one t u x y =
      x.written ∙ (ap₂ (λ (f p : Pagination).
      first_line (length f.pages) (breach g s f) (cost g s f) (cost g s p) ++ best_line (length p.pages) (cost g s p))
      (fit_one g s x.first y.first x.fit y.fit) (best_one g s x.plan y.plan x.best y.best) ∙ sym y.written)

  unsaved_one : (t u : List ℕ) → IsUnsavedText g s t → IsUnsavedText g s u → t ≡ u
  unsaved_one t u x y =
      let same = fit_one g s x.first y.first x.fit y.fit in
      let at : ◌≡◌ {A = ℕ × ℕ} (x.rule, x.column) (y.rule, y.column) =
      same_Some (x.rule, x.column) (y.rule, y.column) (sym x.broken ∙ (ap (breach g s) same ∙ y.broken)) in
      x.written ∙ (ap₂ (λ (f : Pagination) (it : ℕ × ℕ).
      (pages_text (length f.pages) ++ broken_text it.0 it.1) ++ none_text) same at ∙ sym y.written)

  pub compare_one : TellsOne (CompareOut g s)
  compare_one text end a other last b =
      by_end_one (IsSavedText g s) (IsUnsavedText g s) saved_one unsaved_one
      (λ t u x y. y.none x.plan x.best.legal) text end (compare_is text end a) other last (compare_is other last b)

  -- ---- sheets

  module _ (folds nest : ℕ) where
    sheets_is : (text : List ℕ) (end : Status) → SheetsOut folds nest g s text end →
        ByEnd (IsSheetsText folds nest g s) (IsNoneText g s) text end
    sheets_is text Done a = a
    sheets_is text NoLegal a = a
    sheets_is text end a = absurd a

    sheet_text_one : (t u : List ℕ) → IsSheetsText folds nest g s t → IsSheetsText folds nest g s u → t ≡ u
    sheet_text_one t u x y =
        let same = ap (λ (p : Pagination). length p.pages) (best_one g s x.plan y.plan x.best y.best) in
        x.sheets.written ∙ (ap₂ (λ (n : ℕ) (sheets : List Sheet). fold_text folds nest n sheets) same
        (sheets_one folds nest (length y.plan.pages) x.sheets.folded.0 x.sheets.folded.1 x.sheets.sheets y.sheets.sheets
        (subst (λ n. ReadsInOrder folds nest n x.sheets.sheets) same x.sheets.reads) y.sheets.reads)
        ∙ sym y.sheets.written)

    pub sheets_out_one : TellsOne (SheetsOut folds nest g s)
    sheets_out_one text end a other last b =
        by_end_one (IsSheetsText folds nest g s) (IsNoneText g s) sheet_text_one none_one
        (λ t u x y. y.none x.plan x.best.legal) text end (sheets_is text end a) other last (sheets_is other last b)

-- ---- a galley that is made

module _ (count : ℕ) where
  made_is : (text : List ℕ) (end : Status) → MadeOut count text end →
      ByEnd (IsMadeLine count) (IsMadeNone count) text end
  made_is text Done a = a
  made_is text NoLegal a = a
  made_is text end a = absurd a

  labels_one : (n m : ℕ) → HasFrontier (made_galley count) made_style n → HasFrontier (made_galley count) made_style m →
      n ≡ m
  labels_one n m a b = sym a.counted
      ∙ (ap length (frontier_one (made_galley count) made_style a.labels b.labels a.frontier b.frontier) ∙ b.counted)

  pub made_one : TellsOne (MadeOut count)
  made_one text end a other last b =
      by_end_one (IsMadeLine count) (IsMadeNone count)
      (λ t u x y. x.written ∙ (ap₂ (λ (p : Pagination) (labels : ℕ).
      pages_line count (item_count (made_blocks count)) (length p.pages) (cost (made_galley count) made_style p) labels)
      (best_one (made_galley count) made_style x.plan y.plan x.best y.best)
      (labels_one x.labels y.labels x.frontier y.frontier) ∙ sym y.written))
      (λ t u x y. x.written ∙ (ap (none_line count (item_count (made_blocks count)))
      (labels_one x.labels y.labels x.frontier y.frontier) ∙ sym y.written))
      (λ t u x y. y.none x.plan x.best.legal) text end (made_is text end a) other last (made_is other last b)
