-- What is written for a galley by the commands that tell of its best pages.
use Rattle.std.specs.Prelude.{◌≡◌, ℕ, List, ◌++◌, length, pos, ◌≤ℤ◌, ◌-ℤ◌, Some}
use Rattle.pg_list.specs.GalleyValue.{GalleyValue}
use Rattle.pg_plan.specs.declared.pages.Pagination.{Pagination}
use Rattle.pg_style.specs.Values.{StyleValue}
use Rattle.pg_rules.specs.Best.{Best}
use Rattle.pg_rules.specs.Cost.{cost}
use Rattle.pg_rules.specs.Legal.{Legal, breach}
use Rattle.pg_pages.specs.PageText.{none_text}
use Rattle.pg_marks.specs.Heads.{heads, references}
use Rattle.pg_marks.specs.HeadsText.{marks_text}
use Rattle.pg_greedy.specs.Compare.{best_line, broken_text, first_line, pages_text}
use Rattle.pg_greedy.specs.FirstFit.{IsFirstFit}
use Rattle.pg_fold.specs.Laws.{ReadsInOrder}
use Rattle.pg_fold.specs.SheetsText.{fold_text}
use Rattle.pg_fold.specs.declared.sheets.Sheet.{Sheet}
use Rattle.pg_command.specs.declared.status.Status.{Status}
use Rattle.pg_command.specs.declared.status.Status.TheVariants.{Done, NoLegal}
use Rattle.pg_command.specs.Words.{IsFolds, IsNest}
use Rattle.pg_course.specs.declared.product.Product.{Product}
use Rattle.pg_course.specs.declared.product.Product.TheVariants.{Pages, Heads, Comparison, Sheets}
use Rattle.pg_course.specs.Out.{IsNoneText}

-- sheets are folded and put into each other as often as they may be
abbrev pub IsProduct : Product → Type 0
IsProduct (Pages labels) = Unit {0}
IsProduct Heads = Unit {0}
IsProduct Comparison = Unit {0}
IsProduct (Sheets folds nest) = IsFolds folds × IsNest nest

-- the heads of the best pages, and the references
pub record IsHeadsText (galley : GalleyValue) (style : StyleValue) (text : List ℕ) : Type 0 where
  pub plan : Pagination
  pub best : Best galley style plan
  pub written : text ≡ marks_text (heads galley.blocks plan.pages) (references galley.blocks plan.pages)

-- what is written of heads and how that ends: those of the best pages, or the line for none
abbrev pub HeadsOut : GalleyValue → StyleValue → List ℕ → Status → Type 0
HeadsOut galley style text Done = IsHeadsText galley style text
HeadsOut galley style text NoLegal = IsNoneText galley style text
HeadsOut galley style text end = ⊥

-- first fit beside the best pages: what those save is told where its pages are legal, and is then not below 0; else the
-- least rule that its pages break, and where
pub record IsSavedText (galley : GalleyValue) (style : StyleValue) (text : List ℕ) : Type 0 where
  pub first : Pagination
  pub fit : IsFirstFit galley style first
  pub plan : Pagination
  pub best : Best galley style plan
  pub saved : Legal galley style first → pos 0 ≤ℤ (cost galley style first -ℤ cost galley style plan)
  pub written : text ≡
      first_line (length first.pages) (breach galley style first) (cost galley style first) (cost galley style plan)
      ++ best_line (length plan.pages) (cost galley style plan)

-- the pages of a first fit break a rule, and the least with its first column is appended to what was there
pub record BreaksAt (galley : GalleyValue) (style : StyleValue) (first : Pagination) (old new : List ℕ) : Type 0 where
  pub rule : ℕ
  pub column : ℕ
  pub broken : breach galley style first ≡ Some (rule, column)
  pub written : new ≡ old ++ (pages_text (length first.pages) ++ broken_text rule column)

-- first fit where no pagination is legal: the least rule that its pages break, and where; and the line for none
pub record IsUnsavedText (galley : GalleyValue) (style : StyleValue) (text : List ℕ) : Type 0 where
  pub first : Pagination
  pub fit : IsFirstFit galley style first
  pub none : (plan : Pagination) → Legal galley style plan → ⊥
  pub rule : ℕ
  pub column : ℕ
  pub broken : breach galley style first ≡ Some (rule, column)
  pub written : text ≡ (pages_text (length first.pages) ++ broken_text rule column) ++ none_text

-- what is written of first fit and how that ends
abbrev pub CompareOut : GalleyValue → StyleValue → List ℕ → Status → Type 0
CompareOut galley style text Done = IsSavedText galley style text
CompareOut galley style text NoLegal = IsUnsavedText galley style text
CompareOut galley style text end = ⊥

-- sheets, folded 1 to 4 times, from which, put into each other, pages are read in their order, each once
pub record AreSheets (folds nest : ℕ) (plan : Pagination) (text : List ℕ) : Type 0 where
  pub folded : IsFolds folds
  pub sheets : List Sheet
  pub reads : ReadsInOrder folds nest (length plan.pages) sheets
  pub written : text ≡ fold_text folds nest (length plan.pages) sheets

-- the sheets of the best pages
pub record IsSheetsText (folds nest : ℕ) (galley : GalleyValue) (style : StyleValue) (text : List ℕ) : Type 0 where
  pub plan : Pagination
  pub best : Best galley style plan
  pub sheets : AreSheets folds nest plan text

-- what is written of sheets and how that ends: those of the best pages, or the line for none
abbrev pub SheetsOut : ℕ → ℕ → GalleyValue → StyleValue → List ℕ → Status → Type 0
SheetsOut folds nest galley style text Done = IsSheetsText folds nest galley style text
SheetsOut folds nest galley style text NoLegal = IsNoneText galley style text
SheetsOut folds nest galley style text end = ⊥
