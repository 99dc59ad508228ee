-- Columns that chain fit, and so do those of the pages that they stand on.
use Rattle.std.proofs.Common.{sym, subst, ℕ, List, [], ◌∷◌, map}
use Rattle.std.specs.Prelude.{reverse}
use Rattle.std.specs.List.{AllByRecursion}
use Rattle.std.proofs.lemmas.List.{reverse-append, reverse-reverse}
use Rattle.pg_lemmas.proofs.Bools.{both_of}
use Rattle.pg_lemmas.proofs.Lists.{all_append, all_parts}
use Rattle.pg_list.specs.GalleyValue.{GalleyValue}
use Rattle.pg_list.specs.declared.blocks.Block.{Block}
use Rattle.pg_list.specs.Flat.{is_same_place}
use Rattle.pg_plan.specs.Order.{columns, columns_of, no_floats, page_moves}
use Rattle.pg_plan.specs.declared.pages.Column.{Column}
use Rattle.pg_plan.specs.declared.pages.Page.{Page}
use Rattle.pg_plan.specs.declared.pages.PageMove.{PageMove}
use Rattle.pg_style.specs.Values.{StyleValue}
use Rattle.pg_rules.specs.ColumnRules.{does_fit}
use Rattle.pg_rules.specs.History.{context, place_of}
use Rattle.pg_rules.specs.Legal.{document}
use Rattle.pg_rules.specs.Ranges.{AreInRange}
use Rattle.pg_rules.specs.Room.{Document}
use Rattle.law_columns.proofs.BeginningContracts.{unbroken_keep_rules}
use Rattle.law_texts.specs.Texts.{Chained}
use Rattle.law_texts.proofs.Once.{stand_chained}
use Rattle.pg_marks.specs.Fitting.{AllFit, AreFitting, Fits}
use Rattle.law_course.specs.MarkLaws.{LegalColumnsFit}

all_reverse : {X : Type 0} (P : X → Type 0) (xs : List X) → AllByRecursion P xs → AllByRecursion P (reverse xs)
all_reverse P [] all = tt
all_reverse P (x ∷ xs) all = subst (AllByRecursion P) (sym (reverse-append (x ∷ []) xs))
    (all_append P (reverse xs) (x ∷ []) (all_reverse P xs all.1) (all.0, tt))

all_back : {X : Type 0} (P : X → Type 0) (xs : List X) → AllByRecursion P (reverse xs) → AllByRecursion P xs
all_back P xs all = subst (AllByRecursion P) (reverse-reverse xs) (all_reverse P (reverse xs) all)

abbrev MoveFits : List Block → PageMove → Type 0
MoveFits blocks m = Fits blocks m.column

chained_fit : (doc : Document) (ms : List PageMove) → Chained doc ms → AllByRecursion (MoveFits doc.blocks) ms
chained_fit doc [] chained = tt
chained_fit doc (m ∷ ms) chained = (
  (both_of (is_same_place m.column.from (place_of ms)) (does_fit (context doc m ms)) chained.0).1,
  chained_fit doc ms chained.1,
)

module _ (blocks : List Block) where
  later_fit : (run : ℕ) (wide : List ℕ) (cs : List Column) →
      AllByRecursion (MoveFits blocks)
      (map (λ (later : Column). record { column = later; run = run; wide = wide }) cs) →
      AllByRecursion (Fits blocks) cs
  later_fit run wide [] all = tt
  later_fit run wide (c ∷ cs) all = (all.0, later_fit run wide cs all.1)

  columns_fit : (page : Page) (cs : List Column) → AllByRecursion (MoveFits blocks) (page_moves page cs) →
      AllByRecursion (Fits blocks) cs
  columns_fit page [] all = tt
  columns_fit page (c ∷ cs) all = (all.0, later_fit page.run (no_floats page.wide) cs all.1)

  -- of pages that stand from the last to the first
  pages_fit : (pages : List Page) → AllByRecursion (MoveFits blocks) (columns_of pages) → AllFit blocks pages
  pages_fit [] all = tt
  pages_fit (page ∷ pages) all =
      let parts = all_parts (MoveFits blocks) (reverse (page_moves page page.columns)) (columns_of pages) all in (
        columns_fit page page.columns (all_back (MoveFits blocks) (page_moves page page.columns) parts.0),
        pages_fit pages parts.1,
      )

pub columns_of_legal : (g : GalleyValue) (s : StyleValue) → AreInRange g s → LegalColumnsFit g s
columns_of_legal g s range plan legal =
    let rules = (unbroken_keep_rules g s range plan).0 legal.unbroken in
    all_back (AreFitting g.blocks) plan.pages (pages_fit g.blocks (reverse plan.pages)
    (chained_fit (document g s) (columns plan) (stand_chained (document g s) (columns plan) rules.stand)))
