-- Pages whose columns fit their galley.
use Rattle.std.specs.Prelude.{◌≡◌, true, List}
use Rattle.std.specs.List.{AllByRecursion}
use Rattle.pg_list.specs.declared.blocks.Block.{Block}
use Rattle.pg_plan.specs.declared.pages.Column.{Column}
use Rattle.pg_plan.specs.declared.pages.Page.{Page}
use Rattle.pg_column.specs.Fits.{does_fit_from}

-- the column's end follows its start, past a front for each of its picks, and each pick names a variant
abbrev pub Fits : List Block → Column → Type 0
Fits blocks column = does_fit_from blocks column.from column.picks column.to ≡ true

abbrev pub AreFitting : List Block → Page → Type 0
AreFitting blocks page = AllByRecursion (Fits blocks) page.columns

abbrev pub AllFit : List Block → List Page → Type 0
AllFit blocks pages = AllByRecursion (AreFitting blocks) pages
