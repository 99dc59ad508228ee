-- Paragraphs whose items are shown on clean lines.
use Rattle.std.specs.Prelude.{◌≡◌, ℕ, List, ◌++◌}
use Rattle.std.specs.List.{AllByRecursion}
use Rattle.pg_list.specs.Bodies.{body_of}
use Rattle.pg_scan.specs.Lines.{IsClean}
use Rattle.pg_showbox.specs.Shown.{deeper_text}
use Rattle.pg_hlist.specs.declared.item.HItem.{HItem}
use Rattle.pg_hlist.specs.Items.{IsPara, as_item}

-- the body is one clean line or more, with a line feed in front of each but the first
pub record HasCleanLines (item : HItem) : Type 0 where
  pub first : List ℕ
  pub more : List (List ℕ)
  pub clean : IsClean first
  pub each : AllByRecursion IsClean more
  pub is : body_of (as_item item) ≡ first ++ deeper_text more

-- a paragraph within its ranges, whose items have clean lines
pub record IsCleanPara (items : List HItem) : Type 0 where
  pub para : IsPara items
  pub clean : AllByRecursion HasCleanLines items
