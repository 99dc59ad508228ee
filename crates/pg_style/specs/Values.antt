-- What contracts see of a style and its rules.
use Rattle.std.specs.Prelude.{ℕ, ℤ, List, Option}
use Rattle.pg_style.specs.declared.style.First.{First}
use Rattle.pg_style.specs.declared.style.Run.{Run}
use Rattle.pg_style.specs.declared.style.Gap.{Gap}
use Rattle.pg_style.specs.declared.style.Class.{Class}

-- what callers see of the rule of an area
pub record AreaRuleValue : Type 0 where
  pub count : ℕ
  pub sep : Gap
  pub gap : Gap

-- what callers see of the rule of columns without text
pub record ColumnRuleValue : Type 0 where
  pub count : ℕ
  pub demerits : ℕ

-- what callers see of a style
pub record StyleValue : Type 0 where
  pub version : ℕ
  pub columns : ℕ
  pub first : First
  pub height : ℤ
  pub topskip : ℤ
  pub maxdepth : ℤ
  pub min_text : ℤ
  pub tolerance : ℕ
  pub line : ℕ
  pub max_looseness : ℕ
  pub runs : List Run
  pub top : AreaRuleValue
  pub bottom : AreaRuleValue
  pub wide : AreaRuleValue
  pub float_column : ColumnRuleValue
  pub classes : List Class
  pub fitness : ℕ
  pub ragged : Option ℤ
