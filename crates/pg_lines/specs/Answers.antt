-- What is answered for a paragraph, and for all.
use Rattle.std.specs.Prelude.{◌≡◌, ◌≤◌, ◌+◌, ◌∷◌, ℕ, ⊤, true, List, Option, Some, None, Result, Err, ℤ, pos, negsuc, ◌+ℤ◌, length, Vec}
use Rattle.std.specs.declared.alloc.Global.{Global}
use Rattle.pg_list.specs.Counts.{item_count, item_limit}
use Rattle.pg_list.specs.GalleyValue.{GalleyValue}
use Rattle.pg_list.specs.declared.variants.Variant.{Variant}
use Rattle.pg_hlist.specs.declared.item.HItem.{HItem}
use Rattle.law_lines.specs.declared.rule.LineRule.{LineRule}
use Rattle.law_lines.specs.declared.rule.LineFault.{LineFault}
use Rattle.law_lines.specs.declared.rule.LineFault.TheVariants.{Memory}
use Rattle.law_lines.specs.Galleys.{Breaks, Broken}
use Rattle.law_lines.specs.Listing.{least_way}
use Rattle.law_lines.specs.Variants.{AreVariantsOf, found_at, variant_at}
use Rattle.law_lines.specs.Ways.{CannotBreak, demerits, is_way}
use Rattle.pg_lines.specs.declared.ways.Way.{Way}
use Rattle.pg_lines.specs.declared.galley.Made.{Made}

-- the variants of a paragraph, or none where it cannot be broken
abbrev pub Varies : LineRule → List HItem → Option (Vec Variant Global) → Type 0
Varies rule para None = CannotBreak rule para
Varies rule para (Some variants) = AreVariantsOf rule para variants.items

-- the variant of so many lines more than a best way, if there is one
abbrev pub variant_by : LineRule → List HItem → List ℕ → ℤ → List Variant
variant_by rule para best looseness =
    variant_at rule para best looseness (found_at (least_way rule para) (pos (length best) +ℤ looseness))

-- the number, where it is not below 0, and else 0
abbrev pub IsCount : ℤ → ℕ → Type 0
IsCount (pos n) count = count ≡ n
IsCount (negsuc n) count = count ≡ 0

-- a legal way with its demerits
pub record IsKnown (rule : LineRule) (para : List HItem) (way : Way) : Type 0 where
  pub legal : is_way rule para way.ends.items ≡ true
  pub price : way.demerits ≡ demerits rule para way.ends.items

-- ---- the galley so far

-- its items are counted, and are not too many
pub record IsMade (made : Made) : Type 0 where
  pub count : made.count ≡ item_count made.blocks
  pub few : made.count ≤ item_limit
  pub paragraphs : made.paragraphs ≤ made.count

-- what further paragraphs make of the later galley, they make with this one before them of the former
abbrev pub LeadsOn : LineRule → Made → List HItem → Made → Type 0
LeadsOn rule made para new = (rest : List (List HItem)) (result : Result GalleyValue LineFault) →
    Breaks rule (new.paragraphs + 1) new.blocks rest result →
    Breaks rule (made.paragraphs + 1) made.blocks (para ∷ rest) result

-- with this paragraph next it ends in this fault
abbrev pub EndsIn : LineRule → Made → List HItem → LineFault → Type 0
EndsIn rule made para Memory = ⊤
EndsIn rule made para fault = (rest : List (List HItem)) →
    Breaks rule (made.paragraphs + 1) made.blocks (para ∷ rest) (Err fault)

-- the galley of these paragraphs, or its first fault; of want of memory nothing is said
abbrev pub AnswersLines : LineRule → List (List HItem) → Result GalleyValue LineFault → Type 0
AnswersLines rule paras (Err Memory) = ⊤
AnswersLines rule paras result = Broken rule paras result
