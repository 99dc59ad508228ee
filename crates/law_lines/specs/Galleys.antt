-- The galley of paragraphs in variants, or the first paragraph that has none.
use Rattle.std.specs.Prelude.{◌≡◌, ◌⊎◌, ℕ, ◌+◌, ◌<◌, ◌≤◌, List, [], ◌∷◌, ◌++◌, Result, Ok, Err, codes, pos}
use Rattle.pg_list.specs.declared.item.Item.TheVariants.{Glue}
use Rattle.pg_list.specs.declared.item.Order.TheVariants.{Finite}
use Rattle.pg_list.specs.declared.variants.Variant.{Variant}
use Rattle.pg_list.specs.declared.blocks.Block.{Block}
use Rattle.pg_list.specs.declared.blocks.Block.TheVariants.{One, Choice}
use Rattle.pg_list.specs.Counts.{item_count, item_limit}
use Rattle.pg_list.specs.GalleyValue.{GalleyValue}
use Rattle.pg_hlist.specs.declared.item.HItem.{HItem}
use Rattle.law_lines.specs.declared.rule.LineRule.{LineRule}
use Rattle.law_lines.specs.declared.rule.LineFault.{LineFault}
use Rattle.law_lines.specs.declared.rule.LineFault.TheVariants.{NoBreak, Limit}
use Rattle.law_lines.specs.Ways.{CannotBreak}
use Rattle.law_lines.specs.Variants.{AreVariantsOf}

abbrev pub parskip : Block
parskip = One (Glue (pos 0) (pos 65536) Finite (pos 0) (codes "\\glue(\\parskip) 0.0 plus 1.0"))

-- a paragraph more, with glue before it where it is not the first
abbrev pub with_choice : List Block → List Variant → List Block
with_choice [] variants = Choice variants ∷ []
with_choice (block ∷ blocks) variants = block ∷ blocks ++ parskip ∷ Choice variants ∷ []

-- what these paragraphs, the first of which has this number, make behind the blocks so far: the first paragraph with
-- a fault decides, and in it that it cannot be broken comes first
abbrev pub Breaks : LineRule → ℕ → List Block → List (List HItem) → Result GalleyValue LineFault → Type 0
Breaks rule number blocks [] result = result ≡ Ok (record { width = rule.width; blocks = blocks })
Breaks rule number blocks (para ∷ paras) result =
    (CannotBreak rule para × (result ≡ Err (NoBreak number)))
    ⊎ ((variants : List Variant) × (AreVariantsOf rule para variants
    × (((item_limit < item_count (with_choice blocks variants))
    × (result ≡ Err (Limit (item_count (with_choice blocks variants)))))
    ⊎ ((item_count (with_choice blocks variants) ≤ item_limit)
    × Breaks rule (number + 1) (with_choice blocks variants) paras result))))

-- what the paragraphs of a file make
abbrev pub Broken : LineRule → List (List HItem) → Result GalleyValue LineFault → Type 0
Broken rule paras result = Breaks rule 1 [] paras result
