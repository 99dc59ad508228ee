-- The galley of paragraphs shows its items, and reads back.
use Rattle.std.proofs.Common.{◌≡◌, refl, sym, ap, subst, ◌≤◌, ◌+◌, inl, inr, ℕ, Bool, true, false, List, [], ◌∷◌, length, Option, Some, None, arith}
use Rattle.std.specs.Prelude.{◌==◌, codes, if◌then◌else◌, take, drop, ℤ, pos, ◌+ℤ◌, Result, Ok}
use Rattle.std.specs.List.{AllByRecursion, flat_map}
use Rattle.std.proofs.lemmas.Int.{ints}
use Rattle.pg_lemmas.proofs.Lists.{all_append, all_drop, all_take}
use Rattle.pg_lemmas.proofs.Numbers.{few_if}
use Rattle.pg_scaled.specs.Ranges.{IsScaled}
use Rattle.pg_list.specs.Counts.{item_count, item_limit}
use Rattle.pg_list.specs.GalleyValue.{GalleyValue}
use Rattle.pg_list.specs.Shapes.{is_box}
use Rattle.pg_list.specs.declared.item.Order.TheVariants.{Finite}
use Rattle.pg_list.specs.declared.blocks.Block.{Block}
use Rattle.pg_list.specs.declared.blocks.Block.TheVariants.{Choice}
use Rattle.pg_list.specs.declared.variants.Variant.{Variant}
use Rattle.pg_scan.specs.Parts.{after, named}
use Rattle.pg_showbox.specs.declared.node.Node.TheVariants as node
use Rattle.pg_showbox.specs.Nodes.{amount_at, glue_at, glue_text_at, node_at, past_name, shrink_at, stretch_at}
use Rattle.pg_showbox.specs.ParsedLine.{pointed_at}
use Rattle.pg_showbox.specs.Parts.{due, order_at, size_at}
use Rattle.pg_showbox.specs.Shown.{IsShown, IsShownBlock}
use Rattle.pg_showbox.proofs.GalleyReads.{galley_reads}
use Rattle.pg_hlist.specs.declared.item.HItem.{HItem}
use Rattle.pg_hlist.specs.Items.{IsInRange, IsPara, as_item}
use Rattle.law_lines.specs.declared.rule.LineFault.{LineFault}
use Rattle.law_lines.specs.declared.rule.LineRule.{LineRule}
use Rattle.law_lines.specs.Galleys.{Breaks, Broken, parskip, with_choice}
use Rattle.law_lines.specs.ParagraphsLaws.{IsRule}
use Rattle.law_lines.specs.Lines.{from_box, line_items}
use Rattle.law_lines.specs.Variants.{AreVariantsOf, between, found_at, lines_of_way, loosenesses, set_lines, variant_at}
use Rattle.law_lines.specs.Ways.{start_of}
use Rattle.law_lines.proofs.Shapes.{blocks_made}
use Rattle.law_lines.specs.Clean.{HasCleanLines, IsCleanPara}
use Rattle.law_lines.specs.LineLaws.{LinesReadBack, LinesShowItems}
use Rattle.law_lines.proofs.CleanEnds.{plain_clean}
use Rattle.law_lines.proofs.CleanRead.{read_clean}
use Rattle.law_lines.proofs.SetLines.{line_shown, penalty_shown}

-- ---- lines

from_box_all : (P : HItem → Type 0) (items : List HItem) → AllByRecursion P items → AllByRecursion P (from_box items)
from_box_all P [] h = tt
from_box_all P (it ∷ items) h = by (is_box (as_item it)) (from_box_all P items h.1)
  where
    by : (b : Bool) → AllByRecursion P (from_box items) →
        AllByRecursion P (if b then it ∷ items else from_box items)
    by true k = h
    by false k = k

-- what holds of each item of a paragraph holds of each of a line
line_all : (P : HItem → Type 0) (para : List HItem) (a k : ℕ) → AllByRecursion P para →
    AllByRecursion P (line_items para a k)
line_all P para a k h = from_box_all P (drop a (take k para)) (all_drop P a (take k para) (all_take P k para h))

-- a line whose items are in range, with clean lines
record IsCleanLine (line : List HItem) : Type 0 where
  range : AllByRecursion IsInRange line
  clean : AllByRecursion HasCleanLines line

lines_clean : (para : List HItem) (way : List ℕ) → IsCleanPara para → AllByRecursion IsCleanLine (lines_of_way para way)
lines_clean para [] h = tt
lines_clean para (k ∷ way) h =
    all_append IsCleanLine (lines_of_way para way) (line_items para (start_of way) k ∷ []) (lines_clean para way h) (
      record {
        range = line_all IsInRange para (start_of way) k h.para.ranges;
        clean = line_all HasCleanLines para (start_of way) k h.clean;
      },
      tt,
    )

between_few : (j count : ℕ) → between j count ≤ 300
between_few j count =
    let first = few_if (j == 1) 150 0 150 (omega arith) (omega arith) in
    let last = few_if (j + 1 == count) 150 0 150 (omega arith) (omega arith) in
    omega (arith, first, last)

-- ---- glue between paragraphs

parskip_shown : IsShownBlock parskip
unfolding pointed_at node_at named after due glue_at glue_text_at
    stretch_at amount_at shrink_at past_name order_at size_at
parskip_shown = inl (record {
  node = node.Glue (pos 0) (pos 65536) Finite (pos 0);
  first = codes "\\glue(\\parskip) 0.0 plus 1.0";
  deeper = [];
  clean = plain_clean (46 ∷ codes "\\glue(\\parskip) 0.0 plus 1.0") refl refl;
  says = refl;
  each = tt;
  is = refl;
})

module _ (rule : LineRule) (small : IsScaled rule.width) where
  set_shown : (count j : ℕ) (lines : List (List HItem)) → AllByRecursion IsCleanLine lines →
      AllByRecursion IsShown (set_lines rule count j lines)
  set_shown count j [] h = tt
  set_shown count j (line ∷ []) h = (line_shown rule line small h.0.range h.0.clean, tt)
  set_shown count j (line ∷ next ∷ lines) h = (
    line_shown rule line small h.0.range h.0.clean,
    (penalty_shown (between j count) (between_few j count), set_shown count (j + 1) (next ∷ lines) h.1),
  )

  -- ---- a choice

  abbrev AreShown : List Variant → Type 0
  AreShown variants = AllByRecursion (λ (variant : Variant). AllByRecursion IsShown variant.items) variants

  module _ (para : List HItem) (clean : IsCleanPara para) where
    one_shown : (best : List ℕ) (o : ℤ) (way : Option (List ℕ)) → AreShown (variant_at rule para best o way)
    one_shown best o None = tt
    one_shown best o (Some way) = (set_shown (length way) 1 (lines_of_way para way) (lines_clean para way clean), tt)

    each_shown : (found : ℕ → Option (List ℕ)) (best : List ℕ) (os : List ℤ) →
        AreShown (flat_map (λ (o : ℤ). variant_at rule para best o (found_at found (pos (length best) +ℤ o))) os)
    each_shown found best [] = tt
    each_shown found best (o ∷ os) =
        all_append (λ (variant : Variant). AllByRecursion IsShown variant.items)
        (variant_at rule para best o (found_at found (pos (length best) +ℤ o)))
        (flat_map (λ (o : ℤ). variant_at rule para best o (found_at found (pos (length best) +ℤ o))) os)
        (one_shown best o (found_at found (pos (length best) +ℤ o))) (each_shown found best os)

    variants_shown : (variants : List Variant) → AreVariantsOf rule para variants → AreShown variants
    variants_shown variants are = subst AreShown (sym are.are) (each_shown are.found are.best (loosenesses rule.around))

  -- ---- the galley

  -- what is kept of the blocks so far
  record AreKept (blocks : List Block) : Type 0 where
    shown : AllByRecursion IsShownBlock blocks
    few : item_count blocks ≤ item_limit

  choice_shown : (blocks : List Block) (variants : List Variant) → AllByRecursion IsShownBlock blocks →
      AreShown variants → AllByRecursion IsShownBlock (with_choice blocks variants)
  choice_shown [] variants h k = (k, tt)
  choice_shown (block ∷ blocks) variants h k =
      (h.0, all_append IsShownBlock blocks (parskip ∷ Choice variants ∷ []) h.1 (parskip_shown, (k, tt)))

  made : (number : ℕ) (blocks : List Block) (paras : List (List HItem)) (galley : GalleyValue) →
      AllByRecursion IsCleanPara paras → AreKept blocks → Breaks rule number blocks paras (Ok galley) →
      (galley.width ≡ rule.width) × AreKept galley.blocks
  made number blocks [] galley r h b =
      let is : galley ≡ record { width = rule.width; blocks = blocks } = same b in
      (ap (λ (g : GalleyValue). g.width) is, subst (λ (g : GalleyValue). AreKept g.blocks) (sym is) h)
    where
      same : ◌≡◌ {A = Result GalleyValue LineFault} (Ok galley) (Ok (record { width = rule.width; blocks = blocks })) →
          galley ≡ record { width = rule.width; blocks = blocks }
      same e = cc
  made number blocks (para ∷ paras) galley r h (inl b) = absurd (let e = b.1 in cc)
  made number blocks (para ∷ paras) galley r h (inr (v, (a, inl b))) = absurd (let e = b.1 in cc)
  made number blocks (para ∷ paras) galley r h (inr (v, (a, inr b))) =
      made (number + 1) (with_choice blocks v) paras galley r.1
      (record { shown = choice_shown blocks v h.shown (variants_shown para r.0 v a); few = b.0 }) b.1

  broken_made : (paras : List (List HItem)) (galley : GalleyValue) → AllByRecursion IsCleanPara paras →
      Broken rule paras (Ok galley) → (galley.width ≡ rule.width) × AreKept galley.blocks
  broken_made paras galley r b = made 1 [] paras galley r (record { shown = tt; few = omega arith }) b

all_paras : (paras : List (List HItem)) → AllByRecursion IsCleanPara paras → AllByRecursion IsPara paras
all_paras [] h = tt
all_paras (para ∷ paras) h = (h.0.para, all_paras paras h.1)

width_small : (rule : LineRule) → IsRule rule → IsScaled rule.width
width_small rule r = omega (arith, ints, r.some, r.low)

pub show_items : (rule : LineRule) → IsRule rule → LinesShowItems rule
show_items rule r paras galley clean b = (broken_made rule (width_small rule r) paras galley clean b).1.shown

pub read_back : (rule : LineRule) → IsRule rule → LinesReadBack rule
read_back rule r text paras galley e b =
    let clean = read_clean text paras e in
    let kept = broken_made rule (width_small rule r) paras galley clean b in
    galley_reads galley (subst IsScaled (sym kept.0) (width_small rule r)) kept.1.few
    (blocks_made rule 1 [] paras galley (all_paras paras clean) tt b) kept.1.shown
