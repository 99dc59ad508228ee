-- A line keeps what its paragraph keeps, and its box is in range.
use Rattle.std.proofs.Common.{◌≡◌, refl, sym, ap, subst, ℕ, suc, List, [], ◌∷◌, length, Bool, true, false, arith}
use Rattle.std.specs.Prelude.{take, drop, if◌then◌else◌, Result, Ok, Err, IfOk}
use Rattle.std.specs.List.{AllByRecursion}
use Rattle.std.proofs.lemmas.List.{length-drop, length-take}
use Rattle.pg_lemmas.proofs.Lists.{all_drop, all_take}
use Rattle.pg_list.specs.Ranges.{IsItemInRange}
use Rattle.pg_list.specs.Shapes.{is_box}
use Rattle.pg_list.specs.declared.item.Item.{Item}
use Rattle.pg_hlist.specs.declared.item.HItem.{HItem}
use Rattle.pg_hlist.specs.Items.{IsInRange, IsPara, as_item}
use Rattle.law_lines.specs.declared.rule.LineRule.{LineRule}
use Rattle.law_lines.specs.Boxes.{line_box}
use Rattle.law_lines.specs.Lines.{from_box, line_items}
use Rattle.law_lines.proofs.Shapes.{depth_scaled, height_scaled}

-- what stands before the first box is dropped
box_dropped : (items : List HItem) → (n : ℕ) × (from_box items ≡ drop n items)
box_dropped [] = (0, refl)
box_dropped (item ∷ items) = let r = box_dropped items in by (is_box (as_item item)) r.0 r.1
  where
    by : (b : Bool) (n : ℕ) → from_box items ≡ drop n items →
        (m : ℕ) × ((if b then item ∷ items else from_box items) ≡ drop m (item ∷ items))
    by true n e = (0, refl)
    by false n e = (suc n, e)

-- a line keeps what a paragraph keeps
pub line_keeps : (para : List HItem) (a k : ℕ) → IsPara para → IsPara (line_items para a k)
line_keeps para a k p =
    let r = box_dropped (drop a (take k para)) in
    let e : length (line_items para a k) ≡ length (drop r.0 (drop a (take k para))) = ap length r.1 in
    let b = length-drop r.0 (drop a (take k para)) in
    let c = length-drop a (take k para) in
    let d = length-take k para in
    let f = p.few in
    record {
      few = omega (arith, e, b, c, d, f);
      ranges = subst (AllByRecursion IsInRange) (sym r.1) (all_drop IsInRange r.0 (drop a (take k para))
          (all_drop IsInRange a (take k para) (all_take IsInRange k para p.ranges)));
    }

pub box_in_range : {E : Type 0} (rule : LineRule) (line : List HItem) (r : Result Item E) →
    AllByRecursion IsInRange line →
    IfOk r (λ (item : Item). item ≡ line_box rule line) → IfOk r IsItemInRange
box_in_range rule line (Ok item) h e = subst IsItemInRange (sym e) (height_scaled line h, depth_scaled line h)
box_in_range rule line (Err fault) h e = tt
