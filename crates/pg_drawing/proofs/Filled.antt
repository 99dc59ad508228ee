-- The marks of items, and the lines with which these begin.
use Rattle.std.proofs.Common.{◌≡◌, ◌∙◌, refl, ap, sym, ℕ, Bool, true, false, List, [], ◌∷◌, map, pos, ℤ}
use Rattle.std.proofs.Math.IntN.{+ℤ_assoc, +ℤ_idl, +ℤ_idr}
use Rattle.std.specs.List.{filter}
use Rattle.std.specs.Prelude.{◌+ℤ◌, if◌then◌else◌}
use Rattle.pg_list.specs.Whole.{whole_sum_by}
use Rattle.pg_drawing.specs.Drawn.{area_of, item_extent, items_of, marks_from}
use Rattle.pg_drawing.specs.Laws.{Adjoin, AreItsItems, IsFilled, line_extent}
use Rattle.pg_drawing.specs.Pieces.{Lines, begins, cut, until}
use Rattle.pg_drawing.specs.Shapes.{shape_of}
use Rattle.pg_drawing.specs.declared.model.Mark.{Mark}
use Rattle.pg_drawing.specs.declared.pieces.Kind.TheVariants as at

head_by : (b : Bool) (P : List ℕ → Bool) (line : List ℕ) (lines : List (List ℕ)) →
    map (λ (it : Lines). it.head) (cut P lines) ≡ filter P lines →
    map (λ (it : Lines). it.head)
    (if b then record { head = line; rest = until P lines } ∷ cut P lines else cut P lines)
    ≡ (if b then line ∷ filter P lines else filter P lines)
head_by true P line lines same = ap (λ (ls : List (List ℕ)). line ∷ ls) same
head_by false P line lines same = same

-- pieces begin at the lines of their kind
heads : (P : List ℕ → Bool) (lines : List (List ℕ)) → map (λ (it : Lines). it.head) (cut P lines) ≡ filter P lines
heads P [] = refl
heads P (line ∷ lines) = head_by (P line) P line lines (heads P lines)

shapes : (top : ℤ) (items : List Lines) → map (λ (mark : Mark). mark.shape) (marks_from top items)
    ≡ map shape_of (map (λ (it : Lines). it.head) items)
shapes top [] = refl
shapes top (item ∷ items) = ap (λ ss. shape_of item.head ∷ ss) (shapes (top +ℤ item_extent item) items)

pub its_items : (lines : Lines) → AreItsItems lines
its_items lines = shapes (pos 0) (items_of lines.rest) ∙ ap (map shape_of) (heads (begins at.Item) lines.rest)

summed : (items : List Lines) →
    whole_sum_by item_extent items ≡ whole_sum_by line_extent (map (λ (it : Lines). it.head) items)
summed [] = refl
summed (item ∷ items) = ap (λ z. item_extent item +ℤ z) (summed items)

adjoin : (from to : ℤ) (items : List Lines) → from +ℤ whole_sum_by item_extent items ≡ to →
    Adjoin from (marks_from from items) to
adjoin from to [] sum = sym (+ℤ_idr from) ∙ sum
adjoin from to (item ∷ items) sum = (
  refl,
  adjoin (from +ℤ item_extent item) to items
      (+ℤ_assoc from (item_extent item) (whole_sum_by item_extent items) ∙ sum),
)

pub is_filled : (lines : Lines) → IsFilled lines
is_filled lines = record {
  height = summed (items_of lines.rest) ∙ ap (whole_sum_by line_extent) (heads (begins at.Item) lines.rest);
  marks = adjoin (pos 0) (area_of lines).height (items_of lines.rest) (+ℤ_idl (area_of lines).height);
}
