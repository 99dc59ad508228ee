-- The text and the sizes of a line, item by item.
use Rattle.std.proofs.Common.{◌≡◌, refl, sym, ap, ◌∙◌, ℕ, ◌≤◌, List, [], ◌∷◌, ◌++◌, length, append_assoc}
use Rattle.std.specs.Prelude.{ℤ}
use Rattle.pg_hlist.specs.declared.item.HItem.{HItem}
use Rattle.pg_hlist.specs.declared.item.HItem.TheVariants.{BoxItem, Glue, Kern, Penalty}
use Rattle.law_lines.specs.Boxes.{items_text}
use Rattle.pg_lines.specs.Printed.{item_text, sizes_of, sizes_with, widths_behind}

pub one_item : (item : HItem) (items : List HItem) (widths : List ℤ) →
    items_text (item ∷ items) widths ≡ item_text item widths ++ items_text items (widths_behind item widths)
one_item (BoxItem width height depth body) items widths = refl
one_item (Glue width stretch order shrink body) items [] = refl
one_item (Glue width stretch order shrink body) items (set ∷ widths) = refl
one_item (Kern width body) items widths = refl
one_item (Penalty value body) items widths = refl

pub one_size : (item : HItem) (items : List HItem) → sizes_of (item ∷ items) ≡ sizes_with item (sizes_of items)
one_size (BoxItem width height depth body) items = refl
one_size (Glue width stretch order shrink body) items = refl
one_size (Kern width body) items = refl
one_size (Penalty value body) items = refl

-- three pieces, one behind the other
pub three : (old a b c x y z : List ℕ) → a ≡ old ++ x → b ≡ a ++ y → c ≡ b ++ z → c ≡ old ++ (x ++ (y ++ z))
three old a b c x y z p q r =
    r ∙ ap (λ (t : List ℕ). t ++ z) (q ∙ ap (λ (t : List ℕ). t ++ y) p ∙ append_assoc old x y)
    ∙ append_assoc old (x ++ y) z ∙ ap (λ (t : List ℕ). old ++ t) (append_assoc x y z)
