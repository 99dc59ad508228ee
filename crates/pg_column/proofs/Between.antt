-- The items ahead up to a place, one after another.
use Rattle.std.proofs.Common.{◌≡◌, sym, ap, ◌∙◌, ℕ, List, [], ◌∷◌, ◌++◌, append_assoc, append-nil, Bool, true, false, Some, None}
use Rattle.std.specs.Prelude.{◌&&◌, not}
use Rattle.std.specs.List.{AllByRecursion}
use Rattle.pg_list.specs.declared.item.Item.{Item}
use Rattle.pg_list.specs.declared.blocks.Block.{Block}
use Rattle.pg_list.specs.declared.galley.Place.{Place}
use Rattle.pg_list.specs.Places.{item_at}
use Rattle.pg_list.specs.Shapes.{IsBlock}
use Rattle.pg_list.specs.Flat.{flat_items_at, is_same_place}
use Rattle.pg_column.specs.Ahead.{item_place}
use Rattle.pg_column.proofs.Ahead.{IsSettled, Named, stop}
use Rattle.pg_column.proofs.Spans.{behind as later, opened}
use Rattle.pg_column.specs.Between.{items_to}
use Rattle.pg_lemmas.proofs.Bools.{if_false, if_true}

module _ (blocks : List Block) (all : AllByRecursion IsBlock blocks) (at : Place) (picks : List ℕ)
    (is : IsSettled blocks at) (named : Named blocks at picks) (is_end : Bool) (to : Place) (read whole : List Item)
    (same : read ++ items_to is_end to (flat_items_at blocks at picks) ≡ whole) where
  none_left : items_to is_end to (flat_items_at blocks at picks) ≡ [] → read ≡ whole
  none_left e = sym (append-nil read) ∙ ap (λ (items : List Item). read ++ items) (sym e) ∙ same

  pub between_none : item_at blocks (item_place blocks at picks) ≡ None → read ≡ whole
  between_none e = none_left (ap (items_to is_end to) (stop blocks at picks all is named e))

  module _ (item : Item) (e : item_at blocks (item_place blocks at picks) ≡ Some item) where
    pub between_here : (not is_end && is_same_place at to) ≡ true → read ≡ whole
    between_here t = none_left (ap (items_to is_end to) (opened blocks all at picks is named item e)
        ∙ if_true (not is_end && is_same_place at to) [] _ t)

    pub between_on : (not is_end && is_same_place at to) ≡ false → (more : List Item) → more ≡ read ++ item ∷ [] →
        more ++ items_to is_end to (later blocks all at picks is named) ≡ whole
    between_on f more push =
        ap (λ (items : List Item). items ++ items_to is_end to (later blocks all at picks is named)) push
        ∙ append_assoc read (item ∷ []) (items_to is_end to (later blocks all at picks is named))
        ∙ ap (λ (items : List Item). read ++ items)
        (sym (ap (items_to is_end to) (opened blocks all at picks is named item e)
        ∙ if_false (not is_end && is_same_place at to) [] _ f))
        ∙ same
