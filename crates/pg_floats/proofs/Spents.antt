-- A place of the galley is the first of what is ahead of it.
use Rattle.std.proofs.Common.{◌≡◌, refl, sym, ap, ◌∙◌, ℕ, ◌<◌, arith, List, [], length, true, Option, Some, inl, inr}
use Rattle.std.specs.Prelude.{◌==◌, is_some}
use Rattle.std.specs.List.{AllByRecursion, position}
use Rattle.std.proofs.lemmas.Bool.{eqb-true}
use Rattle.pg_list.specs.declared.blocks.Block.{Block}
use Rattle.pg_list.specs.declared.galley.Place.{Place}
use Rattle.pg_list.specs.declared.item.Item.{Item}
use Rattle.pg_list.specs.Places.{item_at, items_around, place}
use Rattle.pg_list.specs.Shapes.{IsBlock}
use Rattle.pg_list.specs.Flat.{FlatItem, blocks_at, end_of, flat_items_at, flat_items_from, is_same_place, picked_variants, steps_to}
use Rattle.pg_list.proofs.Places.{picked_few, same_place}
use Rattle.pg_rules.specs.IsState.{IsPlace}
use Rattle.law_places.proofs.Tests.{place_refl}
use Rattle.pg_column.specs.Ahead.{is_front, item_place}
use Rattle.pg_column.proofs.Ahead.{IsSettled, Named}
use Rattle.pg_column.proofs.Leads.{position_here}
use Rattle.pg_column.proofs.Spans.{here, opened}
use Rattle.pg_lemmas.proofs.Bools.{both_of, by_bool, if_false, if_true, not_both}
use Rattle.pg_lemmas.proofs.Lists.{drop_past, some_at}

pub named_none : (blocks : List Block) → length (picked_variants blocks []) ≡ 0
named_none blocks = let k = picked_few blocks [] in omega (arith, k)

module _ (blocks : List Block) (all : AllByRecursion IsBlock blocks) (at : Place) (is : IsPlace blocks at) where
  front_is : (at.index == 0) ≡ true → place at.block 0 0 ≡ at
  front_is t =
      let i : at.index ≡ 0 = eqb-true _ _ t in
      let v : at.variant ≡ 0 = is.front i in
      same at.block at.variant at.index v i
    where
      same : (b v i : ℕ) → v ≡ 0 → i ≡ 0 → place b 0 0 ≡ place b v i
      same b v i e f = rw (e, f) refl

  its_place : item_place blocks at [] ≡ at
  its_place = by_bool (is_front blocks at)
      (λ t. ap (λ (n : ℕ). place at.block n at.index) (if_true (is_front blocks at) 0 at.variant t
      ∙ sym (is.front (eqb-true _ _ (both_of (at.index == 0) _ t).0))))
      (λ f. ap (λ (n : ℕ). place at.block n at.index) (if_false (is_front blocks at) 0 at.variant f))

  ended : is_same_place at (end_of blocks) ≡ true → length (flat_items_at blocks at []) ≡ 0
  ended t = ap (λ (p : Place). length (flat_items_at blocks p [])) (same_place at (end_of blocks) t)
      ∙ ap (λ (bs : List Block). length (flat_items_from (length blocks) bs []))
      (drop_past (length blocks) blocks (omega arith))

  found : at.index < length (items_around blocks at) →
      position (λ (flat_item : FlatItem). is_same_place flat_item.place at) (flat_items_at blocks at []) ≡ Some 0
  found h =
      let got = some_at (items_around blocks at) at.index h in
      let settled_is : IsSettled blocks at = record {
        front = is.front;
        there = λ f. ap (λ (o : Option Item). is_some o) got.1;
      } in
      let named : Named blocks at [] = named_none (blocks_at blocks at) in
      let e = ap (item_at blocks) its_place ∙ got.1 in
      ap (position (λ (flat_item : FlatItem). is_same_place flat_item.place at))
      (opened blocks all at [] settled_is named got.0 e)
      ∙ position_here (λ (flat_item : FlatItem). is_same_place flat_item.place at)
      (here blocks all at [] settled_is named got.0) _ (place_refl at)

  pub steps_none : steps_to blocks (flat_items_at blocks at []) at ≡ Some 0
  steps_none = by_bool (is_same_place at (end_of blocks))
      (λ t. if_true (is_same_place at (end_of blocks)) _ _ t ∙ ap Some (ended t))
      (λ f. if_false (is_same_place at (end_of blocks)) _ _ f ∙ elim is.within [
        | inl t ↦ absurd (not_both (is_same_place at (end_of blocks)) t f)
        | inr h ↦ found h
      ])
