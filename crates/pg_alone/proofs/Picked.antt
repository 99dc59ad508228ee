-- Whatever versions of paragraphs are picked, the inserts of a class are the same.
use Rattle.std.proofs.Common.{◌≡◌, refl, sym, ap, ◌∙◌, ℕ, zero, suc, ◌+◌, ◌≤◌, List, [], ◌∷◌, ◌++◌, length, length-append, map, Option, Some, None, arith}
use Rattle.std.specs.Prelude.{slice_get, unwrap_or, option_map, ℤ}
use Rattle.std.specs.List.{AllByRecursion, cons_option, filter}
use Rattle.std.specs.Option.{option_map_or}
use Rattle.std.proofs.lemmas.List.{map-append}
use Rattle.std.proofs.lemmas.List.Elements.{filter_map-append}
use Rattle.std.proofs.lemmas.Option.{same_Some}
use Rattle.pg_list.specs.Flat.{flat, flat_items_from, picked_variants, variant_flat_items}
use Rattle.pg_list.specs.Places.{picked_items}
use Rattle.pg_list.specs.Shapes.{HaveInserts, IsBlock, IsChoice, inserts}
use Rattle.pg_list.specs.declared.blocks.Block.{Block}
use Rattle.pg_list.specs.declared.blocks.Block.TheVariants.{One, Choice}
use Rattle.pg_list.specs.declared.item.Item.{Item}
use Rattle.pg_list.specs.declared.item.Item.TheVariants.{BoxItem, Rule, Glue, Kern, Penalty, Insert, Carry}
use Rattle.pg_list.specs.declared.variants.Variant.{Variant}
use Rattle.pg_rules.specs.Floats.{insert_size, sizes_of}
use Rattle.law_places.proofs.Alike.{item_of}
use Rattle.law_places.proofs.Measures.{variant_items}
use Rattle.law_texts.specs.Texts.{is_kept}
use Rattle.law_texts.proofs.Picks.{choices, choices_cons, named, named_few}

module _ (number : ℕ) where
  abbrev sizes : List Item → List ℤ
  sizes items = sizes_of number items

  -- inserts are not discarded
  pub kept_sizes : (xs : List Item) → sizes_of number (filter is_kept xs) ≡ sizes_of number xs
  kept_sizes [] = refl
  kept_sizes (BoxItem h d body ∷ xs) = kept_sizes xs
  kept_sizes (Rule h d body ∷ xs) = kept_sizes xs
  kept_sizes (Glue w s o k body ∷ xs) = kept_sizes xs
  kept_sizes (Kern w body ∷ xs) = kept_sizes xs
  kept_sizes (Penalty v body ∷ xs) = kept_sizes xs
  kept_sizes (Insert class size body ∷ xs) = ap (cons_option (insert_size number (Insert class size body))) (kept_sizes xs)
  kept_sizes (Carry body ∷ xs) = kept_sizes xs

  of_inserts : (xs : List Item) → sizes (inserts xs) ≡ sizes xs
  of_inserts [] = refl
  of_inserts (BoxItem h d body ∷ xs) = of_inserts xs
  of_inserts (Rule h d body ∷ xs) = of_inserts xs
  of_inserts (Glue w s o k body ∷ xs) = of_inserts xs
  of_inserts (Kern w body ∷ xs) = of_inserts xs
  of_inserts (Penalty v body ∷ xs) = of_inserts xs
  of_inserts (Insert class size body ∷ xs) = ap (cons_option (insert_size number (Insert class size body))) (of_inserts xs)
  of_inserts (Carry body ∷ xs) = of_inserts xs

  like_first : (first : Variant) (variants : List Variant) (n : ℕ) (v : Variant) →
      HaveInserts (inserts first.items) variants → slice_get variants n ≡ Some v → sizes v.items ≡ sizes first.items
  like_first first [] n v same is = absurd cc
  like_first first (x ∷ xs) zero v same is =
      ap (λ (y : Variant). sizes y.items) (sym (same_Some x v is))
      ∙ (sym (of_inserts x.items) ∙ (ap sizes same.0 ∙ of_inserts first.items))
  like_first first (x ∷ xs) (suc n) v same is = like_first first xs n v same.1 is

  -- a version has the inserts of the first
  any_version : (variants : List Variant) (n : ℕ) (v : Variant) → IsChoice variants → slice_get variants n ≡ Some v →
      sizes (picked_items (Choice variants) n) ≡ sizes (picked_items (Choice variants) 0)
  any_version [] n v is at = absurd cc
  any_version (first ∷ variants) zero v is at = refl
  any_version (first ∷ variants) (suc n) v is at =
      ap (λ (o : Option Variant). sizes (unwrap_or (option_map (λ (x : Variant). x.items) o) [])) at
      ∙ like_first first variants n v is.equal_inserts at

  -- the inserts of a block's version, and those behind
  parts : (n v : ℕ) (variants : List Variant) (blocks : List Block) (picks : List ℕ) →
      sizes (map item_of (variant_flat_items n v (picked_items (Choice variants) v) ++ flat_items_from (n + 1) blocks picks))
      ≡ sizes (picked_items (Choice variants) v) ++ sizes (map item_of (flat_items_from (n + 1) blocks picks))
  parts n v variants blocks picks =
      ap sizes (map-append item_of (variant_flat_items n v (picked_items (Choice variants) v))
      (flat_items_from (n + 1) blocks picks)
      ∙ ap (λ (xs : List Item). xs ++ map item_of (flat_items_from (n + 1) blocks picks))
      (variant_items number n v (picked_items (Choice variants) v)))
      ∙ filter_map-append (insert_size number) (picked_items (Choice variants) v)
      (map item_of (flat_items_from (n + 1) blocks picks))

  from_block : (n : ℕ) (blocks : List Block) (picks : List ℕ) → AllByRecursion IsBlock blocks →
      named blocks picks ≡ choices blocks →
      sizes (map item_of (flat_items_from n blocks picks)) ≡ sizes (map item_of (flat_items_from n blocks []))
  from_block n [] picks all all_named = refl
  from_block n (One item ∷ blocks) picks all all_named =
      let c : choices (One item ∷ blocks) ≡ 0 + choices blocks = choices_cons (One item) blocks in
      let rest : named blocks picks ≡ choices blocks = omega (arith, c, all_named) in
      ap (cons_option (insert_size number item)) (from_block (n + 1) blocks picks all.1 rest)
  from_block n (Choice variants ∷ blocks) [] all all_named = refl
  from_block n (Choice variants ∷ blocks) (pick ∷ picks) all all_named =
      by (slice_get variants pick) refl (from_block (n + 1) blocks picks all.1)
    where
      c : choices (Choice variants ∷ blocks) ≡ 1 + choices blocks
      c = choices_cons (Choice variants) blocks

      by : (o : Option Variant) → slice_get variants pick ≡ o → (named blocks picks ≡ choices blocks →
          sizes (map item_of (flat_items_from (n + 1) blocks picks))
          ≡ sizes (map item_of (flat_items_from (n + 1) blocks []))) →
          sizes (map item_of (flat_items_from n (Choice variants ∷ blocks) (pick ∷ picks)))
          ≡ sizes (map item_of (flat_items_from n (Choice variants ∷ blocks) []))
      by None e on =
          let less : named (Choice variants ∷ blocks) (pick ∷ picks) ≡ named blocks picks =
          ap (λ (o : Option Variant). length (option_map_or (λ (v : Variant). v ∷ []) o []
          ++ picked_variants blocks picks)) e in
          let few = named_few blocks picks in
          absurd (omega (arith, c, less, few, all_named))
      by (Some v) e on =
          let one : named (Choice variants ∷ blocks) (pick ∷ picks) ≡ suc (named blocks picks) =
          ap (λ (o : Option Variant). length (option_map_or (λ (v : Variant). v ∷ []) o []
          ++ picked_variants blocks picks)) e in
          let rest : named blocks picks ≡ choices blocks = omega (arith, c, one, all_named) in
          parts n pick variants blocks picks
          ∙ (ap (λ (xs : List ℤ). xs ++ sizes (map item_of (flat_items_from (n + 1) blocks picks)))
          (any_version variants pick v all.0 e)
          ∙ (ap (λ (xs : List ℤ). sizes (picked_items (Choice variants) 0) ++ xs)
          (on rest) ∙ sym (parts n 0 variants blocks [])))

  pub picked_sizes : (blocks : List Block) (picks : List ℕ) → AllByRecursion IsBlock blocks →
      named blocks picks ≡ choices blocks → sizes_of number (flat blocks picks) ≡ sizes_of number (flat blocks [])
  picked_sizes blocks picks all all_named = from_block 0 blocks picks all all_named
