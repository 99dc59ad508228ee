-- The callouts before a column's end stand before it in the flat list.
use Rattle.std.proofs.Common.{◌≡◌, refl, sym, ap, subst, ◌∙◌, ℕ, ◌+◌, List, [], ◌∷◌, ◌++◌, map, length, take, Option, arith}
use Rattle.std.specs.List.{AllByRecursion}
use Rattle.std.specs.Option.{option_map_or}
use Rattle.std.proofs.Math.Seq.{take-append_seam}
use Rattle.std.proofs.lemmas.List.{map-append}
use Rattle.pg_list.specs.GalleyValue.{GalleyValue}
use Rattle.pg_list.specs.Shapes.{IsBlock}
use Rattle.pg_list.specs.declared.galley.Place.{Place}
use Rattle.pg_list.specs.declared.item.Item.{Item}
use Rattle.pg_plan.specs.declared.pages.PageMove.{PageMove}
use Rattle.pg_style.specs.Values.{StyleValue}
use Rattle.pg_list.specs.Flat.{flat, flat_items_at, is_same_place, items_before}
use Rattle.pg_rules.specs.Floats.{sizes_of}
use Rattle.pg_rules.specs.History.{context, place_of}
use Rattle.pg_rules.specs.IsState.{IsPlace}
use Rattle.pg_rules.specs.Legal.{document}
use Rattle.pg_rules.specs.Room.{Document, flat_items_of}
use Rattle.law_places.proofs.Alike.{item_of}
use Rattle.law_places.proofs.Counted.{callouts_passed}
use Rattle.law_places.proofs.Measures.{inserted, inserted_append}
use Rattle.pg_rules.specs.Ranges.{AreInRange}
use Rattle.law_texts.specs.Texts.{CalloutsReadFlat, Chained, picks_of, texts}
use Rattle.law_texts.proofs.Once.{Fits, chain_fits, chain_place, column_items, fits_of, passed, passed_texts, whole_splits}
use Rattle.law_texts.proofs.Reading.{chained_tail, picks_split}
use Rattle.pg_lemmas.proofs.Bools.{both_of}
use Rattle.pg_list.proofs.Places.{same_place}

module _ (doc : Document) (blocks : AllByRecursion IsBlock doc.blocks) (number : ℕ) where
  passed_callouts : (ms : List PageMove) → Chained doc ms →
      inserted number (items_before doc.blocks (place_of ms)) ≡ inserted number (map item_of (passed doc ms))
  passed_callouts [] c = refl
  passed_callouts (m ∷ ms) c =
      let r : inserted number (items_before doc.blocks (place_of ms))
      ≡ inserted number (map item_of (passed doc ms)) = passed_callouts ms c.1 in
      let f : Fits (context doc m ms) = fits_of (context doc m ms) (chain_fits doc blocks m ms c.0) in
      let from : m.column.from ≡ place_of ms =
      same_place m.column.from (place_of ms)
      (both_of (is_same_place m.column.from (place_of ms)) _ c.0).0 in
      let here : IsPlace doc.blocks m.column.from =
      subst (IsPlace doc.blocks) (sym from) (chain_place doc blocks ms c.1) in
      let a : inserted number (items_before doc.blocks m.column.to)
      ≡ inserted number (items_before doc.blocks m.column.from)
      + inserted number (map item_of (take f.size (flat_items_of (context doc m ms)))) =
      callouts_passed number doc.blocks blocks m.column.from m.column.to m.column.picks f.size here
      f.named f.is in
      let b : inserted number (items_before doc.blocks m.column.from)
      ≡ inserted number (items_before doc.blocks (place_of ms)) =
      ap (λ (at : Place). inserted number (items_before doc.blocks at)) from in
      let d : inserted number (map item_of (column_items (context doc m ms)))
      ≡ inserted number (map item_of (take f.size (flat_items_of (context doc m ms)))) =
      ap (λ (o : Option ℕ). inserted number
      (map item_of (option_map_or (λ (n : ℕ). take n (flat_items_of (context doc m ms))) o []))) f.is in
      let e : inserted number (map item_of (passed doc ms ++ column_items (context doc m ms)))
      ≡ inserted number (map item_of (passed doc ms) ++ map item_of (column_items (context doc m ms))) =
      ap (inserted number) (map-append item_of (passed doc ms) (column_items (context doc m ms))) in
      let g : inserted number (map item_of (passed doc ms) ++ map item_of (column_items (context doc m ms)))
      ≡ inserted number (map item_of (passed doc ms))
      + inserted number (map item_of (column_items (context doc m ms))) =
      inserted_append number (map item_of (passed doc ms))
      (map item_of (column_items (context doc m ms))) in
      omega arith

pub callouts_read_flat : (g : GalleyValue) (s : StyleValue) → AreInRange g s → CalloutsReadFlat g s
callouts_read_flat g s range plan behind ms number c e =
    subst (λ (ns : List PageMove). length (sizes_of number (items_before g.blocks (place_of ms)))
    ≡ length (sizes_of number (take (length (texts (document g s) ms)) (flat g.blocks (picks_of ns)))))
    (sym e) here
  where
    chain : Chained (document g s) ms
    chain = chained_tail (document g s) behind ms (subst (Chained (document g s)) e c)

    whole : flat g.blocks (picks_of (behind ++ ms)) ≡ texts (document g s) ms ++ map item_of
        (flat_items_at g.blocks (place_of ms) (picks_of behind))
    whole =
        ap (flat g.blocks) (picks_split behind ms)
        ∙ (ap (map item_of) (whole_splits (document g s) range.blocks ms (picks_of behind) chain)
        ∙ (map-append item_of (passed (document g s) ms)
        (flat_items_at g.blocks (place_of ms) (picks_of behind))
        ∙ ap (λ (xs : List Item). xs ++ map item_of
        (flat_items_at g.blocks (place_of ms) (picks_of behind))) (passed_texts (document g s) ms)))

    here : length (sizes_of number (items_before g.blocks (place_of ms)))
        ≡ length (sizes_of number (take (length (texts (document g s) ms))
        (flat g.blocks (picks_of (behind ++ ms)))))
    here =
        passed_callouts (document g s) range.blocks number ms chain
        ∙ (ap (inserted number) (passed_texts (document g s) ms)
        ∙ ap (inserted number) (sym (ap (take (length (texts (document g s) ms))) whole
        ∙ take-append_seam (texts (document g s) ms)
        (map item_of (flat_items_at g.blocks (place_of ms) (picks_of behind))))))
