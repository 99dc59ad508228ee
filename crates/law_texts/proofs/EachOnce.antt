-- A legal pagination has each box, each float and each pick once.
use Rattle.std.proofs.Common.{◌≡◌, sym, ap, ◌∙◌, ℕ, ◌+◌, ◌<◌, List, [], ◌++◌, map, length, take, true, Some, arith}
use Rattle.std.specs.Prelude.{slice_get, ℤ}
use Rattle.std.specs.List.{filter}
use Rattle.std.proofs.lemmas.List.{append-nil, map-append}
use Rattle.std.proofs.lemmas.List.Elements.{filter-append}
use Rattle.std.proofs.lemmas.Option.{slice_get_within}
use Rattle.pg_list.specs.GalleyValue.{GalleyValue}
use Rattle.pg_list.specs.declared.item.Item.{Item}
use Rattle.pg_plan.specs.Order.{columns}
use Rattle.pg_style.specs.Values.{StyleValue}
use Rattle.pg_list.specs.Flat.{flat, flat_items_at}
use Rattle.pg_rules.specs.Floats.{entry, float_numbers, floats, sizes_of}
use Rattle.pg_rules.specs.History.{place_of, placed_of}
use Rattle.pg_rules.specs.Legal.{document, has_dealt_all}
use Rattle.law_places.proofs.Alike.{item_of}
use Rattle.law_columns.specs.BeginningLaws.{KeepsRules}
use Rattle.pg_rules.specs.Ranges.{AreInRange}
use Rattle.law_columns.proofs.BeginningContracts.{unbroken_keep_rules}
use Rattle.law_texts.specs.Texts.{Chained, LegalHaveEachOnce, dealt_floats, inserts_of, is_kept, picks_of, texts}
use Rattle.law_texts.proofs.Once.{all_dealt, as_many, dealt_take, kept_segments, none_kept, passed, passed_texts, sizes_at, stand_chained, whole_splits}
use Rattle.law_texts.proofs.Picks.{counts_of}
use Rattle.std.proofs.Math.Seq.{take-length}

pub each_once : (g : GalleyValue) (s : StyleValue) → AreInRange g s → LegalHaveEachOnce g s
each_once g s range plan legal =
    let k : KeepsRules g s plan = (unbroken_keep_rules g s range plan).0 legal.unbroken in
    let c : Chained (document g s) (columns plan) = stand_chained (document g s) (columns plan) k.stand in
    let rest : List Item = map item_of (flat_items_at g.blocks (place_of (columns plan)) []) in
    let w : flat g.blocks (picks_of (columns plan)) ≡ texts (document g s) (columns plan) ++ map item_of
    (flat_items_at g.blocks (place_of (columns plan)) []) =
    ap (λ (p : List ℕ). flat g.blocks p) (sym (append-nil (picks_of (columns plan))))
    ∙ (ap (map item_of) (whole_splits (document g s) range.blocks (columns plan) [] c)
    ∙ (map-append item_of (passed (document g s) (columns plan))
    (flat_items_at g.blocks (place_of (columns plan)) [])
    ∙ ap (λ (xs : List Item). xs ++ map item_of (flat_items_at g.blocks (place_of (columns plan)) []))
    (passed_texts (document g s) (columns plan)))) in
    record {
      rest = map item_of (flat_items_at g.blocks (place_of (columns plan)) []);
      whole = w;
      spent = k.spent;
      kept = kept_segments (document g s) (columns plan)
          ∙ sym (ap (filter is_kept) w ∙ (filter-append is_kept (texts (document g s) (columns plan))
          (map item_of (flat_items_at g.blocks (place_of (columns plan)) []))
          ∙ (ap (λ (xs : List Item). filter is_kept (texts (document g s) (columns plan)) ++ xs)
          (none_kept (map item_of (flat_items_at g.blocks (place_of (columns plan)) [])) k.spent)
          ∙ append-nil (filter is_kept (texts (document g s) (columns plan))))));
      floats = λ slot number e. each k.dealt slot number e;
      picks = (counts_of (document g s) range.blocks (columns plan) c k.spent).0;
      named = (counts_of (document g s) range.blocks (columns plan) c k.spent).1;
    }
  where
    each : has_dealt_all (document g s) (placed_of s (columns plan)) ≡ true → (slot number : ℕ) →
        slice_get (float_numbers s) slot ≡ Some number →
        dealt_floats s (inserts_of number (flat g.blocks [])) slot (columns plan)
        ≡ inserts_of number (flat g.blocks [])
    each d slot number e =
        let own : List Item = inserts_of number (flat g.blocks []) in
        let l : slot < length (float_numbers s) = slice_get_within (float_numbers s) slot number e in
        let z : 0 + slot ≡ slot = omega arith in
        let n : entry (placed_of s (columns plan)) slot ≡ length own =
        ap (entry (placed_of s (columns plan))) (sym z)
        ∙ all_dealt (placed_of s (columns plan)) 0 (floats g.blocks s) slot (sizes_of number (flat g.blocks [])) d
        (sizes_at g.blocks (float_numbers s) slot number e)
        ∙ sym (as_many number (flat g.blocks [])) in
        dealt_take s own slot l (columns plan)
        ∙ (ap (λ (i : ℕ). take i own) n ∙ take-length own)
