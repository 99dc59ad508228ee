-- The bodies of notes and floats, each once.
use Rattle.std.proofs.Common.{◌≡◌, refl, sym, ap, ◌∙◌, ℕ, ◌+◌, ◌<◌, suc, List, [], ◌∷◌, take, length, Bool, true, false, Some, None, arith}
use Rattle.std.specs.Prelude.{◌==◌, if◌then◌else◌}
use Rattle.std.specs.List.{cons_option, filter}
use Rattle.std.proofs.Math.Seq.{take-length}
use Rattle.std.proofs.lemmas.Option.{slice_get_within}
use Rattle.pg_list.specs.GalleyValue.{GalleyValue}
use Rattle.pg_list.specs.declared.item.Item.{Item}
use Rattle.pg_list.specs.declared.item.Item.TheVariants.{BoxItem, Rule, Glue, Kern, Penalty, Insert, Carry}
use Rattle.pg_plan.specs.Order.{columns}
use Rattle.pg_style.specs.Values.{StyleValue}
use Rattle.pg_list.specs.Flat.{flat}
use Rattle.pg_rules.specs.Floats.{entry, float_numbers, floats, sizes_of}
use Rattle.pg_rules.specs.History.{placed_of}
use Rattle.pg_rules.specs.Legal.{document}
use Rattle.pg_rules.specs.Ranges.{AreInRange}
use Rattle.law_columns.specs.BeginningLaws.{KeepsRules}
use Rattle.law_columns.proofs.BeginningContracts.{unbroken_keep_rules}
use Rattle.law_texts.specs.Texts.{EachOnce, is_kept, picks_of, segments}
use Rattle.law_texts.proofs.EachOnce.{each_once}
use Rattle.law_texts.proofs.Once.{all_dealt, dealt_take, sizes_at}
use Rattle.pg_pages.specs.PageText.{inserted, inserted_body}
use Rattle.law_page_text.specs.PageLaws.{LegalShowEachOnce}

-- what is dropped at breaks has no inserts
kept_inserted : (number : ℕ) (items : List Item) → inserted number (filter is_kept items) ≡ inserted number items
kept_inserted number [] = refl
kept_inserted number (Insert class size body ∷ items) =
    ap (cons_option (inserted_body number (Insert class size body))) (kept_inserted number items)
kept_inserted number (BoxItem height depth body ∷ items) = kept_inserted number items
kept_inserted number (Rule height depth body ∷ items) = kept_inserted number items
kept_inserted number (Carry body ∷ items) = kept_inserted number items
kept_inserted number (Glue width stretch order shrink body ∷ items) = kept_inserted number items
kept_inserted number (Kern width body ∷ items) = kept_inserted number items
kept_inserted number (Penalty value body ∷ items) = kept_inserted number items

-- a class has as many bodies as sizes
bodies_long : (number : ℕ) (items : List Item) → length (inserted number items) ≡ length (sizes_of number items)
bodies_long number [] = refl
bodies_long number (Insert class size body ∷ items) = by (class == number) (bodies_long number items)
  where
    by : (b : Bool) → length (inserted number items) ≡ length (sizes_of number items) →
        length (cons_option (if b then Some body else None) (inserted number items))
        ≡ length (cons_option (if b then Some size else None) (sizes_of number items))
    by true e = ap suc e
    by false e = e
bodies_long number (BoxItem height depth body ∷ items) = bodies_long number items
bodies_long number (Rule height depth body ∷ items) = bodies_long number items
bodies_long number (Carry body ∷ items) = bodies_long number items
bodies_long number (Glue width stretch order shrink body ∷ items) = bodies_long number items
bodies_long number (Kern width body ∷ items) = bodies_long number items
bodies_long number (Penalty value body ∷ items) = bodies_long number items

pub shown_once : (galley : GalleyValue) (style : StyleValue) → AreInRange galley style → LegalShowEachOnce galley style
shown_once galley style range plan legal =
    let doc = document galley style in
    let once : EachOnce galley style plan = each_once galley style range plan legal in
    let keeps : KeepsRules galley style plan = (unbroken_keep_rules galley style range plan).0 legal.unbroken in
    record {
      notes = λ number. sym (kept_inserted number (segments doc (columns plan)))
          ∙ (ap (inserted number) once.kept
          ∙ kept_inserted number (flat galley.blocks (picks_of (columns plan))));
      floats = λ slot number is.
          (let own = inserted number (flat galley.blocks []) in
          let here : slot < length (float_numbers style) = slice_get_within (float_numbers style) slot number is in
          let z : 0 + slot ≡ slot = omega arith in
          let n : entry (placed_of style (columns plan)) slot ≡ length own =
          ap (entry (placed_of style (columns plan))) (sym z)
          ∙ (all_dealt (placed_of style (columns plan)) 0 (floats galley.blocks style) slot
          (sizes_of number (flat galley.blocks [])) keeps.dealt
          (sizes_at galley.blocks (float_numbers style) slot number is)
          ∙ sym (bodies_long number (flat galley.blocks []))) in
          dealt_take style own slot here (columns plan)
          ∙ (ap (λ (i : ℕ). take i own) n ∙ take-length own));
    }
