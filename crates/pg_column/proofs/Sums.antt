-- The sums with one more item.
use Rattle.std.proofs.Common.{◌≡◌, refl, sym, ap, ◌∙◌, subst, ℕ, ◌≤◌, List, [], ◌∷◌, ◌++◌, length, arith, Bool, true, false, Option, Some, None, ℤ, pos, ◌≤ℤ◌, set, get_or}
use Rattle.std.specs.Prelude.{◌||◌, ◌==◌, not, if◌then◌else◌, unsigned_abs}
use Rattle.std.specs.List.{list_any, position}
use Rattle.std.specs.Option.{option_map_or}
use Rattle.std.proofs.lemmas.Int.{ints}
use Rattle.std.proofs.lemmas.List.{length-set}
use Rattle.pg_list.specs.declared.item.Item.{Item}
use Rattle.pg_list.specs.declared.item.Item.TheVariants.{BoxItem, Rule, Glue, Kern, Penalty, Insert, Carry}
use Rattle.pg_list.specs.Ranges.{IsItemInRange}
use Rattle.pg_list.specs.Shapes.{is_box, is_discardable}
use Rattle.pg_list.specs.Totals.{trimmed}
use Rattle.pg_list.proofs.SumsLaws.{trimmed_any, trimmed_skip, trimmed_push}
use Rattle.pg_style.specs.Ranges.{IsStyle}
use Rattle.pg_style.specs.Values.{StyleValue}
use Rattle.pg_style.specs.declared.style.Class.{Class}
use Rattle.pg_sums.specs.declared.totals.Totals.{Totals}
use Rattle.pg_sums.specs.AreSums.{AreTotals}
use Rattle.pg_sums.specs.Step.{counted, with_item}
use Rattle.pg_notes.specs.Step.{grown, no_note, with_note}
use Rattle.pg_sums.proofs.Steps.{step_box, step_glue, step_kern, step_plain, min_zero}
use Rattle.pg_notes.specs.declared.sums.NoteSum.{NoteSum}
use Rattle.pg_notes.specs.AreNotes.{AreNoteSums}
use Rattle.pg_notes.proofs.Kept.{are_none, found_sums, plain_sums, unfound_sums}
use Rattle.pg_column.specs.Passed.{IsPassed, Passed, crossed, nothing, with_next}
use Rattle.pg_lemmas.proofs.Bools.{or_false}
use Rattle.pg_sums.proofs.Added.{weak_plain}

step_totals : (t m : ℤ) → pos 0 ≤ℤ m → (xs : List Item) (x : Item) (old : Totals) → AreTotals t m xs old →
    AreTotals t m (xs ++ x ∷ []) (with_item t m old x)
step_totals t m h xs (BoxItem a b body) old are =
    step_box t m xs (BoxItem a b body) old _ refl refl refl (λ order. refl) refl are refl refl refl
    (refl, refl, refl, refl, refl)
step_totals t m h xs (Rule a b body) old are =
    step_box t m xs (Rule a b body) old _ refl refl refl (λ order. refl) refl are refl refl refl
    (refl, refl, refl, refl, refl)
step_totals t m h xs (Glue w a o k body) old are =
    step_glue t m xs w a o k body old _ (min_zero m h) are refl refl refl refl refl refl refl refl
step_totals t m h xs (Kern w body) old are =
    step_kern t m xs w body old _ (min_zero m h) are refl refl refl (refl, refl, refl, refl, refl)
step_totals t m h xs (Penalty v body) old are =
    step_plain t m xs (Penalty v body) old refl refl refl (λ order. refl) refl are
step_totals t m h xs (Insert c z body) old are =
    step_plain t m xs (Insert c z body) old refl refl refl (λ order. refl) refl are
step_totals t m h xs (Carry body) old are =
    step_plain t m xs (Carry body) old refl refl refl (λ order. refl) refl are

module _ (style : StyleValue) (is-style : IsStyle style) where
  totals_push : (items : List Item) (x : Item) (t : Totals) →
      AreTotals style.topskip style.maxdepth (trimmed items) t →
      AreTotals style.topskip style.maxdepth (trimmed (items ++ x ∷ [])) (counted style.topskip style.maxdepth t x)
  totals_push items x t are = by (t.has_box || not (is_discardable x)) refl
    where
      any : t.has_box ≡ list_any is_box items
      any = are.has_box_is ∙ trimmed_any items

      by : (b : Bool) → b ≡ (t.has_box || not (is_discardable x)) →
          AreTotals style.topskip style.maxdepth (trimmed (items ++ x ∷ []))
          (if b then with_item style.topskip style.maxdepth t x else t)
      by true e =
          let law : trimmed (items ++ x ∷ []) ≡ trimmed items ++ x ∷ [] =
          trimmed_push items x (ap (λ (b : Bool). b || not (is_discardable x)) (sym any) ∙ sym e) in
          subst (λ (xs : List Item). AreTotals style.topskip style.maxdepth xs
          (with_item style.topskip style.maxdepth t x)) (sym law)
          (step_totals style.topskip style.maxdepth is-style.maxdepth_in.0 (trimmed items) x t are)
      by false e =
          let two = or_false t.has_box (not (is_discardable x)) (sym e) in
          let weak = weak_plain x two.1 in
          let law : trimmed (items ++ x ∷ []) ≡ trimmed items =
          trimmed_skip items x (sym any ∙ two.0) weak.0 weak.1 in
          subst (λ (xs : List Item). AreTotals style.topskip style.maxdepth xs t) (sym law) are

  notes_push : (items : List Item) (x : Item) (sums : List NoteSum) → IsItemInRange x →
      length style.classes ≤ length sums → AreNoteSums items style.classes sums →
      AreNoteSums (items ++ x ∷ []) style.classes (with_note style.classes sums x)
  notes_push items (BoxItem h d b) sums range long are = plain_sums items (BoxItem h d b) style.classes sums refl are
  notes_push items (Rule h d b) sums range long are = plain_sums items (Rule h d b) style.classes sums refl are
  notes_push items (Glue w s o k b) sums range long are =
      plain_sums items (Glue w s o k b) style.classes sums refl are
  notes_push items (Kern w b) sums range long are = plain_sums items (Kern w b) style.classes sums refl are
  notes_push items (Penalty v b) sums range long are = plain_sums items (Penalty v b) style.classes sums refl are
  notes_push items (Carry b) sums range long are = plain_sums items (Carry b) style.classes sums refl are
  notes_push items (Insert c z b) sums range long are =
      by (position (λ (class : Class). class.number == c) style.classes) refl
    where
      own : pos (unsigned_abs z) ≡ z
      own = let h = range.1 in omega (arith, ints, h)

      by : (o : Option ℕ) → position (λ (class : Class). class.number == c) style.classes ≡ o →
          AreNoteSums (items ++ Insert c z b ∷ []) style.classes
          (option_map_or (λ (k : ℕ). set sums k (grown (unsigned_abs z) (get_or sums k no_note))) o sums)
      by None e = subst (λ (y : ℤ). AreNoteSums (items ++ Insert c y b ∷ []) style.classes sums) own
          (unfound_sums items c (unsigned_abs z) b style.classes sums e are)
      by (Some k) e = subst (λ (y : ℤ). AreNoteSums (items ++ Insert c y b ∷ []) style.classes
          (set sums k (grown (unsigned_abs z) (get_or sums k no_note)))) own
          (found_sums items c (unsigned_abs z) b style.classes sums k no_note is-style.classes_in.in_order e long
          are)

  length_note : (classes : List Class) (sums : List NoteSum) (x : Item) →
      length (with_note classes sums x) ≡ length sums
  length_note classes sums (BoxItem h d b) = refl
  length_note classes sums (Rule h d b) = refl
  length_note classes sums (Glue w s o k b) = refl
  length_note classes sums (Kern w b) = refl
  length_note classes sums (Penalty v b) = refl
  length_note classes sums (Carry b) = refl
  length_note classes sums (Insert c z b) = by (position (λ (class : Class). class.number == c) classes)
    where
      by : (o : Option ℕ) → length (option_map_or
          (λ (k : ℕ). set sums k (grown (unsigned_abs z) (get_or sums k no_note))) o sums) ≡ length sums
      by None = refl
      by (Some k) = length-set sums k _

  pub passed_push : (items : List Item) (x : Item) (p : Passed) → IsItemInRange x → IsPassed style items p →
      IsPassed style (items ++ x ∷ []) (with_next style p x)
  passed_push items x p range is = record {
    totals_are = totals_push items x p.totals is.totals_are;
    notes_are = notes_push items x p.notes range is.places is.notes_are;
    places = let e : length (with_note style.classes p.notes x) ≡ length p.notes =
        length_note style.classes p.notes x in omega (arith, e, is.places);
  }

  pub passed_crossed : (items : List Item) (p : Passed) → IsPassed style items p →
      IsPassed style items (crossed style p)
  passed_crossed items p is =
      record { totals_are = is.totals_are; notes_are = is.notes_are; places = is.places }

  pub passed_none : IsPassed style [] nothing
  passed_none = record {
    totals_are = record {
      total_is = refl;
      depth_is = refl;
      has_box_is = refl;
      finite_is = refl;
      fil_is = refl;
      fill_is = refl;
      filll_is = refl;
      shrink_is = refl;
    };
    notes_are = are_none style.classes 8 is-style.classes_in.few;
    places = is-style.classes_in.few;
  }
