-- Answers that the clauses of readers, galleys, shelves, sinks and drawings exclude.
use Rattle.std.proofs.Common.{◌≡◌, ◌≢◌, inl, inr, refl, sym, ap, subst, ◌∙◌, arith, ℕ, ◌+◌, ◌<◌, ◌^◌, List, ◌++◌, length, length-append, Option, Some, None, Ok, Err}
use Rattle.std.specs.Prelude.{Result}
use Rattle.pg_list.specs.Counts.{item_limit}
use Rattle.pg_list.specs.Refusals.{IsLimit, IsRange}
use Rattle.pg_list.specs.Shapes.{Chooses, HasShape}
use Rattle.pg_list.specs.declared.galley.Edit.{Edit}
use Rattle.pg_list.specs.declared.galley.SpliceFault.TheVariants as splice
use Rattle.pg_list.specs.declared.choice.ShapeFault.TheVariants.{Inserts}
use Rattle.pg_list.specs.declared.variants.Variant.{Variant}
use Rattle.pg_showbox.specs.Reading.{Gives as GivesList, OrMemory}
use Rattle.pg_showbox.specs.declared.kinds.ListFault.{ListFault}
use Rattle.pg_showbox.specs.declared.kinds.ListKind.{ListKind}
use Rattle.pg_showbox.specs.declared.kinds.ListKind.TheVariants.{Memory}
use Rattle.pg_stylefile.specs.Faults.{Gives as GivesStyle}
use Rattle.pg_stylefile.specs.declared.fault.StyleFault.{StyleFault}
use Rattle.pg_edits.specs.Script.{Gives as GivesScript}
use Rattle.pg_edits.specs.declared.kinds.ScriptFault.{ScriptFault}
use Rattle.pg_edits.specs.declared.script.ScriptStep.{ScriptStep}
use Rattle.pg_labels.specs.Reading.{Gives as GivesOutput}
use Rattle.pg_labels.specs.declared.output.Output.{Output}
use Rattle.pg_labels.specs.declared.output.OutputFault.TheVariants.{BadText}
use Rattle.pg_command.specs.Lines.{Says}
use Rattle.pg_outside.specs.Outside.{Held, OverSink, Rose}
use Rattle.pg_draw.specs.Lines.{status_of}
use Rattle.pg_draw.specs.Texts.{MayEnd, NamedStyleStops, OtherStops, Said, Serves}
use Rattle.pg_draw.specs.Words.{Asked, Draw, Help, Version}
use Rattle.pg_draw.specs.declared.ending.Ending.{Ending}
use Rattle.pg_draw.specs.declared.ending.Ending.TheVariants as ending
use Rattle.pg_draw.specs.declared.ending.Status.TheVariants as status

-- ---- readers

fault_is_no_value : {A E : Type 0} {x : A} {e : E} → Err e ≡ Ok x → ⊥
fault_is_no_value is = absurd cc

-- a text at fault is no galley, and no paragraphs
no_galley_at_a_fault : {X Y : Type 0} (view : X → Y) (value : X) (fault : ListFault) →
    GivesList view (Ok value) (Err fault) → ⊥
no_galley_at_a_fault view value fault is = fault_is_no_value is

-- no style, as a plain one
no_style_at_a_fault : {X Y : Type 0} (view : X → Y) (value : X) (fault : StyleFault) →
    GivesStyle view (Ok value) (Err fault) → ⊥
no_style_at_a_fault view value fault is = fault_is_no_value is

-- and no script, as one without steps
no_script_at_a_fault : (steps : List ScriptStep) (fault : ScriptFault) → GivesScript (Ok steps) (Err fault) → ⊥
no_script_at_a_fault steps fault is = fault_is_no_value is

same_fault : {A E : Type 0} {x y : E} → ◌≡◌ {A = Result A E} (Err x) (Err y) → x ≡ y
same_fault is = cc

-- but for want of memory no other fault is named, as one of the next line
no_other_list_fault : {X Y : Type 0} (view : X → Y) (told fault : ListFault) → told.kind ≢ Memory → told ≢ fault →
    GivesList view (Err told) (Err fault) → ⊥
no_other_list_fault {X} {Y} view told fault is_fault differ is = differ (sym (same_fault (by told.kind is_fault is)))
  where
    by : (kind : ListKind) → kind ≢ Memory → OrMemory kind (◌≡◌ {A = Result Y ListFault} (Err fault) (Err told)) →
        ◌≡◌ {A = Result Y ListFault} (Err fault) (Err told)
    by Memory other said = absurd (other refl)
    by kind other said = said

-- and no other line of an output text
no_other_line : (told line : ℕ) → told ≢ line → GivesOutput {X = Output} (Err (BadText told)) (Err line) → ⊥
no_other_line told line differ is = differ (sym (same_fault is))

-- ---- galleys

-- a galley with too many items, or without the blocks that go, is no want of memory
no_limit_told_as_memory : (T : Type 0) (count : ℕ) → item_limit < count → IsLimit {T = T} (Err splice.Memory) count → ⊥
no_limit_told_as_memory T count more few = omega (arith, more, few)

no_range_told_as_memory : (T : Type 0) (edit : Edit) (count : ℕ) → count < edit.at + edit.gone →
    IsRange {T = T} (Err splice.Memory) edit count → ⊥
no_range_told_as_memory T edit count few all = omega (arith, few, all)

-- variants without the shape of a choice are not refused for their inserts
no_inserts_for_a_shape : (variants : List Variant) → (HasShape variants → ⊥) → Chooses (Err Inserts) variants → ⊥
no_inserts_for_a_shape variants wrong is = wrong is.0

-- ---- shelves and sinks, below the last number that a count can show

-- no fault is told that was not counted
no_uncounted_fault : (faults : ℕ) → faults + 1 < 2 ^ 64 → Rose faults faults → ⊥
no_uncounted_fault faults low rose = omega (arith, low, rose)

-- a line is not said where nothing is written
no_line_unsaid : (bytes line : List ℕ) (faults : ℕ) → 0 < length line → faults + 1 < 2 ^ 64 →
    Says (Some bytes) (Some bytes) faults faults line → ⊥
no_line_unsaid bytes line faults some low (inl all) =
    let sizes : length bytes ≡ length bytes + length line = ap length all ∙ length-append bytes line in
    omega (arith, some, sizes)
no_line_unsaid bytes line faults some low (inr (rose, front)) = no_uncounted_fault faults low rose

-- ---- the program that draws

done_is_not_usage : status.Done ≡ status.Usage → ⊥
done_is_not_usage e = absurd cc

done_is_not_memory : status.Done ≡ status.Memory → ⊥
done_is_not_memory e = absurd cc

-- for words that ask for nothing it is not done
no_drawing_for_nothing : (told : Option Held) (out say : OverSink) → Serves told None out say status.Done → ⊥
no_drawing_for_nothing told out say serves = by serves.ending serves.may serves.said
  where
    by : (end : Ending) → MayEnd told None end → Said end say status.Done → ⊥
    by ending.Usage may (inl said) = done_is_not_usage said.0
    by ending.Usage may (inr said) = done_is_not_memory said.0
    by end may said = absurd may

usage_is_not_memory : status.Usage ≡ status.Memory → ⊥
usage_is_not_memory e = absurd cc

usage_alone : (end : Ending) → status.Usage ≡ status_of end → end ≡ ending.Usage
usage_alone ending.Usage e = refl
usage_alone end e = absurd cc

module _ (told : Option Held) where
  no_other_file_stops : (other : Option (List ℕ)) → OtherStops told other ending.Usage → ⊥
  no_other_file_stops None stops = stops
  no_other_file_stops (Some name) stops = stops

  no_style_stops : (style : Option (List ℕ)) → NamedStyleStops told style ending.Usage → ⊥
  no_style_stops None stops = stops
  no_style_stops (Some name) stops = stops

  no_usage : (asked : Asked) → MayEnd told (Some asked) ending.Usage → ⊥
  no_usage Help may = may
  no_usage Version may = may
  no_usage (Draw names) (inl stops) = stops
  no_usage (Draw names) (inr (inl stops)) = no_other_file_stops names.options.other stops
  no_usage (Draw names) (inr (inr stops)) = no_style_stops names.options.style stops

  -- and words that ask for something do not end as those
  no_usage_for_what_is_asked : (asked : Asked) (out say : OverSink) → Serves told (Some asked) out say status.Usage → ⊥
  no_usage_for_what_is_asked asked out say serves = by serves.said
    where
      by : Said serves.ending say status.Usage → ⊥
      by (inl said) = no_usage asked (subst (MayEnd told (Some asked)) (usage_alone serves.ending said.0) serves.may)
      by (inr said) = usage_is_not_memory said.0
