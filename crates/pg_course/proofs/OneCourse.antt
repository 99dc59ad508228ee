-- The course of each command is one.
use Rattle.std.proofs.Common.{◌∙◌, sym, ap, subst, ℕ, ◌^◌, Bool, true, false, List, [], ◌∷◌}
use Rattle.std.specs.Prelude.{Some, None, Result, Ok, Err, MatchBool, nat_le}
use Rattle.pg_list.specs.GalleyValue.{GalleyValue}
use Rattle.pg_showbox.specs.Text.{galley_text}
use Rattle.pg_style.specs.Values.{StyleValue}
use Rattle.pg_edits.specs.declared.script.ScriptStep.{ScriptStep}
use Rattle.pg_floats.specs.AreFloats.{float_total, unknown_class}
use Rattle.pg_labels.specs.declared.output.Output.{Output}
use Rattle.law_check.specs.declared.answers.No.{No}
use Rattle.law_check.specs.declared.answers.Proved.{Proved}
use Rattle.pg_greedy.specs.Faults.{greedy_fault}
use Rattle.pg_hlist.specs.declared.item.HItem.{HItem}
use Rattle.law_lines.specs.declared.rule.LineRule.{LineRule}
use Rattle.law_lines.specs.declared.rule.LineFault.{LineFault}
use Rattle.law_lines.specs.declared.rule.LineFault.TheVariants.{Memory as LineMemory}
use Rattle.law_lines.proofs.Broken.{one_broken}
use Rattle.pg_command.specs.declared.status.Status.{Status}
use Rattle.pg_command.specs.declared.status.Status.TheVariants.{Done, NotProved, Refused, Usage}
use Rattle.pg_command.specs.Words.{named, run, edit, show, make, check}
use Rattle.pg_command.specs.Words.{lines, heads, compare, fold}
use Rattle.pg_command.specs.Lines.{class_line, many_line, no_fit_line, no_line, paragraph_line, usage_line}
use Rattle.pg_course.specs.Course.{CheckCourse, CheckOutput, CheckText, EditCourse, EditScript}
use Rattle.pg_course.specs.Course.{LinesCourse, LinesEnd, MakeCourse, MakesGalley, OnTaken, OneText, ShowCourse}
use Rattle.pg_course.specs.Course.{Stop, Stops, StyledCourse, TellAnswer, WritesOne, opened, opened_output, opened_paras}
use Rattle.pg_course.specs.Course.{opened_script, opened_style, rule_of, stop}
use Rattle.pg_course.specs.Out.{RunOut}
use Rattle.pg_course.specs.Products.{CompareOut, HeadsOut, SheetsOut}
use Rattle.pg_course.specs.Verdict.{yes_line}
use Rattle.pg_course.specs.declared.product.Product.{Product}
use Rattle.pg_course.specs.declared.product.Product.TheVariants.{Pages, Heads, Comparison, Sheets}
use Rattle.pg_course.specs.OneCourse.{CoursesAreOne, IsOne}
use Rattle.pg_course.proofs.OneAnswer.{answer_one}
use Rattle.pg_course.proofs.OneRun.{match_one, steps_one, stops_one}
use Rattle.pg_course.proofs.OneText.{TellsOne, compare_one, heads_one, made_one, run_one, sheets_out_one}

text_one : (text : List ℕ) (status : Status) → IsOne (OneText text status)
text_one text status texts end line (is, ends, quiet) others last said (are, how, none) =
    record { same_texts = is ∙ sym are; same_end = ends ∙ sym how; same_line = quiet ∙ sym none }

writes_one : (Tells : GalleyValue → StyleValue → List ℕ → Status → Type 0) (style : StyleValue) (galley : GalleyValue) →
    TellsOne (Tells galley style) → IsOne (WritesOne Tells style galley)
writes_one Tells style galley one texts end line (text, tells, is, quiet) others last said (other, told, are, none) =
    let same = one text end tells other last told in
    record {
      same_texts = is ∙ (ap (λ t. t ∷ []) same.0 ∙ sym are);
      same_end = same.1;
      same_line = quiet ∙ sym none;
    }

-- ---- what is made of a galley

product_one : (product : Product) (style : StyleValue) (galley : GalleyValue) →
    IsOne (MakesGalley product style galley)
product_one (Pages labels) style galley = writes_one (RunOut labels) style galley (run_one galley style labels)
product_one Heads style galley = writes_one HeadsOut style galley (heads_one galley style)
product_one Comparison style galley =
    match_one (greedy_fault style galley.blocks) (WritesOne CompareOut style galley)
    (λ fault texts end line. Stops texts end line (stop Refused (no_fit_line fault)))
    (writes_one CompareOut style galley (compare_one galley style))
    (λ fault. stops_one (stop Refused (no_fit_line fault)))
product_one (Sheets folds nest) style galley =
    writes_one (SheetsOut folds nest) style galley (sheets_out_one galley style folds nest)

test_one : (b : Bool) (C D : List (List ℕ) → Status → List ℕ → Type 0) → IsOne C → IsOne D →
    IsOne (λ texts end line. MatchBool b (C texts end line) (D texts end line))
test_one true C D one other = one
test_one false C D one other = other

taken_one : (style : StyleValue) (galley : GalleyValue) (C : List (List ℕ) → Status → List ℕ → Type 0) → IsOne C →
    IsOne (λ texts end line. OnTaken style galley texts end line (C texts end line))
taken_one style galley C one =
    match_one (unknown_class galley.blocks style)
    (λ texts end line. MatchBool (nat_le (float_total galley.blocks style) (2 ^ 12)) (C texts end line)
    (Stops texts end line (stop Refused (many_line (float_total galley.blocks style)))))
    (λ class texts end line. Stops texts end line (stop Refused (class_line class)))
    (test_one (nat_le (float_total galley.blocks style) (2 ^ 12)) C
    (λ texts end line. Stops texts end line (stop Refused (many_line (float_total galley.blocks style)))) one
    (stops_one (stop Refused (many_line (float_total galley.blocks style)))))
    (λ class. stops_one (stop Refused (class_line class)))

styled_one : (product : Product) (style : Result StyleValue Stop) (galley : Result GalleyValue Stop) →
    IsOne (StyledCourse product style galley)
styled_one product (Err why) galley = stops_one why
styled_one product (Ok style) (Err why) = stops_one why
styled_one product (Ok style) (Ok galley) =
    taken_one style galley (MakesGalley product style galley) (product_one product style galley)

-- ---- the other commands

script_one : (labels : Bool) (style : StyleValue) (galley : GalleyValue) (script : Result (List ScriptStep) Stop) →
    IsOne (EditScript labels style galley script)
script_one labels style galley (Err why) = stops_one why
script_one labels style galley (Ok steps) = steps_one labels style steps galley 1 Done

edit_one : (labels : Bool) (style : Result StyleValue Stop) (galley : Result GalleyValue Stop)
    (script : Result (List ScriptStep) Stop) → IsOne (EditCourse labels style galley script)
edit_one labels (Err why) galley script = stops_one why
edit_one labels (Ok style) (Err why) script = stops_one why
edit_one labels (Ok style) (Ok galley) script =
    taken_one style galley (EditScript labels style galley script) (script_one labels style galley script)

show_one : (galley : Result GalleyValue Stop) → IsOne (ShowCourse galley)
show_one (Err why) = stops_one why
show_one (Ok galley) = text_one (galley_text galley) Done

tell_one : (answer : Result Proved No) → IsOne (TellAnswer answer)
tell_one (Ok proved) = text_one (yes_line proved) Done
tell_one (Err fault) = stops_one (stop NotProved (no_line fault))

output_one : (style : StyleValue) (galley : GalleyValue) (output : Output) → IsOne (CheckOutput style galley output)
output_one style galley output texts end line (answer, is, tells) others last said (other, are, told) =
    tell_one answer texts end line tells others last said
    (subst (λ (it : Result Proved No). TellAnswer it others last said)
    (sym (answer_one galley style output answer other is are)) told)

checked_one : (style : StyleValue) (galley : GalleyValue) (output : Result Output Stop) →
    IsOne (CheckText style galley output)
checked_one style galley (Err why) = stops_one why
checked_one style galley (Ok output) = output_one style galley output

check_one : (style : Result StyleValue Stop) (galley : Result GalleyValue Stop) (output : Result Output Stop) →
    IsOne (CheckCourse style galley output)
check_one (Err why) galley output = stops_one why
check_one (Ok style) (Err why) output = stops_one why
check_one (Ok style) (Ok galley) output =
    taken_one style galley (CheckText style galley output) (checked_one style galley output)

lines_end_one : (name : List ℕ) (made : Result GalleyValue LineFault) → IsOne (LinesEnd name made)
lines_end_one name (Ok galley) texts end line (shown, back) others last said (other, again) =
    text_one (galley_text galley) Done texts end line shown others last said other
lines_end_one name (Err LineMemory) texts end line a others last said b = absurd a
lines_end_one name (Err fault) texts end line a others last said b =
    stops_one (stop Refused (paragraph_line name fault)) texts end line a others last said b

lines_one : (rule : LineRule) (name : List ℕ) (paras : Result (List (List HItem)) Stop) →
    IsOne (LinesCourse rule name paras)
lines_one rule name (Err why) texts end line a others last said b = stops_one why texts end line a others last said b
lines_one rule name (Ok paras) texts end line (made, is, ends) others last said (other, are, how) =
    lines_end_one name made texts end line ends others last said
    (subst (λ (it : Result GalleyValue LineFault). LinesEnd name it others last said)
    (sym (one_broken rule 1 [] paras made other is are)) how)

made_course_one : (count : ℕ) → IsOne (MakeCourse count)
made_course_one count texts end line (text, tells, is, quiet) others last said (other, told, are, none) =
    let same = made_one count text end tells other last told in
    record {
      same_texts = is ∙ (ap (λ t. t ∷ []) same.0 ∙ sym are);
      same_end = same.1;
      same_line = quiet ∙ sym none;
    }

pub course_one : CoursesAreOne
course_one None held = stops_one (stop Usage usage_line)
course_one (Some (run style galley labels wrap)) held =
    styled_one (Pages labels) (opened_style style held) (opened galley wrap (held galley))
course_one (Some (edit style galley script labels wrap)) held =
    edit_one labels (opened_style (named style) held) (opened galley wrap (held galley))
    (opened_script script (held script))
course_one (Some (show galley wrap)) held = show_one (opened galley wrap (held galley))
course_one (Some (make count)) held = made_course_one count
course_one (Some (check style galley output wrap)) held =
    check_one (opened_style (named style) held) (opened galley wrap (held galley)) (opened_output output (held output))
course_one (Some (lines width tolerance around file)) held =
    lines_one (rule_of width tolerance around) file (opened_paras file (held file))
course_one (Some (heads style galley wrap)) held =
    styled_one Heads (opened_style (named style) held) (opened galley wrap (held galley))
course_one (Some (compare style galley wrap)) held =
    styled_one Comparison (opened_style (named style) held) (opened galley wrap (held galley))
course_one (Some (fold style galley folds nest wrap)) held =
    styled_one (Sheets folds nest) (opened_style (named style) held) (opened galley wrap (held galley))
