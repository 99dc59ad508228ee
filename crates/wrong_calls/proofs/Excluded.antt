-- Ends, steps and writes that the clauses of a command and of the program exclude.
use Rattle.std.proofs.Common.{◌≡◌, ◌≢◌, ◌∙◌, refl, sym, ap, subst, arith, ℕ, zero, suc, ◌+◌, ◌<◌, ◌≤◌, ◌^◌, List, [], length, take, Option, Some, None}
use Rattle.std.proofs.Common.{Bool, true, false}
use Rattle.std.specs.Prelude.{MatchBool, MatchOption, Err, Ok, nat_le}
use Rattle.std.proofs.lemmas.List.{take_all}
use Rattle.std.proofs.lemmas.Option.{none-some}
use Rattle.pg_command.specs.Words.{Command, command_of}
use Rattle.pg_command.specs.declared.status.Status.{Status}
use Rattle.pg_command.specs.declared.status.Status.TheVariants.{Usage}
use Rattle.pg_course.specs.Calls.{OverShelf}
use Rattle.pg_course.specs.Counted.{CountsTaken, CountsText}
use Rattle.pg_course.specs.Course.{Course, Stop}
use Rattle.pg_course.specs.OneCourse.{CoursesAreOne}
use Rattle.pg_floats.specs.AreFloats.{float_total, unknown_class}
use Rattle.pg_labels.specs.declared.output.Output.{Output}
use Rattle.pg_list.specs.GalleyValue.{GalleyValue}
use Rattle.pg_outside.specs.Outside.{Held, OverOutput, OverSink, Sends, SendsFront, Sent, advanced, next_number}
use Rattle.pg_session.specs.Shows.{AreAllCounted, AreCounted, Show}
use Rattle.pg_style.specs.Values.{StyleValue}
use Rattle.pg_top.specs.Headline.{Headline}

-- ---- ends and texts

-- over the same files no command ends in two ways, as with a yes and with a no
no_second_end : CoursesAreOne → (command : Option Command) (held : Held) (texts others : List (List ℕ))
    (end last : Status) (line said : List ℕ) → Course command held texts end line →
    Course command held others last said → end ≢ last → ⊥
no_second_end one command held texts others end last line said course other differ =
    differ (one command held texts end line course others last said other).same_end

-- and none writes two texts, as with labels and without
no_second_text : CoursesAreOne → (command : Option Command) (held : Held) (texts others : List (List ℕ))
    (end last : Status) (line said : List ℕ) → Course command held texts end line →
    Course command held others last said → texts ≢ others → ⊥
no_second_text one command held texts others end last line said course other differ =
    differ (one command held texts end line course others last said other).same_texts

-- words that are no command end in one way
no_other_status : (words : List (List ℕ)) (shelf : OverShelf) (out : OverOutput) (say : OverSink) (status : Status) →
    command_of words ≡ None → status ≢ Usage → Headline words shelf out say status → ⊥
no_other_status words shelf out say status none other headline = other (headline.usage.1 none)

-- and no command ends so
no_usage_of_a_command : (words : List (List ℕ)) (shelf : OverShelf) (out : OverOutput) (say : OverSink)
    (command : Command) → command_of words ≡ Some command → Headline words shelf out say Usage → ⊥
no_usage_of_a_command words shelf out say command is headline = none-some _ (sym (headline.usage.0 refl) ∙ is)

-- ---- steps

-- where nothing is shown, as where a comparison is refused, no step is taken
no_step_where_none_is_shown : (style : StyleValue) (before : ℕ) → AreCounted style [] before (before + 1) → ⊥
no_step_where_none_is_shown style before counted = by all.sums all.bounded
  where
    none : ◌≡◌ {A = List Show} (take counted.count []) []
    none = take_all counted.count [] (omega arith)

    all : AreAllCounted style [] before (before + 1)
    all = subst (λ (shown : List Show). AreAllCounted style shown before (before + 1)) none counted.firsts

    by : all.total ≡ 0 → before + 1 ≤ before + all.total → ⊥
    by e low = omega (arith, e, low)

-- nor one by a check, where no output text is read
no_step_without_a_text : (galley : GalleyValue) (style : StyleValue) (stop : Stop) (before : ℕ) →
    CountsTaken style galley (Err stop) before (before + 1) → ⊥
no_step_without_a_text galley style stop before =
    in_each (unknown_class galley.blocks style) (nat_le (float_total galley.blocks style) (2 ^ 12))
  where
    more : before + 1 ≡ before → ⊥
    more e = omega (arith, e)

    in_each : {A : Type 0} → (class : Option A) (few : Bool) →
        MatchOption class (MatchBool few (before + 1 ≡ before) (before + 1 ≡ before)) (λ other. before + 1 ≡ before) → ⊥
    in_each (Some other) few e = more e
    in_each None true e = more e
    in_each None false e = more e

-- and none behind those for its labels, as where a label is opened twice
no_step_more_than_labels : (output : Output) (before : ℕ) →
    CountsText (Ok output) before (before + length output.labels + 1) → ⊥
no_step_more_than_labels output before low = omega (arith, low)

-- ---- writes, below the last number that a count can show

next_is : (n : ℕ) → n + 1 < 2 ^ 64 → next_number n ≡ n + 1
next_is n low = omega (arith, low)

advanced_is : (count n : ℕ) → n + count < 2 ^ 64 → advanced count n ≡ n + count
advanced_is zero n low = omega arith
advanced_is (suc count) n low =
    let before : advanced count n ≡ n + count = advanced_is count n (omega (arith, low)) in
    let next : next_number (n + count) ≡ (n + count) + 1 = next_is (n + count) (omega (arith, low)) in
    let on : (n + count) + 1 ≡ n + suc count = omega arith in
    ap next_number before ∙ (next ∙ on)

further : (a b c count : ℕ) → a + count + 1 < 2 ^ 64 → b ≡ next_number a → c ≡ advanced count b →
    c ≡ advanced count a → ⊥
further a b c count low more all whole =
    let one : b ≡ a + 1 = more ∙ next_is a (omega (arith, low)) in
    let far : advanced count b ≡ b + count = advanced_is count b (omega (arith, low, one)) in
    let near : advanced count a ≡ a + count = advanced_is count a (omega (arith, low)) in
    omega (arith, one, far, near, all, whole)

-- a write in front of texts is not one of theirs, and so no text comes in two
no_write_in_front : (old between new : Sent) (texts : List (List ℕ)) → old.writes + length texts + 1 < 2 ^ 64 →
    between.writes ≡ next_number old.writes → Sends between new texts → Sends old new texts → ⊥
no_write_in_front old between new texts low more all whole =
    further old.writes between.writes new.writes (length texts) low more all.writes whole.writes

-- nor one behind a failed one
no_write_behind : (old between new : Sent) (texts : List (List ℕ)) → old.writes + length texts + 1 < 2 ^ 64 →
    SendsFront old between texts → new.writes ≡ next_number between.writes → SendsFront old new texts → ⊥
no_write_behind old between new texts low front more whole =
    let near : advanced (length texts) old.writes ≡ old.writes + length texts =
    advanced_is (length texts) old.writes (omega (arith, low)) in
    let until : between.writes ≡ old.writes + length texts = front.writes ∙ near in
    let next : next_number between.writes ≡ between.writes + 1 = next_is between.writes (omega (arith, low, until)) in
    let last : new.writes ≡ old.writes + length texts = whole.writes ∙ near in
    omega (arith, until, next, more, last)
