-- What was written and said is what any course says, since a command has one course.
use Rattle.std.proofs.Common.{◌≡◌, sym, subst, ℕ, List}
use Rattle.std.specs.Prelude.{IfSome, Option, Some, None}
use Rattle.pg_outside.specs.Outside.{Held, OverOutput, OverSink, Sends}
use Rattle.pg_command.specs.declared.status.Status.{Status}
use Rattle.pg_command.specs.Lines.{Says}
use Rattle.pg_command.specs.Words.{Command}
use Rattle.pg_course.specs.Course.{Ended, OnSettled}
use Rattle.pg_course.proofs.Runs.{on_settled}
use Rattle.pg_course.specs.OneCourse.{CoursesAreOne}
use Rattle.pg_top.specs.Headline.{IsSole}

one_held : CoursesAreOne → (command : Option Command) (told : Option Held) (out : OverOutput) (say : OverSink)
    (status : Status) (line : List ℕ) → Says say.old say.new say.before say.after line →
    IfSome told (λ held. Ended command held out.old out.new status line) →
    IfSome told (IsSole command out say status)
one_held one command None out say status line says ended = tt
one_held one command (Some held) out say status line says ended = λ texts end said course.
    let same = one command held texts end said course ended.texts status line ended.course in (
      same.same_end,
      subst (Sends out.old out.new) (sym same.same_texts) ended.written,
      subst (Says say.old say.new say.before say.after) (sym same.same_line) says,
    )

pub sole_of : CoursesAreOne → (command : Option Command) (told : Option Held) (out : OverOutput) (say : OverSink)
    (status : Status) (line : List ℕ) → Says say.old say.new say.before say.after line →
    OnSettled status (IfSome told (λ held. Ended command held out.old out.new status line)) →
    OnSettled status (IfSome told (IsSole command out say status))
sole_of one command told out say status line says ended =
    on_settled status (one_held one command told out say status line says) ended
