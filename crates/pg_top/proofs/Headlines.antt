-- What the command promises, and the line that is said, make the program's promise.
use Rattle.std.proofs.Common.{ℕ, List, rules}
use Rattle.pg_outside.specs.Outside.{OverOutput, OverSink}
use Rattle.pg_command.specs.declared.ending.Ending.{Ending}
use Rattle.pg_command.specs.declared.ending.Ending.TheVariants as ending
use Rattle.pg_command.specs.Words.{command_of}
use Rattle.pg_command.specs.Lines.{Says, line_of, status_of}
use Rattle.pg_course.specs.Calls.{Goes, OverShelf}
use Rattle.pg_top.specs.Headline.{Headline}

pub headline_of : (words : List (List ℕ)) (shelf : OverShelf) (out : OverOutput) (say : OverSink)
    (end : Ending) →
    Goes (command_of words) shelf out end → Says say.old say.new say.before say.after (line_of end) →
    Headline words shelf out say (status_of end)
headline_of words shelf out say ending.Done goes says = search rules
headline_of words shelf out say ending.NoLegal goes says = search rules
headline_of words shelf out say ending.Usage goes says = search rules
headline_of words shelf out say (ending.TooLong name) goes says = search rules
headline_of words shelf out say (ending.BadList name fault) goes says = search rules
headline_of words shelf out say (ending.BadStyle name fault) goes says = search rules
headline_of words shelf out say (ending.UnknownClass class) goes says = search rules
headline_of words shelf out say (ending.TooManyFloats count) goes says = search rules
headline_of words shelf out say (ending.BadScript name fault) goes says = search rules
headline_of words shelf out say (ending.BadEdit step fault) goes says = search rules
headline_of words shelf out say (ending.BadParagraph name fault) goes says = search rules
headline_of words shelf out say (ending.NoFirstFit fault) goes says = search rules
headline_of words shelf out say (ending.Unread name) goes says = search rules
headline_of words shelf out say ending.WriteFault goes says = search rules
headline_of words shelf out say ending.Memory goes says = search rules
headline_of words shelf out say (ending.BadOutput name line) goes says = search rules
headline_of words shelf out say (ending.NotProved fault) goes says = search rules
