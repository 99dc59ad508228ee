-- How the program ends: its status, and its line for the user; and what it tells of itself.
use Rattle.std.specs.Prelude.{ℕ, List, [], ◌++◌, codes, decimal}
use Rattle.pg_draw.specs.declared.ending.Ending.{Ending}
use Rattle.pg_draw.specs.declared.ending.Ending.TheVariants.{Done, Usage, TooLong, BadOutput, BadStyle, Unread, WriteFault, Memory}
use Rattle.pg_draw.specs.declared.ending.Status.{Status}
use Rattle.pg_draw.specs.declared.ending.Status.TheVariants as status

-- how the program ends with an ending
abbrev pub status_of : Ending → Status
status_of Done = status.Done
status_of Usage = status.Usage
status_of (TooLong name) = status.Refused
status_of (BadOutput name line) = status.Refused
status_of (BadStyle name fault) = status.Refused
status_of (Unread name) = status.ReadFault
status_of WriteFault = status.WriteFault
status_of Memory = status.Memory

-- the numbers of the ends; 1 and 7 are of `pg` alone
abbrev pub exit_number : Status → ℕ
exit_number status.Done = 0
exit_number status.Usage = 2
exit_number status.Refused = 3
exit_number status.ReadFault = 4
exit_number status.WriteFault = 5
exit_number status.Memory = 6

-- in front of a line about the file of this name
abbrev pub named : List ℕ → List ℕ
named name = codes "pg_draw: " ++ name

-- the line of an ending, or nothing
abbrev pub line_of : Ending → List ℕ
line_of Done = []
line_of Usage = codes "usage: pg_draw [--style STYLE] [--other OUTPUT] [-o FILE] OUTPUT\n"
line_of (TooLong name) = named name.now ++ codes ": longer than 67108864 bytes\n"
line_of (BadOutput name line) =
    ((named name.now ++ codes ": line ") ++ decimal line) ++ codes ": not an output text\n"
line_of (BadStyle name fault) =
    ((named name.now ++ codes ": style fault ") ++ decimal fault) ++ codes ", whose key pg run tells\n"
line_of (Unread name) = named name.now ++ codes ": cannot be read\n"
line_of WriteFault = codes "pg_draw: output failed\n"
line_of Memory = codes "pg_draw: out of memory\n"

-- what `--version` writes
unfoldable pub version_text : List ℕ
version_text = codes "pg_draw 1.0\n"

-- what `--help` writes
unfoldable pub help_text : List ℕ
help_text = codes "usage: pg_draw [--style STYLE] [--other OUTPUT] [-o FILE] OUTPUT\n\nDraws what `pg run` writes as one page of HTML.\n\n  --style STYLE   tells what the classes of inserts are, and how long pages are\n  --other OUTPUT  draws another text beside it, the pages that differ first\n  -o FILE         writes the page to a file, and not to standard output\n  --help          writes this\n  --version       writes the version\n"
