-- What the command `make` promises, by the line that is written.
use Rattle.std.proofs.Common.{◌≡◌, ℕ, List, subst, sym}
use Rattle.std.specs.Prelude.{Some}
use Rattle.pg_outside.specs.Outside.{OverOutput}
use Rattle.pg_command.specs.declared.ending.Ending.{Ending}
use Rattle.pg_command.specs.declared.status.Status.{Status}
use Rattle.pg_command.specs.Words.{make}
use Rattle.pg_command.specs.Lines.{status_of}
use Rattle.pg_course.specs.Calls.{Goes, OverShelf, Writes}
use Rattle.pg_course.specs.Course.{MakeCourse, OneText}
use Rattle.pg_course.specs.Made.{MadeOut}
use Rattle.pg_course.proofs.Checks.{all_told}
use Rattle.pg_course.proofs.Runs.{on_read_fault, on_settled, on_write_fault, writes_as}

-- a line that tells of the galley that is made is written, whatever a shelf tells
pub made_goes : (count : ℕ) (text : List ℕ) (status : Status) (shelf : OverShelf) (out : OverOutput) (end : Ending) →
    MadeOut count text status → Writes (OneText text status) out end → Goes (Some (make count)) shelf out end
made_goes count text status shelf out end made w =
    let course : Writes (MakeCourse count) out end =
    writes_as (OneText text status) (MakeCourse count) out end
    (λ texts ends line told. (text, subst (MadeOut count text) (sym told.1) made, told.0, told.2)) w in
    record {
      settled = on_settled (status_of end) (λ e. all_told shelf.told (λ held. e)) course.settled;
      read = on_read_fault (status_of end) (λ never. absurd never) course.no_read;
      read_keeps = on_read_fault (status_of end) (λ never. absurd never) course.no_read;
      write = course.write;
      front = on_write_fault (status_of end) (λ b. all_told shelf.told (λ held. b)) course.front;
      memory = course.memory;
      usage = (λ e. absurd (course.no_usage e), λ e. absurd (cc));
      usage_keeps = λ e. absurd (cc);
    }
