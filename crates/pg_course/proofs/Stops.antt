-- A galley that is not read ends a course behind a style, and so does an output text behind a galley.
use Rattle.std.proofs.Common.{◌≡◌, ℕ, sym, subst, refl, List, [], Option}
use Rattle.std.specs.Prelude.{Result, Err}
use Rattle.pg_list.specs.GalleyValue.{GalleyValue}
use Rattle.pg_style.specs.Values.{StyleValue}
use Rattle.pg_labels.specs.declared.output.Output.{Output}
use Rattle.pg_outside.specs.Outside.{Held, Sent, output_over}
use Rattle.pg_command.specs.declared.ending.Ending.{Ending}
use Rattle.pg_command.specs.Lines.{line_of, status_of}
use Rattle.pg_course.specs.Calls.{GoesOn, NoFile, OverShelf, Stopped}
use Rattle.pg_course.specs.Course.{CheckText, EndsBy, RunCourse, Stop, opened, opened_output, stop}
use Rattle.pg_course.specs.declared.product.Product.{Product}
use Rattle.pg_course.proofs.Checks.{if_some, on_memory}
use Rattle.pg_course.proofs.Runs.{appends_none, keeps_all, on_read_fault, on_settled, on_write_fault}

stopped_ends : (product : Product) (style : StyleValue) (name : List ℕ) (wrap : Option ℕ) (old : Sent)
    (end : Ending) (held : Held) → opened name wrap (held name) ≡ Err (stop (status_of end) (line_of end)) →
    EndsBy (RunCourse product style (opened name wrap (held name))) old old (status_of end) (line_of end)
stopped_ends product style name wrap old end held is = record {
  texts = [];
  course =
      subst (λ (said : Result GalleyValue Stop). RunCourse product style said [] (status_of end) (line_of end)) (sym is)
      (refl, refl, refl);
  written = appends_none old;
}

pub stopped_run : (product : Product) (style : StyleValue) (name : List ℕ) (wrap : Option ℕ) (shelf : OverShelf)
    (old : Sent) (faults : ℕ) (end : Ending) →
    Stopped (λ held. opened name wrap (held name)) (NoFile name) shelf end →
    GoesOn (λ held. RunCourse product style (opened name wrap (held name))) name shelf
    (output_over old old faults faults) end
stopped_run product style name wrap shelf old faults end stopped = record {
  settled =
      on_settled (status_of end) (if_some shelf.told (stopped_ends product style name wrap old end)) stopped.settled;
  read = stopped.read;
  read_keeps = on_read_fault (status_of end) (λ it. keeps_all old) stopped.read;
  write = on_write_fault (status_of end) (λ none. absurd none) stopped.no_write;
  front = on_write_fault (status_of end) (λ none. absurd none) stopped.no_write;
  memory = on_memory (status_of end) (keeps_all old);
  no_usage = stopped.no_usage;
}

unread_ends : (style : StyleValue) (galley : GalleyValue) (name : List ℕ) (old : Sent) (end : Ending) (held : Held) →
    opened_output name (held name) ≡ Err (stop (status_of end) (line_of end)) →
    EndsBy (CheckText style galley (opened_output name (held name))) old old (status_of end) (line_of end)
unread_ends style galley name old end held is = record {
  texts = [];
  course =
      subst (λ (said : Result Output Stop). CheckText style galley said [] (status_of end) (line_of end)) (sym is)
      (refl, refl, refl);
  written = appends_none old;
}

pub stopped_check : (style : StyleValue) (galley : GalleyValue) (name : List ℕ) (shelf : OverShelf) (old : Sent)
    (faults : ℕ) (end : Ending) → Stopped (λ held. opened_output name (held name)) (NoFile name) shelf end →
    GoesOn (λ held. CheckText style galley (opened_output name (held name))) name shelf
    (output_over old old faults faults) end
stopped_check style galley name shelf old faults end stopped = record {
  settled = on_settled (status_of end) (if_some shelf.told (unread_ends style galley name old end)) stopped.settled;
  read = stopped.read;
  read_keeps = on_read_fault (status_of end) (λ it. keeps_all old) stopped.read;
  write = on_write_fault (status_of end) (λ none. absurd none) stopped.no_write;
  front = on_write_fault (status_of end) (λ none. absurd none) stopped.no_write;
  memory = on_memory (status_of end) (keeps_all old);
  no_usage = stopped.no_usage;
}
