-- What a command promises, by what was found for its galley.
use Rattle.std.proofs.Common.{◌≡◌, ◌≤◌, ◌<◌, ◌^◌, ℕ, sym, ap, List, [], refl, subst, true, false, arith}
use Rattle.std.proofs.Common.{append-nil}
use Rattle.std.specs.Prelude.{Option, Some, None, Result, Ok, Err, IfSome, nat_le}
use Rattle.std.specs.Io.KnownBytes.{Appends, Keeps}
use Rattle.std.proofs.lemmas.Bool.Decides.{nat_tests}
use Rattle.pg_list.specs.GalleyValue.{GalleyValue}
use Rattle.pg_style.specs.Values.{StyleValue}
use Rattle.pg_floats.specs.AreFloats.{MakesList, unknown_class, float_total}
use Rattle.pg_floats.specs.declared.fault.FloatFault.{FloatFault}
use Rattle.pg_floats.specs.declared.fault.FloatFault.TheVariants as float_fault
use Rattle.pg_outside.specs.Outside.{Held, OverOutput, Sends, SendsNothing, Sent, output_over}
use Rattle.pg_command.specs.declared.ending.Ending.{Ending}
use Rattle.pg_command.specs.declared.status.Status.{Status}
use Rattle.pg_command.specs.declared.status.Status.TheVariants.{Done, NoLegal, Usage, Refused, ReadFault, WriteFault}
use Rattle.pg_command.specs.declared.status.Status.TheVariants.{Memory, NotProved}
use Rattle.pg_command.specs.Words.{StyleName}
use Rattle.pg_command.specs.Lines.{ending_of, line_of, many_line, status_of}
use Rattle.pg_course.specs.Calls.{Writes}
use Rattle.pg_course.specs.Course.{Stop, opened, opened_style, MakesGalley, RunGalley, RunCourse, OnTaken}
use Rattle.pg_course.specs.Course.{StyledCourse, EndsBy, BeginsBy, OnSettled, OnReadFault, OnWriteFault}
use Rattle.pg_course.specs.declared.product.Product.{Product}
use Rattle.pg_lemmas.proofs.Numbers.{true_le}

pub on_settled : {P Q : Type 0} → (status : Status) → (P → Q) → OnSettled status P → OnSettled status Q
on_settled ReadFault f p = tt
on_settled WriteFault f p = tt
on_settled Memory f p = tt
on_settled Done f p = f p
on_settled NoLegal f p = f p
on_settled Usage f p = f p
on_settled Refused f p = f p
on_settled NotProved f p = f p

pub on_write_fault : {P Q : Type 0} → (status : Status) → (P → Q) → OnWriteFault status P → OnWriteFault status Q
on_write_fault WriteFault f p = f p
on_write_fault Done f p = tt
on_write_fault NoLegal f p = tt
on_write_fault Usage f p = tt
on_write_fault Refused f p = tt
on_write_fault ReadFault f p = tt
on_write_fault Memory f p = tt
on_write_fault NotProved f p = tt

pub on_read_fault : {P Q : Type 0} → (status : Status) → (P → Q) → OnReadFault status P → OnReadFault status Q
on_read_fault ReadFault f p = f p
on_read_fault Done f p = tt
on_read_fault NoLegal f p = tt
on_read_fault Usage f p = tt
on_read_fault Refused f p = tt
on_read_fault WriteFault f p = tt
on_read_fault Memory f p = tt
on_read_fault NotProved f p = tt

-- what ends one course ends another that follows from it
pub ends_as : (C D : List (List ℕ) → Status → List ℕ → Type 0) (old new : Sent) (end : Status)
    (said : List ℕ) →
    ((texts : List (List ℕ)) (status : Status) (line : List ℕ) → C texts status line → D texts status line) →
    EndsBy C old new end said → EndsBy D old new end said
ends_as C D old new end said f e =
    record { texts = e.texts; course = f e.texts end said e.course; written = e.written }

-- and so does what begins it
pub begins_as : (C D : List (List ℕ) → Status → List ℕ → Type 0) (old new : Sent) →
    ((texts : List (List ℕ)) (status : Status) (line : List ℕ) → C texts status line → D texts status line) →
    BeginsBy C old new → BeginsBy D old new
begins_as C D old new f b = record {
  texts = b.texts;
  end = b.end;
  line = b.line;
  course = f b.texts b.end b.line b.course;
  front = b.front;
}

-- what does one course does another that follows from it
pub writes_as : (C D : List (List ℕ) → Status → List ℕ → Type 0) (out : OverOutput) (end : Ending) →
    ((texts : List (List ℕ)) (status : Status) (line : List ℕ) → C texts status line → D texts status line) →
    Writes C out end → Writes D out end
writes_as C D out end f w = record {
  settled = on_settled (status_of end) (ends_as C D out.old out.new (status_of end) (line_of end) f) w.settled;
  write = w.write;
  front = on_write_fault (status_of end) (begins_as C D out.old out.new f) w.front;
  memory = w.memory;
  no_read = w.no_read;
  no_usage = w.no_usage;
}

appends_no_byte : (old : Option (List ℕ)) → Appends old old []
appends_no_byte None = tt
appends_no_byte (Some xs) = sym (append-nil xs)

pub appends_none : (old : Sent) → Sends old old []
appends_none old = record { bytes = appends_no_byte old.bytes; writes = refl }

keeps_bytes : (old : Option (List ℕ)) → Keeps old old
keeps_bytes None = tt
keeps_bytes (Some xs) = refl

pub keeps_all : (old : Sent) → SendsNothing old old
keeps_all old = record { bytes = keeps_bytes old.bytes; writes = refl }

many_test : (a b : ℕ) → b < a → nat_le a b ≡ false
many_test a b many = grind (arith, nat_tests)

-- a galley without a list of floats is refused, whatever is done with others, or memory ran out
pub no_floats : (C : List (List ℕ) → Status → List ℕ → Type 0) (style : StyleValue) (galley : GalleyValue)
    (old : Sent) (before : ℕ) (fault : FloatFault) → MakesList (Err fault) galley.blocks style →
    Writes (λ texts end line. OnTaken style galley texts end line (C texts end line))
    (output_over old old before before) (ending_of fault)
no_floats C style galley old before (float_fault.Class number) unknown = record {
  settled = record { texts = []; course = rw unknown (refl, refl, refl); written = appends_none old };
  write = tt;
  front = tt;
  memory = tt;
  no_read = tt;
  no_usage = λ e. absurd (cc);
}
no_floats C style galley old before (float_fault.Limit count) many = record {
  settled =
      record {
        texts = [];
        course =
            rw (
              many.0,
              many_test (float_total galley.blocks style) (2 ^ 12)
                  (subst (λ (n : ℕ). 2 ^ 12 < n) many.1 many.2),
            ) (refl, refl, ap many_line many.1);
        written = appends_none old;
      };
  write = tt;
  front = tt;
  memory = tt;
  no_read = tt;
  no_usage = λ e. absurd (cc);
}
no_floats C style galley old before float_fault.Memory known = record {
  settled = tt;
  write = tt;
  front = tt;
  memory = keeps_all old;
  no_read = tt;
  no_usage = λ e. absurd (cc);
}

-- what is made of a galley whose classes the style has and whose floats are few
pub taken_writes : (product : Product) (style : StyleValue) (galley : GalleyValue) (out : OverOutput) (end : Ending) →
    unknown_class galley.blocks style ≡ None → float_total galley.blocks style ≤ 2 ^ 12 →
    Writes (MakesGalley product style galley) out end → Writes (RunGalley product style galley) out end
taken_writes product style galley out end known few w =
    let test : nat_le (float_total galley.blocks style) (2 ^ 12) ≡ true =
    true_le (float_total galley.blocks style) (2 ^ 12) few in
    writes_as (MakesGalley product style galley) (RunGalley product style galley) out end
    (λ texts status line course. rw (known, test) course) w

-- a fact of what was read is one of what the shelf tells
pub when_said : {A : Type 0} (F : Result A Stop → Type 0) (told : Option Held) (said : Held → Result A Stop) (x : A) →
    IfSome told (λ held. said held ≡ Ok x) → F (Ok x) → IfSome told (λ held. F (said held))
when_said F None said x says h = tt
when_said F (Some held) said x says h = subst F (sym says) h

styled : (told : Option Held) (chosen : StyleName) (style : StyleValue) (name : List ℕ) (product : Product)
    (wrap : Option ℕ) (old new : Sent) → IfSome told (λ held. opened_style chosen held ≡ Ok style) →
    IfSome told (λ held. BeginsBy (RunCourse product style (opened name wrap (held name))) old new) →
    IfSome told (λ held.
    BeginsBy (StyledCourse product (opened_style chosen held) (opened name wrap (held name))) old new)
styled None chosen style name product wrap old new says h = tt
styled (Some held) chosen style name product wrap old new says h =
    subst (λ (said : Result StyleValue Stop).
    BeginsBy (StyledCourse product said (opened name wrap (held name))) old new) (sym says) h

ended : (told : Option Held) (chosen : StyleName) (style : StyleValue) (name : List ℕ) (product : Product)
    (wrap : Option ℕ) (old new : Sent) (status : Status) (line : List ℕ) →
    IfSome told (λ held. opened_style chosen held ≡ Ok style) →
    IfSome told (λ held. EndsBy (RunCourse product style (opened name wrap (held name))) old new status line) →
    IfSome told (λ held.
    EndsBy (StyledCourse product (opened_style chosen held) (opened name wrap (held name))) old new status line)
ended None chosen style name product wrap old new status line says h = tt
ended (Some held) chosen style name product wrap old new status line says h =
    subst (λ (said : Result StyleValue Stop).
    EndsBy (StyledCourse product said (opened name wrap (held name))) old new status line) (sym says) h

-- the style of a file, and a galley whose text was written
pub styled_ends : (told mid : Option Held) (chosen : StyleName) (style : StyleValue) (name : List ℕ)
    (product : Product) (wrap : Option ℕ) (old new : Sent) (status : Status) (line : List ℕ) →
    IfSome told (λ held. opened_style chosen held ≡ Ok style) → mid ≡ told →
    OnSettled status (IfSome mid (λ held.
    EndsBy (RunCourse product style (opened name wrap (held name))) old new status line)) →
    OnSettled status (IfSome told (λ held.
    EndsBy (StyledCourse product (opened_style chosen held) (opened name wrap (held name))) old new status line))
styled_ends told mid chosen style name product wrap old new status line says same h =
    on_settled status (λ all. ended told chosen style name product wrap old new status line says
    (subst (λ (t : Option Held). IfSome t (λ held.
    EndsBy (RunCourse product style (opened name wrap (held name))) old new status line)) same all)) h

-- the style of a file, and a galley of whose text a front was written
pub styled_begins : (told mid : Option Held) (chosen : StyleName) (style : StyleValue) (name : List ℕ)
    (product : Product) (wrap : Option ℕ) (old new : Sent) (status : Status) →
    IfSome told (λ held. opened_style chosen held ≡ Ok style) → mid ≡ told →
    OnWriteFault status (IfSome mid (λ held.
    BeginsBy (RunCourse product style (opened name wrap (held name))) old new)) →
    OnWriteFault status (IfSome told (λ held.
    BeginsBy (StyledCourse product (opened_style chosen held) (opened name wrap (held name))) old new))
styled_begins told mid chosen style name product wrap old new status says same h =
    on_write_fault status (λ front. styled told chosen style name product wrap old new says
    (subst (λ (t : Option Held). IfSome t (λ held.
    BeginsBy (RunCourse product style (opened name wrap (held name))) old new)) same front)) h
