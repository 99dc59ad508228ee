-- The steps of a command, by what was found for its galley.
use Rattle.std.proofs.Common.{◌≡◌, ◌≤◌, ◌^◌, refl, sym, subst, arith, ℕ, List, [], ◌∷◌, Bool, true, false}
use Rattle.std.specs.Prelude.{Option, None, Some, Result, Ok, Err, IfSome, OnOk, MatchBool, MatchOption, nat_le}
use Rattle.pg_list.specs.GalleyValue.{GalleyValue}
use Rattle.pg_style.specs.Values.{StyleValue}
use Rattle.pg_floats.specs.AreFloats.{float_total, unknown_class}
use Rattle.pg_labels.specs.declared.output.Output.{Output}
use Rattle.pg_edits.specs.declared.script.ScriptStep.{ScriptStep}
use Rattle.pg_session.specs.SessionValue.{SessionValue}
use Rattle.pg_session.specs.Sessions.{IsNew}
use Rattle.pg_session.specs.Shows.{AreCounted, Show, one_show, show_of, shows_from, unseen}
use Rattle.pg_session.proofs.Counted.{all_counted, none_counted, show_counted}
use Rattle.pg_outside.specs.Outside.{Held}
use Rattle.pg_command.specs.declared.status.Status.{Status}
use Rattle.pg_command.specs.declared.status.Status.TheVariants.{Done, NoLegal, Usage, Refused, ReadFault, WriteFault}
use Rattle.pg_command.specs.declared.status.Status.TheVariants.{Memory, NotProved}
use Rattle.pg_course.specs.Counted.{CountsCheck, CountsEdit, CountsRun, CountsScript, CountsTaken, CountsText, IsShown}
use Rattle.pg_course.specs.Counted.{UnlessMemory, made_shows, taken_shows}
use Rattle.pg_greedy.specs.Faults.{greedy_fault}
use Rattle.pg_course.specs.declared.product.Product.{Product}
use Rattle.pg_course.specs.declared.product.Product.TheVariants.{Comparison}
use Rattle.pg_course.specs.Course.{Stop}
use Rattle.pg_course.proofs.Checks.{if_both}
use Rattle.pg_lemmas.proofs.Numbers.{true_le}

pub unless_memory : {P Q : Type 0} → (status : Status) → (P → Q) → UnlessMemory status P → UnlessMemory status Q
unless_memory Memory f p = tt
unless_memory ReadFault f p = f p
unless_memory WriteFault f p = f p
unless_memory Done f p = f p
unless_memory NoLegal f p = f p
unless_memory Usage f p = f p
unless_memory Refused f p = f p
unless_memory NotProved f p = f p

pub whatever : {P : Type 0} → (status : Status) → P → UnlessMemory status P
whatever Memory p = tt
whatever ReadFault p = p
whatever WriteFault p = p
whatever Done p = p
whatever NoLegal p = p
whatever Usage p = p
whatever Refused p = p
whatever NotProved p = p

-- ---- nothing was solved

pub still_counted : (style : StyleValue) (shown : List Show) (n : ℕ) → AreCounted style shown n n
still_counted style shown n = record { count = 0; firsts = none_counted style n }

pub still_run : (product : Product) (style : Result StyleValue Stop) (galley : Result GalleyValue Stop) (n : ℕ) →
    CountsRun product style galley n n
still_run product (Err stop) galley n = refl
still_run product (Ok style) (Err stop) n = refl
still_run product (Ok style) (Ok galley) n =
    still_counted style (taken_shows style galley (made_shows product style galley (one_show galley))) n

pub still_script : (style : StyleValue) (at : Show) (script : Result (List ScriptStep) Stop) (n : ℕ) →
    CountsScript style at script n n
still_script style at (Err stop) n = refl
still_script style at (Ok steps) n =
    still_counted style (taken_shows style at.galley (shows_from at style steps)) n

pub still_edit : (style : Result StyleValue Stop) (galley : Result GalleyValue Stop)
    (script : Result (List ScriptStep) Stop) (n : ℕ) → CountsEdit style galley script n n
still_edit (Err stop) galley script n = refl
still_edit (Ok style) (Err stop) script n = refl
still_edit (Ok style) (Ok galley) script n = still_script style (unseen galley) script n

pub still_text : (output : Result Output Stop) (n : ℕ) → CountsText output n n
still_text (Err stop) n = refl
still_text (Ok output) n = omega arith

-- a fact of a galley that is taken, and one of a galley that is not
either : {A : Type 0} → (class : Option A) (few : Bool) (P Q : Type 0) → P → Q →
    MatchOption class (MatchBool few P Q) (λ other. Q)
either (Some other) few P Q p q = q
either None true P Q p q = p
either None false P Q p q = q

pub still_taken : (style : StyleValue) (galley : GalleyValue) (output : Result Output Stop) (n : ℕ) →
    CountsTaken style galley output n n
still_taken style galley output n =
    either (unknown_class galley.blocks style) (nat_le (float_total galley.blocks style) (2 ^ 12))
    (CountsText output n n) (n ≡ n) (still_text output n) refl

pub still_check : (style : Result StyleValue Stop) (galley : Result GalleyValue Stop) (output : Result Output Stop)
    (n : ℕ) → CountsCheck style galley output n n
still_check (Err stop) galley output n = refl
still_check (Ok style) (Err stop) output n = refl
still_check (Ok style) (Ok galley) output n = still_taken style galley output n

-- ---- a file that was read

-- what is counted behind what was read is counted of what the shelf tells
pub read_counts : {A : Type 0} → (told mid : Option Held) (said : Held → Result A Stop) (x : A)
    (F : Result A Stop → Held → Type 0) → mid ≡ told → IfSome told (λ held. said held ≡ Ok x) →
    IfSome mid (F (Ok x)) → IfSome told (λ held. F (said held) held)
read_counts told mid said x F same says counted =
    if_both told (λ held is h. subst (λ r. F r held) (sym is) h) says
    (subst (λ (t : Option Held). IfSome t (F (Ok x))) same counted)

-- ---- a galley that was taken

-- its shows
taken_all : (style : StyleValue) (galley : GalleyValue) (shown : List Show) → unknown_class galley.blocks style ≡ None →
    float_total galley.blocks style ≤ 2 ^ 12 → taken_shows style galley shown ≡ shown
taken_all style galley shown known few =
    let test : nat_le (float_total galley.blocks style) (2 ^ 12) ≡ true =
    true_le (float_total galley.blocks style) (2 ^ 12) few in
    rw (known, test) refl

-- what is counted of them
pub taken_counted : (style : StyleValue) (galley : GalleyValue) (shown : List Show) (before after : ℕ) →
    unknown_class galley.blocks style ≡ None → float_total galley.blocks style ≤ 2 ^ 12 →
    AreCounted style shown before after → AreCounted style (taken_shows style galley shown) before after
taken_counted style galley shown before after known few counted =
    subst (λ (xs : List Show). AreCounted style xs before after) (sym (taken_all style galley shown known few)) counted

-- what is counted of an output text that is tested against it
pub text_counted : (style : StyleValue) (galley : GalleyValue) (output : Result Output Stop) (before after : ℕ) →
    unknown_class galley.blocks style ≡ None → float_total galley.blocks style ≤ 2 ^ 12 →
    CountsText output before after → CountsTaken style galley output before after
text_counted style galley output before after known few counted =
    let test : nat_le (float_total galley.blocks style) (2 ^ 12) ≡ true =
    true_le (float_total galley.blocks style) (2 ^ 12) few in
    rw (known, test) counted

-- a session that was solved or paginated for its galley as it stands showed it
pub shown_counted : (old new : SessionValue) (before after : ℕ) → IsShown old new before after →
    AreCounted old.style (show_of old ∷ []) before after
shown_counted old new before after shown =
    all_counted old.style (show_of old ∷ []) before after
    (show_counted old.style [] old shown.number before before after refl (none_counted old.style before) shown.counts
    shown.bounded)

-- also for a comparison, where it has a first fit
pub fitted_counted : (old new : SessionValue) (before after : ℕ) → greedy_fault old.style old.galley.blocks ≡ None →
    IsShown old new before after →
    AreCounted old.style (made_shows Comparison old.style old.galley (show_of old ∷ [])) before after
fitted_counted old new before after fits shown = rw fits (shown_counted old new before after shown)

-- what is counted of a new session's galley
pub new_counted : (galley : GalleyValue) (style : StyleValue) (made : SessionValue) (before after : ℕ) →
    IsNew galley style made → AreCounted made.style (show_of made ∷ []) before after →
    AreCounted style (one_show galley) before after
new_counted galley style made before after is counted =
    subst (λ (session : SessionValue). AreCounted session.style (show_of session ∷ []) before after) is.is counted

-- and of what is made of it
pub new_made : (product : Product) (galley : GalleyValue) (style : StyleValue) (made : SessionValue)
    (before after : ℕ) → IsNew galley style made →
    AreCounted made.style (made_shows product made.style made.galley (show_of made ∷ [])) before after →
    AreCounted style (made_shows product style galley (one_show galley)) before after
new_made product galley style made before after is counted =
    subst (λ (session : SessionValue). AreCounted session.style
    (made_shows product session.style session.galley (show_of session ∷ [])) before after) is.is counted

-- a new session was solved or paginated once
pub shown_once : (galley : GalleyValue) (style : StyleValue) (made new : SessionValue) (before after : ℕ) →
    IsNew galley style made → IsShown made new before after → AreCounted style (one_show galley) before after
shown_once galley style made new before after is shown =
    new_counted galley style made before after is (shown_counted made new before after shown)

pub ok_of : {T E P : Type 0} → (r : Result T E) → P → OnOk r P
ok_of (Ok x) p = p
ok_of (Err e) p = tt
