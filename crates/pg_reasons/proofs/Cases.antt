-- Cases that break no rule are those that may follow.
use Rattle.std.proofs.Common.{◌≡◌, refl, true, None}
use Rattle.pg_list.specs.GalleyValue.{GalleyValue}
use Rattle.pg_plan.specs.declared.pages.PageMove.{PageMove}
use Rattle.pg_plan.specs.declared.states.State.{State}
use Rattle.pg_style.specs.Values.{StyleValue}
use Rattle.pg_column.specs.Judged.{text_fault}
use Rattle.pg_rules.specs.ColumnRules.{has_room, is_tolerable, is_well_formed, keeps_looseness, keeps_note_limits, passes_breaks}
use Rattle.pg_rules.specs.Cost.{column_cost}
use Rattle.pg_rules.specs.Follow.{KeepsColumnRules, age_in, context_in, may_turn, next_state}
use Rattle.pg_rules.specs.Legal.{added, document, has_callouts, keeps_barriers, unless}
use Rattle.pg_rules.specs.Room.{ColumnContext, Document}
use Rattle.law_columns.proofs.Faults.{none_or, none_unless, or_none, unless_none}
use Rattle.pg_reasons.specs.Reasons.{CasesFollow, FollowersAreCases, IsCase, MayFollow, fault_behind}

-- the rules on a text, one by one
pub record Kept (it : ColumnContext) : Type 0 where
  pub well_formed : is_well_formed it ≡ true
  pub tolerable : is_tolerable it ≡ true
  pub passes : passes_breaks it ≡ true
  pub room : has_room it ≡ true
  pub note_limits : keeps_note_limits it ≡ true
  pub looseness : keeps_looseness it ≡ true

all_kept : (it : ColumnContext) → text_fault it ≡ None → Kept it
all_kept it e =
    let a = or_none (unless (is_well_formed it) 3) _ e in
    let b = or_none (unless (is_tolerable it) 4) _ a.1 in
    let c = or_none (unless (passes_breaks it) 5) _ b.1 in
    let d = or_none (unless (has_room it) 6) _ c.1 in
    let f = or_none (unless (keeps_note_limits it) 11) (unless (keeps_looseness it) 13) d.1 in
    record {
      well_formed = unless_none (is_well_formed it) 3 a.0;
      tolerable = unless_none (is_tolerable it) 4 b.0;
      passes = unless_none (passes_breaks it) 5 c.0;
      room = unless_none (has_room it) 6 d.0;
      note_limits = unless_none (keeps_note_limits it) 11 f.0;
      looseness = unless_none (keeps_looseness it) 13 f.1;
    }

kept_all : (it : ColumnContext) → Kept it → text_fault it ≡ None
kept_all it k =
    none_or (unless (is_well_formed it) 3) _ (none_unless (is_well_formed it) 3 k.well_formed)
    (none_or (unless (is_tolerable it) 4) _ (none_unless (is_tolerable it) 4 k.tolerable)
    (none_or (unless (passes_breaks it) 5) _ (none_unless (passes_breaks it) 5 k.passes)
    (none_or (unless (has_room it) 6) _ (none_unless (has_room it) 6 k.room)
    (none_or (unless (keeps_note_limits it) 11) (unless (keeps_looseness it) 13)
    (none_unless (keeps_note_limits it) 11 k.note_limits) (none_unless (keeps_looseness it) 13 k.looseness)))))

rules_of : (it : ColumnContext) → KeepsColumnRules it → Kept it
rules_of it r = record {
  well_formed = r.well_formed;
  tolerable = r.tolerable;
  passes = r.passes;
  room = r.room;
  note_limits = r.note_limits;
  looseness = r.looseness;
}

module _ (g : GalleyValue) (s : StyleValue) where
  abbrev doc : Document
  doc = document g s

  follows : (u : State) (m : PageMove) → IsCase doc u m → fault_behind doc u m ≡ None → MayFollow doc u m
  follows u m case e =
      let a = or_none (text_fault (context_in doc u m)) _ e in
      let b = or_none (unless (has_callouts doc u.placed m) 9) _ a.1 in
      let d = or_none (unless (may_turn doc u m) 10) (unless (keeps_barriers doc u.placed m) 14) b.1 in
      let k : Kept (context_in doc u m) = all_kept (context_in doc u m) a.0 in (
        next_state doc u m,
        (
          column_cost (context_in doc u m) u.column u.fitness (age_in doc u) (added doc u.placed m),
          record {
            starts = case.starts;
            stands = record {
              takes_run = case.takes_run;
              wide = case.wide;
              deals = case.deals;
              callouts = unless_none (has_callouts doc u.placed m) 9 b.0;
              barriers = unless_none (keeps_barriers doc u.placed m) 14 d.1;
              rules = record {
                fits = case.fits;
                well_formed = k.well_formed;
                tolerable = k.tolerable;
                passes = k.passes;
                room = k.room;
                counts = case.counts;
                note_limits = k.note_limits;
                looseness = k.looseness;
              };
            };
            turns = unless_none (may_turn doc u m) 10 d.0;
            pays = refl;
            leads = refl;
          },
        ),
      )

  faultless : (u : State) (m : PageMove) → MayFollow doc u m → fault_behind doc u m ≡ None
  faultless u m (v, (c, f)) =
      none_or (text_fault (context_in doc u m)) _
      (kept_all (context_in doc u m) (rules_of (context_in doc u m) f.stands.rules))
      (none_or (unless (has_callouts doc u.placed m) 9) _
      (none_unless (has_callouts doc u.placed m) 9 f.stands.callouts)
      (none_or (unless (may_turn doc u m) 10) (unless (keeps_barriers doc u.placed m) 14)
      (none_unless (may_turn doc u m) 10 f.turns)
      (none_unless (keeps_barriers doc u.placed m) 14 f.stands.barriers)))

  pub cases : CasesFollow g s
  cases u m case = (follows u m case, faultless u m)

  pub followers : FollowersAreCases g s
  followers u m (v, (c, f)) = record {
    starts = f.starts;
    takes_run = f.stands.takes_run;
    wide = f.stands.wide;
    deals = f.stands.deals;
    fits = f.stands.rules.fits;
    counts = f.stands.rules.counts;
  }
