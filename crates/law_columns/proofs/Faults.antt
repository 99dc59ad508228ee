-- No fault is found exactly where each column stands.
use Rattle.std.specs.Option.{option_or}
use Rattle.std.proofs.Common.{◌≡◌, refl, ℕ, ◌+◌, List, [], ◌∷◌, length, Bool, true, false, Option, Some, None}
use Rattle.std.specs.Prelude.{◌&&◌}
use Rattle.std.specs.List.{AllByRecursion}
use Rattle.pg_plan.specs.declared.pages.PageMove.{PageMove}
use Rattle.pg_plan.specs.declared.pages.Page.{Page}
use Rattle.pg_rules.specs.Room.{Document}
use Rattle.pg_list.specs.Flat.{is_same_place}
use Rattle.pg_rules.specs.ColumnRules.{does_fit, is_well_formed, is_tolerable, passes_breaks, has_room, has_counts, keeps_note_limits, keeps_looseness}
use Rattle.pg_rules.specs.History.{next_column, next_run, place_of, placed_of, context}
use Rattle.pg_rules.specs.Legal.{unless, first_at_fault, faults_with, first_breach, misfilled, is_chained, is_near, has_wide_counts, deals_floats, has_callouts, has_run, keeps_barriers}
use Rattle.law_columns.specs.Stands.{Stand}
use Rattle.pg_lemmas.proofs.Bools.{both_of, both}

abbrev pub EachKeeps : (PageMove → List PageMove → Bool) → List PageMove → Type 0
EachKeeps keeps [] = Unit {0}
EachKeeps keeps (m ∷ ms) = (keeps m ms ≡ true) × EachKeeps keeps ms

pub or_none : (a b : Option ℕ) → option_or a b ≡ None → (a ≡ None) × (b ≡ None)
or_none None b e = (refl, e)
or_none (Some n) b e = absurd cc

pub none_or : (a b : Option ℕ) → a ≡ None → b ≡ None → option_or a b ≡ None
none_or None b p q = q
none_or (Some n) b p q = absurd cc

pub unless_none : (b : Bool) (n : ℕ) → unless b n ≡ None → b ≡ true
unless_none true n e = refl
unless_none false n e = absurd cc

pub none_unless : (b : Bool) (n : ℕ) → b ≡ true → unless b n ≡ None
none_unless true n e = refl
none_unless false n e = absurd cc

pub kept : (keeps : PageMove → List PageMove → Bool) (ms : List PageMove) → first_at_fault keeps ms ≡ None →
    EachKeeps keeps ms
kept keeps [] e = tt
kept keeps (m ∷ ms) e = let t = or_none (first_at_fault keeps ms) (unless (keeps m ms) (length ms + 1)) e in
    (unless_none (keeps m ms) (length ms + 1) t.1, kept keeps ms t.0)

pub faultless : (keeps : PageMove → List PageMove → Bool) (ms : List PageMove) → EachKeeps keeps ms →
    first_at_fault keeps ms ≡ None
faultless keeps [] k = refl
faultless keeps (m ∷ ms) k = none_or (first_at_fault keeps ms) (unless (keeps m ms) (length ms + 1))
    (faultless keeps ms k.1) (none_unless (keeps m ms) (length ms + 1) k.0)

pub all_none : (r : ℕ) (fs : List (Option ℕ)) → first_breach r fs ≡ None → AllByRecursion (λ f. f ≡ None) fs
all_none r [] e = tt
all_none r (None ∷ fs) e = (refl, all_none (r + 1) fs e)
all_none r (Some c ∷ fs) e = absurd cc

pub none_all : (r : ℕ) (fs : List (Option ℕ)) → AllByRecursion (λ f. f ≡ None) fs → first_breach r fs ≡ None
none_all r [] a = refl
none_all r (None ∷ fs) a = none_all (r + 1) fs a.1
none_all r (Some c ∷ fs) a = let h : Some c ≡ None = a.0 in absurd cc

-- each rule for each column
pub record Kept (doc : Document) (ms : List PageMove) : Type 0 where
  pub chained : EachKeeps (is_chained doc) ms
  pub well_formed : EachKeeps (λ m ms. is_well_formed (context doc m ms)) ms
  pub tolerable : EachKeeps (λ m ms. is_tolerable (context doc m ms)) ms
  pub passes : EachKeeps (λ m ms. passes_breaks (context doc m ms)) ms
  pub room : EachKeeps (λ m ms. has_room (context doc m ms)) ms
  pub counts : EachKeeps (λ m ms. has_counts (context doc m ms)
      && has_wide_counts doc (next_column doc.style ms) m) ms
  pub deals : EachKeeps (λ m ms. deals_floats doc (placed_of doc.style ms) m (context doc m ms)) ms
  pub callouts : EachKeeps (λ m ms. has_callouts doc (placed_of doc.style ms) m) ms
  pub near : EachKeeps (is_near doc) ms
  pub notes : EachKeeps (λ m ms. keeps_note_limits (context doc m ms)) ms
  pub runs : EachKeeps (λ m ms. has_run doc.style (next_run doc.style ms) m) ms
  pub looseness : EachKeeps (λ m ms. keeps_looseness (context doc m ms)) ms
  pub barriers : EachKeeps (λ m ms. keeps_barriers doc (placed_of doc.style ms) m) ms

pub kept_stand : (doc : Document) (ms : List PageMove) → Kept doc ms → Stand doc ms
kept_stand doc [] k = tt
kept_stand doc (m ∷ ms) k =
    let c = both_of (is_same_place m.column.from (place_of ms)) (does_fit (context doc m ms)) k.chained.0 in
    let n = both_of (has_counts (context doc m ms)) (has_wide_counts doc (next_column doc.style ms) m)
    k.counts.0 in (
      record {
        starts = c.0;
        stands = record {
          takes_run = k.runs.0;
          wide = n.1;
          deals = k.deals.0;
          callouts = k.callouts.0;
          barriers = k.barriers.0;
          rules = record {
            fits = c.1;
            well_formed = k.well_formed.0;
            tolerable = k.tolerable.0;
            passes =
                k.passes.0;
            room = k.room.0;
            counts = n.0;
            note_limits = k.notes.0;
            looseness = k.looseness.0;
          };
        };
        near = k.near.0;
      },
      kept_stand doc ms (record {
        chained = k.chained.1;
        well_formed = k.well_formed.1;
        tolerable =
            k.tolerable.1;
        passes = k.passes.1;
        room = k.room.1;
        counts = k.counts.1;
        deals =
            k.deals.1;
        callouts = k.callouts.1;
        near = k.near.1;
        notes = k.notes.1;
        runs = k.runs.1;
        looseness =
            k.looseness.1;
        barriers = k.barriers.1;
      }),
    )

pub stand_kept : (doc : Document) (ms : List PageMove) → Stand doc ms → Kept doc ms
stand_kept doc [] s = record {
  chained = tt;
  well_formed = tt;
  tolerable = tt;
  passes = tt;
  room =
      tt;
  counts = tt;
  deals = tt;
  callouts = tt;
  near = tt;
  notes = tt;
  runs = tt;
  looseness = tt;
  barriers = tt;
}
stand_kept doc (m ∷ ms) (s, rest) =
    let k : Kept doc ms = stand_kept doc ms rest in
    record {
      chained = (both _ _ s.starts s.stands.rules.fits, k.chained);
      well_formed = (s.stands.rules.well_formed, k.well_formed);
      tolerable = (s.stands.rules.tolerable, k.tolerable);
      passes = (s.stands.rules.passes, k.passes);
      room = (s.stands.rules.room, k.room);
      counts = (both _ _ s.stands.rules.counts s.stands.wide, k.counts);
      deals = (s.stands.deals, k.deals);
      callouts = (s.stands.callouts, k.callouts);
      near = (s.near, k.near);
      notes = (s.stands.rules.note_limits, k.notes);
      runs = (s.stands.takes_run, k.runs);
      looseness = (s.stands.rules.looseness, k.looseness);
      barriers = (s.stands.barriers, k.barriers);
    }

-- no rule is broken exactly where the pages are filled and each column stands, and what is asked at the end
pub record Sound (doc : Document) (pages : List Page) (ms : List PageMove) (at_end left : Option ℕ) : Type 0
  where
    pub filled : misfilled doc.style.columns pages ≡ None
    pub stand : Stand doc ms
    pub ended : at_end ≡ None
    pub dealt : left ≡ None

pub sound_of : (doc : Document) (pages : List Page) (ms : List PageMove) (at_end left : Option ℕ) →
    first_breach 1 (faults_with doc pages ms at_end left) ≡ None → Sound doc pages ms at_end left
sound_of doc pages ms at_end left e =
    let a = all_none 1 (faults_with doc pages ms at_end left) e in
    let c = or_none (first_at_fault (is_chained doc) ms) at_end a.1.0 in
    let d = or_none (first_at_fault (λ m ms. deals_floats doc (placed_of doc.style ms) m (context doc m ms))
    ms) left a.1.1.1.1.1.1.1.0 in
    record {
      filled = a.0;
      stand = kept_stand doc ms (record {
        chained = kept _ ms c.0;
        well_formed = kept _ ms a.1.1.0;
        tolerable = kept _ ms a.1.1.1.0;
        passes = kept _ ms a.1.1.1.1.0;
        room = kept _ ms a.1.1.1.1.1.0;
        counts = kept _ ms a.1.1.1.1.1.1.0;
        deals = kept _ ms d.0;
        callouts = kept _ ms a.1.1.1.1.1.1.1.1.0;
        near = kept _ ms a.1.1.1.1.1.1.1.1.1.0;
        notes = kept _ ms a.1.1.1.1.1.1.1.1.1.1.0;
        runs = kept _ ms a.1.1.1.1.1.1.1.1.1.1.1.0;
        looseness = kept _ ms a.1.1.1.1.1.1.1.1.1.1.1.1.0;
        barriers = kept _ ms a.1.1.1.1.1.1.1.1.1.1.1.1.1.0;
      });
      ended = c.1;
      dealt = d.1;
    }

pub of_sound : (doc : Document) (pages : List Page) (ms : List PageMove) (at_end left : Option ℕ) →
    Sound doc pages ms at_end left → first_breach 1 (faults_with doc pages ms at_end left) ≡ None
of_sound doc pages ms at_end left s =
    let k : Kept doc ms = stand_kept doc ms s.stand in
    none_all 1 (faults_with doc pages ms at_end left) (
      s.filled,
      (
        none_or _ at_end (faultless _ ms k.chained) s.ended,
        (
          faultless _ ms k.well_formed,
          (
            faultless _ ms k.tolerable,
            (
              faultless _ ms k.passes,
              (
                faultless _ ms k.room,
                (
                  faultless _ ms k.counts,
                  (
                    none_or _ left (faultless _ ms k.deals) s.dealt,
                    (
                      faultless _ ms k.callouts,
                      (
                        faultless _ ms k.near,
                        (faultless _ ms k.notes, (faultless _ ms k.runs, (faultless _ ms k.looseness, (faultless _ ms k.barriers, tt)))),
                      ),
                    ),
                  ),
                ),
              ),
            ),
          ),
        ),
      ),
    )
