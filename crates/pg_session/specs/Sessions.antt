-- What the calls of a session do.
use Rattle.std.specs.Prelude.{◌≡◌, ℕ, ◌+◌, ◌-◌, ◌^◌, ◌≤◌, min, true, false, nat_le, List, [], length, None, Result, Ok, Err}
use Rattle.std.specs.List.{count_by}
use Rattle.pg_floats.specs.AreFloats.{AreFloats, MakesList, float_total, unknown_class}
use Rattle.pg_floats.specs.declared.fault.FloatFault.{FloatFault}
use Rattle.pg_list.specs.GalleyValue.{GalleyValue}
use Rattle.pg_list.specs.declared.galley.Edit.{Edit}
use Rattle.pg_plan.specs.declared.states.Label.{Label}
use Rattle.pg_style.specs.Values.{StyleValue}
use Rattle.pg_rules.specs.Frontier.{Frontier}
use Rattle.pg_rules.specs.Legal.{document}
use Rattle.pg_rules.specs.Reach.{touched}
use Rattle.law_space.specs.ReachAt.{reach_at}
use Rattle.pg_space.specs.Solves.{Solves}
use Rattle.pg_space.specs.declared.solving.Outcome.{Outcome}
use Rattle.pg_session.specs.Edits.{edited}
use Rattle.pg_session.specs.Reached.{HaveReach}
use Rattle.pg_session.specs.SessionValue.{SessionValue}
use Rattle.pg_session.specs.declared.told.Told.{Told}

-- above the reach of every place
abbrev pub above_all : ℕ
above_all = 2 ^ 32 - 1

-- the reach of the place of a label, as a number
abbrev pub label_reach : GalleyValue → StyleValue → Label → ℕ
label_reach galley style label = reach_at (document galley style) label.state.place

-- how many labels have a reach of at least this block
abbrev pub labels_reaching : ℕ → GalleyValue → StyleValue → List Label → ℕ
labels_reaching block galley style labels =
    count_by (λ (label : Label). nat_le block (label_reach galley style label)) labels

-- ---- a new session

pub record IsNew (galley : GalleyValue) (style : StyleValue) (made : SessionValue) : Type 0 where
  pub floats : AreFloats galley.blocks style made.floats
  pub is : made ≡ record {
    galley = galley;
    style = style;
    floats = made.floats;
    is_solved = false;
    labels = [];
    touched = 0;
  }

-- the refusals of the list of floats, else a session that is not solved
abbrev pub MakesSession : Result SessionValue FloatFault → GalleyValue → StyleValue → Type 0
MakesSession (Ok made) galley style = IsNew galley style made × (unknown_class galley.blocks style ≡ None)
    × (float_total galley.blocks style ≤ 2 ^ 12)
MakesSession (Err fault) galley style = MakesList (Err fault) galley.blocks style

-- ---- an edit

-- an accepted edit: the blocks are spliced, the session is not solved, and the touched block is the lesser of what it
-- was and what the edit touches
pub record IsEdited (old : SessionValue) (edit : Edit) (new : SessionValue) : Type 0 where
  pub floats : AreFloats (edited old.galley edit).blocks old.style new.floats
  pub is : new ≡ record {
    galley = edited old.galley edit;
    style = old.style;
    floats = new.floats;
    is_solved = false;
    labels = [];
    touched = min old.touched (touched old.galley.blocks edit);
  }

-- ---- a solution

-- the galley as it stands is solved, its labels are the frontier, and there was at most one step for each label that
-- reaches the touched block, and none where it was solved
pub record IsSolved (old : SessionValue) (outcome : Outcome) (new : SessionValue) (before after : ℕ) : Type 0
  where
    pub solves : Solves old.galley old.style outcome
    pub frontier : Frontier old.galley old.style new.labels
    pub reaches : HaveReach old.galley old.style new.labels (label_reach old.galley old.style)
    pub is : new ≡ record old { is_solved = true; labels = new.labels; touched = above_all }
    pub still : old.is_solved ≡ true → after ≡ before
    pub bounded : after ≤ before + labels_reaching old.touched old.galley old.style new.labels

-- the galley as it stands is paginated and its frontier counted, and there was at most one step for each of its labels
-- that reaches the touched block, and none where it was solved
pub record IsPaginated (old : SessionValue) (told : Told) (new : SessionValue) (before after : ℕ) : Type 0 where
  pub solves : Solves old.galley old.style told.outcome
  pub labels : List Label
  pub frontier : Frontier old.galley old.style labels
  pub reaches : HaveReach old.galley old.style labels (label_reach old.galley old.style)
  pub counted : told.labels ≡ length labels
  pub is : new ≡ record old { touched = above_all }
  pub still : old.is_solved ≡ true → after ≡ before
  pub bounded : after ≤ before + labels_reaching old.touched old.galley old.style labels

-- after want of memory the galley stands, and nothing is kept
abbrev pub Forgets : SessionValue → SessionValue → Type 0
Forgets old new = new ≡ record old { is_solved = false; labels = []; touched = 0 }
