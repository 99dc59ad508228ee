-- What contracts see of candidates.
use Rattle.std.specs.Prelude.{[], List, Option, Some, None, pos}
use Rattle.pg_list.specs.declared.galley.Place.{Place}
use Rattle.pg_column.specs.Passed.{Passed}
use Rattle.pg_rules.specs.Room.{Document}
use Rattle.law_walk.specs.Candidates.{Candidate}
use Rattle.law_walk.specs.Walk.{end_here}
use Rattle.pg_hops.specs.View.{view}
use Rattle.pg_hops.specs.declared.state.State.{State}
use Rattle.pg_candidates.specs.declared.candidate.Candidate.{Candidate as CandidateParts}
use Rattle.pg_candidates.specs.declared.taking.WalkEnd.{WalkEnd}

-- a candidate with what was passed
abbrev pub candidate_of : CandidateParts → Candidate
candidate_of c = record { to = c.to; picks = c.picks.value; passed = view c.passed; pick_demerits = c.pick_demerits }

-- one to an end of a walk
abbrev pub end_of : WalkEnd → Candidate
end_of e = record { to = e.to; picks = e.picks.now; passed = view e.passed.now; pick_demerits = e.demerits }

-- it, where its place is a break behind a box and no class of notes is above its limit
abbrev pub ends_here : Document → Candidate → List Candidate
ends_here doc c = end_here doc c.picks c.pick_demerits c.to c.passed

-- one at a place, behind what was passed, without picks
abbrev pub plain_to : Place → Passed → Candidate
plain_to to p = record { to = to; picks = []; passed = p; pick_demerits = pos 0 }

-- what was passed where a stretch was
abbrev pub passed_of : Option State → Option Passed
passed_of None = None
passed_of (Some state) = Some (view state.passed)
