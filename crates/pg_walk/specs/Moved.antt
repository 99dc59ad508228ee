-- The walk behind a front with more height before it.
use Rattle.std.specs.Prelude.{◌≡◌, Option, Some, None, ℤ, pos, ◌+ℤ◌, ◌≤ℤ◌}
use Rattle.pg_column.specs.Passed.{Passed, raised}
use Rattle.law_walk.specs.Candidates.{Candidate}
use Rattle.law_walk.specs.Space.{WalkState}

-- a bound, and one more that is moved up
abbrev pub over : Option ℤ → ℤ → Option ℤ → Option ℤ
over bound by None = bound
over bound by (Some least) = raised bound (least +ℤ by)

-- what was passed, with so much more height, where a bound was passed before
abbrev pub moved : ℤ → Option ℤ → Passed → Passed
moved by bound p = record {
  totals = record p.totals { total = p.totals.total +ℤ by };
  notes = p.notes;
  bound = over bound by p.bound;
}

-- the end with what was passed moved
abbrev pub moved_candidate : ℤ → Option ℤ → Candidate → Candidate
moved_candidate by bound c = record c { passed = moved by bound c.passed }

-- the state is the base with so much more height, where a bound was passed before
pub record IsMoved (by : ℤ) (bound : Option ℤ) (base start : WalkState) : Type 0 where
  pub block : start.block ≡ base.block
  pub passed : start.passed ≡ moved by bound base.passed
  pub up : pos 0 ≤ℤ by
