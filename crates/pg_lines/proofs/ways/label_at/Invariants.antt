use Rattle.std.proofs.Common.{◌≡◌, ◌<◌, ◌≤◌, ◌-◌, length, ℕ, Some}
use Rattle.std.specs.Prelude.{slice_get}
use Rattle.pg_table.specs.declared.table.Entry.{Entry}
use Rattle.law_lines.specs.declared.state.LineState.{LineState}
use Rattle.law_lines.specs.LineSpace.{line_state}
use Rattle.pg_lines.proofs.ways.label_at.Given as goal

abbrev pub invariant-labels : goal.invariant-labels
invariant-labels l = (i : ℕ) (e : Entry LineState ℕ) → i < l.index → slice_get l.labels i ≡ Some e →
    e.state ≡ line_state l.place l.lines → ⊥

abbrev pub decreases-labels : goal.decreases-labels
decreases-labels l = length l.labels - l.index
