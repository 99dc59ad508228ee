use Rattle.std.proofs.Common.{length}
use Rattle.std.specs.Prelude.{◌==◌}
use Rattle.pg_lemmas.proofs.Numbers.{eq_yes}
use Rattle.pg_states.proofs.Both.{as_many, not_equal, missed, passed}
use Rattle.pg_states.proofs.testing.has_ages.Goals as goal

pub returns-then-as_slice-count_all_waiting : goal.returns-then-as_slice-count_all_waiting
returns-then-as_slice-count_all_waiting c =
    passed (length c.as_slice.result.now == c.count_all_waiting.result) _ _
    (as_many c.as_slice.result.now _ c.count_all_waiting.result _ c.as_slice.ensures c.count_all_waiting.ensures)
    (eq_yes _ _ c.if-as_slice-count_all_waiting.true) c.are_young.result c.are_young.ensures

pub returns-else-as_slice-count_all_waiting : goal.returns-else-as_slice-count_all_waiting
returns-else-as_slice-count_all_waiting c =
    missed (length c.as_slice.result.now == c.count_all_waiting.result) _ _
    (as_many c.as_slice.result.now _ c.count_all_waiting.result _ c.as_slice.ensures c.count_all_waiting.ensures)
    (not_equal _ _ c.if-as_slice-count_all_waiting.false)
