use Rattle.std.proofs.Common.{◌≡◌, map}
use Rattle.std.specs.List.Sorted.{IsStrictlySortedBy}
use Rattle.std.specs.String.{string_cmp}
use Rattle.toml.specs.View.{table_view}
use Rattle.pg_stylefile.specs.Names.{keys_in, least_unnamed}
use Rattle.pg_stylefile.proofs.NameLemmas.{texts}
use Rattle.pg_stylefile.proofs.names.first_unnamed.Given as goal

abbrev pub invariant-loop-key : goal.invariant-loop-key
invariant-loop-key l = record {
  next : (goal.iterator-loop-key).can_next l.key-iterator;
  ends : (goal.iterator-loop-key).is_finite l.key-iterator;
  same : least_unnamed (map (λ name. name.now) l.names)
      (keys_in (table_view l.table)) ≡ least_unnamed (map (λ name. name.now) l.names) (texts l.key-iterator);
  sorted : IsStrictlySortedBy string_cmp l.key-iterator;
}
