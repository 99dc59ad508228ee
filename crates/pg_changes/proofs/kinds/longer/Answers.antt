use Rattle.std.proofs.Common.{◌∙◌, ap, ℕ, List}
use Rattle.pg_changes.specs.Numbers.{longer as longer_of}
use Rattle.pg_changes.proofs.Longer.{longer_is}
use Rattle.pg_changes.proofs.kinds.longer.Goals as goal

pub returns-in-Ok-clause-value : goal.returns-in-Ok-clause-value
returns-in-Ok-clause-value c =
    longer_is c.as_slice-entries.result.now c.copy_from_slice.new.self c.in-Ok.table c.args.count
    c.copy_from_slice.ensures.after c.in-Ok.ensures
    ∙ ap (λ (entries : List ℕ). longer_of entries c.args.count) c.as_slice-entries.ensures.entries
