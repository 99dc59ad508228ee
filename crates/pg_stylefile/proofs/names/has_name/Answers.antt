use Rattle.std.proofs.Common.{◌∙◌}
use Rattle.pg_stylefile.proofs.NameLemmas.{any_mapped}
use Rattle.pg_stylefile.proofs.names.has_name.Goals as goal

pub returns : goal.returns
returns c = c.contains.ensures.value ∙ any_mapped c.args.names.now c.args.key.now
