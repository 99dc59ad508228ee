use Rattle.pg_space.proofs.Paged.{columns_paged}
use Rattle.pg_space.proofs.laws.columns_are_paged.Goals as goal

pub returns : goal.returns
returns c = columns_paged c.args.style.now c.requires.columns_from c.requires.columns_to
