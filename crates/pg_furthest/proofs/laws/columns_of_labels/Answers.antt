use Rattle.pg_furthest.proofs.Columns.{are_columns}
use Rattle.pg_furthest.proofs.laws.columns_of_labels.Goals as goal

pub returns : goal.returns
returns c = are_columns c.args.galley.now c.args.style.now c.requires
