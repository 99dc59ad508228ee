use Rattle.std.proofs.lemmas.List.Sums.{prefix_len-le-length}
use Rattle.pg_showbox.specs.Nodes.{is_not_close}
use Rattle.pg_drawing.proofs.shapes.skip_name.Goals as goal

pub split_at-requires : goal.split_at-requires
split_at-requires c = rw c.name_len.ensures (prefix_len-le-length is_not_close c.args.bytes.now)
