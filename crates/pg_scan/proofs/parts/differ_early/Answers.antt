use Rattle.std.proofs.Common.{nat_eq, get_or}
use Rattle.pg_lemmas.proofs.Bools.{not_true}
use Rattle.pg_scan.proofs.PartLemmas.{another_second}
use Rattle.pg_scan.proofs.parts.differ_early.Goals as goal

pub returns : goal.returns
returns c = λ differ. another_second c.args.name.now c.args.bytes.now c.if-name-lt2.false
    (not_true (nat_eq (get_or c.args.bytes.now 1 0) (get_or c.args.name.now 1 0)) differ)
