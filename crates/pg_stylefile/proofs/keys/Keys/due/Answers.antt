use Rattle.toml.proofs.Views.{table_get}
use Rattle.pg_stylefile.specs.Keys.{due_at}
use Rattle.pg_stylefile.proofs.keys.Keys.due.Goals as goal

pub returns-in-Some : goal.returns-in-Some
unfolding due_at
returns-in-Some c =
    let found = table_get c.get.result c.args.key.now c.args.self.now.table.now.entries c.get.ensures.value in
    rw (← rw c.in-Some.is at found)

pub returns-in-None : goal.returns-in-None
unfolding due_at
returns-in-None c =
    let found = table_get c.get.result c.args.key.now c.args.self.now.table.now.entries c.get.ensures.value in
    rw (← rw c.in-None.is at found, c.fault.ensures.kind, c.fault.ensures.table_name, c.fault.ensures.key)
