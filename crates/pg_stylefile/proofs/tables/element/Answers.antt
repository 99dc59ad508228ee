use Rattle.toml.specs.View.{table_view}
use Rattle.pg_stylefile.proofs.TableLemmas.{table_there, table_is}
use Rattle.pg_stylefile.proofs.tables.element.Goals as goal

pub unreachable-requires : goal.unreachable-requires
unreachable-requires c =
    table_there c.args.values.now c.args.position c.index-values-position.result c.requires.each
    c.requires.within c.index-values-position.is c.in-None.ensures

pub returns : goal.returns
returns c =
    table_is c.args.values.now c.args.position c.index-values-position.result (table_view
    c.in-Some.table.now) c.requires.each c.requires.within c.index-values-position.is c.in-Some.ensures
