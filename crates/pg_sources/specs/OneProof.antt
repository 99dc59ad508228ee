-- What is known of a list of floats has one proof at most.
use Rattle.std.specs.Prelude.{List}
use Rattle.std.specs.Coded.{Coded-set, coded_list}
use Rattle.std.proofs.Props.{props}
use Rattle.pg_list.specs.OneProof.{IsBlock_prop}
use Rattle.pg_list.specs.declared.blocks.Block.{Block}
use Rattle.pg_style.specs.Values.{StyleValue}
use Rattle.pg_floats.specs.FloatsValue.{ClassFloatsValue}
use Rattle.pg_floats.specs.contracts.list.ClassFloats as class_row
use Rattle.pg_floats.specs.Given.{IsListOf}

lists_set : IsSet (List ClassFloatsValue)
lists_set = Coded-set (coded_list class_row.the_row.coded)

pub IsListOf_prop : (blocks : List Block) (style : StyleValue) (list : List ClassFloatsValue) →
    IsProp (IsListOf blocks style list)
IsListOf_prop blocks style list = hlevel (props, IsBlock_prop, lists_set)
