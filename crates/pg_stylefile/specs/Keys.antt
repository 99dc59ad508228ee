-- What the keys of a table say.
use Rattle.std.specs.Prelude.{ℕ, is_some, if◌then◌else◌, List, [], Option, Some, None, Result, Ok, Err}
use Rattle.std.specs.Option.{ok_or}
use Rattle.toml.specs.Data.{Data, Members, get_member}
use Rattle.pg_stylefile.specs.declared.fault.TableName.{TableName}
use Rattle.pg_stylefile.specs.declared.fault.StyleKind.{StyleKind}
use Rattle.pg_stylefile.specs.declared.fault.StyleKind.TheVariants.{MissingKey, UnknownKey}
use Rattle.pg_stylefile.specs.declared.fault.StyleFault.{StyleFault}
use Rattle.pg_stylefile.specs.Faults.{fault_at, ◌>>=◌}
use Rattle.pg_stylefile.specs.Names.{names_of, keys_in, least_unnamed}
use Rattle.pg_stylefile.specs.Values.{tables_of}

-- the value of a key that is due
unfoldable pub due_at : TableName → List ℕ → Members → Result Data StyleFault
due_at table_name key members = ok_or (get_member key members) (fault_at MissingKey table_name key)

-- the fault of a value is one at its key
abbrev pub at_key : {A : Type 0} → TableName → List ℕ → Result A StyleKind → Result A StyleFault
at_key table_name key (Ok x) = Ok x
at_key table_name key (Err kind) = Err (fault_at kind table_name key)

-- what the value of a key that is due says
unfoldable pub keyed : {A : Type 0} → TableName → List ℕ → (Data → Result A StyleKind) → Members → Result A StyleFault
keyed table_name key read members = due_at table_name key members >>= (λ value. at_key table_name key (read value))

-- what the value of a key says that may be missing
unfoldable pub keyed_if_any : {A : Type 0} → TableName → List ℕ → (Data → Result A StyleKind) → Members → Result (Option A) StyleFault
keyed_if_any table_name key read members = if is_some (get_member key members)
    then (keyed table_name key read members >>= (λ x. Ok (Some x))) else Ok None

-- a key that the table does not know here
unfoldable pub absent : TableName → List ℕ → Members → Result (Unit {0}) StyleFault
absent table_name key members = if is_some (get_member key members) then Err (fault_at UnknownKey table_name key) else Ok tt

-- a fault of the least key that is not among the names, if there is one
abbrev pub refused : TableName → Option (List ℕ) → Result (Unit {0}) StyleFault
refused table_name None = Ok tt
refused table_name (Some key) = Err (fault_at UnknownKey table_name key)

-- the table has no key but those that it names
unfoldable pub named : TableName → Members → Result (Unit {0}) StyleFault
named table_name members = refused table_name (least_unnamed (names_of table_name) (keys_in members))

-- an array of tables that may be missing, which is then empty
unfoldable pub tables_if_any : TableName → List ℕ → Members → Result (List Members) StyleFault
tables_if_any table_name key members = if is_some (get_member key members) then keyed table_name key tables_of members else Ok []
