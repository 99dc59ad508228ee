-- The faults of a style file.
use Rattle.std.specs.Prelude.{◌≡◌, ℕ, List, [], ◌++◌, codes, decimal, Result, Ok, Err}
use Rattle.pg_stylefile.specs.declared.fault.StyleKind.{StyleKind}
use Rattle.pg_stylefile.specs.declared.fault.StyleKind.TheVariants.{Toml, MissingKey, UnknownKey, WrongKind}
use Rattle.pg_stylefile.specs.declared.fault.StyleKind.TheVariants.{OutOfRange, Decreasing, DuplicateClass, NoRun}
use Rattle.pg_stylefile.specs.declared.fault.StyleKind.TheVariants.{Memory}
use Rattle.pg_stylefile.specs.declared.fault.StyleFault.{StyleFault}
use Rattle.pg_stylefile.specs.declared.fault.TableName.{TableName}
use Rattle.pg_stylefile.specs.declared.fault.TableName.TheVariants.{Root, Top, Bottom, Wide, FloatColumn, Run, Class}
use Rattle.pg_stylefile.specs.declared.fault.Fault.{Fault}

-- the number by which users are told of a fault
abbrev pub kind_number : StyleKind → ℕ
kind_number Toml = 1
kind_number MissingKey = 2
kind_number UnknownKey = 3
kind_number WrongKind = 4
kind_number OutOfRange = 5
kind_number Decreasing = 6
kind_number DuplicateClass = 7
kind_number NoRun = 8
kind_number Memory = 9

-- a position that ends the path of an array's element
abbrev pub position_text : ℕ → List ℕ
position_text position = decimal position ++ codes "]."

-- the path of a table, as it stands in front of the table's keys
unfoldable pub path_of : TableName → List ℕ
path_of Root = []
path_of Top = codes "top."
path_of Bottom = codes "bottom."
path_of Wide = codes "wide."
path_of FloatColumn = codes "float_column."
path_of (Run position) = codes "runs[" ++ position_text position
path_of (Class position) = codes "classes[" ++ position_text position

-- the fault of this kind at a key of a table
unfoldable pub fault_at : StyleKind → TableName → List ℕ → StyleFault
fault_at kind table_name key = record { kind = kind; key = path_of table_name ++ key }

-- a fault of the text as a whole
abbrev pub bare_fault : StyleKind → StyleFault
bare_fault kind = record { kind = kind; key = [] }

-- the fact, unless there was no memory
abbrev pub UnlessMemory : StyleKind → Type 0 → Type 0
UnlessMemory Memory P = Unit {0}
UnlessMemory kind P = P

-- the chain of two steps that may fail
infixl 10 ◌>>=◌
abbrev pub ◌>>=◌ : {A B E : Type 0} → Result A E → (A → Result B E) → Result B E
Ok x >>= f = f x
Err fault >>= f = Err fault

-- a value, or a fault with its path, as the definitions say
abbrev pub Tells : {A B : Type 0} → (A → B) → Result A Fault → Result B StyleFault → Type 0
Tells view (Ok x) said = said ≡ Ok (view x)
Tells view (Err fault) said = said ≡ Err (fault_at fault.kind fault.table_name fault.key.now)

-- the value or the fault that the definitions say, unless there was no memory
abbrev pub Gives : {A B : Type 0} → (A → B) → Result A StyleFault → Result B StyleFault → Type 0
Gives view (Ok x) said = said ≡ Ok (view x)
Gives view (Err fault) said = UnlessMemory fault.kind (said ≡ Err fault)

-- the list with one more element, or a fault with its path, as the definitions say
abbrev pub Adds : {A : Type 0} → Result (Unit {0}) Fault → Result A StyleFault → A → Type 0
Adds (Ok x) said new = said ≡ Ok new
Adds (Err fault) said new = said ≡ Err (fault_at fault.kind fault.table_name fault.key.now)
