-- The keys that the tables of a style file name.
use Rattle.std.specs.Prelude.{ℕ, Bool, if◌then◌else◌, List, [], ◌∷◌, codes, Option, Some, None}
use Rattle.std.specs.List.{list_any}
use Rattle.std.specs.Str.{bytes_eq}
use Rattle.std.specs.Ordering.{nat_cmp, is_lt}
use Rattle.std.specs.Cmp.Lexicographic.{slice_cmp}
use Rattle.toml.specs.Data.{Members, no_members, member}
use Rattle.pg_stylefile.specs.declared.fault.TableName.{TableName}
use Rattle.pg_stylefile.specs.declared.fault.TableName.TheVariants.{Root, Top, Bottom, Wide, FloatColumn, Run, Class}

abbrev pub area_names : List (List ℕ)
area_names = codes "count" ∷ codes "sep" ∷ codes "gap" ∷ []

-- the keys that a table names
unfoldable pub names_of : TableName → List (List ℕ)
names_of Root =
    codes "version" ∷ codes "columns" ∷ codes "first" ∷ codes "height" ∷ codes "topskip" ∷ codes "maxdepth"
    ∷ codes "min_text" ∷ codes "tolerance" ∷ codes "line" ∷ codes "max_looseness" ∷ codes "fitness" ∷ codes "ragged"
    ∷ codes "runs" ∷ codes "top" ∷ codes "bottom" ∷ codes "wide" ∷ codes "float_column" ∷ codes "classes" ∷ []
names_of Top = area_names
names_of Bottom = area_names
names_of Wide = area_names
names_of FloatColumn = codes "count" ∷ codes "demerits" ∷ []
names_of (Run position) = codes "extra" ∷ codes "demerits" ∷ []
names_of (Class position) = codes "number" ∷ codes "kind" ∷ codes "skip" ∷ codes "limit" ∷ codes "area"
    ∷ codes "distance" ∷ []

abbrev pub is_named : List (List ℕ) → List ℕ → Bool
is_named names key = list_any (λ (name : List ℕ). bytes_eq name key) names

abbrev pub keys_in : Members → List (List ℕ)
keys_in no_members = []
keys_in (member key value members) = key ∷ keys_in members

-- the lesser by bytes of a key and another, if there is another
abbrev pub lesser : List ℕ → Option (List ℕ) → List ℕ
lesser key None = key
lesser key (Some other) = if is_lt (slice_cmp nat_cmp key other) then key else other

-- the least key by bytes that is not among the names
abbrev pub least_unnamed : List (List ℕ) → List (List ℕ) → Option (List ℕ)
least_unnamed names [] = None
least_unnamed names (key ∷ keys) = if is_named names key then least_unnamed names keys
    else Some (lesser key (least_unnamed names keys))
