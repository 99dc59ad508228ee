-- The least key that is not among the names.
use Rattle.std.proofs.Common.{◌≡◌, ◌∙◌, refl, ap, sym, ℕ, Bool, true, false, ◌||◌, List, [], ◌∷◌, map, Option, Some}
use Rattle.std.proofs.Common.{None, String, Global, Bor, Less, string_bytes, nat_cmp}
use Rattle.std.specs.Prelude.{if◌then◌else◌}
use Rattle.std.specs.List.{AllByRecursion, list_any}
use Rattle.std.specs.List.Sorted.{IsStrictlySortedBy}
use Rattle.std.specs.Map.{keys_of}
use Rattle.std.specs.Ordering.{is_lt}
use Rattle.std.specs.Str.{bytes_eq}
use Rattle.std.specs.String.{string_cmp}
use Rattle.std.specs.Cmp.Lexicographic.{slice_cmp}
use Rattle.toml.specs.declared.value.Value.{Value}
use Rattle.toml.specs.View.{members_view}
use Rattle.pg_stylefile.specs.Names.{is_named, keys_in, lesser, least_unnamed}

pub any_mapped : (names : List (Bor (List ℕ))) (key : List ℕ)
    → list_any (λ (name : Bor (List ℕ)). bytes_eq name.now key) names ≡ list_any (λ (name : List ℕ). bytes_eq name
    key) (map {A = Bor (List ℕ)} {B = List ℕ} (λ name. name.now) names)
any_mapped [] key = refl
any_mapped (name ∷ names) key = ap (λ (b : Bool). bytes_eq name.now key || b) (any_mapped names key)

abbrev pub texts : List (String Global) → List (List ℕ)
texts keys = map {A = String Global} {B = List ℕ} string_bytes keys

-- the keys of a map's members are the map's keys
pub keys_viewed : (es : List (String Global × Value)) → keys_in (members_view es) ≡ texts (keys_of es)
keys_viewed [] = refl
keys_viewed (e ∷ es) = ap (λ (ks : List (List ℕ)). string_bytes e.0 ∷ ks) (keys_viewed es)

abbrev IsAbove : List ℕ → Option (List ℕ) → Type 0
IsAbove key None = Unit {0}
IsAbove key (Some other) = slice_cmp nat_cmp key other ≡ Less

pick_above : (b : Bool) (key x y : List ℕ) → slice_cmp nat_cmp key x ≡ Less → slice_cmp nat_cmp key y ≡ Less
    → slice_cmp nat_cmp key (if b then x else y) ≡ Less
pick_above true key x y first second = first
pick_above false key x y first second = second

above_step : (b : Bool) (key next : List ℕ) (rest : Option (List ℕ)) → slice_cmp nat_cmp key next ≡ Less
    → IsAbove key rest
    → IsAbove key (if b then rest else Some (lesser next rest))
above_step true key next rest here more = more
above_step false key next None here more = here
above_step false key next (Some other) here more =
    pick_above (is_lt (slice_cmp nat_cmp next other)) key next other here more

-- what lies above a key keeps above it
all_above : (names : List (List ℕ)) (key : String Global) (keys : List (String Global))
    → AllByRecursion (λ (other : String Global). string_cmp key other ≡ Less) keys
    → IsAbove (string_bytes key) (least_unnamed names (texts keys))
all_above names key [] all = tt
all_above names key (next ∷ keys) all =
    above_step (is_named names (string_bytes next)) (string_bytes key) (string_bytes next)
    (least_unnamed names (texts keys)) all.0 (all_above names key keys all.1)

lesser_first : (key : List ℕ) (rest : Option (List ℕ)) → IsAbove key rest → lesser key rest ≡ key
lesser_first key None above = refl
lesser_first key (Some other) above = rw above

pub unnamed_first : (names : List (List ℕ)) (key : String Global) (keys : List (String Global))
    → IsStrictlySortedBy string_cmp (key ∷ keys) → is_named names (string_bytes key) ≡ false
    → least_unnamed names (texts (key ∷ keys)) ≡ Some (string_bytes key)
unfolding IsStrictlySortedBy
unnamed_first names key keys sorted unnamed =
    rw (
      unnamed,
      lesser_first (string_bytes key) (least_unnamed names (texts keys))
          (all_above names key keys sorted.0),
    )

pub named_first : (names : List (List ℕ)) (key : String Global) (keys : List (String Global))
    → is_named names (string_bytes key) ≡ true
    → least_unnamed names (texts (key ∷ keys)) ≡ least_unnamed names (texts keys)
named_first names key keys named = rw named

-- the keys before the loop
pub same_at_start : (names : List (List ℕ)) (es : List (String Global × Value)) (iterator : List (String Global))
    → iterator ≡ keys_of es
    → least_unnamed names (keys_in (members_view es)) ≡ least_unnamed names (texts iterator)
same_at_start names es iterator e = rw (e, keys_viewed es)

pub sorted_rest : (key : String Global) (keys : List (String Global)) → IsStrictlySortedBy string_cmp (key ∷ keys)
    → IsStrictlySortedBy string_cmp keys
unfolding IsStrictlySortedBy
sorted_rest key keys sorted = sorted.1

-- a turn of the loop at a key that is not among the names
pub found_here : (names all : List (List ℕ)) (iterator after : List (String Global)) (key : String Global)
    (text shown : List ℕ) (b : Bool)
    → iterator ≡ key ∷ after → least_unnamed names all ≡ least_unnamed names (texts iterator)
    → IsStrictlySortedBy string_cmp iterator
    → b ≡ is_named names text → b ≡ false → text ≡ string_bytes key → shown ≡ string_bytes key
    → Some shown ≡ least_unnamed names all
found_here names all iterator after key text shown b rest same sorted is unnamed read show =
    let here : is_named names (string_bytes key) ≡ false = rw (← read) (sym is ∙ unnamed) in
    rw (show, same, rest) (sym (unnamed_first names key after (rw rest at sorted) here))

-- a turn of the loop at a key that is among the names
pub passed_on : (names all : List (List ℕ)) (iterator after : List (String Global)) (key : String Global)
    (text : List ℕ) (b : Bool)
    → iterator ≡ key ∷ after → least_unnamed names all ≡ least_unnamed names (texts iterator)
    → b ≡ is_named names text → b ≡ true → text ≡ string_bytes key
    → least_unnamed names all ≡ least_unnamed names (texts after)
passed_on names all iterator after key text b rest same is named read =
    let here : is_named names (string_bytes key) ≡ true = rw (← read) (sym is ∙ named) in
    same ∙ rw rest (named_first names key after here)

pub sorted_after : (iterator after : List (String Global)) (key : String Global) → iterator ≡ key ∷ after
    → IsStrictlySortedBy string_cmp iterator → IsStrictlySortedBy string_cmp after
sorted_after iterator after key rest sorted = sorted_rest key after (rw rest at sorted)
