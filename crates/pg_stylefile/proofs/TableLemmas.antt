-- Arrays of tables.
use Rattle.std.proofs.Common.{◌≡◌, ◌∙◌, refl, ap, sym, arith, ℕ, ◌+◌, ◌<◌, zero, suc, Bool, true, false, ◌&&◌}
use Rattle.std.proofs.Common.{is_some, is_ok, get_or, drop, List, [], ◌∷◌, length, Option, Some, None, Result, Ok}
use Rattle.std.proofs.Common.{Err, IsOk}
use Rattle.std.specs.Option.{ok_or}
use Rattle.std.specs.List.{list_all, slice_get}
use Rattle.toml.specs.declared.value.Value.{Value}
use Rattle.toml.proofs.Views.{items_view-drop}
use Rattle.toml.specs.Data.{Members, as_table}
use Rattle.toml.specs.View.{view, items_view}
use Rattle.pg_stylefile.specs.declared.fault.StyleKind.{StyleKind}
use Rattle.pg_stylefile.specs.declared.fault.StyleKind.TheVariants.{WrongKind}
use Rattle.pg_stylefile.specs.Faults.{◌>>=◌}
use Rattle.pg_stylefile.specs.Values.{table_of, each_table, tables_or_none, tables_in}

-- one more table in front of the others
abbrev onto : Option Members → Result (List Members) StyleKind → Result (List Members) StyleKind
onto found rest = ok_or found WrongKind >>= (λ table. rest >>= (λ tables. Ok (table ∷ tables)))

onto_is : (found : Option Members) (rest : Result (List Members) StyleKind)
    → is_ok (onto found rest) ≡ (is_some found && is_ok rest)
onto_is None rest = refl
onto_is (Some table) (Ok tables) = refl
onto_is (Some table) (Err kind) = refl

onto_fault : (found : Option Members) (rest : Result (List Members) StyleKind)
    → (is_ok rest ≡ false → rest ≡ Err WrongKind) → is_ok (onto found rest) ≡ false
    → onto found rest ≡ Err WrongKind
onto_fault None rest h never = refl
onto_fault (Some table) (Ok tables) h never = absurd (cc)
onto_fault (Some table) (Err kind) h never = rw (h refl)

pub no_tables : (values : List Value) → is_ok (each_table (items_view values)) ≡ false
    → each_table (items_view values) ≡ Err WrongKind
unfolding table_of
no_tables [] never = absurd (cc)
no_tables (value ∷ values) never = onto_fault (as_table (view value)) (each_table (items_view values))
    (no_tables values) never

ok_is : (r : Result (List Members) StyleKind) → is_ok r ≡ true → r ≡ Ok (tables_or_none r)
ok_is (Ok tables) ok = refl
ok_is (Err kind) ok = absurd (cc)

onto_length : (found : Option Members) (rest : Result (List Members) StyleKind) (n : ℕ)
    → (IsOk rest → length (tables_or_none rest) ≡ n) → IsOk (onto found rest)
    → length (tables_or_none (onto found rest)) ≡ n + 1
onto_length None rest n h ok = absurd (cc)
onto_length (Some table) (Ok tables) n h ok = let e : length tables ≡ n = h refl in omega arith
onto_length (Some table) (Err kind) n h ok = absurd (cc)

-- there are as many tables as elements
pub tables_length : (values : List Value) → IsOk (each_table (items_view values))
    → length (tables_or_none (each_table (items_view values))) ≡ length values
unfolding table_of
tables_length [] ok = refl
tables_length (value ∷ values) ok = onto_length (as_table (view value)) (each_table (items_view values))
    (length values) (tables_length values) ok ∙ omega arith

onto_first : (found : Option Members) (rest : Result (List Members) StyleKind) → IsOk (onto found rest)
    → slice_get (tables_or_none (onto found rest)) 0 ≡ found
onto_first None rest ok = absurd (cc)
onto_first (Some table) (Ok tables) ok = refl
onto_first (Some table) (Err kind) ok = absurd (cc)

onto_later : (found : Option Members) (rest : Result (List Members) StyleKind) (n : ℕ) (there : Option Members)
    → (IsOk rest → slice_get (tables_or_none rest) n ≡ there)
    → IsOk (onto found rest) → slice_get (tables_or_none (onto found rest)) (suc n) ≡ there
onto_later None rest n there h ok = absurd (cc)
onto_later (Some table) (Ok tables) n there h ok = h refl
onto_later (Some table) (Err kind) n there h ok = absurd (cc)

-- the table at a position is the element's
pub table_at : (values : List Value) (n : ℕ) (filler : Value) → IsOk (each_table (items_view values))
    → n < length values
    → slice_get (tables_or_none (each_table (items_view values))) n ≡ as_table (view (get_or values n filler))
unfolding table_of
table_at [] n filler ok within = absurd (omega arith)
table_at (value ∷ values) zero filler ok within = onto_first (as_table (view value)) (each_table (items_view values)) ok
table_at (value ∷ values) (suc n) filler ok within =
    onto_later (as_table (view value)) (each_table (items_view values)) n (as_table (view (get_or values n filler)))
    (λ (rest : IsOk (each_table (items_view values))). table_at values n filler rest (omega arith)) ok

pub the_tables : (values : List Value) → is_ok (each_table (items_view values)) ≡ true
    → each_table (items_view values) ≡ Ok (tables_or_none (each_table (items_view values)))
the_tables values ok = ok_is (each_table (items_view values)) ok

-- a turn of the loop over the elements
pub table_turn : (values : List Value) (i : ℕ) (value : Value) (b : Bool) → i < length values
    → value ≡ get_or values i value → b ≡ is_some (as_table (view value))
    → is_ok (each_table (items_view (drop i values))) ≡ (b && is_ok (each_table (items_view (drop (i + 1) values))))
unfolding table_of
table_turn values i value b within is test =
    rw (items_view-drop values i value within)
    (onto_is (as_table (view (get_or values i value))) (each_table (items_view (drop (i + 1) values)))
    ∙ ap (λ (x : Bool). x && is_ok (each_table (items_view (drop (i + 1) values))))
    (ap (λ (v : Value). is_some (as_table (view v))) (sym is) ∙ sym test))

some_or_none : (there : Option Members) (tables : List Members) (n : ℕ) → n < length tables
    → slice_get tables n ≡ None → ⊥
some_or_none there [] n within e = absurd (omega arith)
some_or_none there (table ∷ tables) zero within e = absurd (cc)
some_or_none there (table ∷ tables) (suc n) within e = some_or_none there tables n (omega arith) e

-- an element at a position is a table
pub table_there : (values : List Value) (n : ℕ) (element : Value) → IsOk (each_table (items_view values))
    → n < length values → element ≡ get_or values n element
    → None ≡ as_table (view element) → ⊥
table_there values n element ok within is e =
    let same = tables_length values ok in
    some_or_none None (tables_in values) n (omega arith)
    (table_at values n element ok within ∙ ap (λ (v : Value). as_table (view v)) (sym is) ∙ sym e)

pub table_is : (values : List Value) (n : ℕ) (element : Value) (table : Members)
    → IsOk (each_table (items_view values)) → n < length values → element ≡ get_or values n element
    → Some table ≡ as_table (view element) → slice_get (tables_in values) n ≡ Some table
table_is values n element table ok within is e = table_at values n element ok within
    ∙ ap (λ (v : Value). as_table (view v)) (sym is) ∙ sym e
