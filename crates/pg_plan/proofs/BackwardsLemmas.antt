-- The last column of a front.
use Rattle.std.proofs.Common.{◌≡◌, ◌∙◌, refl, sym, ap, arith, ℕ, suc, ◌-◌, ◌<◌, List, [], ◌∷◌, ◌++◌, length, take, get_or, Bool, true, false}
use Rattle.std.specs.Prelude.{reverse, map}
use Rattle.std.proofs.lemmas.List.{length-map, map-id, map-append, reverse-append}
use Rattle.pg_plan.specs.declared.pages.Column.{Column}
use Rattle.pg_plan.specs.declared.pages.Page.{Page}
use Rattle.pg_plan.specs.declared.pages.PageMove.{PageMove}
use Rattle.pg_plan.specs.Order.{page_moves, no_floats}
use Rattle.pg_plan.specs.Backwards.{wide_of}
use Rattle.pg_plan.proofs.LastLemmas.{split_last}
use Rattle.std.specs.Prelude.{nat_eq}
use Rattle.std.proofs.lemmas.Bool.Decides.{nat_tests}
use Rattle.std.proofs.lemmas.List.{length-take-le}

pub move_is : (column : Column) (run : ℕ) (wide given : List ℕ) → given ≡ wide → ◌≡◌ {A = PageMove} (record { column = column; run = run; wide = wide_of true given }) (record { column = column; run = run; wide = wide })
move_is column run wide given same = ap (λ (counts : List ℕ). record { column = column; run = run; wide = counts }) (map-id given ∙ same)

-- the columns of a page as moves
abbrev moves : ℕ → List ℕ → List Column → List PageMove
moves run wide [] = []
moves run wide (column ∷ columns) =
    record { column = column; run = run; wide = wide } ∷ map (λ (later : Column). record { column = later; run = run; wide = no_floats wide }) columns

page_is : (page : Page) (columns : List Column) → page_moves page columns ≡ moves page.run page.wide columns
page_is page [] = refl
page_is page (column ∷ columns) = refl

-- a page has a move for each of its columns
pub moves_long : (page : Page) (columns : List Column) → length (page_moves page columns) ≡ length columns
moves_long page [] = refl
moves_long page (column ∷ columns) = ap suc (length-map columns (λ (later : Column). record {
  column = later;
  run = page.run;
  wide = no_floats page.wide;
}))

abbrev seated : ℕ → List ℕ → Bool → Column → PageMove
seated run wide is_first column = record { column = column; run = run; wide = wide_of is_first wide }

moves_push : (run : ℕ) (wide : List ℕ) (columns : List Column) (column : Column) → moves run wide (columns ++ column ∷ []) ≡ moves run wide columns ++ seated run wide (nat_eq (length columns) 0) column ∷ []
moves_push run wide [] column = ap (λ (m : PageMove). m ∷ []) (sym (move_is column run wide wide refl))
moves_push run wide (first ∷ columns) column =
    let later : nat_eq (length (first ∷ columns)) 0 ≡ false = grind (arith, nat_tests) in
    let to : Column → PageMove = λ (c : Column). record { column = c; run = run; wide = no_floats wide } in
    rw later (ap (λ (ms : List PageMove). record { column = first; run = run; wide = wide } ∷ ms) (map-append to columns (column ∷ [])))

-- the last column of a page, before the others from the last
pub last_move : (page before : Page) (columns : List Column) (d : Column) (rest : List PageMove) → 0 < length columns → page.run ≡ before.run → page.wide ≡ before.wide
    → reverse (page_moves page columns) ++ rest
    ≡ seated page.run page.wide (nat_eq (length columns - 1) 0) (get_or columns (length columns - 1) d) ∷ (reverse (page_moves before (take (length columns - 1) columns)) ++ rest)
last_move page before columns d rest some same_run same_wide =
    let n = length columns - 1 in
    let last = get_or columns n d in
    let count : length (take n columns) ≡ n = length-take-le n columns (omega arith) in
    let split = ap (λ (cs : List Column). moves page.run page.wide cs) (split_last columns d (omega arith)) ∙ moves_push page.run page.wide (take n columns) last in
    let turned = ap (λ (ms : List PageMove). reverse ms) (page_is page columns ∙ split) ∙ reverse-append (moves page.run page.wide (take n columns)) (seated page.run page.wide (nat_eq (length (take n columns)) 0) last ∷ []) in
    let others : moves page.run page.wide (take n columns) ≡ page_moves before (take n columns) = rw (same_run, same_wide) (sym (page_is before (take n columns))) in
    ap (λ (ms : List PageMove). ms ++ rest) turned
    ∙ ap (λ (k : ℕ). seated page.run page.wide (nat_eq k 0) last ∷ (reverse (moves page.run page.wide (take n columns)) ++ rest)) count
    ∙ ap (λ (ms : List PageMove). seated page.run page.wide (nat_eq n 0) last ∷ (reverse ms ++ rest)) others
