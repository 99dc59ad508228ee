-- The columns of pages, one after another.
use Rattle.std.proofs.Common.{◌≡◌, refl, sym, ap, ◌∙◌, ℕ, suc, ◌+◌, ◌-◌, ◌<◌, ◌≤◌, arith, List, [], ◌∷◌, ◌++◌, length, map, take, drop, get_or}
use Rattle.std.specs.Prelude.{reverse}
use Rattle.std.proofs.lemmas.List.{length-drop, length-take, map-append, reverse-append}
use Rattle.std.proofs.Math.Seq.{take-suc}
use Rattle.pg_plan.specs.declared.pages.Column.{Column}
use Rattle.pg_plan.specs.declared.pages.Page.{Page}
use Rattle.pg_plan.specs.declared.pages.PageMove.{PageMove}
use Rattle.pg_plan.specs.Order.{no_floats, page_moves}
use Rattle.pg_judge.specs.Progress.{the_move}

pub take_whole : {X : Type 0} (xs : List X) (n : ℕ) → n ≡ length xs → take n xs ≡ xs
take_whole xs n e = ap (λ (k : ℕ). take k xs) e ∙ whole xs
  where
    whole : {X : Type 0} (xs : List X) → take (length xs) xs ≡ xs
    whole [] = refl
    whole (x ∷ xs) = ap (λ ys. x ∷ ys) (whole xs)

pub more_moves : (f : Column → PageMove) (later : List Column) (i : ℕ) (x : Column) → i < length later →
    get_or later i x ≡ x → (ms : List PageMove) →
    f x ∷ (reverse (map f (take i later)) ++ ms) ≡ reverse (map f (take (i + 1) later)) ++ ms
more_moves f later i x h e ms =
    let n : i + 1 ≡ suc i = omega arith in
    sym (ap (λ (k : ℕ). reverse (map f (take k later)) ++ ms) n
    ∙ (ap (λ (xs : List Column). reverse (map f xs) ++ ms)
    (take-suc later i x h ∙ ap (λ (c : Column). take i later ++ c ∷ []) e)
    ∙ (ap (λ (xs : List PageMove). reverse xs ++ ms) (map-append f (take i later) (x ∷ []))
    ∙ ap (λ (xs : List PageMove). xs ++ ms) (reverse-append (map f (take i later)) (f x ∷ [])))))

-- the columns of a page behind its first
pub later_long : (xs columns : List Column) → xs ≡ columns → 1 ≤ length xs →
    length (take (length xs - 1) (drop 1 xs)) + 1 ≡ length columns
later_long xs columns e h =
    let t = length-take (length xs - 1) (drop 1 xs) in
    let d = length-drop 1 xs in
    let n = ap (λ (ys : List Column). length ys) e in
    omega (arith, t, d, n, h)

grouped : (xs ys zs : List PageMove) → (xs ++ ys) ++ zs ≡ xs ++ (ys ++ zs)
grouped [] ys zs = refl
grouped (x ∷ xs) ys zs = ap (λ ws. x ∷ ws) (grouped xs ys zs)

pub page_over : (page : Page) (columns later : List Column) (first : Column) (none : List ℕ) → 1 ≤ length columns →
    first ≡ get_or columns 0 first → later ≡ take (length columns - 1) (drop 1 columns) → none ≡ no_floats page.wide → (ms : List PageMove) →
    reverse (map (λ (column : Column). the_move column page.run none) later) ++ (the_move first page.run page.wide ∷ ms)
    ≡ reverse (page_moves page columns) ++ ms
page_over page [] later first none h f l n ms = absurd (omega (arith, h))
page_over page (column ∷ columns) later first none h f l n ms =
    ap (λ (xs : List Column). reverse (map (λ (column : Column). the_move column page.run none) xs)
    ++ (the_move first page.run page.wide ∷ ms)) (l ∙ take_whole columns (length (column ∷ columns) - 1) (omega arith))
    ∙ (ap (λ (ws : List ℕ). reverse (map (λ (column : Column). the_move column page.run ws) columns)
    ++ (the_move first page.run page.wide ∷ ms)) n
    ∙ (ap (λ (x : Column). reverse (map (λ (column : Column). the_move column page.run (no_floats page.wide)) columns)
    ++ (the_move x page.run page.wide ∷ ms)) f
    ∙ (sym (grouped (reverse (map (λ (column : Column). the_move column page.run (no_floats page.wide)) columns))
    (the_move column page.run page.wide ∷ []) ms)
    ∙ ap (λ (xs : List PageMove). xs ++ ms) (sym (reverse-append (the_move column page.run page.wide ∷ [])
    (map (λ (column : Column). the_move column page.run (no_floats page.wide)) columns))))))
