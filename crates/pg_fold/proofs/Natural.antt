-- Folding moves piles and does not look at what they hold.
use Rattle.std.proofs.Common.{◌≡◌, ◌∙◌, refl, sym, ap, ap₂, ℕ, zero, suc, ◌/◌, ◌%◌, Bool, true, false, List, [], ◌∷◌, ◌++◌, length, map, take, drop}
use Rattle.std.specs.Prelude.{reverse, ◌==◌, if◌then◌else◌}
use Rattle.std.proofs.lemmas.List.{map-append, length-map, take-map, drop-map}
use Rattle.pg_fold.specs.Folding.{paired, halved, turned_over, fold, folded, only_pile, reading, row_count, column_count, parts, faces, piles}
use Rattle.pg_lemmas.proofs.Lists.{reverse_cons}

pub map_reverse : {A B : Type 0} (f : A → B) (xs : List A) → map f (reverse xs) ≡ reverse (map f xs)
map_reverse f [] = refl
map_reverse f (x ∷ xs) = ap (map f) (reverse_cons x xs) ∙ (map-append f (reverse xs) (x ∷ [])
    ∙ (ap (λ ys. ys ++ f x ∷ []) (map_reverse f xs) ∙ sym (reverse_cons (f x) (map f xs))))

map_paired : {A B C D : Type 0} (f : A → C) (g : B → D) (one : A → A → B) (other : C → C → D) →
    ((x y : A) → g (one x y) ≡ other (f x) (f y)) → (xs ys : List A) →
    map g (paired one xs ys) ≡ paired other (map f xs) (map f ys)
map_paired f g one other same [] ys = refl
map_paired f g one other same (x ∷ xs) [] = refl
map_paired f g one other same (x ∷ xs) (y ∷ ys) =
    ap₂ (λ z zs. z ∷ zs) (same x y) (map_paired f g one other same xs ys)

map_halved : {A B : Type 0} (f : A → B) (one : A → A → A) (other : B → B → B) →
    ((x y : A) → f (one x y) ≡ other (f x) (f y)) → (xs : List A) →
    map f (halved one xs) ≡ halved other (map f xs)
map_halved f one other same xs =
    sym (take-map f (length xs / 2) (paired one (reverse xs) xs))
    ∙ (ap (take (length xs / 2)) (map_paired f f one other same (reverse xs) xs
    ∙ ap (λ ys. paired other ys (map f xs)) (map_reverse f xs))
    ∙ ap (λ n. take (n / 2) (paired other (reverse (map f xs)) (map f xs))) (sym (length-map xs f)))

map_turned : {A B : Type 0} (f : A → B) (above below : List A) →
    map f (turned_over above below) ≡ turned_over (map f above) (map f below)
map_turned f above below = map-append f (reverse above) below ∙ ap (λ ys. ys ++ map f below) (map_reverse f above)

pub map_map : {A B C : Type 0} (g : B → C) (f : A → B) (h : A → C) → ((x : A) → g (f x) ≡ h x) → (xs : List A) →
    map g (map f xs) ≡ map h xs
map_map g f h same [] = refl
map_map g f h same (x ∷ xs) = ap₂ (λ z zs. z ∷ zs) (same x) (map_map g f h same xs)

abbrev pub in_rows : {A B : Type 0} → (A → B) → List (List (List A)) → List (List (List B))
in_rows f rows = map (map (map f)) rows

fold_cases : {A B : Type 0} (f : A → B) (across : Bool) (rows : List (List (List A))) →
    in_rows f (if across then map (halved turned_over) rows else halved (paired turned_over) rows)
    ≡ (if across then map (halved turned_over) (in_rows f rows) else halved (paired turned_over) (in_rows f rows))
fold_cases f true rows =
    map_map (map (map f)) (halved turned_over) (λ row. halved turned_over (map (map f) row))
    (map_halved (map f) turned_over turned_over (map_turned f)) rows
    ∙ sym (map_map (halved turned_over) (map (map f)) (λ row. halved turned_over (map (map f) row)) (λ row. refl) rows)
fold_cases f false rows = map_halved (map (map f)) (paired turned_over) (paired turned_over)
    (map_paired (map f) (map f) turned_over turned_over (map_turned f)) rows

in_fold : {A B : Type 0} (f : A → B) (n : ℕ) (rows : List (List (List A))) →
    in_rows f (fold n rows) ≡ fold n (in_rows f rows)
in_fold f n rows = fold_cases f (n % 2 == 1) rows

in_folded : {A B : Type 0} (f : A → B) (n : ℕ) (rows : List (List (List A))) →
    in_rows f (folded n rows) ≡ folded n (in_rows f rows)
in_folded f zero rows = refl
in_folded f (suc n) rows = in_fold f (suc n) (folded n rows) ∙ ap (fold (suc n)) (in_folded f n rows)

in_only : {A B : Type 0} (f : A → B) (rows : List (List (List A))) → map f (only_pile rows) ≡ only_pile (in_rows f rows)
in_only f [] = refl
in_only f ([] ∷ rows) = refl
in_only f ((pile ∷ []) ∷ []) = refl
in_only f ((pile ∷ []) ∷ row ∷ rows) = refl
in_only f ((pile ∷ other ∷ piles) ∷ rows) = refl

map_reading : {A B : Type 0} (f : A → B) (n : ℕ) (rows : List (List (List A))) →
    map f (reading n rows) ≡ reading n (in_rows f rows)
map_reading f n rows = map_reverse f (only_pile (folded n rows))
    ∙ ap reverse (in_only f (folded n rows) ∙ ap only_pile (in_folded f n rows))

in_parts : {A B : Type 0} (f : A → B) (n size : ℕ) (xs : List A) →
    map (map f) (parts n size xs) ≡ parts n size (map f xs)
in_parts f zero size xs = refl
in_parts f (suc n) size xs = ap₂ (λ z zs. z ∷ zs) (sym (take-map f size xs))
    (in_parts f n size (drop size xs) ∙ ap (parts n size) (sym (drop-map f size xs)))

-- the piles of a sheet whose cells are made from those of another
pub piles_map : {A B : Type 0} (f : A → B) (folds : ℕ) (front back : List A) →
    in_rows f (piles folds front back) ≡ piles folds (map f front) (map f back)
piles_map f folds front back = in_parts (map f) (row_count folds) (column_count folds) (paired faces front back)
    ∙ ap (parts (row_count folds) (column_count folds)) (map_paired f (map f) faces faces (λ x y. refl) front back)

-- what is read where each cell holds what f gives for its place
pub reading_map : {A B : Type 0} (f : A → B) (folds : ℕ) (front back : List A) →
    reading folds (piles folds (map f front) (map f back)) ≡ map f (reading folds (piles folds front back))
reading_map f folds front back = ap (reading folds) (sym (piles_map f folds front back))
    ∙ sym (map_reading f folds (piles folds front back))
