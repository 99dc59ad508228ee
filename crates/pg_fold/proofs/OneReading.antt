-- Sheets are determined by what is read of them.
use Rattle.std.proofs.Common.{◌≡◌, true, ◌∙◌, refl, sym, ap, ap₂, arith, ℕ, zero, suc, ◌+◌, ◌*◌, ◌≤◌, ◌-◌, ◌/◌, ◌^◌, List, [], ◌∷◌, ◌++◌, map, length, take, drop, suc-mul, subst}
use Rattle.std.specs.Prelude.{Some, reverse, slice_get}
use Rattle.std.specs.List.{AllByRecursion, range_with_len, flat_map}
use Rattle.std.specs.Option.{option_map}
use Rattle.std.proofs.lemmas.Option.{slice_get-map, same_Some}
use Rattle.std.proofs.lemmas.List.{length-append, length-map, length-take, length-drop, length-reverse, map-append, take-append-drop, reverse-reverse}
use Rattle.std.proofs.lemmas.Grind.{flat_map-append}
use Rattle.pg_lemmas.proofs.Lists.{all_take, all_drop, no_items, reverse_cons}
use Rattle.pg_fold.specs.Folding.{piles, reading, sheet_reading, first_half, second_half, signature_reading, readings}
use Rattle.pg_fold.specs.Laws.{HasCells, ReadSheetsAreOne, StandsOnce, all_cells, pages_and_blanks}
use Rattle.pg_fold.specs.Imposed.{signature_count, signature_pages}
use Rattle.pg_fold.specs.declared.face.Side.{Side}
use Rattle.pg_fold.specs.declared.face.Side.TheVariants.{Front, Back}
use Rattle.pg_fold.specs.declared.sheets.Sheet.{Sheet}
use Rattle.pg_fold.proofs.Tally.{is_shuffle, one_for, one_page, shuffle_tally, tally, tally_append, tally_back, tally_is, tally_map}
use Rattle.pg_fold.proofs.Natural.{map_map, map_reverse, reading_map}
use Rattle.pg_fold.proofs.Places.{places}
use Rattle.pg_fold.proofs.Runs.{alike}

-- ---- lists

-- two lists of one length, with something behind each
pub cut_same : {A : Type 0} (xs ys us vs : List A) → length xs ≡ length ys → xs ++ us ≡ ys ++ vs →
    (xs ≡ ys) × (us ≡ vs)
cut_same [] [] us vs long same = (refl, same)
cut_same [] (y ∷ ys) us vs long same = absurd cc
cut_same (x ∷ xs) [] us vs long same = absurd cc
cut_same (x ∷ xs) (y ∷ ys) us vs long same =
    let count : length xs ≡ length ys = omega (arith, long) in
    let rest : xs ++ us ≡ ys ++ vs = cc in
    let more = cut_same xs ys us vs count rest in
    let head : x ≡ y = cc in
    (ap₂ (λ z zs. z ∷ zs) head more.0, more.1)

-- the n-th of the cells of a side
abbrev pub cell_at : List ℕ → ℕ → ℕ
cell_at [] i = 0
cell_at (x ∷ xs) zero = x
cell_at (x ∷ xs) (suc i) = cell_at xs i

listed : (xs : List ℕ) → map (cell_at xs) (range_with_len 0 (length xs)) ≡ xs
listed [] = refl
listed (x ∷ xs) = ap (λ ys. x ∷ ys)
    (alike (cell_at (x ∷ xs)) (cell_at xs) 1 0 (length xs) (λ i l.
    let one : 1 + i ≡ suc i = omega arith in
    let none : 0 + i ≡ i = omega arith in
    ap (cell_at (x ∷ xs)) one ∙ ap (cell_at xs) (sym none))
    ∙ listed xs)

some_same : (xs ys : List ℕ) → map Some xs ≡ map Some ys → xs ≡ ys
some_same [] [] same = refl
some_same [] (y ∷ ys) same = absurd cc
some_same (x ∷ xs) [] same = absurd cc
some_same (x ∷ xs) (y ∷ ys) same =
    let head : Some x ≡ Some y = cc in
    let rest : map Some xs ≡ map Some ys = cc in
    ap₂ (λ z zs. z ∷ zs) (same_Some x y head) (some_same xs ys rest)

-- ---- one sheet: where each cell is read

-- the cells of a side, named
abbrev pub named : ℕ → Side → List (Side × ℕ)
named folds side = map (λ i. (side, i)) (range_with_len 0 (2 ^ folds))

abbrev pub named_reading : ℕ → List (Side × ℕ)
named_reading folds = reading folds (piles folds (named folds Front) (named folds Back))

-- each cell is read at its place, once, and nothing else is read
pub record AreRead (folds : ℕ) : Type 0 where
  pub once : is_shuffle (named folds Front ++ named folds Back) (named_reading folds) ≡ true
  pub front : map (slice_get (named_reading folds)) (places folds Front) ≡ map Some (named folds Front)
  pub back : map (slice_get (named_reading folds)) (places folds Back) ≡ map Some (named folds Back)
  pub long : length (named_reading folds) ≡ 2 ^ folds + 2 ^ folds

pub are_read : (folds : ℕ) → 1 ≤ folds → folds ≤ 4 → AreRead folds
are_read zero some few = absurd (omega (arith, some))
are_read (suc zero) some few = record { once = refl; front = refl; back = refl; long = refl }
are_read (suc (suc zero)) some few = record { once = refl; front = refl; back = refl; long = refl }
are_read (suc (suc (suc zero))) some few = record { once = refl; front = refl; back = refl; long = refl }
are_read (suc (suc (suc (suc zero)))) some few = record { once = refl; front = refl; back = refl; long = refl }
are_read (suc (suc (suc (suc (suc n))))) some few = absurd (omega (arith, few))

module _ (folds : ℕ) (read : AreRead folds) where
  -- what a named cell of a sheet holds
  abbrev held : List ℕ → List ℕ → Side → ℕ → ℕ
  held front back Front i = cell_at front i
  held front back Back i = cell_at back i

  abbrev holds : List ℕ → List ℕ → Side × ℕ → ℕ
  holds front back cell = held front back cell.0 cell.1

  module _ (front back : List ℕ) (front_is : length front ≡ 2 ^ folds) (back_is : length back ≡ 2 ^ folds) where
    front_named : map (holds front back) (named folds Front) ≡ front
    front_named =
        map_map (holds front back) (λ i. (Front, i)) (cell_at front) (λ i. refl) (range_with_len 0 (2 ^ folds))
        ∙ (ap (λ n. map (cell_at front) (range_with_len 0 n)) (sym front_is) ∙ listed front)

    back_named : map (holds front back) (named folds Back) ≡ back
    back_named =
        map_map (holds front back) (λ i. (Back, i)) (cell_at back) (λ i. refl) (range_with_len 0 (2 ^ folds))
        ∙ (ap (λ n. map (cell_at back) (range_with_len 0 n)) (sym back_is) ∙ listed back)

    abbrev whole : List ℕ
    whole = reading folds (piles folds front back)

    whole_is : whole ≡ map (holds front back) (named_reading folds)
    whole_is =
        sym (ap₂ (λ xs ys. reading folds (piles folds xs ys)) front_named back_named)
        ∙ reading_map (holds front back) folds (named folds Front) (named folds Back)

    whole_long : length whole ≡ 2 ^ folds + 2 ^ folds
    whole_long = ap length whole_is ∙ (length-map (named_reading folds) (holds front back) ∙ read.long)

    -- the cells of a side stand in the reading at their places
    told : (side : Side) (cells : List ℕ) → map (holds front back) (named folds side) ≡ cells →
        map (slice_get (named_reading folds)) (places folds side) ≡ map Some (named folds side) →
        map Some cells ≡ map (slice_get whole) (places folds side)
    told side cells cells_are at_places =
        ap (map Some) (sym cells_are)
        ∙ (map_map Some (holds front back) (λ cell. Some (holds front back cell)) (λ cell. refl) (named folds side)
        ∙ (sym (map_map (option_map (holds front back)) Some (λ cell. Some (holds front back cell)) (λ cell. refl)
        (named folds side))
        ∙ (ap (map (option_map (holds front back))) (sym at_places)
        ∙ (map_map (option_map (holds front back)) (slice_get (named_reading folds))
        (slice_get (map (holds front back) (named_reading folds)))
        (λ place. sym (slice_get-map (holds front back) (named_reading folds) place)) (places folds side)
        ∙ ap (λ xs. map (slice_get xs) (places folds side)) (sym whole_is)))))

    front_told : map Some front ≡ map (slice_get whole) (places folds Front)
    front_told = told Front front front_named read.front

    back_told : map Some back ≡ map (slice_get whole) (places folds Back)
    back_told = told Back back back_named read.back

  abbrev made : List ℕ → List ℕ → Sheet
  made front back = record { front = front; back = back }

  sheet_long : (a : Sheet) → HasCells folds a → length (sheet_reading folds a) ≡ 2 ^ folds + 2 ^ folds
  sheet_long a cells = whole_long a.front a.back cells.front cells.back

  sheet_one : (a b : Sheet) → HasCells folds a → HasCells folds b → sheet_reading folds a ≡ sheet_reading folds b →
      a ≡ b
  sheet_one a b cells others same = ap₂ made
      (some_same a.front b.front (front_told a.front a.back cells.front cells.back
      ∙ (ap (λ xs. map (slice_get xs) (places folds Front)) same
      ∙ sym (front_told b.front b.back others.front others.back))))
      (some_same a.back b.back (back_told a.front a.back cells.front cells.back
      ∙ (ap (λ xs. map (slice_get xs) (places folds Back)) same
      ∙ sym (back_told b.front b.back others.front others.back))))

  -- a sum over the cells of a sheet is one over what is read
  sheet_tally : (f : ℕ → ℕ) (a : Sheet) → HasCells folds a →
      tally f (a.front ++ a.back) ≡ tally f (sheet_reading folds a)
  sheet_tally f a cells =
      ap (tally f) (sym (map-append (holds a.front a.back) (named folds Front) (named folds Back)
      ∙ ap₂ (λ xs ys. xs ++ ys) (front_named a.front a.back cells.front cells.back)
      (back_named a.front a.back cells.front cells.back)))
      ∙ (tally_map f (holds a.front a.back) (named folds Front ++ named folds Back)
      ∙ (shuffle_tally (λ cell. f (holds a.front a.back cell)) (named folds Front ++ named folds Back)
      (named_reading folds) read.once
      ∙ (sym (tally_map f (holds a.front a.back) (named_reading folds))
      ∙ ap (tally f) (sym (whole_is a.front a.back cells.front cells.back)))))

  -- ---- sheets in each other

  abbrev half : ℕ
  half = 2 ^ folds

  abbrev first : Sheet → List ℕ
  first sheet = first_half (sheet_reading folds sheet)

  abbrev second : Sheet → List ℕ
  second sheet = second_half (sheet_reading folds sheet)

  middle : (n : ℕ) → (half + half) / 2 ≡ half
  middle n = omega arith

  first_long : (a : Sheet) → HasCells folds a → length (first a) ≡ half
  first_long a cells = omega (arith, length-take (length (sheet_reading folds a) / 2) (sheet_reading folds a), sheet_long a cells)

  second_long : (a : Sheet) → HasCells folds a → length (second a) ≡ half
  second_long a cells = omega (arith, length-drop (length (sheet_reading folds a) / 2) (sheet_reading folds a), sheet_long a cells)

  -- runs of one length, joined
  runs_long : (run : Sheet → List ℕ) → ((a : Sheet) → HasCells folds a → length (run a) ≡ half) →
      (xs : List Sheet) → AllByRecursion (HasCells folds) xs → length (flat_map run xs) ≡ length xs * half
  runs_long run long [] cells = let z : 0 ≡ 0 * half = omega arith in z
  runs_long run long (x ∷ xs) cells =
      let e : suc (length xs) * half ≡ length xs * half + half = suc-mul (length xs) half in
      omega (arith, e, length-append (run x) (flat_map run xs), long x cells.0, runs_long run long xs cells.1)

  runs_same : (run : Sheet → List ℕ) → ((a : Sheet) → HasCells folds a → length (run a) ≡ half) →
      (xs ys : List Sheet) → AllByRecursion (HasCells folds) xs → AllByRecursion (HasCells folds) ys →
      length xs ≡ length ys → flat_map run xs ≡ flat_map run ys → map run xs ≡ map run ys
  runs_same run long [] [] cells others count same = refl
  runs_same run long [] (y ∷ ys) cells others count same = absurd cc
  runs_same run long (x ∷ xs) [] cells others count same = absurd cc
  runs_same run long (x ∷ xs) (y ∷ ys) cells others count same =
      let left : length xs ≡ length ys = omega (arith, count) in
      let cut = cut_same (run x) (run y) (flat_map run xs) (flat_map run ys)
      (long x cells.0 ∙ sym (long y others.0)) same in
      ap₂ (λ z zs. z ∷ zs) cut.0 (runs_same run long xs ys cells.1 others.1 left cut.1)

  each_one : (xs ys : List Sheet) → AllByRecursion (HasCells folds) xs → AllByRecursion (HasCells folds) ys →
      map first xs ≡ map first ys → map second xs ≡ map second ys → xs ≡ ys
  each_one [] [] cells others front back = refl
  each_one [] (y ∷ ys) cells others front back = absurd cc
  each_one (x ∷ xs) [] cells others front back = absurd cc
  each_one (x ∷ xs) (y ∷ ys) cells others front back =
      let one : first x ≡ first y = cc in
      let two : second x ≡ second y = cc in
      let firsts : map first xs ≡ map first ys = cc in
      let seconds : map second xs ≡ map second ys = cc in
      let whole = sym (take-append-drop (length (sheet_reading folds x) / 2) (sheet_reading folds x))
      ∙ (ap₂ (λ us vs. us ++ vs) one two
      ∙ take-append-drop (length (sheet_reading folds y) / 2) (sheet_reading folds y)) in
      ap₂ (λ z zs. z ∷ zs) (sheet_one x y cells.0 others.0 whole) (each_one xs ys cells.1 others.1 firsts seconds)

  back_again : (xs ys : List Sheet) → map second (reverse xs) ≡ map second (reverse ys) → map second xs ≡ map second ys
  back_again xs ys same =
      sym (reverse-reverse (map second xs))
      ∙ (ap reverse (sym (map_reverse second xs) ∙ (same ∙ map_reverse second ys))
      ∙ reverse-reverse (map second ys))

  all_back : (xs : List Sheet) → AllByRecursion (HasCells folds) xs → AllByRecursion (HasCells folds) (reverse xs)
  all_back [] cells = cells
  all_back (x ∷ xs) cells = subst (AllByRecursion (HasCells folds)) (sym (reverse_cons x xs))
      (joined (reverse xs) (all_back xs cells.1))
    where
      joined : (ys : List Sheet) → AllByRecursion (HasCells folds) ys → AllByRecursion (HasCells folds) (ys ++ x ∷ [])
      joined [] all = (cells.0, tt)
      joined (y ∷ ys) all = (all.0, joined ys all.1)

  signature_long : (xs : List Sheet) → AllByRecursion (HasCells folds) xs →
      length (signature_reading folds xs) ≡ length xs * half + length xs * half
  signature_long xs cells =
      length-append (flat_map first xs) (flat_map second (reverse xs))
      ∙ ap₂ (λ n m. n + m) (runs_long first first_long xs cells)
      (runs_long second second_long (reverse xs) (all_back xs cells) ∙ ap (λ n. n * half) (length-reverse xs))

  signature_one : (xs ys : List Sheet) → AllByRecursion (HasCells folds) xs → AllByRecursion (HasCells folds) ys →
      length xs ≡ length ys → signature_reading folds xs ≡ signature_reading folds ys → xs ≡ ys
  signature_one xs ys cells others count same =
      let cut = cut_same (flat_map first xs) (flat_map first ys) (flat_map second (reverse xs))
      (flat_map second (reverse ys))
      (runs_long first first_long xs cells ∙ (ap (λ n. n * half) count ∙ sym (runs_long first first_long ys others)))
      same in
      each_one xs ys cells others (runs_same first first_long xs ys cells others count cut.0)
      (back_again xs ys (runs_same second second_long (reverse xs) (reverse ys) (all_back xs cells)
      (all_back ys others) (length-reverse xs ∙ (count ∙ sym (length-reverse ys))) cut.1))

  halves_tally : (f : ℕ → ℕ) (xs : List Sheet) → AllByRecursion (HasCells folds) xs →
      tally f (flat_map first xs) + tally f (flat_map second xs) ≡ tally f (all_cells xs)
  halves_tally f [] cells = refl
  halves_tally f (x ∷ xs) cells =
      let firsts = tally_append f (first x) (flat_map first xs) in
      let seconds = tally_append f (second x) (flat_map second xs) in
      let here = tally_append f (first x) (second x) in
      let whole = ap (tally f) (take-append-drop (length (sheet_reading folds x) / 2) (sheet_reading folds x)) in
      let cell_sum = sheet_tally f x cells.0 in
      let all = tally_append f (x.front ++ x.back) (all_cells xs) in
      let later = halves_tally f xs cells.1 in
      omega (arith, firsts, seconds, here, whole, cell_sum, all, later)

  signature_tally : (f : ℕ → ℕ) (xs : List Sheet) → AllByRecursion (HasCells folds) xs →
      tally f (signature_reading folds xs) ≡ tally f (all_cells xs)
  signature_tally f xs cells =
      tally_append f (flat_map first xs) (flat_map second (reverse xs))
      ∙ (ap (λ n. tally f (flat_map first xs) + n) (tally_back f second xs) ∙ halves_tally f xs cells)

  -- ---- all signatures

  all_tally : (f : ℕ → ℕ) (nest n : ℕ) (xs : List Sheet) → AllByRecursion (HasCells folds) xs → length xs ≡ n * nest →
      tally f (readings folds nest n xs) ≡ tally f (all_cells xs)
  all_tally f nest zero xs cells long = ap (λ ys. tally f (all_cells ys)) (sym (no_items xs (omega (arith, long))))
  all_tally f nest (suc n) xs cells long =
      let e : suc n * nest ≡ n * nest + nest = suc-mul n nest in
      tally_append f (signature_reading folds (take nest xs)) (readings folds nest n (drop nest xs))
      ∙ (ap₂ (λ k m. k + m) (signature_tally f (take nest xs) (all_take (HasCells folds) nest xs cells))
      (all_tally f nest n (drop nest xs) (all_drop (HasCells folds) nest xs cells)
      (omega (arith, length-drop nest xs, long, e)))
      ∙ (sym (tally_append f (all_cells (take nest xs)) (all_cells (drop nest xs)))
      ∙ ap (tally f) (sym (flat_map-append (λ (sheet : Sheet). sheet.front ++ sheet.back) (take nest xs) (drop nest xs))
      ∙ ap all_cells (take-append-drop nest xs))))

  all_one : (nest n : ℕ) (xs ys : List Sheet) → AllByRecursion (HasCells folds) xs →
      AllByRecursion (HasCells folds) ys → length xs ≡ n * nest → length ys ≡ n * nest →
      readings folds nest n xs ≡ readings folds nest n ys → xs ≡ ys
  all_one nest zero xs ys cells others long other same =
      no_items xs (omega (arith, long)) ∙ sym (no_items ys (omega (arith, other)))
  all_one nest (suc n) xs ys cells others long other same =
      let e : suc n * nest ≡ n * nest + nest = suc-mul n nest in
      let taken : length (take nest xs) ≡ nest = omega (arith, length-take nest xs, long, e) in
      let taken_other : length (take nest ys) ≡ nest = omega (arith, length-take nest ys, other, e) in
      let count : length (take nest xs) ≡ length (take nest ys) = taken ∙ sym taken_other in
      let here = all_take (HasCells folds) nest xs cells in
      let there = all_take (HasCells folds) nest ys others in
      let cut = cut_same (signature_reading folds (take nest xs)) (signature_reading folds (take nest ys))
      (readings folds nest n (drop nest xs)) (readings folds nest n (drop nest ys))
      (signature_long (take nest xs) here
      ∙ (ap (λ k. k * half + k * half) count ∙ sym (signature_long (take nest ys) there))) same in
      sym (take-append-drop nest xs)
      ∙ (ap₂ (λ us vs. us ++ vs) (signature_one (take nest xs) (take nest ys) here there count cut.0)
      (all_one nest n (drop nest xs) (drop nest ys) (all_drop (HasCells folds) nest xs cells)
      (all_drop (HasCells folds) nest ys others)
      (omega (arith, length-drop nest xs, long, e)) (omega (arith, length-drop nest ys, other, e)) cut.1)
      ∙ take-append-drop nest ys)

pub stands_once : (folds nest pages : ℕ) → AreRead folds → (sheets : List Sheet) →
    AllByRecursion (HasCells folds) sheets → length sheets ≡ signature_count folds nest pages * nest →
    readings folds nest (signature_count folds nest pages) sheets ≡ pages_and_blanks folds nest pages →
    (page : ℕ) → 1 ≤ page → page ≤ pages → StandsOnce sheets page
stands_once folds nest pages read sheets cells long reads page some few =
    tally_is (one_for page) (all_cells sheets)
    ∙ (sym (all_tally folds read (one_for page) nest (signature_count folds nest pages) sheets cells
    long)
    ∙ (ap (tally (one_for page)) reads
    ∙ one_page page pages (signature_count folds nest pages * signature_pages folds nest - pages) some few))

pub sheets_one : ReadSheetsAreOne
sheets_one folds nest pages some few one other a b =
    all_one folds (are_read folds some few) nest (signature_count folds nest pages) one other a.cells b.cells a.count
    b.count (a.reads ∙ sym b.reads)
