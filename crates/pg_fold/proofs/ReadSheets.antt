-- What is read of the sheets that hold each page where it is due.
use Rattle.std.proofs.Common.{◌≡◌, ◌∙◌, refl, sym, ap, ap₂, arith, ℕ, zero, suc, ◌+◌, ◌*◌, ◌-◌, ◌<◌, ◌≤◌, ◌/◌, ◌%◌, ◌^◌, List, ◌∷◌, ◌++◌, map, length, replicate, take, drop, ltb, lt-ltb, le-ltb, mod-lt, div-add-mod', suc-mul}
use Rattle.std.specs.Prelude.{reverse}
use Rattle.std.specs.List.{AllByRecursion, range_with_len, flat_map}
use Rattle.std.proofs.Math.Nat.{div-lt_iff_lt-mul}
use Rattle.std.proofs.Math.Seq.{drop-append_seam}
use Rattle.std.proofs.lemmas.Bool.{cond-true, cond-false}
use Rattle.std.proofs.lemmas.List.{length-append}
use Rattle.std.proofs.lemmas.List.Folds.{flat_map-map}
use Rattle.std.proofs.lemmas.List.FromFn.{length-map-range_with_len, take-map-range_with_len}
use Rattle.pg_fold.specs.Folding.{piles, reading, sheet_reading, first_half, second_half, signature_reading, readings}
use Rattle.pg_fold.specs.Imposed.{cell_page, layout_of, sheet_pages, signature_pages, signature_count, sheet_place, signature_place, page_at, cells, sheet_of, signature_of, imposed}
use Rattle.pg_fold.specs.Laws.{HasCells, ReadsInOrder, FoldedSheetsRead}
use Rattle.pg_fold.specs.declared.face.Side.{Side}
use Rattle.pg_fold.specs.declared.face.Side.TheVariants.{Front, Back}
use Rattle.pg_fold.specs.declared.layout.Layout.{Layout}
use Rattle.pg_fold.specs.declared.sheets.Sheet.{Sheet}
use Rattle.pg_lemmas.proofs.Lists.{all_append}
use Rattle.pg_fold.proofs.Natural.{map_reverse, reading_map}
use Rattle.pg_fold.proofs.OneReading.{AreRead, are_read, stands_once}
use Rattle.pg_fold.proofs.Places.{places}
use Rattle.pg_fold.proofs.Runs.{alike, map_append_range, joined, joined_back, cut_joined, all_zero, map_same}

-- ---- one sheet: the places themselves, computed

-- the places are read in order, and there are two for each cell
pub record AreInOrder (folds : ℕ) : Type 0 where
  pub order : reading folds (piles folds (places folds Front) (places folds Back))
      ≡ range_with_len 0 (sheet_pages folds)
  pub twice : sheet_pages folds ≡ 2 ^ folds + 2 ^ folds
  pub some : 1 ≤ 2 ^ folds

pub are_in_order : (folds : ℕ) → 1 ≤ folds → folds ≤ 4 → AreInOrder folds
are_in_order zero some few = absurd (omega (arith, some))
are_in_order (suc zero) some few = record { order = refl; twice = refl; some = omega arith }
are_in_order (suc (suc zero)) some few = record { order = refl; twice = refl; some = omega arith }
are_in_order (suc (suc (suc zero))) some few = record { order = refl; twice = refl; some = omega arith }
are_in_order (suc (suc (suc (suc zero)))) some few = record { order = refl; twice = refl; some = omega arith }
are_in_order (suc (suc (suc (suc (suc n))))) some few = absurd (omega (arith, few))

-- ---- halves

halves : {A : Type 0} (f : ℕ → A) (half : ℕ) →
    (first_half (map f (range_with_len 0 (half + half))) ≡ map f (range_with_len 0 half))
    × (second_half (map f (range_with_len 0 (half + half))) ≡ map f (range_with_len half half))
halves f half =
    let count : length (map f (range_with_len 0 (half + half))) / 2 ≡ half =
    ap (λ n. n / 2) (length-map-range_with_len f 0 (half + half)) ∙ middle half in (
      ap (λ n. take n (map f (range_with_len 0 (half + half)))) count
          ∙ take-map-range_with_len f 0 (half + half) half (omega arith),
      ap (λ n. drop n (map f (range_with_len 0 (half + half)))) count
          ∙ (ap (drop half) (map_append_range f 0 half half)
          ∙ (ap (λ n. drop n (map f (range_with_len 0 half) ++ map f (range_with_len (0 + half) half)))
          (sym (length-map-range_with_len f 0 half))
          ∙ (drop-append_seam (map f (range_with_len 0 half)) (map f (range_with_len (0 + half) half))
          ∙ (let z : 0 + half ≡ half = omega arith in ap (λ k. map f (range_with_len k half)) z)))),
    )
  where
    middle : (n : ℕ) → (n + n) / 2 ≡ n
    middle n = omega arith

-- ---- a signature

module _ (folds nest pages : ℕ) (order : AreInOrder folds) (signature : ℕ) where
  abbrev layout : Layout
  layout = layout_of folds nest pages

  abbrev half : ℕ
  half = 2 ^ folds

  abbrev start : ℕ
  start = signature * signature_pages folds nest

  -- the page at a place of the signature's reading
  abbrev pub due : ℕ → ℕ
  due place = page_at pages (start + place)

  abbrev of_sheet : ℕ → ℕ → ℕ
  of_sheet sheet place = due (signature_place half nest sheet place)

  cells_are : (sheet : ℕ) (side : Side) → cells layout start sheet side ≡ map (of_sheet sheet) (places folds side)
  cells_are sheet side = map_same (sheet_place folds side) 0 half (of_sheet sheet)

  sheet_reads : (sheet : ℕ) →
      sheet_reading folds (sheet_of layout start sheet) ≡ map (of_sheet sheet) (range_with_len 0 (half + half))
  sheet_reads sheet =
      ap₂ (λ front back. reading folds (piles folds front back)) (cells_are sheet Front) (cells_are sheet Back)
      ∙ (reading_map (of_sheet sheet) folds (places folds Front) (places folds Back)
      ∙ ap (map (of_sheet sheet)) (order.order ∙ ap (range_with_len 0) order.twice))

  first_reads : (sheet : ℕ) →
      first_half (sheet_reading folds (sheet_of layout start sheet)) ≡ map due (range_with_len (0 + sheet * half) half)
  first_reads sheet = ap first_half (sheet_reads sheet) ∙ ((halves (of_sheet sheet) half).0
      ∙ alike (of_sheet sheet) due 0 (0 + sheet * half) half (λ i l.
      let z : 0 + i ≡ i = omega arith in
      let e : sheet * half + i ≡ (0 + sheet * half) + i = omega arith in
      ap (of_sheet sheet) z
      ∙ ap due (cond-true (ltb i half) (sheet * half + i) (nest * half + ((nest - 1 - sheet) * half + (i - half)))
      (lt-ltb i half l) ∙ e)))

  second_reads : (sheet later : ℕ) → sheet + suc later ≡ nest →
      second_half (sheet_reading folds (sheet_of layout start sheet))
      ≡ map due (range_with_len (nest * half + later * half) half)
  second_reads sheet later is = ap second_half (sheet_reads sheet) ∙ ((halves (of_sheet sheet) half).1
      ∙ alike (of_sheet sheet) due half (nest * half + later * half) half (λ i l.
      let d : nest - 1 - sheet ≡ later = omega (arith, is) in
      let b : (half + i) - half ≡ i = omega arith in
      let e : nest * half + (later * half + i) ≡ (nest * half + later * half) + i = omega arith in
      ap due (cond-false (ltb (half + i) half) (sheet * half + (half + i))
      (nest * half + ((nest - 1 - sheet) * half + ((half + i) - half)))
      (le-ltb (half + i) half (omega arith))
      ∙ (ap₂ (λ x y. nest * half + (x * half + y)) d b ∙ e))))

  first_halves : flat_map (λ (sheet : Sheet). first_half (sheet_reading folds sheet)) (signature_of layout signature)
      ≡ map due (range_with_len 0 (nest * half))
  first_halves =
      flat_map-map (λ (sheet : Sheet). first_half (sheet_reading folds sheet)) (sheet_of layout start)
      (range_with_len 0 nest)
      ∙ joined due (λ sheet. first_half (sheet_reading folds (sheet_of layout start sheet))) 0 0 half nest
      (λ i l. let z : 0 + i ≡ i = omega arith in
      ap (λ s. first_half (sheet_reading folds (sheet_of layout start s))) z ∙ first_reads i)

  second_halves : flat_map (λ (sheet : Sheet). second_half (sheet_reading folds sheet))
      (reverse (signature_of layout signature))
      ≡ map due (range_with_len (nest * half) (nest * half))
  second_halves =
      let z : nest * half + 0 * half ≡ nest * half = omega arith in
      ap (flat_map (λ (sheet : Sheet). second_half (sheet_reading folds sheet)))
      (sym (map_reverse (sheet_of layout start) (range_with_len 0 nest)))
      ∙ (flat_map-map (λ (sheet : Sheet). second_half (sheet_reading folds sheet)) (sheet_of layout start)
      (reverse (range_with_len 0 nest))
      ∙ (joined_back due (λ sheet. second_half (sheet_reading folds (sheet_of layout start sheet)))
      (nest * half) half nest 0
      (λ i later e. second_reads i later (omega (arith, e)))
      ∙ ap (λ k. map due (range_with_len k (nest * half))) z))

  pub signature_reads : signature_reading folds (signature_of layout signature)
      ≡ map due (range_with_len 0 (signature_pages folds nest))
  signature_reads =
      let z : 0 + nest * half ≡ nest * half = omega arith in
      ap₂ (λ x y. x ++ y) first_halves (second_halves ∙ ap (λ k. map due (range_with_len k (nest * half))) (sym z))
      ∙ (sym (map_append_range due 0 (nest * half) (nest * half))
      ∙ ap (λ n. map due (range_with_len 0 n)) (whole (sheet_pages folds) order.twice))
    where
      whole : (size : ℕ) → size ≡ half + half → nest * half + nest * half ≡ nest * size
      whole size is = doubled nest half ∙ ap (λ n. nest * n) (sym is)
        where
          doubled : (n h : ℕ) → n * h + n * h ≡ n * (h + h)
          doubled n h = omega arith

-- ---- all signatures

ceiling : (pages size : ℕ) → 1 ≤ size →
    (pages ≤ (pages + (size - 1)) / size * size)
    × ((fewer : ℕ) → pages ≤ fewer * size → (pages + (size - 1)) / size ≤ fewer)
ceiling pages size some =
    let whole : (pages + (size - 1)) / size * size + (pages + (size - 1)) % size ≡ pages + (size - 1) =
    div-add-mod' (pages + (size - 1)) size in
    let small : (pages + (size - 1)) % size < size = mod-lt (pages + (size - 1)) (omega (arith, some)) in (
      omega (arith, whole, small, some),
      λ fewer holds.
          let more : suc fewer * size ≡ fewer * size + size = suc-mul fewer size in
          let below : (pages + (size - 1)) / size < suc fewer =
          (div-lt_iff_lt-mul {k = size} {x = pages + (size - 1)} {y = suc fewer} (omega (arith, some))).1
          (omega (arith, holds, more, some)) in
          omega (arith, below),
    )

module _ (folds nest pages : ℕ) (order : AreInOrder folds) (some : 1 ≤ nest) where
  abbrev count : ℕ
  count = signature_count folds nest pages

  abbrev size : ℕ
  size = signature_pages folds nest

  size_some : 1 ≤ size
  size_some = product nest (sheet_pages folds) some (omega (arith, order.twice, order.some))
    where
      product : (a b : ℕ) → 1 ≤ a → 1 ≤ b → 1 ≤ a * b
      product zero b one other = absurd (omega (arith, one))
      product (suc a) b one other = let e : suc a * b ≡ a * b + b = suc-mul a b in omega (arith, e, other)

  signature_long : (signature : ℕ) → length (signature_of (layout_of folds nest pages) signature) ≡ nest
  signature_long signature =
      length-map-range_with_len (sheet_of (layout_of folds nest pages) (signature * signature_pages folds nest)) 0 nest

  all_read : readings folds nest count (imposed folds nest pages)
      ≡ map (page_at pages) (range_with_len 0 (count * size))
  all_read =
      ap (flat_map (signature_reading folds))
      (cut_joined (signature_of (layout_of folds nest pages)) nest 0 count signature_long)
      ∙ (flat_map-map (signature_reading folds) (signature_of (layout_of folds nest pages)) (range_with_len 0 count)
      ∙ joined (page_at pages)
      (λ signature. signature_reading folds (signature_of (layout_of folds nest pages) signature)) 0 0 size count
      (λ i l.
      let z : 0 + i ≡ i = omega arith in
      ap (λ s. signature_reading folds (signature_of (layout_of folds nest pages) s)) z
      ∙ (signature_reads folds nest pages order i
      ∙ alike (due folds nest pages order i) (page_at pages) 0 (0 + i * size) size (λ j m.
      let e : i * size + (0 + j) ≡ (0 + i * size) + j = omega arith in ap (page_at pages) e))))

  pages_then_blanks : (room : ℕ) → pages ≤ room →
      map (page_at pages) (range_with_len 0 room) ≡ range_with_len 1 pages ++ replicate (room - pages) 0
  pages_then_blanks room holds =
      let cut : room ≡ pages + (room - pages) = omega (arith, holds) in
      ap (λ n. map (page_at pages) (range_with_len 0 n)) cut
      ∙ (map_append_range (page_at pages) 0 pages (room - pages)
      ∙ ap₂ (λ x y. x ++ y)
      (alike (page_at pages) (λ i. i) 0 1 pages (λ i l.
      let z : 0 + i ≡ i = omega arith in
      let e : i + 1 ≡ 1 + i = omega arith in
      ap (page_at pages) z ∙ (cond-true (ltb i pages) (i + 1) 0 (lt-ltb i pages l) ∙ e)) ∙ map_id_range 1 pages)
      (all_zero (page_at pages) (0 + pages) (room - pages) (λ i l.
      cond-false (ltb i pages) (i + 1) 0 (le-ltb i pages (omega (arith, l))))))
    where
      map_id_range : (a n : ℕ) → map (λ (i : ℕ). i) (range_with_len a n) ≡ range_with_len a n
      map_id_range a zero = refl
      map_id_range a (suc n) = ap (λ xs. a ∷ xs) (map_id_range (a + 1) n)

  sheets_count : length (imposed folds nest pages) ≡ count * nest
  sheets_count = counted 0 count
    where
      counted : (a n : ℕ) →
          length (flat_map (signature_of (layout_of folds nest pages)) (range_with_len a n)) ≡ n * nest
      counted a zero = let z : 0 ≡ 0 * nest = omega arith in z
      counted a (suc n) =
          length_append_of (signature_of (layout_of folds nest pages) a)
          (flat_map (signature_of (layout_of folds nest pages)) (range_with_len (a + 1) n))
          (signature_long a) (counted (a + 1) n)
        where
          length_append_of : (xs ys : List Sheet) → length xs ≡ nest → length ys ≡ n * nest →
              length (xs ++ ys) ≡ suc n * nest
          length_append_of xs ys long rest =
              let e : suc n * nest ≡ n * nest + nest = suc-mul n nest in
              let s : length (xs ++ ys) ≡ length xs + length ys = length-append xs ys in
              omega (arith, e, s, long, rest)

  sheets_cells : AllByRecursion (HasCells folds) (imposed folds nest pages)
  sheets_cells = all_cells 0 (signature_count folds nest pages)
    where
      from : (begin a n : ℕ) → AllByRecursion (HasCells folds)
          (map (sheet_of (layout_of folds nest pages) begin) (range_with_len a n))
      from begin a zero = tt
      from begin a (suc n) = (
        record {
          front = length-map-range_with_len (cell_page (layout_of folds nest pages) begin a Front) 0 (2 ^ folds);
          back = length-map-range_with_len (cell_page (layout_of folds nest pages) begin a Back) 0 (2 ^ folds);
        },
        from begin (a + 1) n,
      )

      all_cells : (a n : ℕ) → AllByRecursion (HasCells folds)
          (flat_map (signature_of (layout_of folds nest pages)) (range_with_len a n))
      all_cells a zero = tt
      all_cells a (suc n) = all_append (HasCells folds) (signature_of (layout_of folds nest pages) a)
          (flat_map (signature_of (layout_of folds nest pages)) (range_with_len (a + 1) n))
          (from (a * signature_pages folds nest) 0 nest) (all_cells (a + 1) n)

  pub reads_in_order : AreRead folds → ReadsInOrder folds nest pages (imposed folds nest pages)
  reads_in_order read =
      let c = ceiling pages size size_some in
      record {
        cells = sheets_cells;
        count = sheets_count;
        holds = c.0;
        least = c.1;
        reads = all_read ∙ pages_then_blanks (count * size) c.0;
        once = stands_once folds nest pages read (imposed folds nest pages) sheets_cells sheets_count
            (all_read ∙ pages_then_blanks (count * size) c.0);
      }

pub folded_read : FoldedSheetsRead
folded_read folds nest pages some few one = reads_in_order folds nest pages (are_in_order folds some few) one
    (are_read folds some few)
