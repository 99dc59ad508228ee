-- How many floats counts deal out.
use Rattle.std.proofs.Common.{◌≡◌, refl, sym, ap, subst, ◌∙◌, ℕ, suc, ◌+◌, ◌*◌, ◌≤◌, ◌<◌, List, [], ◌∷◌, map, length, arith}
use Rattle.std.specs.List.{sum_by, range_with_len}
use Rattle.std.proofs.lemmas.List.Sums.{sum_by-cons}
use Rattle.std.proofs.lemmas.List.FromFn.{length-map-range_with_len}
use Rattle.pg_plan.specs.declared.pages.PageMove.{PageMove}
use Rattle.pg_style.specs.Values.{StyleValue}
use Rattle.pg_rules.specs.Floats.{entry, total_count, float_count, plus_counts, float_numbers}
use Rattle.pg_rules.specs.History.{placed_after, with_wide}
use Rattle.law_columns.proofs.Waiting.{placed_more, slotted}
use Rattle.pg_rules.specs.Room.{Document}
use Rattle.std.proofs.Common.{◌-◌, ◌++◌, zero, length-append}
use Rattle.pg_rules.specs.Floats.{numbered, floats_between}
use Rattle.pg_rules.specs.Legal.{added}
use Rattle.law_columns.proofs.ColumnCounts.{total_cons}

-- no float is counted beyond a list of counts
pub entry_beyond : (counts : List ℕ) (slot : ℕ) → length counts ≤ slot → entry counts slot ≡ 0
entry_beyond [] slot h = refl
entry_beyond (count ∷ counts) zero h = absurd (omega (arith, h))
entry_beyond (count ∷ counts) (suc slot) h = entry_beyond counts slot (omega (arith, h))

pub zip_total : (F : ℕ → ℕ) (f : ℕ) (xs ys : List ℕ) → length xs ≡ length ys →
    ((i : ℕ) → F (f + i) ≡ entry xs i + entry ys i) →
    total_count (map F (range_with_len f (length xs))) ≡ total_count xs + total_count ys
zip_total F f [] [] l h = refl
zip_total F f [] (y ∷ ys) l h = absurd (omega arith)
zip_total F f (x ∷ xs) [] l h = absurd (omega arith)
zip_total F f (x ∷ xs) (y ∷ ys) l h =
    let z : f + 0 ≡ f = omega arith in
    let a : F f ≡ x + y = ap F (sym z) ∙ h 0 in
    let r : total_count (map F (range_with_len (f + 1) (length xs))) ≡ total_count xs + total_count ys =
    zip_total F (f + 1) xs ys (omega arith) (λ i. (let e : f + 1 + i ≡ f + suc i = omega arith in
    ap F e ∙ h (suc i))) in
    let s : total_count (F f ∷ map F (range_with_len (f + 1) (length xs))) ≡ F f
    + total_count (map F (range_with_len (f + 1) (length xs))) =
    total_cons (F f) (map F (range_with_len (f + 1) (length xs))) in
    let t : total_count (x ∷ xs) ≡ x + total_count xs = total_cons x xs in
    let u : total_count (y ∷ ys) ≡ y + total_count ys = total_cons y ys in
    omega arith

pub plus_total : (style : StyleValue) (a b : List ℕ) → length a ≡ length (float_numbers style) →
    length b ≡ length (float_numbers style) →
    total_count (plus_counts style a b) ≡ total_count a + total_count b
plus_total style a b l k = subst
    (λ (n : ℕ). total_count (map (λ (slot : ℕ). entry a slot + entry b slot) (range_with_len 0 n))
    ≡ total_count a + total_count b) l
    (zip_total (λ (slot : ℕ). entry a slot + entry b slot) 0 a b (l ∙ sym k)
    (λ i. (let e : 0 + i ≡ i = omega arith in ap (λ (n : ℕ). entry a n + entry b n) e)))

pub count_total : (F : ℕ → ℕ) (f : ℕ) (xs : List ℕ) → ((i : ℕ) → F (f + i) ≡ entry xs i) →
    sum_by F (range_with_len f (length xs)) ≡ total_count xs
count_total F f [] h = refl
count_total F f (x ∷ xs) h =
    let z : f + 0 ≡ f = omega arith in
    let a : F f ≡ x = ap F (sym z) ∙ h 0 in
    let r : sum_by F (range_with_len (f + 1) (length xs)) ≡ total_count xs =
    count_total F (f + 1) xs (λ i. (let e : f + 1 + i ≡ f + suc i = omega arith in ap F e ∙ h (suc i))) in
    let s : sum_by F (f ∷ range_with_len (f + 1) (length xs)) ≡ F f
    + sum_by F (range_with_len (f + 1) (length xs)) =
    sum_by-cons F f (range_with_len (f + 1) (length xs)) in
    let t : total_count (x ∷ xs) ≡ x + total_count xs = total_cons x xs in
    omega arith

-- a list with an entry for each class deals out all that it counts
pub float_total : (style : StyleValue) (counts : List ℕ) → length counts ≡ length (float_numbers style) →
    float_count style counts ≡ total_count counts
float_total style counts l = subst (λ (n : ℕ). sum_by (λ (slot : ℕ). entry counts slot) (range_with_len 0 n)
    ≡ total_count counts) l (count_total (λ (slot : ℕ). entry counts slot) 0 counts
    (λ i. (let e : 0 + i ≡ i = omega arith in ap (entry counts) e)))

pub plus_long : (style : StyleValue) (a b : List ℕ) →
    length (plus_counts style a b) ≡ length (float_numbers style)
plus_long style a b = length-map-range_with_len (λ (slot : ℕ). entry a slot + entry b slot) 0
    (length (float_numbers style))

pub after_total : (style : StyleValue) (placed : List ℕ) (m : PageMove) →
    length placed ≡ length (float_numbers style) → length m.wide ≡ length (float_numbers style) →
    length m.column.top ≡ length (float_numbers style) →
    length m.column.bottom ≡ length (float_numbers style) →
    total_count (placed_after style placed m)
    ≡ ((total_count placed + total_count m.wide) + total_count m.column.top) + total_count m.column.bottom
after_total style placed m p doc t b =
    let x : total_count (with_wide style placed m) ≡ total_count placed + total_count m.wide =
    plus_total style placed m.wide p doc in
    let y : total_count (plus_counts style (with_wide style placed m) m.column.top)
    ≡ total_count (with_wide style placed m) + total_count m.column.top =
    plus_total style (with_wide style placed m) m.column.top (plus_long style placed m.wide) t in
    let z : total_count (placed_after style placed m)
    ≡ total_count (plus_counts style (with_wide style placed m) m.column.top)
    + total_count m.column.bottom =
    plus_total style (plus_counts style (with_wide style placed m) m.column.top) m.column.bottom
    (plus_long style (with_wide style placed m) m.column.top) b in
    omega arith

-- ---- the floats that counts deal out

numbered_long : (s n k : ℕ) → length (numbered s n k) ≡ k
numbered_long s n zero = refl
numbered_long s n (suc k) = ap suc (numbered_long s (n + 1) k)

between_from : (a b : List ℕ) (f k : ℕ) → ((i : ℕ) → i < k → entry a (f + i) ≤ entry b (f + i)) →
    length (slotted a b (range_with_len f k)) + sum_by (entry a) (range_with_len f k)
    ≡ sum_by (entry b) (range_with_len f k)
between_from a b f zero h = refl
between_from a b f (suc k) h =
    let r : length (slotted a b (range_with_len (f + 1) k)) + sum_by (entry a) (range_with_len (f + 1) k)
    ≡ sum_by (entry b) (range_with_len (f + 1) k) =
    between_from a b (f + 1) k (λ i l. (let e : f + suc i ≡ f + 1 + i = omega arith in
    subst (λ (z : ℕ). entry a z ≤ entry b z) e (h (suc i) (omega arith)))) in
    let z : f + 0 ≡ f = omega arith in
    let here : entry a f ≤ entry b f = subst (λ (z : ℕ). entry a z ≤ entry b z) z (h 0 (omega arith)) in
    let l : length (numbered f (entry a f) (entry b f - entry a f)) ≡ entry b f - entry a f =
    numbered_long f (entry a f) (entry b f - entry a f) in
    let m : length (numbered f (entry a f) (entry b f - entry a f) ++ slotted a b (range_with_len (f + 1) k))
    ≡ length (numbered f (entry a f) (entry b f - entry a f))
    + length (slotted a b (range_with_len (f + 1) k)) =
    length-append (numbered f (entry a f) (entry b f - entry a f))
    (slotted a b (range_with_len (f + 1) k)) in
    let s : sum_by (entry a) (f ∷ range_with_len (f + 1) k) ≡ entry a f
    + sum_by (entry a) (range_with_len (f + 1) k) = sum_by-cons (entry a) f (range_with_len (f + 1) k) in
    let t : sum_by (entry b) (f ∷ range_with_len (f + 1) k) ≡ entry b f
    + sum_by (entry b) (range_with_len (f + 1) k) = sum_by-cons (entry b) f (range_with_len (f + 1) k) in
    omega arith

-- as many floats lie between two counts as the second has more
pub between_long : (style : StyleValue) (a b : List ℕ) → length a ≡ length (float_numbers style) →
    length b ≡ length (float_numbers style) →
    ((slot : ℕ) → slot < length (float_numbers style) → entry a slot ≤ entry b slot) →
    length (floats_between style a b) + total_count a ≡ total_count b
between_long style a b la lb h =
    let r : length (floats_between style a b) + float_count style a ≡ float_count style b =
    between_from a b 0 (length (float_numbers style)) (λ i l. (let e : i ≡ 0 + i = omega arith in
    subst (λ (z : ℕ). entry a z ≤ entry b z) e (h i l))) in
    let s : float_count style a ≡ total_count a = float_total style a la in
    let t : float_count style b ≡ total_count b = float_total style b lb in
    omega arith

pub added_long : (doc : Document) (placed : List ℕ) (m : PageMove) →
    length placed ≡ length (float_numbers doc.style) →
    length (added doc placed m) + total_count placed ≡ total_count (placed_after doc.style placed m)
added_long doc placed m l = between_long doc.style placed (placed_after doc.style placed m) l
    (plus_long doc.style (plus_counts doc.style (with_wide doc.style placed m) m.column.top) m.column.bottom)
    (placed_more doc.style placed m)

-- counts of which none is above a limit
pub counts_few : (xs : List ℕ) → ((i : ℕ) → i < length xs → entry xs i ≤ 1048576) →
    total_count xs ≤ 1048576 * length xs
counts_few [] h = omega arith
counts_few (x ∷ xs) h =
    let e : total_count (x ∷ xs) ≡ x + total_count xs = total_cons x xs in
    let a : x ≤ 1048576 = h 0 (omega arith) in
    let r : total_count xs ≤ 1048576 * length xs = counts_few xs (λ i l. h (suc i) (omega arith)) in
    omega arith
