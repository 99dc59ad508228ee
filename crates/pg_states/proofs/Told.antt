-- What is remembered of states of pages, and how it changes.
use Rattle.std.proofs.Common.{◌≡◌, ◌⊎◌, inl, inr, refl, sym, ap, subst, ◌∙◌, ℕ, zero, suc, ◌<◌, List, [], ◌∷◌, ◌++◌, length, arith, Bool, true, false, Option, Some, None, T, take}
use Rattle.std.specs.Prelude.{ℤ, ◌==◌, ◌&&◌, ◌||◌, ◌<ℤ◌, int_lt, if◌then◌else◌, replicate, set, slice_get}
use Rattle.std.specs.List.{list_any}
use Rattle.std.specs.Option.{option_map_or}
use Rattle.std.specs.Int.Signed.{lt_z_yes}
use Rattle.std.proofs.Math.ListN.{length-append}
use Rattle.pg_lemmas.proofs.Bools.{both, both_of, not_both, or_cases, or_false, or_left, or_right}
use Rattle.pg_list.specs.declared.galley.Place.{Place}
use Rattle.pg_list.specs.Flat.{is_same_place}
use Rattle.pg_list.proofs.Places.{same_place}
use Rattle.pg_plan.specs.declared.states.State.{State}
use Rattle.pg_rules.specs.NoWorse.{are_no_older, are_same_counts, is_no_worse, is_same_key, is_same_number, is_same_side, is_same_whole, key}
use Rattle.law_columns.proofs.Simulation.{key_refl, key_same, no_older_chain, no_older_refl, number_same}
use Rattle.pg_lemmas.proofs.Lists.{any_taken, get_left}
use Rattle.pg_states.specs.Marks.{Marks, along, has_no_better, has_no_worse, is_marked, is_no_worse_line, is_past, tells}
use Rattle.pg_states.specs.LineOf.{IsLineOf}
use Rattle.pg_states.specs.declared.marks.Cell.{Cell}
use Rattle.pg_states.specs.declared.marks.Line.{Line}
use Rattle.pg_table.proofs.Lists.{slice_get_last}

-- ---- lines

-- which state is no worse, of three
no_worse_chain : (u v x : State) → is_no_worse u v ≡ true → is_no_worse v x ≡ true → is_no_worse u x ≡ true
no_worse_chain u v x p q =
    let s = both_of (is_same_key (key u) (key v)) (are_no_older u.ages v.ages) p in
    let t = both_of (is_same_key (key v) (key x)) (are_no_older v.ages x.ages) q in
    let e = key_same (key u) (key v) s.0 ∙ key_same (key v) (key x) t.0 in
    both (is_same_key (key u) (key x)) (are_no_older u.ages x.ages)
    (subst (λ k. is_same_key (key u) k ≡ true) e (key_refl (key u)))
    (no_older_chain u.ages v.ages x.ages s.1 t.1)

-- along two lines the states are no worse, where the first line is
pub no_worse_along : (u v : State) (at : Place) (fitness : Option ℕ) → is_no_worse_line u v ≡ true →
    is_no_worse (along u at fitness) (along v at fitness) ≡ true
no_worse_along u v at fitness h =
    let own = both_of (is_same_place at at) _ (key_refl (key (along u at fitness))) in
    let rest = both_of (u.column == u.column) _ own.1 in
    let rest = both_of (is_same_side u.side u.side) _ rest.1 in
    let rest = both_of (is_same_number u.run u.run) _ rest.1 in
    let rest = both_of (is_same_whole u.wide u.wide) _ rest.1 in
    let same = both_of (is_same_number fitness fitness) _ rest.1 in
    let parts = both_of ((u.column == v.column) && is_same_side u.side v.side) _ h in
    let column = both_of (u.column == v.column) (is_same_side u.side v.side) parts.0 in
    let more = both_of (is_same_number u.run v.run && is_same_whole u.wide v.wide) _ parts.1 in
    let page = both_of (is_same_number u.run v.run) (is_same_whole u.wide v.wide) more.0 in
    let past = both_of (are_same_counts u.placed v.placed) (are_no_older u.ages v.ages) more.1 in
    both (is_same_key (key (along u at fitness)) (key (along v at fitness))) (are_no_older u.ages v.ages)
    (both (is_same_place at at) _ own.0
    (both (u.column == v.column) _ column.0
    (both (is_same_side u.side v.side) _ column.1
    (both (is_same_number u.run v.run) _ page.0
    (both (is_same_whole u.wide v.wide) _ page.1
    (both (is_same_number fitness fitness) (are_same_counts u.placed v.placed) same.0 past.0))))))
    past.1

-- a line is no worse than itself
pub line_refl : (u : State) → is_no_worse_line u u ≡ true
line_refl u =
    let own = both_of (is_same_place u.place u.place) _ (key_refl (key u)) in
    let column = both_of (u.column == u.column) _ own.1 in
    let side = both_of (is_same_side u.side u.side) _ column.1 in
    let run = both_of (is_same_number u.run u.run) _ side.1 in
    let wide = both_of (is_same_whole u.wide u.wide) _ run.1 in
    let past = both_of (is_same_number u.fitness u.fitness) (are_same_counts u.placed u.placed) wide.1 in
    both ((u.column == u.column) && is_same_side u.side u.side) _
    (both (u.column == u.column) (is_same_side u.side u.side) column.0 side.0)
    (both (is_same_number u.run u.run && is_same_whole u.wide u.wide) _
    (both (is_same_number u.run u.run) (is_same_whole u.wide u.wide) run.0 wide.0)
    (both (are_same_counts u.placed u.placed) (are_no_older u.ages u.ages) past.1 (no_older_refl u.ages)))

-- ---- lists

-- one that passes the test
pub any_at : {X : Type 0} (test : X → Bool) (xs : List X) (at : ℕ) (x : X) → slice_get xs at ≡ Some x → test x ≡ true →
    list_any test xs ≡ true
any_at test [] at x e h = absurd cc
any_at test (y ∷ xs) zero x e h = or_left (test y) (list_any test xs) (subst (λ o. option_map_or test o false ≡ true) (sym e) h)
any_at test (y ∷ xs) (suc at) x e h = or_right (test y) (list_any test xs) (any_at test xs at x e h)

-- an element more in front
more : (a b c : Bool) → ((b ≡ true) ⊎ (c ≡ true)) → ((a || b) ≡ true) ⊎ (c ≡ true)
more a b c (inl h) = inl (or_right a b h)
more a b c (inr h) = inr h

-- what passes where an element is replaced
pub any_set : {X : Type 0} (test : X → Bool) (xs : List X) (at : ℕ) (y : X) → list_any test (set xs at y) ≡ true →
    (list_any test xs ≡ true) ⊎ (test y ≡ true)
any_set test [] at y h = inl h
any_set test (x ∷ xs) zero y h = elim (or_cases (test y) (list_any test xs) h) [
  | inl own ↦ inr own
  | inr rest ↦ inl (or_right (test x) (list_any test xs) rest)
]
any_set test (x ∷ xs) (suc at) y h = elim (or_cases (test x) (list_any test (set xs at y)) h) [
  | inl own ↦ inl (or_left (test x) (list_any test xs) own)
  | inr rest ↦ more (test x) (list_any test xs) (test y) (any_set test xs at y rest)
]

-- what passes where all are the same
any_same : {X : Type 0} (test : X → Bool) (count : ℕ) (y : X) → list_any test (replicate count y) ≡ true → test y ≡ true
any_same test zero y h = absurd cc
any_same test (suc count) y h = elim (or_cases (test y) (list_any test (replicate count y)) h) [
  | inl own ↦ own
  | inr rest ↦ any_same test count y rest
]

-- what passes where the same one stands behind the others so many times
any_behind : {X : Type 0} (test : X → Bool) (xs : List X) (count : ℕ) (y : X) →
    list_any test (xs ++ replicate count y) ≡ true → (list_any test xs ≡ true) ⊎ (test y ≡ true)
any_behind test [] count y h = inr (any_same test count y h)
any_behind test (x ∷ xs) count y h = elim (or_cases (test x) (list_any test (xs ++ replicate count y)) h) [
  | inl own ↦ inl (or_left (test x) (list_any test xs) own)
  | inr rest ↦ more (test x) (list_any test xs) (test y) (any_behind test xs count y rest)
]

-- what passes where a list is made longer, if there is memory
pub any_resized : {X : Type 0} (test : X → Bool) (xs : List X) (count behind : ℕ) (y : X) (ok : Bool) →
    list_any test (if ok then take count xs ++ replicate behind y else xs) ≡ true →
    (list_any test xs ≡ true) ⊎ (test y ≡ true)
any_resized test xs count behind y false h = inl h
any_resized test xs count behind y true h = elim (any_behind test (take count xs) behind y h) [
  | inl front ↦ inl (any_taken test count xs front)
  | inr own ↦ inr own
]

-- ---- what is remembered

-- a cell names one of so many lines, where it names none past them
below : (count : ℕ) (cell : Cell) → is_past count cell ≡ false → cell.line < count
below count cell h = grind (arith, h)

-- cells name lines that are there once a line is added, too
pub past_more : (lines : List State) (line : State) (cells : List Cell) →
    list_any (is_past (length lines)) cells ≡ false → list_any (is_past (length (lines ++ line ∷ []))) cells ≡ false
past_more lines line [] none = refl
past_more lines line (cell ∷ cells) none =
    let n = or_false (is_past (length lines) cell) (list_any (is_past (length lines)) cells) none in
    let l : cell.line < length lines = below (length lines) cell n.0 in
    let own : is_past (length (lines ++ line ∷ [])) cell ≡ false =
    grind (arith, l, length-append lines (line ∷ [])) in
    ap (λ b. b || list_any (is_past (length (lines ++ line ∷ []))) cells) own ∙ past_more lines line cells n.1

-- no cell tells more once a line is added
pub line_more : (lines : List State) (line : State) (cells : List Cell) (v : State) (c : ℤ) →
    list_any (is_past (length lines)) cells ≡ false →
    list_any (tells (lines ++ line ∷ []) v c) cells ≡ true → list_any (tells lines v c) cells ≡ true
line_more lines line [] v c none h = h
line_more lines line (cell ∷ cells) v c none h =
    let n = or_false (is_past (length lines) cell) (list_any (is_past (length lines)) cells) none in
    let e : tells (lines ++ line ∷ []) v c cell ≡ tells lines v c cell =
    ap (λ o. option_map_or (λ line. is_no_worse (along line cell.place cell.fitness) v) o false && int_lt cell.cost c)
    (get_left lines (line ∷ []) cell.line (below (length lines) cell n.0)) in
    elim (or_cases (tells (lines ++ line ∷ []) v c cell) (list_any (tells (lines ++ line ∷ []) v c) cells) h) [
      | inl own ↦ or_left (tells lines v c cell) (list_any (tells lines v c) cells) (sym e ∙ own)
      | inr rest ↦ or_right (tells lines v c cell) (list_any (tells lines v c) cells) (line_more lines line cells v c n.1 rest)
    ]

-- a cell of a line that is no worse tells of the states along it
pub tells_along : (lines : List State) (u : State) (at : Place) (fitness : Option ℕ) (c : ℤ) (cell : Cell) →
    has_no_worse lines cell.line u ≡ true →
    (int_lt cell.cost c && (is_same_place cell.place at && is_same_number cell.fitness fitness)) ≡ true →
    tells lines (along u at fitness) c cell ≡ true
tells_along lines u at fitness c cell h own =
    let lower = both_of (int_lt cell.cost c) (is_same_place cell.place at && is_same_number cell.fitness fitness) own in
    let same = both_of (is_same_place cell.place at) (is_same_number cell.fitness fitness) lower.1 in
    let p = same_place cell.place at same.0 in
    let f = number_same cell.fitness fitness same.1 in
    both (option_map_or (λ line. is_no_worse (along line cell.place cell.fitness) (along u at fitness))
    (slice_get lines cell.line) false) (int_lt cell.cost c) (by p f (slice_get lines cell.line) h) lower.0
  where
    by : cell.place ≡ at → cell.fitness ≡ fitness → (o : Option State) →
        option_map_or (λ line. is_no_worse_line line u) o false ≡ true →
        option_map_or (λ line. is_no_worse (along line cell.place cell.fitness) (along u at fitness)) o false ≡ true
    by p f None h = absurd cc
    by p f (Some line) h = subst (λ it. is_no_worse (along line cell.place cell.fitness) (along u it fitness) ≡ true) p
        (subst (λ it. is_no_worse (along line cell.place cell.fitness) (along u cell.place it) ≡ true) f
        (no_worse_along line u cell.place cell.fitness h))

-- what a cell of a line that is no better tells of is told of the state itself
pub told_of : (lines : List State) (u v : State) (c : ℤ) (cell : Cell) → has_no_better lines cell.line u ≡ true →
    cell.place ≡ u.place → cell.fitness ≡ u.fitness → tells lines v c cell ≡ true →
    (is_no_worse u v ≡ true) × (cell.cost <ℤ c)
told_of lines u v c cell h p f told =
    let parts = both_of (option_map_or (λ line. is_no_worse (along line cell.place cell.fitness) v)
    (slice_get lines cell.line) false) (int_lt cell.cost c) told in
    (by (slice_get lines cell.line) h parts.0, lt_z_yes (subst T (sym parts.1) tt))
  where
    by : (o : Option State) → option_map_or (λ line. is_no_worse_line u line) o false ≡ true →
        option_map_or (λ line. is_no_worse (along line cell.place cell.fitness) v) o false ≡ true → is_no_worse u v ≡ true
    by None h told = absurd cc
    by (Some line) h told =
        no_worse_chain u (along line u.place u.fitness) v (no_worse_along u line u.place u.fitness h)
        (subst (λ it. is_no_worse (along line u.place it) v ≡ true) f
        (subst (λ it. is_no_worse (along line it cell.fitness) v ≡ true) p told))

-- a cell that is kept tells what is remembered
pub marked_at : (m : Marks) (at : ℕ) (cell : Cell) (v : State) (c : ℤ) → slice_get m.cells at ≡ Some cell →
    tells m.lines v c cell ≡ true → is_marked m v c ≡ true
unfolding is_marked
marked_at m at cell v c e h = any_at (tells m.lines v c) m.cells at cell e h

-- where no cell is kept, nothing is remembered
pub nothing : (m : Marks) → m.cells ≡ [] → (v : State) (c : ℤ) → is_marked m v c ≡ false
unfolding is_marked
nothing m none v c = ap (list_any (tells m.lines v c)) none

-- what is remembered where nothing is
pub nothing_more : (m old : Marks) → m.cells ≡ [] → (v : State) (c : ℤ) → is_marked m v c ≡ true →
    is_marked old v c ≡ true
nothing_more m old none v c h = absurd (not_both (is_marked m v c) h (nothing m none v c))

-- the state of a new line is that which it is made of
pub new_line : (lines : List State) (line u : State) → line ≡ u →
    has_no_better (lines ++ line ∷ []) (length lines) u ≡ true
new_line lines line u e =
    ap (λ o. option_map_or (λ line. is_no_worse_line u line) o false) (slice_get_last lines line)
    ∙ subst (λ it. is_no_worse_line u it ≡ true) (sym e) (line_refl u)

-- nothing more is remembered once a line is added
pub marked_before : (lines : List State) (line : State) (cells : List Cell) →
    list_any (is_past (length lines)) cells ≡ false → (v : State) (c : ℤ) →
    is_marked (record { lines = lines ++ line ∷ []; cells = cells }) v c ≡ true →
    is_marked (record { lines = lines; cells = cells }) v c ≡ true
unfolding is_marked
marked_before lines line cells none v c h = line_more lines line cells v c none h

-- the line of a state is the line of each state along it
line_along : (line : Line) (u : State) (at : Place) (fitness : Option ℕ) → IsLineOf line u →
    IsLineOf line (along u at fitness)
line_along line u at fitness h = h

-- what is remembered more once a state is marked
pub mark_more : (old found : Marks) (u v : State) (c cost : ℤ) (cell : Cell) →
    (is_marked found v c ≡ true → is_marked old v c ≡ true) → has_no_better found.lines cell.line u ≡ true →
    cell.place ≡ u.place → cell.fitness ≡ u.fitness → cell.cost ≡ cost →
    (is_marked found v c ≡ true) ⊎ (tells found.lines v c cell ≡ true) →
    (is_marked old v c ≡ true) ⊎ ((is_no_worse u v ≡ true) × (cost <ℤ c))
mark_more old found u v c cost cell kept line p f e (inl was) = inl (kept was)
mark_more old found u v c cost cell kept line p f e (inr told) =
    let own = told_of found.lines u v c cell line p f told in
    inr (own.0, subst (λ it. it <ℤ c) e own.1)
