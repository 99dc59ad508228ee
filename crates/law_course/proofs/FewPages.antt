-- A page's first column rises by its place or by its floats, so that there are no more pages than items and floats.
use Rattle.std.proofs.Common.{◌≡◌, ◌∙◌, sym, ap, subst, refl, arith, ℕ, suc, ◌+◌, ◌≤◌, ◌<◌, ◌⊎◌, inl, inr, Bool, true, false, List, [], ◌∷◌, length, map}
use Rattle.std.specs.Prelude.{◌==◌, nat_le, if◌then◌else◌, ℤ}
use Rattle.std.specs.List.{sum_by}
use Rattle.std.proofs.lemmas.Bool.{leb-true}
use Rattle.std.proofs.lemmas.List.{length-map, length-reverse}
use Rattle.std.proofs.lemmas.List.Sums.{sum_by-cons}
use Rattle.pg_list.specs.Counts.{item_count}
use Rattle.pg_list.specs.GalleyValue.{GalleyValue}
use Rattle.pg_list.specs.declared.galley.Place.{Place}
use Rattle.pg_list.specs.declared.item.Item.{Item}
use Rattle.pg_plan.specs.Order.{columns}
use Rattle.pg_plan.specs.declared.pages.Column.{Column}
use Rattle.pg_plan.specs.declared.pages.Page.{Page}
use Rattle.pg_plan.specs.declared.pages.PageMove.{PageMove}
use Rattle.pg_plan.specs.declared.pages.Pagination.{Pagination}
use Rattle.pg_plan.specs.declared.states.State.{State}
use Rattle.pg_style.specs.Values.{StyleValue}
use Rattle.pg_list.specs.Flat.{flat, items_before}
use Rattle.pg_rules.specs.Cost.{cost}
use Rattle.pg_rules.specs.Floats.{called, entry, float_numbers, sizes_of, slots, total_count}
use Rattle.pg_rules.specs.History.{next_column}
use Rattle.pg_rules.specs.IsState.{IsPlace, IsState}
use Rattle.pg_rules.specs.Legal.{document}
use Rattle.pg_rules.specs.NoWorse.{is_same_key}
use Rattle.pg_rules.specs.Ranges.{AreInRange}
use Rattle.pg_rules.specs.States.{state_at, state_of}
use Rattle.law_places.specs.Past.{IsPast, far}
use Rattle.law_places.proofs.Among.{Among, all_at}
use Rattle.law_places.proofs.Callouts.{called_total}
use Rattle.law_places.proofs.Measures.{far_rises, past_within}
use Rattle.law_places.proofs.Steps.{far_within}
use Rattle.law_columns.proofs.ColumnCounts.{total_cons}
use Rattle.law_columns.specs.BeginningLaws.{LegalAreDone}
use Rattle.law_columns.specs.Pages.{add_column, page_with, pages_from, plan_of}
use Rattle.pg_floats.specs.AreFloats.{float_total}
use Rattle.pg_table.specs.Space.{Lawful, Run}
use Rattle.law_space.specs.SpaceLaws.{BeginningsAreRuns, RunsAreBeginnings}
use Rattle.law_space.specs.PageSpace.{wide_meaning}
use Rattle.law_space.proofs.Bounds.{placed_few, slot_among}
use Rattle.law_space.proofs.Rank.{Climbs, climbs_with}
use Rattle.law_course.specs.SizeLaws.{LegalAreSmall}

-- ---- no more floats are placed than there are

-- counts that are nowhere greater are no more in all
total_few : (xs ys : List ℕ) → length xs ≡ length ys → ((i : ℕ) → i < length xs → entry xs i ≤ entry ys i) →
    total_count xs ≤ total_count ys
total_few [] ys long each = omega arith
total_few (x ∷ xs) [] long each = absurd (omega (arith, long))
total_few (x ∷ xs) (y ∷ ys) long each =
    let first : x ≤ y = each 0 (omega arith) in
    let rest = total_few xs ys (omega (arith, long)) (λ i less. each (suc i) (omega (arith, less))) in
    let left = total_cons x xs in
    let right = total_cons y ys in
    omega (arith, first, rest, left, right)

-- of each class no more are called than there are
called_few : (before all : List Item) (numbers : List ℕ) →
    ((number : ℕ) → length (sizes_of number before) ≤ length (sizes_of number all)) →
    total_count (map (λ (number : ℕ). length (sizes_of number before)) numbers)
    ≤ sum_by (λ (sizes : List ℤ). length sizes) (map (λ (number : ℕ). sizes_of number all) numbers)
called_few before all [] h = omega arith
called_few before all (number ∷ numbers) h =
    let first = h number in
    let rest = called_few before all numbers h in
    let left = total_cons (length (sizes_of number before))
    (map (λ (n : ℕ). length (sizes_of n before)) numbers) in
    let right = sum_by-cons (λ (sizes : List ℤ). length sizes) (sizes_of number all)
    (map (λ (n : ℕ). sizes_of n all) numbers) in
    omega (arith, first, rest, left, right)

-- ---- pages are counted by their first columns

state_is : (g : GalleyValue) (s : StyleValue) (plan : Pagination) →
    state_at (document g s) (columns plan) ≡ state_of g s plan
unfolding state_of
state_is g s plan = refl

-- a column begins a page exactly where the state before it is at a page's first column
one_page : (is_first : Bool) (page : Page) (column : Column) (pages : List Page) (low high : ℕ) → length pages ≤ low →
    low ≤ high → (is_first ≡ true → low < high) →
    length (if is_first then page ∷ pages else add_column column pages) ≤ high
one_page true page column pages low high few up more = let less = more refl in omega (arith, few, less)
one_page false page column [] low high few up more = omega arith
one_page false page column (last ∷ pages) low high few up more = omega (arith, few, up)

module _ (g : GalleyValue) (s : StyleValue) (range : AreInRange g s)
    (lawful : Lawful is_same_key (wide_meaning (document g s))) (begins : RunsAreBeginnings g s) where
  -- how far a state has come
  abbrev risen : State → ℕ
  risen u = far g.blocks u.place + total_count u.placed

  far_climbs : (from to : Place) → IsPlace g.blocks from → IsPast g.blocks from to →
      far g.blocks from < far g.blocks to
  far_climbs from to p q = far_rises g.blocks from to p q (past_within g.blocks from to q)

  own : (ms : List PageMove) (u : State) (c : ℤ) → Run (wide_meaning (document g s)) ms u c → IsState (document g s) u
  own [] u c (is, free) = subst (IsState (document g s)) (sym is) lawful.own_start
  own (m ∷ ms) v c (u, (n, k, (run, follow, sum))) = lawful.own_next u m v k (own ms u n run) follow

  -- the state behind a run stands at the column of its columns
  column_is : (ms : List PageMove) (u : State) (c : ℤ) → Run (wide_meaning (document g s)) ms u c →
      u.column ≡ next_column s ms
  column_is ms u c run =
      let it = begins ms u c run in
      let at : state_at (document g s) ms ≡ u =
      sym (ap (state_at (document g s)) it.columns) ∙ state_is g s (plan_of s ms) ∙ it.state in
      ap (λ (x : State). x.column) (sym at)

  more_of : (u v : State) → Climbs (far g.blocks) u v → (u.column == 1) ≡ true → risen u < risen v
  more_of u v climbs first = by climbs.more
    where
      by : (risen u < risen v) ⊎ (((u.column == 1) ≡ false) × ((v.column == 1) ≡ true)) → risen u < risen v
      by (inl up) = up
      by (inr (later, to)) = absurd cc

  pages_few : (ms : List PageMove) (u : State) (c : ℤ) → Run (wide_meaning (document g s)) ms u c →
      length (pages_from s ms) ≤ risen u
  pages_few [] u c run = omega arith
  pages_few (m ∷ ms) v c (u, (n, k, (run, follow, sum))) =
      let climbs = climbs_with (document g s) range.blocks range.style_in.columns_to (far g.blocks) far_climbs u m v k
      (own ms u n run) follow in
      let place = climbs.place in
      let placed = climbs.placed in
      let up : risen u ≤ risen v = omega (arith, place, placed) in
      one_page (next_column s ms == 1) (page_with m.run m.wide (m.column ∷ [])) m.column (pages_from s ms) (risen u)
      (risen v) (pages_few ms u n run) up
      (λ first. more_of u v climbs (subst (λ (i : ℕ). (i == 1) ≡ true) (sym (column_is ms u n run)) first))

  placed_within : (u : State) → IsState (document g s) u → total_count u.placed ≤ float_total g.blocks s
  placed_within u own =
      let long : length u.placed ≡ length (called g.blocks s u.place) =
      own.placed ∙ sym (length-map (float_numbers s)
      (λ (number : ℕ). length (sizes_of number (items_before g.blocks u.place)))) in
      let fewer = total_few u.placed (called g.blocks s u.place) long each in
      let all = called_few (items_before g.blocks u.place) (flat g.blocks []) (float_numbers s)
      (λ number. called_total (document g s) range.blocks number u.place) in
      omega (arith, fewer, all)
    where
      each : (i : ℕ) → i < length u.placed → entry u.placed i ≤ entry (called g.blocks s u.place) i
      each i less =
          let long : length u.placed ≡ length (float_numbers s) = own.placed in
          let here : 0 + i ≡ i = omega arith in
          let among : Among (0 + i) (slots s) = slot_among 0 (length (float_numbers s)) i (omega (arith, less, long)) in
          leb-true _ _ (all_at (λ (slot : ℕ). nat_le (entry u.placed slot)
          (entry (called g.blocks s u.place) slot)) (slots s) i own.called
          (subst (λ (n : ℕ). Among n (slots s)) here among))

  pub legal_small : BeginningsAreRuns g s → LegalAreDone g s → LegalAreSmall g s
  legal_small runs done plan legal =
      let it = runs plan (((done plan).0 legal).0) in
      let ms = columns plan in
      let u = state_of g s plan in
      let own = own ms u (cost g s plan) it.run in
      let pages = pages_few ms u (cost g s plan) it.run in
      let same = length-reverse (pages_from s ms) in
      let is = ap (λ (p : Pagination). length p.pages) it.plan_is in
      let within : far g.blocks u.place ≤ item_count g.blocks = far_within g.blocks u.place own.place in
      let limit : item_count g.blocks ≤ 1048576 = range.limit in
      let placed = placed_few g s range u own in
      let fewer = placed_within u own in
      record {
        pages = omega (arith, pages, same, is, within, limit, placed);
        few = λ floats. omega (arith, pages, same, is, within, limit, fewer, floats);
        cost = lawful.small_run ms u (cost g s plan) it.run;
      }
