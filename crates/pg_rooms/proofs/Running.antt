-- Layouts on the pages of all runs are those of the first one, on each.
use Rattle.std.proofs.Common.{◌≡◌, refl, sym, ap, ◌∙◌, ℕ, zero, suc, ◌+◌, ◌<◌, List, [], ◌∷◌, ◌++◌, append_assoc, get_or, length, map, take, false, Option, None, Some, ℤ, arith}
use Rattle.std.specs.Prelude.{◌==◌, ◌+ℤ◌, ◌-ℤ◌, unwrap_or, Result, Ok, Err, IfOk}
use Rattle.std.specs.List.{AllByRecursion, filter, flat_map, range_with_len}
use Rattle.std.proofs.lemmas.Int.{ints}
use Rattle.std.proofs.lemmas.Grind.{flat_map-append}
use Rattle.std.proofs.lemmas.List.{append-nil, map-append}
use Rattle.std.proofs.lemmas.Bool.{eqb-true}
use Rattle.pg_lemmas.proofs.Bools.{by_bool, if_false}
use Rattle.pg_lemmas.proofs.Lists.{one_more}
use Rattle.pg_floats.proofs.Ranges.{next_range}
use Rattle.pg_column.specs.Numbers.{IsRoom}
use Rattle.pg_column.specs.declared.cost.TextRoom.{TextRoom}
use Rattle.pg_style.specs.declared.style.Give.{Give}
use Rattle.pg_plan.specs.declared.states.State.{State}
use Rattle.pg_style.specs.Values.{StyleValue}
use Rattle.pg_rules.specs.Floats.{gap_shrink, gap_stretch, total_count}
use Rattle.pg_rules.specs.Room.{Document}
use Rattle.pg_layouts.specs.declared.layout.Layout.{Layout}
use Rattle.pg_layouts.specs.Layouts.{float_layouts, layout_of, runs_of, takes_run, text_layouts, wides_of, with_bottoms, with_floats, with_tops, zeros}
use Rattle.law_moves.specs.Listed.{placed_with}
use Rattle.law_moves.specs.Steps.{text_give, wide_of}
use Rattle.pg_small.specs.Parts.{with_run}
use Rattle.pg_rooms.specs.Laid.{IsLaid, laid_of}
use Rattle.pg_rooms.specs.Runs.{IsLow, first_run, full_in, laid_in, laid_in_all, laid_on}
use Rattle.pg_rooms.specs.declared.laid.Laid.{Laid}

-- ---- layouts of a run are those of another, with that run

map_over : {X Y Z : Type 0} (h : Y → Z) (f : X → Z) (g : X → Y) → ((x : X) → f x ≡ h (g x)) → (xs : List X) →
    map f xs ≡ map h (map g xs)
map_over h f g e [] = refl
map_over h f g e (x ∷ xs) = ap (λ z. z ∷ map f xs) (e x) ∙ ap (λ zs. h (g x) ∷ zs) (map_over h f g e xs)

flat_over : {X Y Z : Type 0} (h : Y → Z) (f : X → List Z) (g : X → List Y) → ((x : X) → f x ≡ map h (g x)) →
    (xs : List X) → flat_map f xs ≡ map h (flat_map g xs)
flat_over h f g e [] = refl
flat_over h f g e (x ∷ xs) = ap (λ zs. zs ++ flat_map f xs) (e x)
    ∙ (ap (λ zs. map h (g x) ++ zs) (flat_over h f g e xs) ∙ sym (map-append h (g x) (flat_map g xs)))

texts_run : (doc : Document) (u : State) (ceiling : List ℕ) (run : ℕ) →
    flat_map (with_tops doc.style u.placed ceiling run) (wides_of doc u ceiling)
    ≡ map (with_run run) (flat_map (with_tops doc.style u.placed ceiling 0) (wides_of doc u ceiling))
texts_run doc u ceiling run = flat_over (with_run run) (with_tops doc.style u.placed ceiling run)
    (with_tops doc.style u.placed ceiling 0)
    (λ wide. flat_over (with_run run) (with_bottoms doc.style u.placed ceiling run wide)
    (with_bottoms doc.style u.placed ceiling 0 wide)
    (λ top. map_over (with_run run) (layout_of run wide top) (layout_of 0 wide top) (λ bottom. refl) _) _)
    (wides_of doc u ceiling)

floats_run : (doc : Document) (u : State) (ceiling : List ℕ) (run : ℕ) →
    flat_map (with_floats doc.style u.placed ceiling run) (wides_of doc u ceiling)
    ≡ map (with_run run) (flat_map (with_floats doc.style u.placed ceiling 0) (wides_of doc u ceiling))
floats_run doc u ceiling run = flat_over (with_run run) (with_floats doc.style u.placed ceiling run)
    (with_floats doc.style u.placed ceiling 0)
    (λ wide. map_over (with_run run) (λ (top : List ℕ). layout_of run wide top (zeros doc.style))
    (λ (top : List ℕ). layout_of 0 wide top (zeros doc.style)) (λ top. refl) _)
    (wides_of doc u ceiling)

-- ---- one more

-- one more layout on a page of a run
pub run_more : (style : StyleValue) (run : ℕ) (first : List Laid) (i : ℕ) (x it : Laid) (old mid new : List Laid) →
    i < length first → x ≡ get_or first i x → it ≡ laid_in style run x →
    mid ≡ old ++ map (laid_in style run) (take i first) → new ≡ mid ++ it ∷ [] →
    new ≡ old ++ map (laid_in style run) (take (i + 1) first)
run_more style run first i x it old mid new less is e h n =
    n ∙ (ap (λ (xs : List Laid). xs ++ it ∷ []) h
    ∙ (append_assoc old (map (laid_in style run) (take i first)) (it ∷ [])
    ∙ (ap (λ (y : Laid). old ++ (map (laid_in style run) (take i first) ++ y ∷ [])) e
    ∙ ap (λ (ys : List Laid). old ++ ys) (sym (map-append (laid_in style run) (take i first) (x ∷ []))
    ∙ ap (map (laid_in style run)) (sym (one_more first i x less is))))))

-- those of one run more
pub runs_more : (f : ℕ → List Laid) (n : ℕ) (mid new : List Laid) → mid ≡ flat_map f (range_with_len 0 n) →
    new ≡ mid ++ f n → new ≡ flat_map f (range_with_len 0 (n + 1))
runs_more f n mid new h k =
    k ∙ (ap (λ (xs : List Laid). xs ++ f n) h
    ∙ (ap (λ (xs : List Laid). flat_map f (range_with_len 0 n) ++ xs) (sym (append-nil (f n)))
    ∙ (sym (flat_map-append f (range_with_len 0 n) (n ∷ [])) ∙ ap (flat_map f) (sym (next_range n)))))

-- low rooms are rooms
pub all_low : (laid : List Laid) → AllByRecursion (λ (it : Laid). IsLow it.room) laid →
    AllByRecursion (λ (it : Laid). IsRoom it.room) laid
all_low [] low = tt
all_low (it ∷ laid) low = (low.0.small, all_low laid low.1)

-- a layout by its parts
pub in_run_is : (style : StyleValue) (run : ℕ) (it : Laid) (layout : Layout) (after : List ℕ) (placed : ℕ) (room : TextRoom)
    (more : ℤ) → layout ≡ with_run run it.layout → after ≡ it.after → placed ≡ it.placed →
    more ≡ full_in style run -ℤ full_in style it.layout.run → room.size ≡ it.room.size +ℤ more →
    room.give ≡ it.room.give →
    ◌≡◌ {A = Laid} (record { layout = layout; wide = it.wide; after = after; placed = placed; room = room })
    (laid_in style run it)
in_run_is style run it layout after placed room more l a n m s g =
    same layout _ after _ placed _ room.size _ room.give _ l a n
    (s ∙ ap (λ (z : ℤ). it.room.size +ℤ z) m) g
  where
    same : (l l' : Layout) (a a' : List ℕ) (n n' : ℕ) (s s' : ℤ) (g g' : Give) → l ≡ l' → a ≡ a' → n ≡ n' → s ≡ s' →
        g ≡ g' → ◌≡◌ {A = Laid}
        (record { layout = l; wide = it.wide; after = a; placed = n; room = record { size = s; give = g } })
        (record { layout = l'; wide = it.wide; after = a'; placed = n'; room = record { size = s'; give = g' } })
    same l l' a a' n n' s s' g g' p q o r u = cc

-- ---- and so is what they make of their pages

shift : (f g w t b : ℤ) → ((((f -ℤ w) -ℤ t) -ℤ b) +ℤ (g -ℤ f)) ≡ (((g -ℤ w) -ℤ t) -ℤ b)
shift f g w t b = omega (arith, ints)

laid_run : (doc : Document) (u : State) (run : ℕ) (layout : Layout) →
    laid_in doc.style run (laid_of doc u layout) ≡ laid_of doc u (with_run run layout)
laid_run doc u run layout = ap {A = ℤ} {B = Laid} (λ (size : ℤ). record {
  layout = with_run run layout;
  wide = wide_of doc u layout.wide;
  after = placed_with doc.style u.placed layout;
  placed = total_count (placed_with doc.style u.placed layout);
  room = record {
    size = size;
    give = record { stretch = text_give gap_stretch doc u layout; shrink = text_give gap_shrink doc u layout };
  };
}) (shift (full_in doc.style layout.run) (full_in doc.style run) _ _ _)

-- ---- all runs

every_run : (runs : List ℕ) → filter (takes_run None) runs ≡ runs
every_run [] = refl
every_run (run ∷ runs) = ap (λ (rest : List ℕ). run ∷ rest) (every_run runs)

no_first : (from n : ℕ) → filter (takes_run (Some 0)) (range_with_len (suc from) n) ≡ []
no_first from zero = refl
no_first from (suc n) =
    let e : suc from + 1 ≡ suc (from + 1) = omega arith in
    let f : (suc from == 0) ≡ false = by_bool (suc from == 0)
    (λ t. (let z : suc from ≡ 0 = eqb-true (suc from) 0 t in absurd (omega (arith, z)))) (λ f. f) in
    if_false (suc from == 0) (suc from ∷ filter (takes_run (Some 0)) (range_with_len (suc from + 1) n))
    (filter (takes_run (Some 0)) (range_with_len (suc from + 1) n)) f
    ∙ (ap (λ (next : ℕ). filter (takes_run (Some 0)) (range_with_len next n)) e ∙ no_first (from + 1) n)

module _ (doc : Document) (u : State) (of_run : ℕ → List Layout)
    (alike : (run : ℕ) → of_run run ≡ map (with_run run) (of_run 0)) where
  each_run : (run : ℕ) → map (laid_in doc.style run) (map (laid_of doc u) (of_run 0)) ≡ map (laid_of doc u) (of_run run)
  each_run run = same (of_run 0) ∙ ap (map (laid_of doc u)) (sym (alike run))
    where
      same : (layouts : List Layout) → map (laid_in doc.style run) (map (laid_of doc u) layouts)
          ≡ map (laid_of doc u) (map (with_run run) layouts)
      same [] = refl
      same (layout ∷ layouts) =
          ap (λ (it : Laid). it ∷ map (laid_in doc.style run) (map (laid_of doc u) layouts)) (laid_run doc u run layout)
          ∙ ap (λ (all : List Laid). laid_of doc u (with_run run layout) ∷ all) (same layouts)

  all_in : (runs : List ℕ) → flat_map (laid_in_all doc.style (map (laid_of doc u) (of_run 0))) runs
      ≡ map (laid_of doc u) (flat_map of_run runs)
  all_in runs = flat_over (laid_of doc u) (laid_in_all doc.style (map (laid_of doc u) (of_run 0))) of_run each_run runs

  on_none : (n : ℕ) → flat_map (laid_in_all doc.style (map (laid_of doc u)
      (flat_map of_run (filter (takes_run (Some 0)) (range_with_len 0 n))))) (range_with_len 0 n)
      ≡ map (laid_of doc u) (flat_map of_run (filter (takes_run None) (range_with_len 0 n)))
  on_none zero = refl
  on_none (suc n) =
      ap (λ (runs : List ℕ). flat_map (laid_in_all doc.style (map (laid_of doc u) (of_run 0 ++ flat_map of_run runs)))
      (range_with_len 0 (suc n))) (no_first 0 n)
      ∙ (ap (λ (layouts : List Layout). flat_map (laid_in_all doc.style (map (laid_of doc u) layouts))
      (range_with_len 0 (suc n))) (append-nil (of_run 0))
      ∙ (all_in (range_with_len 0 (suc n))
      ∙ ap (λ (runs : List ℕ). map (laid_of doc u) (flat_map of_run runs)) (sym (every_run (range_with_len 0 (suc n))))))

  on_all : (must : Option ℕ) (first all : List Laid) →
      first ≡ map (laid_of doc u) (flat_map of_run (runs_of doc.style (Some (unwrap_or must 0)))) →
      all ≡ laid_on doc.style must first → all ≡ map (laid_of doc u) (flat_map of_run (runs_of doc.style must))
  on_all (Some run) first all e a = a ∙ e
  on_all None first all e a = a ∙ (ap (laid_on doc.style None) e ∙ on_none (length doc.style.runs))

-- the layouts of columns of text on the pages of all runs that a page may have
texts_on : (doc : Document) (u : State) (ceiling : List ℕ) (first all : List Laid) →
    first ≡ map (laid_of doc u) (text_layouts doc (first_run u) ceiling) → all ≡ laid_on doc.style u.run first →
    all ≡ map (laid_of doc u) (text_layouts doc u ceiling)
texts_on doc u ceiling first all e a = on_all doc u
    (λ (run : ℕ). flat_map (with_tops doc.style u.placed ceiling run) (wides_of doc u ceiling))
    (texts_run doc u ceiling) u.run first all e a

-- and those of columns without text
floats_on : (doc : Document) (u : State) (ceiling : List ℕ) (first all : List Laid) →
    first ≡ map (laid_of doc u) (float_layouts doc (first_run u) ceiling) → all ≡ laid_on doc.style u.run first →
    all ≡ map (laid_of doc u) (float_layouts doc u ceiling)
floats_on doc u ceiling first all e a = on_all doc u
    (λ (run : ℕ). flat_map (with_floats doc.style u.placed ceiling run) (wides_of doc u ceiling))
    (floats_run doc u ceiling) u.run first all e a

-- what layouts ask of a state no run changes
pub laid_first : (doc : Document) (u : State) (layout : Layout) → IsLaid doc (first_run u) layout → IsLaid doc u layout
laid_first doc u layout is = record { wide = is.wide; top = is.top; bottom = is.bottom }

pub on_texts : {V E : Type 0} (items : V → List Laid) (r : Result V E) (doc : Document) (u : State) (ceiling : List ℕ)
    (first : List Laid) → first ≡ map (laid_of doc u) (text_layouts doc (first_run u) ceiling) →
    IfOk r (λ all. items all ≡ laid_on doc.style u.run first) →
    IfOk r (λ all. items all ≡ map (laid_of doc u) (text_layouts doc u ceiling))
on_texts items (Err e) doc u ceiling first is h = tt
on_texts items (Ok all) doc u ceiling first is h = texts_on doc u ceiling first (items all) is h

pub on_floats : {V E : Type 0} (items : V → List Laid) (r : Result V E) (doc : Document) (u : State) (ceiling : List ℕ)
    (first : List Laid) → first ≡ map (laid_of doc u) (float_layouts doc (first_run u) ceiling) →
    IfOk r (λ all. items all ≡ laid_on doc.style u.run first) →
    IfOk r (λ all. items all ≡ map (laid_of doc u) (float_layouts doc u ceiling))
on_floats items (Err e) doc u ceiling first is h = tt
on_floats items (Ok all) doc u ceiling first is h = floats_on doc u ceiling first (items all) is h
