-- The labels of a filled table over states in code are labels of the walk.
use Rattle.std.proofs.Common.{◌≡◌, refl, sym, ap, ◌∙◌, subst, ℕ, List, [], ◌∷◌, map, true, inl, inr, ℤ, Option}
use Rattle.std.specs.Prelude.{Contains, option_map}
use Rattle.std.proofs.lemmas.Option.{slice_get-map}
use Rattle.pg_rules.specs.Room.{Document}
use Rattle.pg_hops.specs.declared.state.State.{State}
use Rattle.pg_table.specs.Label.{Covered, IsLabel, IsTable, RunOf}
use Rattle.pg_table.specs.Space.{IsRun, Reached, Run}
use Rattle.pg_table.specs.declared.table.Entry.{Entry}
use Rattle.law_walk.specs.Best.{IsAmong}
use Rattle.law_walk.specs.Space.{HasLabels, Picks, WalkState, is_no_worse, walk_meaning}
use Rattle.law_walk.proofs.BestLaws.{among_contains, contains_among}
use Rattle.pg_walk.specs.Meaning.{next_state, space_meaning, state_of}
use Rattle.pg_walk.specs.WalkLawful.{next_leads}

-- a label with another state
abbrev pub with_state : {S T : Type 0} → (S → T) → Entry S ℕ → Entry T ℕ
with_state f e = record { cost = e.cost; parent = e.parent; reach = e.reach; state = f e.state; by = e.by }

-- a label with the state of the walk
abbrev pub entry_of : Entry State ℕ → Entry WalkState ℕ
entry_of = with_state state_of

abbrev pub entries_of : List (Entry State ℕ) → List (Entry WalkState ℕ)
entries_of es = map entry_of es

-- ---- elements of a list that is mapped

pub among_map : {X Y : Type 0} (f : X → Y) (xs : List X) (x : X) → IsAmong x xs → IsAmong (f x) (map f xs)
among_map f [] x a = absurd a
among_map f (y ∷ xs) x (inl p) = inl (ap f p)
among_map f (y ∷ xs) x (inr a) = inr (among_map f xs x a)

pub record HasOrigin {X Y : Type 0} (f : X → Y) (xs : List X) (y : Y) : Type 0 where
  pub origin : X
  pub among : IsAmong origin xs
  pub is : f origin ≡ y

pub origin_of : {X Y : Type 0} (f : X → Y) (xs : List X) (y : Y) → IsAmong y (map f xs) → HasOrigin f xs y
origin_of f [] y a = absurd a
origin_of f (x ∷ xs) y (inl p) = record { origin = x; among = inl refl; is = p }
origin_of f (x ∷ xs) y (inr a) = let r = origin_of f xs y a in
    record { origin = r.origin; among = inr r.among; is = r.is }

pub run_of_mapped : {S T : Type 0} (f : S → T) (es : List (Entry S ℕ)) (e : Entry S ℕ) (ms : List ℕ) →
    RunOf es e ms → RunOf (map (with_state f) es) (with_state f e) ms
run_of_mapped f es e [] h = h
run_of_mapped {S} f es e (m ∷ ms) (h, (p, (at, run))) = (
  h,
  (
    with_state f p,
    (
      slice_get-map (with_state f) es e.parent ∙
          ap (λ (o : Option (Entry S ℕ)). option_map (with_state f) o) at,
      run_of_mapped f es p ms run,
    ),
  ),
)

module _ (doc : Document) (top : ℤ) (start : State) (es : List (Entry State ℕ))
    (table : IsTable (space_meaning doc top start) es) where
  run_down : (ms : List ℕ) (v : State) (c : ℤ) → Run (space_meaning doc top start) ms v c →
      Run (walk_meaning doc top (state_of start)) ms (state_of v) c
  run_down [] v c (e, z) = (ap state_of e, z)
  run_down (m ∷ ms) v c (u, (n, k, (run, f, sum))) = (state_of u, (n, k, (run_down ms u n run, f.picks, sum)))

  record IsLifted (ms : List ℕ) (w : WalkState) (c : ℤ) : Type 0 where
    state : State
    is : state_of state ≡ w
    run : Run (space_meaning doc top start) ms state c

  run_up : (ms : List ℕ) (w : WalkState) (c : ℤ) → Run (walk_meaning doc top (state_of start)) ms w c →
      IsLifted ms w c
  run_up [] w c (e, z) = record { state = start; is = sym e; run = (refl, z) }
  run_up (m ∷ ms) w c (u, (n, k, (run, f, sum))) = more (run_up ms u n run)
    where
      more : IsLifted ms u n → IsLifted (m ∷ ms) w c
      more r =
          let g : Picks doc top (state_of r.state) m w k =
          subst (λ (x : WalkState). Picks doc top x m w k) (sym r.is) f in
          record {
            state = next_state doc r.state m w;
            is = refl;
            run = (r.state, (n, k, (r.run, next_leads doc top r.state m w k g, sum)));
          }

  labels : (e : Entry WalkState ℕ) → Contains (entries_of es) e →
      IsLabel (walk_meaning doc top (state_of start)) (entries_of es) e
  labels e c =
      let o : HasOrigin entry_of es e = origin_of entry_of es e (contains_among (entries_of es) e c) in
      let l = table.labels o.origin (among_contains es o.origin o.among) in
      subst (IsLabel (walk_meaning doc top (state_of start)) (entries_of es)) o.is (record {
        moves = l.moves;
        run_of = run_of_mapped state_of es o.origin l.moves l.run_of;
        run = run_down l.moves o.origin.state o.origin.cost l.run;
      })

  covered : (r : Reached WalkState ℕ) → IsRun (walk_meaning doc top (state_of start)) r →
      Covered (walk_meaning doc top (state_of start)) (entries_of es) r
  covered r run =
      let l : IsLifted r.moves r.state r.cost = run_up r.moves r.state r.cost run in
      let w = table.covered (record { moves = r.moves; state = l.state; cost = r.cost }) l.run in
      record {
        entry = entry_of w.entry;
        moves = w.moves;
        among = among_contains (entries_of es) (entry_of w.entry)
            (among_map entry_of es w.entry (contains_among es w.entry w.among));
        run_of = run_of_mapped state_of es w.entry w.moves w.run_of;
        better = record {
          no_worse = subst (λ (x : WalkState). is_no_worse (state_of w.entry.state) x ≡ true) l.is w.better.no_worse;
          undercuts = w.better.undercuts;
        };
      }

  -- a filled table has the labels of the walk
  pub lifted : HasLabels (walk_meaning doc top (state_of start)) (entries_of es)
  lifted = record { labels = labels; covered = covered }
