-- The laws of the walk over its states in code.
use Rattle.std.proofs.Common.{◌≡◌, refl, sym, ap, ◌∙◌, ℕ, ◌≤◌, ◌^◌, List, [], ◌∷◌, length, drop, arith, Bool, true, false, Option, nat_eq, ℤ}
use Rattle.std.specs.Prelude.{◌&&◌}
use Rattle.std.specs.Bool.{beq}
use Rattle.std.specs.Ordering.{int_eq}
use Rattle.std.proofs.lemmas.Bool.{eqb-true}
use Rattle.std.specs.List.{AllByRecursion}
use Rattle.pg_list.specs.Counts.{item_count}
use Rattle.pg_list.specs.GalleyValue.{GalleyValue}
use Rattle.pg_list.proofs.Sizes.{blocks_le}
use Rattle.pg_rules.specs.Legal.{document}
use Rattle.pg_rules.specs.Ranges.{AreInRange}
use Rattle.pg_style.specs.Values.{StyleValue}
use Rattle.pg_list.specs.Shapes.{IsBlock}
use Rattle.pg_notes.specs.declared.sums.NoteSum.{NoteSum}
use Rattle.pg_rules.specs.Room.{Document}
use Rattle.pg_sums.specs.declared.totals.Totals.{Totals}
use Rattle.pg_hops.specs.View.{view}
use Rattle.pg_hops.specs.declared.state.State.{State}
use Rattle.pg_table.specs.Space.{Lawful, Run, Simulates}
use Rattle.law_walk.specs.Space.{Picks, WalkKey, WalkState, same_bool, same_totals, walk_meaning}
use Rattle.law_walk.specs.Walk.{picked_stretch}
use Rattle.pg_lemmas.proofs.Bools.{both, both_of}
use Rattle.pg_lemmas.proofs.Numbers.{eq_refl}
use Rattle.pg_sums.specs.contracts.totals.TotalsPartialEq.TheImpl as totals_impl
use Rattle.pg_walk.specs.contracts.space.KeyPartialEq.TheImpl as key_impl
use Rattle.law_walk.proofs.SpaceLaws.{past_parts, totals_itself, totals_same, walk_lawful}
use Rattle.pg_walk.specs.declared.space.Key.{Key}
use Rattle.pg_walk.specs.Meaning.{IsOwn, Leads, next_state, space_meaning, state_of}
use Rattle.pg_walk.specs.Reaching.{behind_next, behind_own}
use Rattle.pg_hops.proofs.Left.{picked_left}

-- ---- the derived tests

abbrev pub totals_test : Totals → Totals → Bool
totals_test = totals_impl.ghosts.eq

abbrev pub key_test : Key → Key → Bool
key_test = key_impl.ghosts.eq

bools : (x y : Bool) → beq x y ≡ same_bool x y
bools true true = refl
bools true false = refl
bools false true = refl
bools false false = refl

pub totals_tests : (a b : Totals) → totals_test a b ≡ same_totals a b
totals_tests a b = ap (λ (z : Bool). int_eq a.total b.total
    && (int_eq a.depth b.depth && (z && (int_eq a.finite b.finite && (int_eq a.fil b.fil
    && (int_eq a.fill b.fill && (int_eq a.filll b.filll && int_eq a.shrink b.shrink))))))) (bools a.has_box b.has_box)

key_decides : (a b : Key) → key_test a b ≡ true → a ≡ b
key_decides a b e =
    let two = both_of (nat_eq a.block b.block) (totals_test a.totals b.totals) e in
    make a.block b.block a.totals b.totals (eqb-true a.block b.block two.0)
    (totals_same a.totals b.totals (sym (totals_tests a.totals b.totals) ∙ two.1))
  where
    make : (m n : ℕ) (t t' : Totals) → m ≡ n → t ≡ t' →
        ◌≡◌ {A = Key} (record { block = m; totals = t }) (record { block = n; totals = t' })
    make m n t t' p q = rw (p, q) refl

key_itself : (a : Key) → key_test a a ≡ true
key_itself a = both (nat_eq a.block a.block) (totals_test a.totals a.totals) (eq_refl a.block)
    (totals_tests a.totals a.totals ∙ totals_itself a.totals)

-- ---- states

-- the same state by its parts
pub state_same : (b b' : ℕ) (t t' : Totals) (ns ns' : List NoteSum) (o o' : Option ℤ) (s s' m m' : ℤ) (c c' k k' : ℕ) →
    b ≡ b' → t ≡ t' → ns ≡ ns' → o ≡ o' → s ≡ s' → m ≡ m' → c ≡ c' → k ≡ k' →
    ◌≡◌ {A = State} (record {
      block = b;
      passed = record {
        sums = record { topskip = s; maxdepth = m; count = c; totals = t };
        notes = record { sums = ns; count = k };
        bound = o;
      };
    }) (record {
      block = b';
      passed = record {
        sums = record { topskip = s'; maxdepth = m'; count = c'; totals = t' };
        notes = record { sums = ns'; count = k' };
        bound = o';
      };
    })
state_same b b' t t' ns ns' o o' s s' m m' c c' k k' p1 p2 p3 p4 p5 p6 p7 p8 =
    rw (p1, p2, p3, p4, p5, p6, p7, p8) refl

pub next_leads : (doc : Document) (top : ℤ) (u : State) (pick : ℕ) (w : WalkState) (c : ℤ) →
    Picks doc top (state_of u) pick w c → Leads doc top u pick (next_state doc u pick w) c
next_leads doc top u pick w c f =
    record { picks = f; topskip = refl; maxdepth = refl; sums = refl; notes = refl }

module _ (doc : Document) (top : ℤ) (all : AllByRecursion IsBlock doc.blocks) (few : length doc.blocks ≤ 2 ^ 20)
    (start : State) (own : IsOwn doc top start) where
  abbrev key_back : WalkKey → Key
  key_back k = record { block = k.block; totals = k.totals }

  same_key : (a b : WalkKey) → key_back a ≡ key_back b → a ≡ b
  same_key a b e = make a.block b.block a.totals b.totals (ap (λ (k : Key). k.block) e) (ap (λ (k : Key). k.totals) e)
    where
      make : (m n : ℕ) (t t' : Totals) → m ≡ n → t ≡ t' →
          ◌≡◌ {A = WalkKey} (record { block = m; totals = t }) (record { block = n; totals = t' })
      make m n t t' p q = rw (p, q) refl

  walk : Lawful (λ a b. key_test (key_back a) (key_back b)) (walk_meaning doc top (state_of start))
  walk = walk_lawful doc all few top (state_of start) own.block (λ a b. key_test (key_back a) (key_back b))
      (λ a b e. same_key a b (key_decides (key_back a) (key_back b) e)) (λ a. key_itself (key_back a))

  run_down : (ms : List ℕ) (v : State) (c : ℤ) → Run (space_meaning doc top start) ms v c →
      Run (walk_meaning doc top (state_of start)) ms (state_of v) c
  run_down [] v c (e, z) = (ap state_of e, z)
  run_down (m ∷ ms) v c (u, (n, k, (run, f, sum))) = (state_of u, (n, k, (run_down ms u n run, f.picks, sum)))

  next_own : (u : State) (m : ℕ) (v : State) (c : ℤ) → IsOwn doc top u → Leads doc top u m v c → IsOwn doc top v
  next_own u m v c o f =
      let left = picked_left doc.blocks u.block m in
      let front = ap (λ (b : ℕ). item_count (drop b doc.blocks)) f.picks.leads in
      record {
        block = walk.own_next (state_of u) m (state_of v) c o.block f.picks;
        style = record { topskip = f.topskip ∙ o.style.topskip; maxdepth = f.maxdepth ∙ o.style.maxdepth };
        bound = (past_parts doc top (view u.passed) (view v.passed) (picked_stretch doc.blocks u.block m)
            f.picks.past).1;
        sums = omega (arith, left, front, f.sums, o.sums);
        notes = omega (arith, left, front, f.notes, o.notes);
      }

  one_state : (u : State) (m : ℕ) (v w : State) (c d : ℤ) → Leads doc top u m v c → Leads doc top u m w d →
      (v ≡ w) × (c ≡ d)
  one_state u m v w c d f g =
      let r = walk.determined (state_of u) m (state_of v) (state_of w) c d f.picks g.picks in (
        state_same _ _ _ _ _ _ _ _ _ _ _ _ _ _ _ _ (ap (λ (x : WalkState). x.block) r.0)
            (ap (λ (x : WalkState). x.passed.totals) r.0) (ap (λ (x : WalkState). x.passed.notes) r.0)
            (ap (λ (x : WalkState). x.passed.bound) r.0) (f.topskip ∙ sym g.topskip) (f.maxdepth ∙ sym g.maxdepth)
            (f.sums ∙ sym g.sums) (f.notes ∙ sym g.notes),
        r.1,
      )

  follows : (u v : State) (m : ℕ) (w : State) (c : ℤ) →
      Simulates (walk_meaning doc top (state_of start)) (state_of u) m (state_of w) c →
      Simulates (space_meaning doc top start) u m w c
  follows u v m w c s = record {
    to = next_state doc u m s.to;
    cost = s.cost;
    follow = next_leads doc top u m s.to s.cost s.follow;
    cheap = s.cheap;
    no_worse = s.no_worse;
  }

  pub space_lawful : Lawful key_test (space_meaning doc top start)
  space_lawful = record {
    own_start = own;
    own_next = next_own;
    determined = one_state;
    rises = λ u m v c o f. walk.rises (state_of u) m (state_of v) c o.block f.picks;
    rank_fits = λ u o. walk.rank_fits (state_of u) o.block;
    reflexive = λ u o. walk.reflexive (state_of u) o.block;
    transitive = λ u v w a b c p q.
        walk.transitive (state_of u) (state_of v) (state_of w) a.block b.block c.block p q;
    one_key = λ u v a b p. walk.one_key (state_of u) (state_of v) a.block b.block p;
    one_rank = λ u v a b p. walk.one_rank (state_of u) (state_of v) a.block b.block p;
    one_block = λ u v a b p. walk.one_block (state_of u) (state_of v) a.block b.block p;
    simulates = λ u v m w c a b n f. follows u v m w c
        (walk.simulates (state_of u) (state_of v) m (state_of w) c a.block b.block n f.picks);
    done = λ u v a b n d. walk.done (state_of u) (state_of v) a.block b.block n d;
    order_equal = walk.order_equal;
    order_total = walk.order_total;
    onward = λ u m v c o f. walk.onward (state_of u) m (state_of v) c o.block f.picks;
    reach_own = λ u o. let l = behind_own doc top (state_of u) in omega (arith, l);
    reach_next = λ u m v c o f. let l = behind_next doc top (state_of u) m (state_of v) c f.picks in omega (arith, l);
    small_move = λ u m v c o f. walk.small_move (state_of u) m (state_of v) c o.block f.picks;
    small_run = λ ms u c r. walk.small_run ms (state_of u) c (run_down ms u c r);
    few_moves = λ ms u c r. walk.few_moves ms (state_of u) c (run_down ms u c r);
  }

pub walk_space_lawful : (galley : GalleyValue) (style : StyleValue) (top : ℤ) (start : State) →
    AreInRange galley style →
    IsOwn (document galley style) top start → Lawful key_test (space_meaning (document galley style) top start)
walk_space_lawful galley style top start range own =
    let long = blocks_le galley.blocks range.blocks in
    let limit = range.limit in
    space_lawful (document galley style) top range.blocks (omega (arith, long, limit)) start own
