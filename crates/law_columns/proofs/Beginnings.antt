-- The runs of columns are the beginnings.
use Rattle.std.proofs.Common.{◌≡◌, ℕ, ◌+◌, ◌-◌, ◌≤◌, ◌<◌, List, [], ◌∷◌, ◌++◌, length, Bool, true, false, arith}
use Rattle.std.specs.Prelude.{◌==◌, if◌then◌else◌, nat_lt}
use Rattle.pg_list.specs.declared.galley.Place.{Place}
use Rattle.pg_plan.specs.declared.pages.PageMove.{PageMove}
use Rattle.pg_rules.specs.Room.{Document}
use Rattle.pg_rules.specs.Floats.{entry, called, float_numbers}
use Rattle.pg_rules.specs.History.{next_column, next_page, place_of, placed_of, is_called, calling_page}
use Rattle.pg_rules.specs.Legal.{added, distance, has_dealt_all}
use Rattle.pg_rules.specs.Floats.{distance_table}
use Rattle.pg_rules.specs.States.{age, waiting, can_wait}
use Rattle.law_places.proofs.Among.{Among, all_at, all_of}
use Rattle.law_columns.specs.Stands.{IsBeginning, Stand}
use Rattle.law_columns.proofs.Push.{HasTables}
use Rattle.law_columns.proofs.Waiting.{IsBetween, between_at, between_of}
use Rattle.pg_lemmas.proofs.Bools.{by_bool}
use Rattle.pg_lemmas.proofs.Numbers.{less_of, not_less, less_true}

-- of columns that stand behind one another, those before some do
pub stand_behind : (doc : Document) (more ms : List PageMove) → Stand doc (more ++ ms) → Stand doc ms
stand_behind doc [] ms stand = stand
stand_behind doc (m ∷ more) ms stand = stand_behind doc more ms stand.1

-- what the galley gives: tables have entries, at the start no float is called, and along a column that fits
-- callouts only grow
pub record Facts (doc : Document) : Type 0 where
  pub tables : HasTables doc
  pub starts : (slot : ℕ) → entry (called doc.blocks doc.style (place_of [])) slot ≡ 0
  pub total : (at : Place) (placed : List ℕ) (slot : ℕ) → slot < length (float_numbers doc.style) →
      has_dealt_all doc placed ≡ true → entry (called doc.blocks doc.style at) slot ≤ entry placed slot
  pub grows : (m : PageMove) (ms : List PageMove) (slot : ℕ) → Stand doc (m ∷ ms) →
      entry (called doc.blocks doc.style (place_of ms)) slot ≤ entry (called doc.blocks doc.style m.column.to)
      slot

young_step : (b : Bool) (c n n' x : ℕ) (k : ℕ) → b ≡ true → nat_lt (n - (if b then c else x)) k ≡ true →
    nat_lt (n - c) k ≡ true
young_step true c n n' x k e h = h
young_step false c n n' x k e h = absurd cc

page_less : (b : Bool) (n c k : ℕ) → nat_lt ((if b then n + 1 else n) - c) k ≡ true → nat_lt (n - c) k ≡ true
page_less false n c k h = h
page_less true n c k h = let p : n + 1 - c < k = less_true (n + 1 - c) k h in less_of (n - c) k (omega arith)

-- where a column stands after a list, and no float waits too long behind it, none does before it
pub waits_before : (doc : Document) → Facts doc → (m : PageMove) (ms : List PageMove) → Stand doc (m ∷ ms) →
    can_wait doc (m ∷ ms) ≡ true → can_wait doc ms ≡ true
waits_before doc facts m ms s c =
    all_of (λ (x : ℕ × ℕ). nat_lt (age doc ms x) (length (distance_table doc.style x.0))) (waiting doc ms)
    each
  where
    grown : (slot : ℕ) → entry (called doc.blocks doc.style (place_of ms)) slot
        ≤ entry (called doc.blocks doc.style m.column.to) slot
    grown slot = facts.grows m ms slot s

    each : (x : ℕ × ℕ) → Among x (waiting doc ms) →
        nat_lt (age doc ms x) (length (distance_table doc.style x.0)) ≡ true
    each x a =
        let r : IsBetween doc.style (placed_of doc.style ms) (called doc.blocks doc.style (place_of ms)) x =
        between_at doc.style (placed_of doc.style ms) (called doc.blocks doc.style (place_of ms)) x a in
        let here : is_called doc (place_of ms) x ≡ true =
        less_of x.1 (entry (called doc.blocks doc.style (place_of ms)) x.0) r.to in
        by_bool (nat_lt x.1 (entry (placed_of doc.style (m ∷ ms)) x.0))
        (λ t. young_step (is_called doc (place_of ms) x) (calling_page doc ms x) (next_page doc.style ms) 0
        (next_page doc.style ms) (length (distance_table doc.style x.0)) here
        (all_at (λ (y : ℕ × ℕ). nat_lt (distance doc m ms y) (length (distance_table doc.style y.0)))
        (added doc (placed_of doc.style ms) m) x s.0.near
        (between_of doc.style (placed_of doc.style ms) (placed_of doc.style (m ∷ ms)) x
        (record { slot = r.slot; from = r.from; to = less_true _ _ t }))))
        (λ f. let g : entry (called doc.blocks doc.style (place_of ms)) x.0
        ≤ entry (called doc.blocks doc.style m.column.to) x.0 = grown x.0 in
        let q : x.1 < entry (called doc.blocks doc.style (place_of ms)) x.0 = r.to in
        page_less (next_column doc.style ms == doc.style.columns) (next_page doc.style ms)
        (calling_page doc ms x) (length (distance_table doc.style x.0))
        (young_step (is_called doc (place_of ms) x) (calling_page doc ms x) (next_page doc.style (m ∷ ms)) 0
        (next_page doc.style ms) (length (distance_table doc.style x.0)) here
        (all_at (λ (y : ℕ × ℕ). nat_lt (age doc (m ∷ ms) y) (length (distance_table doc.style y.0)))
        (waiting doc (m ∷ ms)) x c (between_of doc.style (placed_of doc.style (m ∷ ms))
        (called doc.blocks doc.style m.column.to) x (record {
          slot = r.slot;
          from = not_less _ _ f;
          to =
              omega arith;
        })))))

pub beginning_before : (doc : Document) → Facts doc → (m : PageMove) (ms : List PageMove) →
    IsBeginning doc (m ∷ ms) → IsBeginning doc ms
beginning_before doc facts m ms b =
    record { stand = b.stand.1; waits = waits_before doc facts m ms b.stand b.waits }

pub empty_beginning : (doc : Document) → Facts doc → IsBeginning doc []
empty_beginning doc facts = record {
  stand = tt;
  waits =
      all_of (λ (x : ℕ × ℕ). nat_lt (age doc [] x) (length (distance_table doc.style x.0))) (waiting doc [])
      (λ x a. let r : IsBetween doc.style (placed_of doc.style []) (called doc.blocks doc.style (place_of []))
      x = between_at doc.style (placed_of doc.style []) (called doc.blocks doc.style (place_of [])) x a in
      let z : entry (called doc.blocks doc.style (place_of [])) x.0 ≡ 0 = facts.starts x.0 in
      let q : x.1 < entry (called doc.blocks doc.style (place_of [])) x.0 = r.to in absurd (omega arith));
}
