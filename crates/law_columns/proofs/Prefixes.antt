-- Paginations and lists of columns: legal ones, beginnings, and their states.
use Rattle.std.proofs.Common.{◌≡◌, refl, sym, ap, subst, ℕ, ◌≤◌, ◌<◌, List, length, true, None, arith}
use Rattle.std.specs.Prelude.{reverse, nat_lt}
use Rattle.pg_list.specs.GalleyValue.{GalleyValue}
use Rattle.pg_plan.specs.declared.pages.PageMove.{PageMove}
use Rattle.pg_plan.specs.Order.{columns}
use Rattle.pg_plan.specs.declared.pages.Pagination.{Pagination}
use Rattle.pg_style.specs.Values.{StyleValue}
use Rattle.pg_rules.specs.Cost.{cost, cost_of}
use Rattle.pg_rules.specs.Floats.{entry, called}
use Rattle.pg_rules.specs.History.{place_of, placed_of}
use Rattle.pg_rules.specs.Legal.{Legal, breach, document, ends_spent, has_dealt_all, unless, is_spent_at}
use Rattle.pg_rules.specs.Floats.{distance_table}
use Rattle.pg_rules.specs.States.{Prefix, prefix_breach, state_of, state_at, can_wait, waiting, age, is_done}
use Rattle.law_places.proofs.Among.{all_of}
use Rattle.law_columns.specs.Pages.{plan_of}
use Rattle.law_columns.specs.Stands.{IsBeginning, Stand}
use Rattle.law_columns.proofs.Beginnings.{Facts}
use Rattle.law_columns.proofs.Faults.{Sound, none_unless, of_sound, sound_of, unless_none}
use Rattle.law_columns.proofs.PagesLaws.{IsPlanOf, plan_back, plan_there}
use Rattle.law_columns.proofs.Waiting.{IsBetween, between_at}
use Rattle.pg_lemmas.proofs.Bools.{both_of, both}

module _ (g : GalleyValue) (s : StyleValue) (facts : Facts (document g s)) (some : 1 ≤ s.columns) where
  all_placed : (ms : List PageMove) → has_dealt_all (document g s) (placed_of s ms) ≡ true →
      can_wait (document g s) ms ≡ true
  all_placed ms h = all_of (λ (x : ℕ × ℕ). nat_lt (age (document g s) ms x) (length (distance_table s x.0)))
      (waiting (document g s) ms)
      (λ x a.
      let r : IsBetween s (placed_of s ms) (called g.blocks s (place_of ms)) x =
      between_at s (placed_of s ms) (called g.blocks s (place_of ms)) x a in
      let t : entry (called g.blocks s (place_of ms)) x.0 ≤ entry (placed_of s ms) x.0 =
      facts.total (place_of ms) (placed_of s ms) x.0 r.slot h in
      let p : entry (placed_of s ms) x.0 ≤ x.1 = r.from in
      let q : x.1 < entry (called g.blocks s (place_of ms)) x.0 = r.to in
      absurd (omega arith))

  pub prefix_sound : (plan : Pagination) → Prefix g s plan →
      Sound (document g s) (reverse plan.pages) (columns plan) None None
  unfolding prefix_breach
  prefix_sound plan p = sound_of (document g s) (reverse plan.pages) (columns plan) None None p.unbroken

  legal_sound : (plan : Pagination) → Legal g s plan →
      Sound (document g s) (reverse plan.pages) (columns plan)
      (unless (ends_spent (document g s) (columns plan)) (length (columns plan)))
      (unless (has_dealt_all (document g s) (placed_of s (columns plan))) (length (columns plan)))
  unfolding breach
  legal_sound plan l = sound_of (document g s) (reverse plan.pages) (columns plan) _ _ l.unbroken

  -- a legal pagination is a beginning
  pub legal_prefix : (plan : Pagination) → Legal g s plan → Prefix g s plan
  unfolding prefix_breach
  legal_prefix plan l =
      let a : Sound (document g s) (reverse plan.pages) (columns plan)
      (unless (ends_spent (document g s) (columns plan)) (length (columns plan)))
      (unless (has_dealt_all (document g s) (placed_of s (columns plan))) (length (columns plan))) =
      legal_sound plan l in
      record {
        unbroken = of_sound (document g s) (reverse plan.pages) (columns plan) None None
            (record { filled = a.filled; stand = a.stand; ended = refl; dealt = refl });
        can_wait = all_placed (columns plan) (unless_none _ _ a.dealt);
      }

  pub legal_done : (plan : Pagination) → Legal g s plan → is_done (document g s) (state_of g s plan) ≡ true
  unfolding state_of
  legal_done plan l =
      let a : Sound (document g s) (reverse plan.pages) (columns plan)
      (unless (ends_spent (document g s) (columns plan)) (length (columns plan)))
      (unless (has_dealt_all (document g s) (placed_of s (columns plan))) (length (columns plan))) =
      legal_sound plan l in
      both (is_spent_at (document g s) (place_of (columns plan)))
      (has_dealt_all (document g s) (placed_of s (columns plan))) (unless_none _ _ a.ended)
      (unless_none _ _ a.dealt)

  -- the pagination of columns that are a beginning
  pub record IsPlanOfColumns (ms : List PageMove) : Type 0 where
    pub columns_are : columns (plan_of s ms) ≡ ms
    pub prefix : Prefix g s (plan_of s ms)
    pub state : state_of g s (plan_of s ms) ≡ state_at (document g s) ms
    pub price : cost g s (plan_of s ms) ≡ cost_of (document g s) ms

  pub columns_plan : (ms : List PageMove) → IsBeginning (document g s) ms → IsPlanOfColumns ms
  unfolding prefix_breach state_of cost
  columns_plan ms b =
      let p : IsPlanOf s ms = plan_there (document g s) some ms b.stand in
      record {
        columns_are = p.columns;
        prefix = record {
          unbroken = of_sound (document g s) (reverse (plan_of s ms).pages) (columns (plan_of s ms)) None None
              (record {
                filled = p.filled;
                stand = subst (Stand (document g s)) (sym p.columns) b.stand;
                ended = refl;
                dealt = refl;
              });
          can_wait = subst (λ (ns : List PageMove). can_wait (document g s) ns ≡ true) (sym p.columns) b.waits;
        };
        state = ap (state_at (document g s)) p.columns;
        price = ap (cost_of (document g s)) p.columns;
      }

  -- a beginning that is done is legal
  pub done_is_legal : (plan : Pagination) → Prefix g s plan →
      is_done (document g s) (state_of g s plan) ≡ true → Legal g s plan
  unfolding breach state_of
  done_is_legal plan p done =
      let a : Sound (document g s) (reverse plan.pages) (columns plan) None None = prefix_sound plan p in
      let d = both_of (is_spent_at (document g s) (place_of (columns plan)))
      (has_dealt_all (document g s) (placed_of s (columns plan))) done in
      record {
        unbroken = of_sound (document g s) (reverse plan.pages) (columns plan) _ _
            (record {
              filled = a.filled;
              stand = a.stand;
              ended = none_unless _ _ d.0;
              dealt =
                  none_unless _ _ d.1;
            });
      }

  pub plan_is : (plan : Pagination) → Prefix g s plan → plan_of s (columns plan) ≡ plan
  plan_is plan p = plan_back s plan (prefix_sound plan p).filled

  -- the columns of a beginning
  pub columns_begin : (plan : Pagination) → Prefix g s plan → IsBeginning (document g s) (columns plan)
  columns_begin plan p = record { stand = (prefix_sound plan p).stand; waits = p.can_wait }
