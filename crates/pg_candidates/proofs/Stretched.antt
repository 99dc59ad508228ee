-- The ends along a stretch, one step more.
use Rattle.std.proofs.Common.{◌≡◌, sym, ap, ◌∙◌, List, [], ◌++◌, append-nil, true, false, None, ℤ, ℕ}
use Rattle.std.proofs.lemmas.List.{append_assoc}
use Rattle.pg_list.specs.declared.galley.Place.{Place}
use Rattle.pg_list.specs.Places.{place}
use Rattle.pg_lemmas.proofs.Bools.{if_false, if_true}
use Rattle.pg_rules.specs.Room.{Document}
use Rattle.pg_column.specs.Passed.{Passed, fits}
use Rattle.law_walk.specs.Candidates.{Candidate}
use Rattle.law_walk.specs.Walk.{end_here, ends_along}
use Rattle.pg_hops.specs.declared.cursor.Cursor.{Cursor}
use Rattle.pg_hops.specs.Ahead.{IsSettled, front_ahead, item_ahead, items_ahead, place_ahead}
use Rattle.pg_hops.specs.Quiet.{is_quiet, passed_along}
use Rattle.pg_hops.proofs.Along.{last}
use Rattle.pg_hops.specs.Goes.{Goes, Stops}

module _ (doc : Document) (top : ℤ) (at : Cursor) (here : Place) (here-is : here ≡ place_ahead at) (p : Passed)
    (picks : List ℕ) (d : ℤ) (old new : List Candidate) (added : new ≡ old ++ end_here doc picks d here p) where
  abbrev behind : Place
  behind = place (front_ahead doc.blocks at) 0 0

  abbrev all_ends : List Candidate
  all_ends = ends_along doc top picks d behind p (items_ahead doc.blocks at)

  abbrev one : List Candidate
  one = end_here doc picks d (place_ahead at) p

  added_here : new ≡ old ++ one
  added_here = added ∙ ap (λ (q : Place). old ++ end_here doc picks d q p) here-is

  pub stop_ends : Stops doc at p → new ≡ old ++ all_ends
  stop_ends stops = added_here ∙ ap (λ ys. old ++ ys) (sym (stops.ends top picks d behind))

  module _ (to : Cursor) (q : Passed) (goes : Goes doc at to p q) where
    abbrev from : Place → List Candidate
    from last = ends_along doc top picks d last q (items_ahead doc.blocks to)

    pub over_ends : fits q.bound top ≡ false → new ≡ old ++ all_ends
    over_ends f = added_here ∙ ap (λ ys. old ++ ys) (sym (goes.ends top picks d behind
        ∙ (ap (λ ys. one ++ ys) (if_false (fits q.bound top) (from behind) [] f) ∙ append-nil one)))

    pub step_ends : fits q.bound top ≡ true → new ++ from (place (front_ahead doc.blocks to) 0 0) ≡ old ++ all_ends
    step_ends f = ap (λ (b : ℕ). new ++ from (place b 0 0)) goes.front
        ∙ (ap (λ ys. ys ++ from behind) added_here
        ∙ (append_assoc old one (from behind)
        ∙ ap (λ ys. old ++ ys) (sym (goes.ends top picks d behind
        ∙ ap (λ ys. one ++ ys) (if_true (fits q.bound top) (from behind) [] f)))))

module _ (doc : Document) (top : ℤ) (at to : Cursor) (p q : Passed) (goes : Goes doc at to p q) where
  abbrev ahead : Passed
  ahead = passed_along doc top q (items_ahead doc.blocks to)

  abbrev whole : Passed
  whole = passed_along doc top p (items_ahead doc.blocks at)

  pub step_quiet : fits q.bound top ≡ true → is_quiet doc.style ahead ≡ is_quiet doc.style whole
  step_quiet f = sym (goes.quiet top ∙ ap (is_quiet doc.style) (if_true (fits q.bound top) ahead q f))

  pub over_quiet : fits q.bound top ≡ false → is_quiet doc.style q ≡ is_quiet doc.style whole
  over_quiet f = sym (goes.quiet top ∙ ap (is_quiet doc.style) (if_false (fits q.bound top) ahead q f))

module _ (doc : Document) (top : ℤ) (c : Cursor) (is : IsSettled doc.blocks c) (none : None ≡ item_ahead doc.blocks c)
    (p : Passed) where
  pub end_ends : (picks : List ℕ) (d : ℤ) (at : Place) → at ≡ place_ahead c → (old new : List Candidate) →
      new ≡ old ++ end_here doc picks d at p →
      new ≡ old ++ ends_along doc top picks d (place (front_ahead doc.blocks c) 0 0) p (items_ahead doc.blocks c)
  end_ends picks d at at-is old new added =
      let done = last doc top c is none p in
      added ∙ ap (λ ys. old ++ ys)
      (ap (λ (q : Place). end_here doc picks d q p)
      (at-is ∙ done.here ∙ ap (λ (b : ℕ). place b 0 0) (sym done.front))
      ∙ sym (ap (ends_along doc top picks d (place (front_ahead doc.blocks c) 0 0) p) done.items))
