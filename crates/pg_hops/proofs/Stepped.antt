-- What is ahead, and what is ahead behind one step.
use Rattle.std.proofs.Common.{◌≡◌, sym, ap, ◌∙◌, arith, true, false, Option, None, ℤ, ℕ}
use Rattle.std.specs.Prelude.{max}
use Rattle.pg_list.specs.declared.galley.Place.{Place}
use Rattle.pg_lemmas.proofs.Bools.{if_false, if_true}
use Rattle.pg_rules.specs.Room.{Document}
use Rattle.pg_column.specs.Passed.{Passed, fits}
use Rattle.law_walk.specs.Reached.{reach_along}
use Rattle.law_walk.specs.Walk.{past_stretch}
use Rattle.pg_hops.specs.declared.cursor.Cursor.{Cursor}
use Rattle.pg_hops.specs.Ahead.{front_ahead, items_ahead, place_ahead}
use Rattle.pg_hops.proofs.OneStep.{place_block}
use Rattle.pg_hops.specs.Goes.{Goes, Stops}

more : (g g' b r all : ℕ) → g' ≡ max g b → all ≡ max b r → max g' r ≡ max g all
more g g' b r all h e = omega (arith, h, e)

ended : (g g' b all : ℕ) → g' ≡ max g b → all ≡ max b 0 → g' ≡ max g all
ended g g' b all h e = omega (arith, h, e)

module _ (at : Cursor) (here : Place) (here-is : here ≡ place_ahead at) (g g' : ℕ)
    (greater : g' ≡ max g here.block) where
  greater_is : g' ≡ max g at.block
  greater_is = greater ∙ ap (max g) (ap (λ (p : Place). p.block) here-is ∙ place_block at)

  module _ (doc : Document) (top : ℤ) (to : Cursor) (p q : Passed) (goes : Goes doc at to p q) where
    abbrev ahead : ℕ
    ahead = reach_along doc top (front_ahead doc.blocks to) q (items_ahead doc.blocks to)

    abbrev all : ℕ
    all = reach_along doc top (front_ahead doc.blocks at) p (items_ahead doc.blocks at)

    pub step_reach : fits q.bound top ≡ true → max g' ahead ≡ max g all
    step_reach f = more g g' at.block ahead all greater_is
        (goes.reach top ∙ ap (max at.block) (if_true (fits q.bound top) ahead 0 f))

    pub over_reach : fits q.bound top ≡ false → g' ≡ max g all
    over_reach f = ended g g' at.block all greater_is
        (goes.reach top ∙ ap (max at.block) (if_false (fits q.bound top) ahead 0 f))

  pub stop_reach : (doc : Document) (top : ℤ) (p : Passed) → Stops doc at p → (b : ℕ) →
      g' ≡ max g (reach_along doc top b p (items_ahead doc.blocks at))
  stop_reach doc top p stops b = greater_is ∙ ap (max g) (sym (stops.reach top b))

module _ (doc : Document) (top : ℤ) (at to : Cursor) (p q : Passed) (goes : Goes doc at to p q) where
  abbrev past : Option Passed
  past = past_stretch doc top q (items_ahead doc.blocks to)

  pub step_past : fits q.bound top ≡ true → past ≡ past_stretch doc top p (items_ahead doc.blocks at)
  step_past f = sym (goes.past top ∙ if_true (fits q.bound top) past None f)

  pub over_past : fits q.bound top ≡ false → None ≡ past_stretch doc top p (items_ahead doc.blocks at)
  over_past f = sym (goes.past top ∙ if_false (fits q.bound top) past None f)
