-- Layouts that are kept serve for each state of which they are asked.
use Rattle.std.proofs.Common.{◌≡◌, refl, sym, subst, ◌∙◌, ℕ, List, [], ◌∷◌, ◌++◌, ◌⊎◌, inl, inr, map, Option, Some, None, ℤ}
use Rattle.std.specs.Prelude.{Err, IfOk, MatchOption, Ok, OnOk, Result, slice_get}
use Rattle.std.specs.Option.{option_map_or}
use Rattle.std.specs.List.{AllByRecursion}
use Rattle.pg_lemmas.proofs.Lists.{all_append, get_all}
use Rattle.pg_plan.specs.declared.states.State.{State}
use Rattle.pg_column.specs.Numbers.{IsRoom}
use Rattle.pg_layouts.specs.Layouts.{float_layouts, text_layouts}
use Rattle.pg_rules.specs.Room.{Document}
use Rattle.pg_rooms.specs.KeptLaid.{AreStays, AreStaysOf, AreTexts, AreTextsOf, DoesServe, laid_at}
use Rattle.pg_rooms.specs.Laid.{laid_of}
use Rattle.pg_rooms.specs.PlaceEnds.{IsPageRoom}
use Rattle.pg_rooms.specs.declared.kept_laid.KeptLaid.{KeptLaid}
use Rattle.pg_rooms.specs.declared.laid.Laid.{Laid}

-- ---- states behind which the same layouts stand

-- a state with all that layouts depend on
abbrev with_parts : State → ℕ → Option ℕ → Option ℤ → List ℕ → State
with_parts u column run wide placed = record u { column = column; run = run; wide = wide; placed = placed }

module _ (laying : State → List Laid) (own : (u v : State) →
    laying (with_parts u v.column v.run v.wide v.placed) ≡ laying v) where
  -- they stand behind both
  alike : (u v : State) → u.column ≡ v.column → u.run ≡ v.run → u.wide ≡ v.wide → u.placed ≡ v.placed →
      laying u ≡ laying v
  alike u v c r w p = same _ _ _ _ _ _ _ _ c r w p ∙ own u v
    where
      same : (a b : ℕ) (c d : Option ℕ) (e f : Option ℤ) (x y : List ℕ) → a ≡ b → c ≡ d → e ≡ f → x ≡ y →
          laying (with_parts u a c e x) ≡ laying (with_parts u b d f y)
      same a b c d e f x y p q r s = cc

-- ---- what is kept serves

module _ (doc : Document) (u : State) (ceiling : List ℕ) where
  pub texts_serve : (it : KeptLaid) → DoesServe it u ceiling → AreTexts doc it → AreTextsOf doc u ceiling it.laid.items
  texts_serve it does are = subst (λ (counts : List ℕ). AreTextsOf doc u counts it.laid.items) does.as_high (record {
    are = are.are ∙ alike (λ (v : State). map (laid_of doc v) (text_layouts doc v it.ceiling)) (λ v w. refl)
        it.state u does.column does.run does.wide does.placed;
    small = are.small;
    low = are.low;
  })

  pub stays_serve : (it : KeptLaid) → DoesServe it u ceiling → AreStays doc it → AreStaysOf doc u ceiling it.laid.items
  stays_serve it does are = subst (λ (counts : List ℕ). AreStaysOf doc u counts it.laid.items) does.as_high (record {
    are = are.are ∙ alike (λ (v : State). map (laid_of doc v) (float_layouts doc v it.ceiling)) (λ v w. refl)
        it.state u does.column does.run does.wide does.placed;
    small = are.small;
  })

-- ---- where it is kept

-- what is there is what is kept there
at_is : (kept : List KeptLaid) (at : ℕ) (it : KeptLaid) → slice_get kept at ≡ Some it → laid_at kept at ≡ it.laid.items
at_is kept at it e = by (slice_get kept at) e
  where
    by : (o : Option KeptLaid) → o ≡ Some it → option_map_or (λ (k : KeptLaid). k.laid.items) o [] ≡ it.laid.items
    by o e = cc

-- with one more, or with this one alone, all are right
pub all_kept : (P : KeptLaid → Type 0) (old new : List KeptLaid) (it : KeptLaid) →
    (new ≡ it ∷ []) ⊎ (new ≡ old ++ it ∷ []) → P it → AllByRecursion P old → AllByRecursion P new
all_kept P old new it (inl e) own all = subst (AllByRecursion P) (sym e) (own, tt)
all_kept P old new it (inr e) own all = subst (AllByRecursion P) (sym e) (all_append P old (it ∷ []) all (own, tt))

module _ (P : KeptLaid → Type 0) (Q : List Laid → Type 0) (kept : List KeptLaid) (at : ℕ) where
  -- what is found serves
  pub found : (u : State) (ceiling : List ℕ) → ((it : KeptLaid) → DoesServe it u ceiling → P it → Q it.laid.items) →
      MatchOption (slice_get kept at) ⊥ (λ (it : KeptLaid). DoesServe it u ceiling) → AllByRecursion P kept →
      Q (laid_at kept at)
  found u ceiling serve there all = by (slice_get kept at) refl there
    where
      by : (o : Option KeptLaid) → slice_get kept at ≡ o →
          MatchOption o ⊥ (λ (it : KeptLaid). DoesServe it u ceiling) →
          Q (option_map_or (λ (k : KeptLaid). k.laid.items) o [])
      by None e there = absurd there
      by (Some it) e there = serve it there (get_all P kept at it all e)

-- what was laid stands where it is kept
laid_there : (Q : List Laid → Type 0) (kept : List KeptLaid) (at : ℕ) (it : KeptLaid) → slice_get kept at ≡ Some it →
    Q it.laid.items → Q (laid_at kept at)
laid_there Q kept at it e q = subst Q (sym (at_is kept at it e)) q

-- ---- the answers of a call

pub on_there : {E : Type 0} (Q : List Laid → Type 0) (r : Result ℕ E) (kept : List KeptLaid) (it : KeptLaid) →
    Q it.laid.items → IfOk r (λ at. slice_get kept at ≡ Some it) → IfOk r (λ at. Q (laid_at kept at))
on_there Q (Ok at) kept it q e = laid_there Q kept at it e q
on_there Q (Err e) kept it q h = tt

pub on_kept : {E : Type 0} (P : KeptLaid → Type 0) (A : Type 0) (r : Result ℕ E) (old new : List KeptLaid) (it : KeptLaid) →
    P it → AllByRecursion P old → (AllByRecursion P new → A) →
    OnOk r ((new ≡ it ∷ []) ⊎ (new ≡ old ++ it ∷ [])) → OnOk r A
on_kept P A (Ok at) old new it own all so is = so (all_kept P old new it is own all)
on_kept P A (Err e) old new it own all so h = tt

-- what was laid for a state and a ceiling, as it is kept and as it was asked
module _ (doc : Document) (u : State) (asked ceiling : List ℕ) (laid : List Laid) (it : KeptLaid) (same : asked ≡ ceiling)
    (state : it.state ≡ u) (high : it.ceiling ≡ ceiling) (own : it.laid.items ≡ laid)
    (small : AllByRecursion (λ (x : Laid). IsRoom x.room) laid) where
  pub texts_laid : laid ≡ map (laid_of doc u) (text_layouts doc u asked) →
      AllByRecursion (λ (x : Laid). IsPageRoom doc.style x.room) laid →
      AreTextsOf doc u ceiling it.laid.items × AreTexts doc it
  texts_laid are low =
      let own_texts : AreTextsOf doc u ceiling it.laid.items = subst (AreTextsOf doc u ceiling) (sym own)
      (subst (λ (counts : List ℕ). AreTextsOf doc u counts laid) same
      (record { are = are; small = small; low = low })) in (
        own_texts,
        subst (λ (counts : List ℕ). AreTextsOf doc it.state counts it.laid.items) (sym high)
            (subst (λ (v : State). AreTextsOf doc v ceiling it.laid.items) (sym state) own_texts),
      )

  pub stays_laid : laid ≡ map (laid_of doc u) (float_layouts doc u asked) →
      AreStaysOf doc u ceiling it.laid.items × AreStays doc it
  stays_laid are =
      let own_stays : AreStaysOf doc u ceiling it.laid.items = subst (AreStaysOf doc u ceiling) (sym own)
      (subst (λ (counts : List ℕ). AreStaysOf doc u counts laid) same
      (record { are = are; small = small })) in (
        own_stays,
        subst (λ (counts : List ℕ). AreStaysOf doc it.state counts it.laid.items) (sym high)
            (subst (λ (v : State). AreStaysOf doc v ceiling it.laid.items) (sym state) own_stays),
      )
