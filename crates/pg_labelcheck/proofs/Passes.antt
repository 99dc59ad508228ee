-- Each test of the labels, from what is found of them.
use Rattle.std.proofs.Common.{◌≡◌, ◌∙◌, refl, sym, ap, subst, ◌+◌, ◌<◌, ◌^◌, ℕ, List, Bool, true, false, length, Some, arith}
use Rattle.std.specs.Prelude.{Contains, slice_get, ℤ}
use Rattle.std.specs.Bool.{Decides}
use Rattle.std.proofs.lemmas.Option.{same_Some, slice_get_within}
use Rattle.std.specs.Ordering.{int_cmp}
use Rattle.std.proofs.lemmas.Cmp.{by_ranked, int_ranked}
use Rattle.std.proofs.lemmas.Int.{ints}
use Rattle.std.specs.Prelude.{◌<ℤ◌}
use Rattle.pg_list.specs.GalleyValue.{GalleyValue}
use Rattle.pg_list.specs.declared.galley.Place.{Place}
use Rattle.pg_plan.specs.declared.states.Label.{Label}
use Rattle.pg_style.specs.Values.{StyleValue}
use Rattle.pg_rules.specs.Follow.{Follow}
use Rattle.pg_rules.specs.Legal.{document}
use Rattle.pg_rules.specs.Room.{Document}
use Rattle.law_space.specs.PageSpace.{FollowBest, page_meaning}
use Rattle.law_check.specs.Gaps.{NoneCheaper}
use Rattle.pg_cover.specs.Covered.{IsFirstOpen, NoneOpenBefore}
use Rattle.pg_labels.specs.declared.output.Output.{Output}
use Rattle.pg_labels.specs.declared.output.Shown.{Shown}
use Rattle.pg_labels.specs.declared.output.Shown.TheVariants.{Pages, NoLegal}
use Rattle.law_check.specs.Faults.{IsCheaper, IsFaultOrMemory, IsFirst, IsOpen, shown_cost}
use Rattle.law_check.specs.CheckLaws.{BestPicksFault, BestPicksPass}
use Rattle.law_check.specs.Tests.{AreStates, CoversStart, NoneIsFinal, NoneUndercuts, PassesAll, PassesStart, PassesStates, PassesSteps, PassesText}
use Rattle.pg_labelcheck.specs.Tested.{IsFinalBelow, final_fault}
use Rattle.pg_labelcheck.proofs.OneByOne.{decided_not}
use Rattle.pg_labelcheck.proofs.Opened.{first_open, none_open}

-- the index of a first label is as small as the number of labels
pub index_within : (P : Label → Type 0) (labels : List Label) (index : ℕ) → IsFirst P labels (index + 1) →
    index < length labels
index_within P labels index first =
    let within : first.index < length labels = slice_get_within labels first.index first.label first.at in
    let same : index + 1 ≡ first.index + 1 = first.numbered in
    omega arith

pub index_few : (P : Label → Type 0) (seen labels : List Label) (index : ℕ) → seen ≡ labels →
    length labels < 2 ^ 31 → IsFirst P seen (index + 1) → index < 2 ^ 31
index_few P seen labels index same few first =
    let within : index < length labels =
    index_within P labels index (subst (λ (l : List Label). IsFirst P l (index + 1)) same first) in
    omega arith

-- the first label under another name, with its number as it was printed
pub first_there : (P : Label → Type 0) (seen labels : List Label) (index number : ℕ) → seen ≡ labels →
    number ≡ index + 1 → IsFirst P seen (index + 1) → IsFirst P labels number
first_there P seen labels index number same is first = subst (IsFirst P labels) (sym is)
    (subst (λ (l : List Label). IsFirst P l (index + 1)) same first)

none_cheaper : (doc : Document) (labels : List Label) (n : ℤ) →
    ((label : Label) → Contains labels label → IsCheaper doc n label → ⊥) → NoneCheaper doc labels n
none_cheaper doc labels n not label c finished = by_ranked (label.cost <ℤ n) (label.cost ≡ n) (n <ℤ label.cost)
    (int_cmp label.cost n) (int_ranked label.cost n (int_cmp label.cost n) refl)
    (λ _ h. absurd (not label c (record { finished = finished; cheaper = h })))
    (λ _ h. omega (arith, ints)) (λ _ h. omega (arith, ints))

module _ (g : GalleyValue) (s : StyleValue) where
  -- ---- 4 and 5

  pub states_pass : (output : Output) (seen : List Label) → seen ≡ output.labels → PassesText g s output →
      AreStates (document g s) seen → PassesStates g s output
  states_pass output seen same before are =
      record { before = before; states = subst (AreStates (document g s)) same are }

  pub start_passes : (output : Output) (seen : List Label) (b : Bool) → seen ≡ output.labels →
      PassesStates g s output → Decides b (CoversStart (document g s) seen) → b ≡ true → PassesStart g s output
  start_passes output seen b same before d t =
      record { before = before; start = subst (CoversStart (document g s)) same (d.0 t) }

  pub start_fails : (output : Output) (seen : List Label) (b : Bool) → seen ≡ output.labels →
      PassesStates g s output → Decides b (CoversStart (document g s) seen) → b ≡ false →
      PassesStates g s output × (CoversStart (document g s) output.labels → ⊥)
  start_fails output seen b same before d f = (
    before,
    subst (λ (l : List Label). CoversStart (document g s) l → ⊥) same (decided_not b _ d f),
  )

  -- ---- 6

  pub steps_pass : (output : Output) (seen : List Label) → seen ≡ output.labels → PassesStart g s output →
      BestPicksPass g s → NoneOpenBefore (page_meaning (document g s)) seen (length seen) → PassesSteps g s output
  steps_pass output seen same before best none = record {
    before = before;
    steps = (best output.labels).1 (none_open (document g s) output.labels
        (subst (λ (l : List Label). NoneOpenBefore (page_meaning (document g s)) l (length l)) same none));
  }

  pub open_few : (seen labels : List Label) (index : ℕ) (to : Place) → seen ≡ labels → length labels < 2 ^ 31 →
      IsFirstOpen (page_meaning (document g s)) seen index to → index < 2 ^ 31
  open_few seen labels index to same few o =
      let within : index < length labels =
      subst (λ (l : List Label). index < length l) same (slice_get_within seen index o.label o.at) in
      omega arith

  pub steps_fail : (output : Output) (seen : List Label) (index number : ℕ) (to : Place) → seen ≡ output.labels →
      number ≡ index + 1 → PassesStart g s output → BestPicksFault g s →
      IsFirstOpen (page_meaning (document g s)) seen index to →
      PassesStart g s output × IsOpen (Follow (document g s)) output.labels number to
  steps_fail output seen index number to same is before best o = (
    before,
    (best output.labels number to).1 (subst (λ (k : ℕ). IsOpen (FollowBest (document g s)) output.labels k to) (sym is)
        (first_open (document g s) output.labels index to
        (subst (λ (l : List Label). IsFirstOpen (page_meaning (document g s)) l index to) same o))),
  )

  -- ---- 7 and 8

  none_final : (shown : Shown) (labels : List Label) →
      ((label : Label) → Contains labels label → IsFinalBelow (document g s) (shown_cost shown) label → ⊥) →
      NoneUndercuts (document g s) labels shown × NoneIsFinal (document g s) labels shown
  none_final (Pages plan n) labels none = (none_cheaper (document g s) labels n none, tt)
  none_final NoLegal labels none = (tt, none)

  pub final_passes : (output : Output) (seen : List Label) → seen ≡ output.labels → PassesSteps g s output →
      ((label : Label) → Contains seen label → IsFinalBelow (document g s) (shown_cost output.shown) label → ⊥) →
      PassesAll g s output
  final_passes output seen same before none =
      let both = none_final output.shown output.labels (subst (λ (l : List Label). (label : Label) →
      Contains l label → IsFinalBelow (document g s) (shown_cost output.shown) label → ⊥) same none) in
      record { before = record { before = before; bound = both.0 }; final = both.1 }

  final_of : (shown : Shown) (text : List ℕ) (labels : List Label) (number : ℕ) (pays : ℤ) →
      PassesSteps g s (record { shown = shown; page_text = text; labels = labels }) →
      (first : IsFirst (IsFinalBelow (document g s) (shown_cost shown)) labels number) → pays ≡ first.label.cost →
      IsFaultOrMemory g s (record { shown = shown; page_text = text; labels = labels })
      (final_fault shown number pays)
  final_of (Pages plan n) text labels number pays before first is = (before, record { first = first; pays_is = is })
  final_of NoLegal text labels number pays before first is = (record { before = before; bound = tt }, first)

  pub final_fails : (output : Output) (seen : List Label) (index number : ℕ) (pays : ℤ) (x : Label) →
      seen ≡ output.labels → number ≡ index + 1 → slice_get seen index ≡ Some x → pays ≡ x.cost →
      PassesSteps g s output →
      IsFirst (IsFinalBelow (document g s) (shown_cost output.shown)) seen (index + 1) →
      IsFaultOrMemory g s output (final_fault output.shown number pays)
  final_fails output seen index number pays x same is at cost before first =
      let there = first_there (IsFinalBelow (document g s) (shown_cost output.shown)) seen output.labels index number
      same is first in
      let alike : there.index ≡ index = let e : number ≡ there.index + 1 = there.numbered in omega arith in
      let here : slice_get output.labels index ≡ Some x =
      subst (λ (l : List Label). slice_get l index ≡ Some x) same at in
      let found : slice_get output.labels index ≡ Some there.label =
      subst (λ (i : ℕ). slice_get output.labels i ≡ Some there.label) alike there.at in
      final_of output.shown output.page_text output.labels number pays before there
      (cost ∙ ap (λ (l : Label). l.cost) (same_Some x there.label (sym here ∙ found)))
