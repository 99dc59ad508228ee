-- What is answered is what the rules say.
use Rattle.std.proofs.Common.{◌≡◌, refl, sym, ap, ◌∙◌, subst, ℕ, suc, zero, ◌+◌, List, [], ◌∷◌, length, map, Bool, true, false, ℤ, Option, Some, None}
use Rattle.std.specs.Prelude.{replicate, reverse, Result, Ok, Err}
use Rattle.std.specs.List.{range_with_len}
use Rattle.pg_list.specs.GalleyValue.{GalleyValue}
use Rattle.pg_plan.specs.declared.pages.PageMove.{PageMove}
use Rattle.pg_plan.specs.declared.pages.Pagination.{Pagination}
use Rattle.pg_plan.specs.Order.{columns}
use Rattle.pg_style.specs.Values.{StyleValue}
use Rattle.pg_rules.specs.Cost.{cost, cost_of}
use Rattle.pg_rules.specs.History.{placed_of}
use Rattle.pg_rules.specs.Legal.{breach, document, ends_spent, has_dealt_all, misfilled}
use Rattle.pg_rules.specs.Room.{Document}
use Rattle.pg_floats.specs.Counts.{capped}
use Rattle.pg_judge.specs.Progress.{IsGoing, IsProgress, broken_pair, is_lost}
use Rattle.pg_judge.specs.Settled.{JudgesPlan, Settles, answered, end_fault}
use Rattle.pg_judge.specs.Verdict.{behind_pages, broken_at_end, broken_by, first_false, lesser, tests_at_end}
use Rattle.pg_judge.specs.declared.progress.Broken.{Broken}
use Rattle.pg_judge.specs.declared.progress.Progress.{Progress}
use Rattle.pg_judge.specs.declared.rule.JudgeFault.{JudgeFault}
use Rattle.pg_judge.specs.declared.rule.JudgeFault.TheVariants.{Broken as BrokenRule, Memory}
use Rattle.pg_judge.proofs.Step.{broke, no_pair, unbroken}
use Rattle.pg_judge.proofs.Verdict.{breach_is, is_test_from, second_stays}
use Rattle.std.proofs.lemmas.Bool.{eqb-true}

fault_is : (s d : Bool) → end_fault s d ≡ first_false 2 (s ∷ true ∷ true ∷ true ∷ true ∷ true ∷ d ∷ true ∷ true ∷ true
    ∷ true ∷ true ∷ true ∷ [])
fault_is true true = refl
fault_is true false = refl
fault_is false d = refl

pub zeros_are : (n : ℕ) (k : ℕ) → replicate n 0 ≡ capped (map (λ (slot : ℕ). 0) (range_with_len k n))
zeros_are zero k = refl
zeros_are (suc n) k = ap (λ (xs : List ℕ). 0 ∷ xs) (zeros_are n (k + 1))

settled_by : (doc : Document) (ms : List PageMove) (o : Option (ℕ × ℕ)) (paid : ℤ) → o ≡ broken_at_end doc ms →
    (o ≡ None → paid ≡ cost_of doc ms) → Settles doc ms (answered o paid)
settled_by doc ms None paid e f = (sym e, f refl)
settled_by doc ms (Some (rule, column)) paid e f = sym e

pub settles_lost : (doc : Document) (ms : List PageMove) (it : Progress) (paid : ℤ) → IsProgress doc ms it →
    is_lost it.broken ≡ true → Settles doc ms (answered (broken_pair it.broken) paid)
settles_lost doc ms it paid prog lost = by it.broken refl
  where
    by : (o : Option Broken) → it.broken ≡ o → Settles doc ms (answered (broken_pair it.broken) paid)
    by None e = absurd (no (sym lost ∙ ap is_lost e))
      where
        no : true ≡ false → ⊥
        no f = cc
    by (Some b) e =
        let two : b.rule ≡ 2 = eqb-true b.rule 2 (ap is_lost (sym e) ∙ lost) in
        let pair : broken_pair it.broken ≡ Some (2, b.column) = ap broken_pair e ∙ ap (λ (k : ℕ). Some (k, b.column)) two in
        subst (λ (o : Option (ℕ × ℕ)). Settles doc ms (answered o paid)) (sym pair)
        (settled_by doc ms (Some (2, b.column)) paid
        (sym (second_stays b.column (first_false 2 (tests_at_end doc ms)) (length ms)
        (is_test_from 2 (tests_at_end doc ms)))
        ∙ ap (λ (o : Option (ℕ × ℕ)). lesser o (first_false 2 (tests_at_end doc ms)) (length ms))
        (sym pair ∙ prog.broken)) (λ f. absurd (none f)))
      where
        none : ◌≡◌ {A = Option (ℕ × ℕ)} (Some (2, b.column)) None → ⊥
        none f = cc

pub settles_going : (doc : Document) (ms : List PageMove) (it : Progress) → IsProgress doc ms it → IsGoing doc ms it →
    (spent dealt : Bool) → spent ≡ ends_spent doc ms → dealt ≡ has_dealt_all doc (placed_of doc.style ms) →
    (rule : Option ℕ) → rule ≡ end_fault spent dealt → (o : Option (ℕ × ℕ)) →
    o ≡ lesser (broken_pair it.broken) rule it.number → (paid : ℤ) → paid ≡ it.cost →
    Settles doc ms (answered o paid)
settles_going doc ms it prog going spent dealt s d rule r o e paid p =
    let fault = r ∙ (fault_is spent dealt ∙ (ap (λ (b : Bool). first_false 2 (b ∷ true ∷ true ∷ true ∷ true ∷ true ∷ dealt
    ∷ true ∷ true ∷ true ∷ true ∷ true ∷ true ∷ [])) s ∙ ap (λ (b : Bool). first_false 2 (ends_spent doc ms ∷ true ∷ true
    ∷ true ∷ true ∷ true ∷ b ∷ true ∷ true ∷ true ∷ true ∷ true ∷ true ∷ [])) d)) in
    settled_by doc ms o paid (e ∙ (ap (λ (x : Option (ℕ × ℕ)). lesser x rule it.number) prog.broken
    ∙ (ap (λ (x : Option ℕ). lesser (broken_by doc ms) x it.number) fault
    ∙ ap (lesser (broken_by doc ms) (first_false 2 (tests_at_end doc ms))) prog.number)))
    (λ f. p ∙ (going.paid (no_pair it.broken (clear (broken_pair it.broken) rule it.number (sym e ∙ f)))).cost)
  where
    clear : (o : Option (ℕ × ℕ)) (r : Option ℕ) (n : ℕ) → lesser o r n ≡ None → o ≡ None
    clear None r n e = refl
    clear (Some pair) None n e = unbroken (Some pair) n e
    clear (Some pair) (Some r) n e = absurd (broke (Some pair) r n e)

pub judges : (galley : GalleyValue) (style : StyleValue) (plan : Pagination) (result : Result ℤ JudgeFault) →
    misfilled style.columns (reverse plan.pages) ≡ None → Settles (document galley style) (columns plan) result →
    JudgesPlan galley style plan result
unfolding cost
judges galley style plan (Ok paid) e s = (
  breach_is galley style plan ∙ (ap (λ (o : Option ℕ). behind_pages o (broken_at_end (document galley style)
      (columns plan))) e ∙ s.0),
  s.1,
)
judges galley style plan (Err (BrokenRule rule column)) e s =
    breach_is galley style plan ∙ (ap (λ (o : Option ℕ). behind_pages o (broken_at_end (document galley style)
    (columns plan))) e ∙ s)
judges galley style plan (Err Memory) e s = tt

pub judges_pages : (galley : GalleyValue) (style : StyleValue) (plan : Pagination) (column : ℕ) →
    misfilled style.columns (reverse plan.pages) ≡ Some column → breach galley style plan ≡ Some (1, column)
judges_pages galley style plan column e =
    breach_is galley style plan ∙ ap (λ (o : Option ℕ). behind_pages o (broken_at_end (document galley style)
    (columns plan))) e
