-- What the command `compare` promises, by what was found of first fit.
use Rattle.std.proofs.Common.{◌≡◌, ◌∙◌, inl, inr, ℕ, List, [], ◌++◌, Option, length, refl, ap, sym, arith}
use Rattle.std.specs.Prelude.{None, Some, ℤ, ◌-ℤ◌}
use Rattle.std.proofs.lemmas.Int.{ints}
use Rattle.pg_outside.specs.Outside.{OverOutput, Sent, output_over}
use Rattle.pg_list.specs.GalleyValue.{GalleyValue}
use Rattle.pg_plan.specs.declared.pages.Pagination.{Pagination}
use Rattle.pg_style.specs.Values.{StyleValue}
use Rattle.pg_rules.specs.Best.{Best}
use Rattle.pg_rules.specs.Cost.{cost}
use Rattle.pg_rules.specs.Legal.{breach}
use Rattle.pg_greedy.specs.Compare.{best_line, broken_text, first_line, pages_text, saved_text}
use Rattle.pg_greedy.specs.Faults.{Causes, greedy_fault}
use Rattle.pg_greedy.specs.FirstFit.{IsFirstFit}
use Rattle.pg_greedy.specs.declared.fault.GreedyFault.{GreedyFault}
use Rattle.pg_greedy.specs.declared.fault.GreedyFault.TheVariants as fits
use Rattle.pg_command.specs.declared.ending.Ending.{Ending}
use Rattle.pg_command.specs.declared.ending.Ending.TheVariants as ending
use Rattle.pg_course.specs.Calls.{Writes, fit_ending}
use Rattle.pg_course.specs.Course.{CompareGalley, WritesOne}
use Rattle.pg_course.specs.Products.{CompareOut, IsSavedText}
use Rattle.pg_course.proofs.Runs.{appends_none, keeps_all, writes_as}

-- ---- a galley without a first fit

-- its fault ends the course without a text
told_fault : (style : StyleValue) (galley : GalleyValue) (old : Sent) (before : ℕ) (fault : GreedyFault) →
    greedy_fault style galley.blocks ≡ Some fault →
    Writes (CompareGalley style galley) (output_over old old before before) (ending.NoFirstFit fault)
told_fault style galley old before fault is = record {
  settled = record { texts = []; course = rw is (refl, refl, refl); written = appends_none old };
  write = tt;
  front = tt;
  memory = tt;
  no_read = tt;
  no_usage = λ e. absurd (cc);
}

-- or memory ran out
pub no_fit_writes : (style : StyleValue) (galley : GalleyValue) (old : Sent) (before : ℕ)
    (fault : GreedyFault) → Causes style galley.blocks fault →
    Writes (CompareGalley style galley) (output_over old old before before) (fit_ending fault)
no_fit_writes style galley old before fits.Columns (inl is) = told_fault style galley old before fits.Columns is
no_fit_writes style galley old before fits.Columns (inr (memory, none)) = absurd (cc)
no_fit_writes style galley old before (fits.Choice block) (inl is) =
    told_fault style galley old before (fits.Choice block) is
no_fit_writes style galley old before (fits.Choice block) (inr (memory, none)) = absurd (cc)
no_fit_writes style galley old before (fits.Float block) (inl is) =
    told_fault style galley old before (fits.Float block) is
no_fit_writes style galley old before (fits.Float block) (inr (memory, none)) = absurd (cc)
no_fit_writes style galley old before fits.Memory causes = record {
  settled = tt;
  write = tt;
  front = tt;
  memory = keeps_all old;
  no_read = tt;
  no_usage = λ e. absurd (cc);
}

-- a fault that is not want of memory
pub other_fit : (fault : GreedyFault) → (fault ≡ fits.Memory → ⊥) → ending.NoFirstFit fault ≡ fit_ending fault
other_fit fits.Columns other = refl
other_fit (fits.Choice block) other = refl
other_fit (fits.Float block) other = refl
other_fit fits.Memory other = absurd (other refl)

-- ---- a galley with one

pub compared_writes : (style : StyleValue) (galley : GalleyValue) (out : OverOutput) (end : Ending) →
    greedy_fault style galley.blocks ≡ None → Writes (WritesOne CompareOut style galley) out end →
    Writes (CompareGalley style galley) out end
compared_writes style galley out end none w =
    writes_as (WritesOne CompareOut style galley) (CompareGalley style galley) out end
    (λ texts status line course. rw none course) w

-- the line of a legal first fit, behind what was there
pub legal_line : (pages : ℕ) (fault : Option (ℕ × ℕ)) (paid best : ℤ) (count : ℕ) (told saved : ℤ) (old new : List ℕ) →
    fault ≡ None → count ≡ pages → told ≡ paid → saved ≡ told -ℤ best →
    new ≡ old ++ (pages_text count ++ saved_text told saved) → new ≡ old ++ first_line pages fault paid best
legal_line pages fault paid best count told saved old new none same pays less written =
    rw (none, sym same, sym pays, sym less) written

-- both lines, in an empty text
pub both_lines : (galley : GalleyValue) (style : StyleValue) (first plan : Pagination) (paid : ℤ)
    (none one text : List ℕ) → IsFirstFit galley style first → Best galley style plan →
    cost galley style plan ≡ paid → none ≡ [] →
    one ≡ none ++ first_line (length first.pages) (breach galley style first) (cost galley style first) paid →
    text ≡ one ++ best_line (length plan.pages) paid → IsSavedText galley style text
both_lines galley style first plan paid none one text fit best is empty line last = record {
  first = first;
  fit = fit;
  plan = plan;
  best = best;
  saved = λ legal. omega (arith, ints, best.least first legal);
  written =
      last ∙ ap (λ (xs : List ℕ). xs ++ best_line (length plan.pages) paid)
      (line ∙ ap (λ (xs : List ℕ). xs ++ first_line (length first.pages) (breach galley style first)
      (cost galley style first) paid) empty)
      ∙ rw is refl;
}
