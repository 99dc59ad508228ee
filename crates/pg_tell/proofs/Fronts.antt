-- What the best pages begin with, by what is told of their columns.
use Rattle.std.proofs.Common.{◌≡◌, refl, ap, subst, ◌∙◌, inl, ℕ, List, length, ℤ, Option}
use Rattle.std.specs.Prelude.{◌++◌}
use Rattle.pg_command.specs.declared.ending.Ending.{Ending}
use Rattle.pg_command.specs.declared.ending.Ending.TheVariants as ending
use Rattle.pg_furthest.specs.Pages.{IsBestPages}
use Rattle.pg_furthest.specs.declared.best.BestPages.{BestPages}
use Rattle.pg_list.specs.GalleyValue.{GalleyValue}
use Rattle.pg_parts.specs.Parts.{part_sum}
use Rattle.pg_parts.specs.declared.part.Part.{Part}
use Rattle.pg_parts.specs.declared.part.Part.TheVariants.{Line, Badness, Penalties, Empty, Picks, Runs, Floats, Fitness}
use Rattle.pg_pieces.specs.declared.letters.Form.{Form}
use Rattle.pg_plan.specs.Order.{columns as columns_of_plan}
use Rattle.pg_rules.specs.Cost.{cost}
use Rattle.pg_rules.specs.Legal.{document}
use Rattle.pg_style.specs.Values.{StyleValue}
use Rattle.pg_tell.specs.Course.{IsTold, TellsPages}
use Rattle.pg_tell.specs.Lines.{column_parts, count_text, float_parts, pages_front, part_text, parts_text, text_parts}

three : {a b c d e f : List ℕ} → a ≡ d → b ≡ e → c ≡ f → a ++ b ++ c ≡ d ++ e ++ f
three {a} {b} {c} {d} {e} {f} g h i = ap (λ (x : List ℕ). x ++ b ++ c) g
    ∙ (ap (λ (x : List ℕ). d ++ x ++ c) h ∙ ap (λ (x : List ℕ). d ++ e ++ x) i)

two : {a b d e : List ℕ} → a ≡ d → b ≡ e → a ++ b ≡ d ++ e
two {a} {b} {d} {e} g h = ap (λ (x : List ℕ). x ++ b) g ∙ ap (λ (x : List ℕ). d ++ x) h

module _ (form : Form) (f g : Part → ℤ) (same : (part : Part) → f part ≡ g part) where
  one : (part : Part) → part_text form part (f part) ≡ part_text form part (g part)
  one part = ap (part_text form part) (same part)

  texts : text_parts form f ≡ text_parts form g
  unfolding text_parts
  texts = three (one Line) (one Badness) (one Penalties)

  columns : column_parts form f ≡ column_parts form g
  unfolding column_parts
  columns = three (one Empty) (one Picks) (one Runs)

  floats : float_parts form f ≡ float_parts form g
  unfolding float_parts
  floats = two (one Floats) (one Fitness)

  parts : parts_text form f ≡ parts_text form g
  unfolding parts_text
  parts = three texts columns floats

  pub front_is : (pages : ℕ) (paid price : ℤ) → paid ≡ price →
      pages_front form pages paid f ≡ pages_front form pages price g
  unfolding pages_front
  front_is pages paid price is = two (ap (count_text form pages) is) parts

-- what is told of the best pages of the same galley and style
pub told_pages : (form : Form) (g h : GalleyValue) (s t : StyleValue) (pages : BestPages) (end : Ending)
    (old new : Option (List ℕ)) → h ≡ g → t ≡ s → IsBestPages g s pages →
    IsTold (pages_front form (length pages.plan.pages) (cost h t pages.plan)
    (part_sum (document h t) (columns_of_plan pages.plan))) ending.Done end old new →
    TellsPages form g s end old new
told_pages form g h s t pages end old new is same best told = inl (
  pages.plan,
  best.best,
  subst (λ (x : GalleyValue). IsTold (pages_front form (length pages.plan.pages) (cost x s pages.plan)
      (part_sum (document x s) (columns_of_plan pages.plan))) ending.Done end old new) is
      (subst (λ (y : StyleValue). IsTold (pages_front form (length pages.plan.pages) (cost h y pages.plan)
      (part_sum (document h y) (columns_of_plan pages.plan))) ending.Done end old new) same told),
)
