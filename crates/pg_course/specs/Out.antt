-- What is written for a galley.
use Rattle.std.specs.Prelude.{◌≡◌, ◌==◌, ℕ, Bool, true, false, not, List, ◌++◌}
use Rattle.pg_list.specs.GalleyValue.{GalleyValue}
use Rattle.pg_plan.specs.declared.pages.Pagination.{Pagination}
use Rattle.pg_plan.specs.declared.states.Label.{Label}
use Rattle.pg_style.specs.Values.{StyleValue}
use Rattle.pg_rules.specs.Best.{Best}
use Rattle.pg_rules.specs.Cost.{cost}
use Rattle.pg_rules.specs.Frontier.{Frontier}
use Rattle.pg_rules.specs.Legal.{Legal}
use Rattle.pg_pages.specs.PageText.{page_text, none_text}
use Rattle.pg_labels.specs.LabelText.{label_text}
use Rattle.law_page_text.specs.PageLaws.{ShowsEachOnce}
use Rattle.law_texts.specs.Texts.{EachOnce}
use Rattle.pg_command.specs.declared.status.Status.{Status}
use Rattle.pg_command.specs.declared.status.Status.TheVariants.{Done, NoLegal}
use Rattle.pg_course.specs.declared.paginate.PageText.{PageText}
use Rattle.pg_course.specs.declared.paginate.PageText.TheVariants as page

-- the page text of the best pagination, with its cost; that pagination has each box, note and float once, and the areas
-- of that text show each note and float once
pub record IsBestText (galley : GalleyValue) (style : StyleValue) (text : List ℕ) : Type 0 where
  pub plan : Pagination
  pub best : Best galley style plan
  pub once : EachOnce galley style plan
  pub areas : ShowsEachOnce galley style plan
  pub written : text ≡ page_text galley style plan (cost galley style plan)

-- the line for none, where no pagination is legal
pub record IsNoneText (galley : GalleyValue) (style : StyleValue) (text : List ℕ) : Type 0 where
  pub none : (plan : Pagination) → Legal galley style plan → ⊥
  pub written : text ≡ none_text

-- what is written for a galley and how that ends: the text of its best pagination, or the line for none
abbrev pub Out : GalleyValue → StyleValue → List ℕ → Status → Type 0
Out galley style text Done = IsBestText galley style text
Out galley style text NoLegal = IsNoneText galley style text
Out galley style text end = ⊥

-- labels tell their fitness from version 2 of a style on
abbrev pub tells_fitness : StyleValue → Bool
tells_fitness style = not (style.version == 1)

-- that text with the text of the frontier's labels behind it
pub record IsLabelledText (galley : GalleyValue) (style : StyleValue) (text : List ℕ) (end : Status) : Type 0 where
  pub pages : List ℕ
  pub out : Out galley style pages end
  pub labels : List Label
  pub frontier : Frontier galley style labels
  pub written : text ≡ pages ++ label_text (tells_fitness style) labels

-- what a run writes for a galley, with labels or without
abbrev pub RunOut : Bool → GalleyValue → StyleValue → List ℕ → Status → Type 0
RunOut false galley style text end = Out galley style text end
RunOut true galley style text end = IsLabelledText galley style text end

-- how a run with this text ends
abbrev pub end_of : PageText → Status
end_of (page.Best text) = Done
end_of (page.NoLegal text) = NoLegal

-- the bytes of the text
abbrev pub bytes_of : PageText → List ℕ
bytes_of (page.Best text) = text.items
bytes_of (page.NoLegal text) = text.items
