-- What the pages of a legal pagination show, in the words of the contracts.
use Rattle.std.specs.Prelude.{◌≡◌, ℕ, List, [], ◌∷◌, ◌++◌, true, Some, slice_get}
use Rattle.pg_list.specs.GalleyValue.{GalleyValue}
use Rattle.pg_plan.specs.Order.{columns}
use Rattle.pg_plan.specs.declared.pages.PageMove.{PageMove}
use Rattle.pg_plan.specs.declared.pages.Pagination.{Pagination}
use Rattle.pg_style.specs.Values.{StyleValue}
use Rattle.pg_list.specs.Flat.{flat}
use Rattle.pg_rules.specs.Floats.{float_numbers}
use Rattle.pg_rules.specs.History.{context}
use Rattle.pg_rules.specs.Legal.{Legal, document}
use Rattle.pg_rules.specs.Room.{is_text, size_of}
use Rattle.law_texts.specs.Texts.{dealt_floats, picks_of, segments}
use Rattle.pg_pages.specs.PageText.{inserted}
use Rattle.law_page_text.specs.Heights.{FillsGoal}

-- of each class the bodies among the items of all columns are those of the flat list, and of each class of floats the
-- bodies that all areas deal out are those of the flat list, in order
pub record ShowsEachOnce (galley : GalleyValue) (style : StyleValue) (plan : Pagination) : Type 0 where
  pub notes : (number : ℕ) → inserted number (segments (document galley style) (columns plan))
      ≡ inserted number (flat galley.blocks (picks_of (columns plan)))
  pub floats : (slot number : ℕ) → slice_get (float_numbers style) slot ≡ Some number →
      dealt_floats style (inserted number (flat galley.blocks [])) slot (columns plan)
      ≡ inserted number (flat galley.blocks [])

abbrev pub LegalShowEachOnce : GalleyValue → StyleValue → Type 0
LegalShowEachOnce galley style = (plan : Pagination) → Legal galley style plan → ShowsEachOnce galley style plan

-- each column with text
abbrev pub LegalFillGoals : GalleyValue → StyleValue → Type 0
LegalFillGoals galley style = (plan : Pagination) (behind : List PageMove) (m : PageMove) (ms : List PageMove) (n : ℕ) →
    Legal galley style plan → columns plan ≡ behind ++ m ∷ ms →
    is_text (context (document galley style) m ms) ≡ true → size_of (context (document galley style) m ms) ≡ Some n →
    FillsGoal (context (document galley style) m ms) n
