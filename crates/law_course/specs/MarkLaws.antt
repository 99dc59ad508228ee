-- What the heads and references of a legal pagination say of the galley's flat list.
use Rattle.std.specs.Prelude.{◌≡◌, ◌↔◌, ℕ, false, List, map, None}
use Rattle.std.specs.List.{filter, flat_map, list_any}
use Rattle.pg_list.specs.GalleyValue.{GalleyValue}
use Rattle.pg_list.specs.declared.item.Item.{Item}
use Rattle.pg_list.specs.Flat.{flat}
use Rattle.pg_plan.specs.Order.{columns}
use Rattle.pg_plan.specs.declared.pages.Pagination.{Pagination}
use Rattle.pg_style.specs.Values.{StyleValue}
use Rattle.pg_plan.specs.declared.states.Label.{Label}
use Rattle.pg_rules.specs.Best.{Best}
use Rattle.pg_rules.specs.Frontier.{Frontier}
use Rattle.pg_rules.specs.Legal.{Legal}
use Rattle.law_texts.specs.Texts.{is_kept, picks_of}
use Rattle.pg_marks.specs.Carries.{is_label}
use Rattle.pg_marks.specs.Fitting.{AllFit}
use Rattle.pg_marks.specs.Heads.{label_page, marks, page_items, references, uses}
use Rattle.pg_marks.specs.declared.lists.Reference.{Reference}

-- the flat list of all picks of a pagination
abbrev pub flat_of : GalleyValue → Pagination → List Item
flat_of galley plan = flat galley.blocks (picks_of (columns plan))

-- the items of all pages, in order
abbrev pub all_items : GalleyValue → Pagination → List Item
all_items galley plan = flat_map (page_items galley.blocks) plan.pages

-- the pages hold the kept items of the flat list, and so its marks and its uses, in order; a name has no page exactly
-- where no item of the flat list is a label of it
pub record MarksOfFlat (galley : GalleyValue) (plan : Pagination) : Type 0 where
  pub kept : filter is_kept (all_items galley plan) ≡ filter is_kept (flat_of galley plan)
  pub marks : marks (all_items galley plan) ≡ marks (flat_of galley plan)
  pub uses : map (λ (it : Reference). it.name) (references galley.blocks plan.pages) ≡ uses (flat_of galley plan)
  pub none : (name : List ℕ) →
      (label_page name 1 (map (page_items galley.blocks) plan.pages) ≡ None)
      ↔ (list_any (is_label name) (flat_of galley plan) ≡ false)

abbrev pub MarksAreFlat : GalleyValue → StyleValue → Type 0
MarksAreFlat galley style = (plan : Pagination) → Legal galley style plan → MarksOfFlat galley plan

-- each column of a legal pagination fits its galley
abbrev pub LegalColumnsFit : GalleyValue → StyleValue → Type 0
LegalColumnsFit galley style = (plan : Pagination) → Legal galley style plan → AllFit galley.blocks plan.pages

-- the pages that are written for a galley are determined by it
abbrev pub BestIsOne : GalleyValue → StyleValue → Type 0
BestIsOne galley style = (p q : Pagination) → Best galley style p → Best galley style q → p ≡ q

-- the labels that are written for a galley are determined by it
abbrev pub FrontierIsOne : GalleyValue → StyleValue → Type 0
FrontierIsOne galley style =
    (one other : List Label) → Frontier galley style one → Frontier galley style other → one ≡ other
