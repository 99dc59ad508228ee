-- Each page's top mark is the bottom mark of the page before it.
use Rattle.std.proofs.Common.{◌≡◌, ◌∙◌, refl, ap, ap₂, ℕ, List, [], ◌∷◌, ◌++◌, map}
use Rattle.std.proofs.lemmas.List.Elements.{filter_map-append}
use Rattle.pg_list.specs.declared.blocks.Block.{Block}
use Rattle.pg_list.specs.declared.item.Item.{Item}
use Rattle.pg_plan.specs.declared.pages.Page.{Page}
use Rattle.pg_marks.specs.Carries.{mark_of}
use Rattle.pg_marks.specs.Heads.{first_or, head_of, heads, heads_after, last_or, marks, page_items, top_mark}
use Rattle.pg_marks.specs.Walked.{heads_from, page_text}
use Rattle.pg_marks.specs.declared.lists.Head.{Head}
use Rattle.pg_marks.proofs.PassedOver.{no_mark, page_tells}

last_append : (top : List ℕ) (xs ys : List (List ℕ)) → last_or top (xs ++ ys) ≡ last_or (last_or top xs) ys
last_append top [] ys = refl
last_append top (x ∷ xs) ys = last_append x xs ys

top_append : (earlier items : List Item) → top_mark (earlier ++ items) ≡ last_or (top_mark earlier) (marks items)
top_append earlier items =
    ap (last_or []) (filter_map-append mark_of earlier items) ∙ last_append [] (marks earlier) (marks items)

carried : (earlier : List Item) (pages : List (List Item)) →
    heads_after earlier pages ≡ heads_from (top_mark earlier) pages
carried earlier [] = refl
carried earlier (items ∷ later) = ap (λ (hs : List Head). head_of earlier items ∷ hs)
    (carried (earlier ++ items) later ∙ ap (λ top. heads_from top later) (top_append earlier items))

-- a head by the marks of its page alone
abbrev head_by : List ℕ → List (List ℕ) → List Head → List Head
head_by top found later = record { top = top; first = first_or top found; bottom = last_or top found } ∷ later

texts_tell : (blocks : List Block) (top : List ℕ) (pages : List Page) →
    heads_from top (map (page_items blocks) pages) ≡ heads_from top (map (page_text blocks) pages)
texts_tell blocks top [] = refl
texts_tell blocks top (page ∷ pages) =
    let same : marks (page_items blocks page) ≡ marks (page_text blocks page) =
    page_tells mark_of no_mark blocks page in
    ap₂ (λ found later. head_by top found later) same
    (ap (λ found. heads_from (last_or top found) (map (page_items blocks) pages)) same
    ∙ texts_tell blocks (last_or top (marks (page_text blocks page))) pages)

pub heads_carried : (blocks : List Block) (pages : List Page) →
    heads blocks pages ≡ heads_from [] (map (page_text blocks) pages)
heads_carried blocks pages = carried [] (map (page_items blocks) pages) ∙ texts_tell blocks [] pages
