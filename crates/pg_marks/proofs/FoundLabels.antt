-- The page of the first label of each name, kept label by label; and the uses, one after another.
use Rattle.std.proofs.Common.{◌≡◌, ◌∙◌, refl, sym, ap, ap₂, ℕ, ◌+◌, Bool, true, false, true≢false, List, [], ◌∷◌, ◌++◌, map, codes, Option, Some, None}
use Rattle.std.specs.Prelude.{cond, if◌then◌else◌, is_some, ◌||◌}
use Rattle.std.specs.Cmp.Lexicographic.{bytes_decides, nat_list_eq_equiv}
use Rattle.std.specs.List.{cons_option, filter_map, list_any}
use Rattle.std.specs.HashMap.{HashMap, IsEmpty}
use Rattle.std.specs.Map.{lookup, update}
use Rattle.std.specs.Option.{option_or}
use Rattle.std.specs.Str.{bytes_eq}
use denote.Ref.{Bor}
use Rattle.pg_list.specs.declared.blocks.Block.{Block}
use Rattle.pg_list.specs.declared.item.Item.{Item}
use Rattle.pg_plan.specs.declared.pages.Page.{Page}
use Rattle.pg_marks.specs.Carries.{is_label, label_of, use_of}
use Rattle.pg_marks.specs.Heads.{label_page, page_items, reference_on, references, references_from, uses}
use Rattle.pg_marks.specs.Told.{page_in}
use Rattle.pg_marks.specs.Walked.{label_behind, labelled, labels_from, labels_on, no_pages, page_text, used, uses_from, uses_on}
use Rattle.pg_marks.specs.declared.lists.Reference.{Reference}
use Rattle.pg_marks.proofs.PassedOver.{among_labels, no_name, page_tells}

-- ---- one label more

-- an empty map has a page of no name
pub none_kept : {S : Type 0} (labels : HashMap (Bor (List ℕ)) ℕ S) → IsEmpty labels → page_in labels ≡ no_pages
unfolding page_in
none_kept labels empty = λ i name. lookup (λ key. bytes_eq name key.now) (empty i)

-- a name that has a page keeps it
pub already : (pages : List ℕ → Option ℕ) (n : ℕ) (label name : List ℕ) → is_some (pages label) ≡ true →
    pages name ≡ label_behind pages n label name
already pages n label name known = by (pages name) refl (bytes_eq name label) refl
  where
    by : (page : Option ℕ) → page ≡ pages name → (b : Bool) → b ≡ bytes_eq name label →
        page ≡ option_or page (if b then Some n else None)
    by (Some m) e b same = refl
    by None e false same = refl
    by None e true same = absurd
        (true≢false (sym known ∙ ap is_some (sym (ap pages ((bytes_decides name label).0 (sym same))) ∙ sym e)))

-- and one that has none gets that of its label
pub added : (pages more : List ℕ → Option ℕ) (n : ℕ) (label name : List ℕ) → is_some (pages label) ≡ false →
    more name ≡ update bytes_eq pages label (Some n) name → more name ≡ label_behind pages n label name
added pages more n label name unknown put =
    put ∙ (ap (λ b. cond b (Some n) (pages name)) (nat_list_eq_equiv.symm label name)
    ∙ by (pages name) refl (bytes_eq name label) refl)
  where
    by : (page : Option ℕ) → page ≡ pages name → (b : Bool) → b ≡ bytes_eq name label →
        cond b (Some n) page ≡ option_or page (if b then Some n else None)
    by (Some m) e false same = refl
    by None e false same = refl
    by None e true same = refl
    by (Some m) e true same = absurd
        (true≢false (ap is_some (e ∙ ap pages ((bytes_decides name label).0 (sym same))) ∙ unknown))

-- ---- labels

no_more : (page : Option ℕ) → page ≡ option_or page None
no_more None = refl
no_more (Some n) = refl

-- the page n, where one of its labels has the name
abbrev here : List ℕ → ℕ → List (List ℕ) → Option ℕ
here name n labels = if list_any (bytes_eq name) labels then Some n else None

-- the labels of a page tell of a name what the first of them that has it tells
labels_here : (name : List ℕ) (n : ℕ) (pages : List ℕ → Option ℕ) (items : List Item) →
    labels_on pages n items name ≡ option_or (pages name) (here name n (filter_map label_of items))
labels_here name n pages [] = no_more (pages name)
labels_here name n pages (item ∷ items) =
    labels_here name n (labelled pages n (label_of item)) items ∙ by (label_of item)
  where
    joined : (page : Option ℕ) (a b : Bool) →
        option_or (option_or page (if a then Some n else None)) (if b then Some n else None)
        ≡ option_or page (if a || b then Some n else None)
    joined (Some m) a b = refl
    joined None true b = refl
    joined None false b = refl

    by : (label : Option (List ℕ)) →
        option_or (labelled pages n label name) (here name n (filter_map label_of items))
        ≡ option_or (pages name) (here name n (cons_option label (filter_map label_of items)))
    by None = refl
    by (Some text) =
        joined (pages name) (bytes_eq name text) (list_any (bytes_eq name) (filter_map label_of items))

module _ (blocks : List Block) where
  -- a page has the labels of its texts
  label_here : (name : List ℕ) (page : Page) →
      list_any (is_label name) (page_items blocks page)
      ≡ list_any (bytes_eq name) (filter_map label_of (page_text blocks page))
  label_here name page = among_labels name (page_items blocks page)
      ∙ ap (list_any (bytes_eq name)) (page_tells label_of (no_name (codes "\\special{ref:label ")) blocks page)

  page_found : (name : List ℕ) (n : ℕ) (found : List ℕ → Option ℕ) (pages : List Page) →
      labels_from found n (map (page_text blocks) pages) name
      ≡ option_or (found name) (label_page name n (map (page_items blocks) pages))
  page_found name n found [] = no_more (found name)
  page_found name n found (page ∷ pages) =
      page_found name (n + 1) (labels_on found n (page_text blocks page)) pages
      ∙ (ap (λ (first : Option ℕ). option_or first (label_page name (n + 1) (map (page_items blocks) pages)))
      (labels_here name n found (page_text blocks page))
      ∙ (by (found name) (list_any (bytes_eq name) (filter_map label_of (page_text blocks page)))
      (label_page name (n + 1) (map (page_items blocks) pages))
      ∙ ap (λ (b : Bool). option_or (found name)
      (if b then Some n else label_page name (n + 1) (map (page_items blocks) pages)))
      (sym (label_here name page))))
    where
      by : (first : Option ℕ) (b : Bool) (later : Option ℕ) →
          option_or (option_or first (if b then Some n else None)) later
          ≡ option_or first (if b then Some n else later)
      by (Some m) b later = refl
      by None true later = refl
      by None false later = refl

  -- ---- uses

  uses_here : (all : List (List Item)) (labels : List ℕ → Option ℕ) →
      ((name : List ℕ) → label_page name 1 all ≡ labels name) →
      (n : ℕ) (items : List Item) → map (reference_on all n) (uses items) ≡ uses_on labels n items
  uses_here all labels same n [] = refl
  uses_here all labels same n (item ∷ items) = by (use_of item) (uses_here all labels same n items)
    where
      by : (name : Option (List ℕ)) → map (reference_on all n) (uses items) ≡ uses_on labels n items →
          map (reference_on all n) (cons_option name (uses items)) ≡ used labels n name ++ uses_on labels n items
      by None rest = rest
      by (Some name) rest =
          ap₂ (λ (page : Option ℕ) (xs : List Reference). record { name = name; on = n; page = page } ∷ xs)
          (same name) rest

  uses_found : (all : List (List Item)) (labels : List ℕ → Option ℕ) →
      ((name : List ℕ) → label_page name 1 all ≡ labels name) →
      (n : ℕ) (pages : List Page) →
      references_from all n (map (page_items blocks) pages) ≡ uses_from labels n (map (page_text blocks) pages)
  uses_found all labels same n [] = refl
  uses_found all labels same n (page ∷ pages) = ap₂ (λ xs ys. xs ++ ys)
      (ap (map (reference_on all n)) (page_tells use_of (no_name (codes "\\special{ref:use ")) blocks page)
      ∙ uses_here all labels same n (page_text blocks page))
      (uses_found all labels same (n + 1) pages)

  pub references_found : (pages : List Page) →
      references blocks pages
      ≡ uses_from (labels_from no_pages 1 (map (page_text blocks) pages)) 1 (map (page_text blocks) pages)
  references_found pages =
      uses_found (map (page_items blocks) pages) (labels_from no_pages 1 (map (page_text blocks) pages))
      (λ name. sym (page_found name 1 no_pages pages)) 1 pages
