-- What is written of a galley that is made.
use Rattle.std.specs.Prelude.{◌≡◌, ℕ, List, [], ◌∷◌, ◌++◌, length, codes, decimal, ℤ}
use Rattle.pg_list.specs.Counts.{item_count}
use Rattle.pg_plan.specs.declared.pages.Pagination.{Pagination}
use Rattle.pg_rules.specs.Best.{Best}
use Rattle.pg_rules.specs.Cost.{cost}
use Rattle.pg_rules.specs.Legal.{Legal}
use Rattle.pg_words.specs.Written.{whole_text}
use Rattle.pg_space.specs.Solves.{HasFrontier}
use Rattle.pg_make.specs.Generated.{made_blocks, made_galley}
use Rattle.pg_make.specs.Made.{made_style}
use Rattle.pg_command.specs.declared.status.Status.{Status}
use Rattle.pg_command.specs.declared.status.Status.TheVariants.{Done, NoLegal}

-- a name and a number behind it
abbrev pub numbered : List ℕ → ℕ → List ℕ
numbered name number = name ++ decimal number

-- the paragraphs and the items of all variants
unfoldable pub made_front : ℕ → ℕ → List ℕ
made_front count items = numbered (codes "make ") count ++ numbered (codes " items ") items

-- the pages and what they cost
unfoldable pub made_pages : ℕ → ℤ → List ℕ
made_pages pages cost = numbered (codes " pages ") pages ++ (codes " cost " ++ whole_text cost)

-- there are no pages
unfoldable pub made_none : List ℕ
made_none = codes " no legal pagination"

-- the labels, and the line's end
unfoldable pub made_labels : ℕ → List ℕ
made_labels labels = numbered (codes " labels ") labels ++ 10 ∷ []

-- the line of a galley with these paragraphs and items, and pages of this cost
abbrev pub pages_line : ℕ → ℕ → ℕ → ℤ → ℕ → List ℕ
pages_line count items pages cost labels = made_front count items ++ (made_pages pages cost ++ made_labels labels)

-- the line of a galley that has no legal pagination
abbrev pub none_line : ℕ → ℕ → ℕ → List ℕ
none_line count items labels = made_front count items ++ (made_none ++ made_labels labels)

-- the line tells the pages and the cost of the best pagination of the galley that is made, under the made style, and
-- the labels of its frontier
pub record IsMadeLine (count : ℕ) (text : List ℕ) : Type 0 where
  pub plan : Pagination
  pub best : Best (made_galley count) made_style plan
  pub labels : ℕ
  pub frontier : HasFrontier (made_galley count) made_style labels
  pub written : text ≡ pages_line count (item_count (made_blocks count)) (length plan.pages)
      (cost (made_galley count) made_style plan) labels

-- the line for none, where no pagination of the galley that is made is legal
pub record IsMadeNone (count : ℕ) (text : List ℕ) : Type 0 where
  pub none : (plan : Pagination) → Legal (made_galley count) made_style plan → ⊥
  pub labels : ℕ
  pub frontier : HasFrontier (made_galley count) made_style labels
  pub written : text ≡ none_line count (item_count (made_blocks count)) labels

-- what is written of the galley of so many paragraphs, and how that ends
abbrev pub MadeOut : ℕ → List ℕ → Status → Type 0
MadeOut count text Done = IsMadeLine count text
MadeOut count text NoLegal = IsMadeNone count text
MadeOut count text end = ⊥
