-- How heads and references are written.
use Rattle.std.specs.Prelude.{ℕ, ◌+◌, List, [], ◌∷◌, ◌++◌, decimal, codes, Option, Some, None}
use Rattle.std.specs.List.{flat_map}
use Rattle.pg_marks.specs.declared.lists.Head.{Head}
use Rattle.pg_marks.specs.declared.lists.Reference.{Reference}

abbrev pub braced : List ℕ → List ℕ
braced text = 123 ∷ text ++ 125 ∷ []

unfoldable pub head_top : ℕ → List ℕ → List ℕ
head_top n top = codes "page " ++ decimal n ++ (codes " top " ++ braced top)

unfoldable pub head_rest : Head → List ℕ
head_rest head = (codes " first " ++ braced head.first) ++ (codes " bottom " ++ braced head.bottom)

unfoldable pub head_line : ℕ → Head → List ℕ
head_line n head = head_top n head.top ++ head_rest head ++ 10 ∷ []

abbrev pub heads_text : ℕ → List Head → List ℕ
heads_text n [] = []
heads_text n (head ∷ heads) = head_line n head ++ heads_text (n + 1) heads

abbrev pub page_word : Option ℕ → List ℕ
page_word None = codes "none"
page_word (Some page) = decimal page

unfoldable pub use_front : List ℕ → ℕ → List ℕ
use_front name on = (codes "use " ++ braced name) ++ (codes " on " ++ decimal on)

unfoldable pub reference_line : Reference → List ℕ
reference_line it = use_front it.name it.on ++ codes " is " ++ (page_word it.page ++ 10 ∷ [])

-- a line for each page, and then one for each use
abbrev pub marks_text : List Head → List Reference → List ℕ
marks_text heads references = heads_text 1 heads ++ flat_map reference_line references
