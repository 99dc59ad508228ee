-- How first fit is told beside the best pages.
use Rattle.std.specs.Prelude.{ℕ, List, [], ◌∷◌, ◌++◌, decimal, codes, Option, Some, None, ℤ, ◌-ℤ◌}
use Rattle.pg_words.specs.Written.{whole_text}

unfoldable pub pages_text : ℕ → List ℕ
pages_text pages = codes "first fit pages " ++ decimal pages

unfoldable pub saved_text : ℤ → ℤ → List ℕ
saved_text cost saved = codes " cost " ++ whole_text cost ++ codes " saved " ++ (whole_text saved ++ 10 ∷ [])

unfoldable pub breach_text : ℕ → ℕ → List ℕ
breach_text rule column = (codes " illegal rule " ++ decimal rule) ++ (codes " column " ++ decimal column)

unfoldable pub broken_text : ℕ → ℕ → List ℕ
broken_text rule column = breach_text rule column ++ 10 ∷ []

-- of the pages of first fit: what they cost, and what the best ones save; or the rule that they break, and where
abbrev pub first_line : ℕ → Option (ℕ × ℕ) → ℤ → ℤ → List ℕ
first_line pages None cost best = pages_text pages ++ saved_text cost (cost -ℤ best)
first_line pages (Some fault) cost best = pages_text pages ++ broken_text fault.0 fault.1

-- of the best pages
unfoldable pub best_line : ℕ → ℤ → List ℕ
best_line pages cost = codes "best pages " ++ decimal pages ++ codes " cost " ++ (whole_text cost ++ 10 ∷ [])
