-- A list that is cut into parts, each of which says something.
use Rattle.std.specs.Prelude.{◌≡◌, List, [], ◌∷◌, ◌++◌}

module _ {A B : Type 0} (Says : List A → B → Type 0) where
  -- the parts stand one behind the other, one for each of these, and nothing else stands there
  abbrev pub InOrder : List A → List B → Type 0
  InOrder list [] = list ≡ []
  InOrder list (x ∷ xs) = (front : List A) × (rest : List A) × (list ≡ front ++ rest) × Says front x × InOrder rest xs
