-- How an item's shown text stands in a page text.
use Rattle.std.specs.Prelude.{ℕ, List, [], ◌∷◌, ◌++◌, take, drop, codes, ℤ}
use Rattle.std.specs.List.{prefix_len}
use Rattle.pg_list.specs.declared.item.Item.{Item}
use Rattle.pg_list.specs.declared.item.Item.TheVariants.{Insert}
use Rattle.pg_list.specs.Bodies.{body_of}
use Rattle.pg_scaled.specs.Scaled.{scaled_text}
use Rattle.pg_words.specs.Written.{line}
use Rattle.pg_scan.specs.Lines.{is_no_feed, dotted}

-- a body with a point in front of each of its lines
abbrev pub body_text : List ℕ → List ℕ
body_text body = line (46 ∷ dotted body)

-- a set width, and what stands behind it
abbrev pub set_rest : ℤ → List ℕ → List ℕ
set_rest width further = codes ", set " ++ scaled_text width ++ line (dotted further)

-- a body whose first line goes on with a set width
abbrev pub set_text : List ℕ → ℤ → List ℕ
set_text body width = 46 ∷ dotted (take (prefix_len is_no_feed body) body)
    ++ set_rest width (drop (prefix_len is_no_feed body) body)

-- inserts stand in areas of their own
abbrev pub plain_text : Item → List ℕ
plain_text (Insert class size body) = []
plain_text item = body_text (body_of item)
