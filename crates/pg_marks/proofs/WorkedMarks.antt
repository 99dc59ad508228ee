-- Heads and references of small galleys, computed.
use Rattle.std.proofs.Common.{◌≡◌, refl, ℕ, ◌*◌, pos, List, [], ◌∷◌, ◌++◌, Some, None, map, codes}
use Rattle.std.specs.Fmt.{digits}
use Rattle.pg_list.specs.declared.blocks.Block.{Block}
use Rattle.pg_list.specs.declared.blocks.Block.TheVariants.{One}
use Rattle.pg_list.specs.declared.item.Item.{Item}
use Rattle.pg_list.specs.declared.item.Item.TheVariants.{BoxItem, Glue, Carry}
use Rattle.pg_list.specs.declared.item.Order.TheVariants.{Finite}
use Rattle.pg_list.specs.Places.{place}
use Rattle.pg_plan.specs.declared.pages.Page.{Page}
use Rattle.pg_scan.specs.Parts.{after, parts_of}
use Rattle.pg_marks.specs.Carries.{mark_of, use_of}
use Rattle.pg_marks.specs.Heads.{heads, references}
use Rattle.pg_marks.specs.HeadsText.{marks_text, head_line, head_top, head_rest, use_front, reference_line}

abbrev line : Item
line = BoxItem (pos (7 * 65536)) (pos (2 * 65536)) []

abbrev gap : Item
gap = Glue (pos (3 * 65536)) (pos 0) Finite (pos 0) []

abbrev carry : List ℕ → Item
carry body = Carry body

-- a page of one column from one block to another
abbrev page : ℕ → ℕ → Page
page from to =
    record {
      run = 0;
      wide = [];
      columns = record
          { from = place from 0 0; to = place to 0 0; top = []; bottom = []; picks = [] } ∷ [];
    }

-- three pages: one mark on the first, none on the second, two on the third
abbrev marked : List Block
marked = map One
    (line ∷ carry (codes "\\mark{A}") ∷ gap ∷ line ∷ gap ∷ line ∷ carry (codes "\\mark{B}")
    ∷ carry (codes "\\mark{C}") ∷ [])

abbrev marked_pages : List Page
marked_pages = page 0 2 ∷ page 2 4 ∷ page 4 8 ∷ []

marks_of_three : marks_text (heads marked marked_pages) (references marked marked_pages)
    ≡ codes "page 1 top {} first {A} bottom {A}\n"
    ++ codes "page 2 top {A} first {A} bottom {A}\n"
    ++ codes "page 3 top {A} first {B} bottom {C}\n"
unfolding after parts_of head_line head_top head_rest use_front reference_line digits
marks_of_three = refl

abbrev referred : List Block
referred =
    map One (line ∷ carry (codes "\\special{ref:use x}") ∷ gap ∷ line ∷ carry (codes "\\special{ref:label x}")
    ∷ carry (codes "\\special{ref:use y}") ∷ [])

abbrev referred_pages : List Page
referred_pages = page 0 2 ∷ page 2 6 ∷ []

references_of_two : marks_text (heads referred referred_pages) (references referred referred_pages)
    ≡ codes "page 1 top {} first {} bottom {}\n"
    ++ codes "page 2 top {} first {} bottom {}\n"
    ++ codes "use {x} on 1 is 2\n"
    ++ codes "use {y} on 2 is none\n"
unfolding after parts_of head_line head_top head_rest use_front reference_line digits
references_of_two = refl

-- a mark may be empty, is told by its first line alone, and needs its closing brace there
mark_forms : map mark_of
    (carry (codes "\\mark{}") ∷ carry (codes "\\mark{a}\nmore") ∷ carry (codes "\\mark{b\nc}")
    ∷ carry (codes "\\mark{{x}}") ∷ carry (codes "\\mark{") ∷ line ∷ [])
    ≡ Some [] ∷ Some (codes "a") ∷ None ∷ Some (codes "{x}") ∷ None ∷ None ∷ []
unfolding after parts_of
mark_forms = refl

-- a name is not empty and holds no closing brace, and may have several lines
name_forms : map use_of
    (carry (codes "\\special{ref:use }") ∷ carry (codes "\\special{ref:use x}}")
    ∷ carry (codes "\\special{ref:use y\n.z}") ∷ carry (codes "\\special{ref:use y}\n.z")
    ∷ carry (codes "\\special{ref:label x}") ∷ [])
    ≡ None ∷ None ∷ Some (codes "y\n.z") ∷ None ∷ None ∷ []
unfolding after parts_of
name_forms = refl

-- an empty mark is a mark; of two labels of one name the first counts; a use may stand behind its label
abbrev mixed : List Block
mixed = map One
    (line ∷ carry (codes "\\mark{a}\nmore") ∷ gap ∷ line ∷ carry (codes "\\mark{}") ∷ carry (codes "\\mark{b")
    ∷ carry (codes "\\special{ref:label x}")
    ∷ carry (codes "\\special{ref:use x}") ∷ gap ∷ line ∷ carry (codes "\\special{ref:label x}")
    ∷ carry (codes "\\special{ref:use }") ∷ carry (codes "\\special{ref:use y\n.z}") ∷ carry (codes "\\mark{c}")
    ∷ gap ∷ line ∷ [])

abbrev mixed_pages : List Page
mixed_pages = page 0 2 ∷ page 2 8 ∷ page 8 14 ∷ page 14 16 ∷ []

mixed_text : marks_text (heads mixed mixed_pages) (references mixed mixed_pages)
    ≡ codes "page 1 top {} first {a} bottom {a}\n"
    ++ codes "page 2 top {a} first {} bottom {}\n"
    ++ codes "page 3 top {} first {c} bottom {c}\n"
    ++ codes "page 4 top {c} first {c} bottom {c}\n"
    ++ codes "use {x} on 2 is 2\n"
    ++ codes "use {y\n"
    ++ codes ".z} on 3 is none\n"
unfolding after parts_of head_line head_top head_rest use_front reference_line digits
mixed_text = refl

no_pages : marks_text (heads [] []) (references [] []) ≡ []
no_pages = refl
