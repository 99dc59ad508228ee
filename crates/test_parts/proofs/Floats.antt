-- The floats of small galleys, worked by hand.
use Rattle.std.proofs.Common.{refl, ℕ, ℤ, pos, negsuc, List, [], ◌∷◌, Bool, true, false, Option, Some, None}
use Rattle.std.specs.Prelude.{map, replicate, nat_le, ◌^◌}
use Rattle.pg_list.specs.Places.{place}
use Rattle.pg_list.specs.declared.galley.Place.{Place}
use Rattle.pg_list.specs.declared.blocks.Block.{Block}
use Rattle.pg_list.specs.declared.blocks.Block.TheVariants.{One, Choice}
use Rattle.pg_style.specs.Plain.{rigid}
use Rattle.pg_style.specs.Values.{AreaRuleValue, StyleValue}
use Rattle.pg_rules.specs.Floats.{called, entry, floats}
use Rattle.pg_floats.specs.AreFloats.{float_size, float_total, height_of, unknown_class}
use Rattle.test_parts.proofs.Cases.{AreTold, fil_gap, float_style, gap, insert, items, line, penalty, points, variant}

abbrev style : StyleValue
style = float_style (0 ∷ []) (0 ∷ [])

-- ---- galleys

abbrev two : List Block
two = items (line ∷ insert 100 (points 50) ∷ gap ∷ line ∷ insert 100 (points 10) ∷ [])

abbrev forced : List Block
forced = items (line ∷ fil_gap ∷ line ∷ fil_gap ∷ line ∷ insert 100 (points 30) ∷ fil_gap ∷ line ∷ fil_gap ∷ line ∷ penalty (negsuc 9999) ∷ line ∷ [])

abbrev across : List Block
across = items (line ∷ gap ∷ line ∷ gap ∷ line ∷ insert 101 (points 10) ∷ gap ∷ line ∷ [])

abbrev three : List Block
three = items (line ∷ insert 101 (points 5) ∷ insert 100 (points 7) ∷ line ∷ insert 100 (points 1) ∷ [])

abbrev paragraph : List Block
paragraph = Choice (variant (line ∷ insert 100 (points 5) ∷ gap ∷ line ∷ []) ∷ variant (line ∷ insert 100 (points 5) ∷ gap ∷ line ∷ gap ∷ line ∷ []) ∷ []) ∷ One (insert 100 (points 1)) ∷ []

abbrev one : List Block
one = items (line ∷ insert 100 (points 20) ∷ [])

-- ---- what is told of them

-- the floats called before a place, of class 100, of class 101, and of a third class, which the style has not
abbrev called_before : List Block → Place → List ℕ
called_before blocks at = map (entry (called blocks style at)) (0 ∷ 1 ∷ 2 ∷ [])

-- 2 points between two floats, and 4 between the area and the text
abbrev rule : AreaRuleValue
rule = record { count = 4; sep = rigid (points 2); gap = rigid (points 4) }

abbrev area : List Block → List ℕ → List ℕ → Option ℤ
area blocks placed counts = height_of (floats blocks style) rule placed counts

-- at most so many floats are taken
abbrev are_few : ℕ → Bool
are_few n = nat_le (float_total (items (replicate n (insert 101 (points 1)))) style) (2 ^ 12)

-- floats called before places
callouts : AreTold (
    (called_before two (place 1 0 0), 0 ∷ 0 ∷ 0 ∷ [])
    ∷ (called_before two (place 2 0 0), 1 ∷ 0 ∷ 0 ∷ [])
    ∷ (called_before two (place 4 0 0), 1 ∷ 0 ∷ 0 ∷ [])
    ∷ (called_before two (place 5 0 0), 2 ∷ 0 ∷ 0 ∷ [])
    ∷ (called_before forced (place 5 0 0), 0 ∷ 0 ∷ 0 ∷ [])
    ∷ (called_before forced (place 6 0 0), 1 ∷ 0 ∷ 0 ∷ [])
    ∷ (called_before across (place 3 0 0), 0 ∷ 0 ∷ 0 ∷ [])
    ∷ (called_before across (place 8 0 0), 0 ∷ 1 ∷ 0 ∷ [])
    ∷ (called_before three (place 2 0 0), 0 ∷ 1 ∷ 0 ∷ [])
    ∷ (called_before three (place 4 0 0), 1 ∷ 1 ∷ 0 ∷ [])
    ∷ (called_before paragraph (place 0 1 1), 0 ∷ 0 ∷ 0 ∷ [])
    ∷ (called_before paragraph (place 0 1 2), 1 ∷ 0 ∷ 0 ∷ [])
    ∷ (called_before paragraph (place 1 0 0), 1 ∷ 0 ∷ 0 ∷ [])
    ∷ (called_before paragraph (place 2 0 0), 2 ∷ 0 ∷ 0 ∷ [])
    ∷ [])
callouts = refl

-- the counts that are placed and those that an area takes, and its height where there are so many
areas : AreTold (
    (area two (0 ∷ []) (0 ∷ []), Some (points 0))
    ∷ (area two (0 ∷ []) (1 ∷ []), Some (points 54))
    ∷ (area two (0 ∷ []) (2 ∷ []), Some (points 66))
    ∷ (area two (0 ∷ []) (3 ∷ []), None)
    ∷ (area two (1 ∷ []) (1 ∷ []), Some (points 14))
    ∷ (area two (1 ∷ []) (2 ∷ []), None)
    ∷ (area two (2 ∷ []) (0 ∷ []), Some (points 0))
    ∷ (area two (2 ∷ []) (1 ∷ []), None)
    ∷ (area one (0 ∷ []) (1 ∷ []), Some (points 24))
    ∷ (area forced (0 ∷ []) (1 ∷ []), Some (points 34))
    ∷ (area across (0 ∷ 0 ∷ []) (0 ∷ 1 ∷ []), Some (points 14))
    ∷ (area across (0 ∷ 0 ∷ []) (1 ∷ []), None)
    ∷ (area three (0 ∷ 0 ∷ []) (1 ∷ 1 ∷ []), Some (points 18))
    ∷ (area three (0 ∷ 0 ∷ []) (2 ∷ 1 ∷ []), Some (points 21))
    ∷ (area three (1 ∷ 0 ∷ []) (1 ∷ 1 ∷ []), Some (points 12))
    ∷ (area three (1 ∷ 1 ∷ []) (1 ∷ 0 ∷ []), Some (points 5))
    ∷ (area three (0 ∷ 1 ∷ []) (1 ∷ 1 ∷ []), None)
    ∷ [])
areas = refl

-- a class by its position, and a number in it
sizes : AreTold (
    (float_size two style 0 0, Some (points 50))
    ∷ (float_size two style 0 1, Some (points 10))
    ∷ (float_size two style 0 2, None)
    ∷ (float_size two style 1 0, None)
    ∷ (float_size three style 0 0, Some (points 7))
    ∷ (float_size three style 0 1, Some (points 1))
    ∷ (float_size three style 1 0, Some (points 5))
    ∷ (float_size three style 2 0, None)
    ∷ [])
sizes = refl

-- the first class that the style has not
strangers : AreTold (
    (unknown_class (items (line ∷ insert 100 (points 5) ∷ insert 7 (points 1) ∷ [])) style, Some 7)
    ∷ (unknown_class (items (line ∷ insert 9 (points 1) ∷ insert 7 (points 1) ∷ insert 100 (points 5) ∷ [])) style, Some 9)
    ∷ (unknown_class (One line ∷ One gap ∷ Choice (variant (line ∷ insert 102 (points 5) ∷ line ∷ []) ∷ variant (line ∷ insert 102 (points 5) ∷ gap ∷ line ∷ []) ∷ []) ∷ One (insert 7 (points 1)) ∷ []) style, Some 102)
    ∷ [])
strangers = refl

-- as many floats as the limit, and one more
limit : AreTold (
    (are_few 4096, true)
    ∷ (are_few 4097, false)
    ∷ [])
limit = refl
