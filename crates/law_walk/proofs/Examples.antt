-- Ends computed: a paragraph of two lengths, and ten lines in two rooms.
use Rattle.std.proofs.Common.{◌≡◌, refl, ℕ, ℤ, pos, List, [], ◌∷◌, map}
use Rattle.pg_list.specs.declared.galley.Place.{Place}
use Rattle.pg_list.specs.Places.{place}
use Rattle.pg_rules.specs.Legal.{document}
use Rattle.pg_rules.specs.Room.{Document}
use Rattle.pg_list.specs.declared.blocks.Block.TheVariants.{One, Choice}
use Rattle.pg_column.proofs.Examples.{behind, high}
use Rattle.pg_rules.proofs.Examples.{at, choice_style, eject, gap, line, one_choice, plain, points, ten_lines}
use Rattle.pg_column.specs.declared.end.End.{End}
use Rattle.law_walk.specs.Candidates.{ends_in, ends_in_each}
use Rattle.law_walk.specs.Reached.{reach_of}
use Rattle.law_walk.specs.Walk.{candidates_from}

-- an end's place, picks, badness, demerits and pick demerits
pub record Shown : Type 0 where
  to : Place
  picks : List ℕ
  badness : ℕ
  demerits : ℤ
  pick_demerits : ℤ

abbrev show : End → Shown
show end = record {
  to = end.to;
  picks = end.picks;
  badness = end.cost.badness;
  demerits = end.cost.demerits;
  pick_demerits = end.pick_demerits;
}

abbrev shown : Place → List ℕ → ℕ → ℕ → ℕ → Shown
shown to picks badness demerits picked =
    record { to = to; picks = picks; badness = badness; demerits = pos demerits; pick_demerits = pos picked }

-- the paragraph of five lines, or six at 400 more
paragraph : Document
paragraph = document one_choice (choice_style 1)

paragraph_ends : map show (ends_in paragraph (high 34) (candidates_from paragraph (points 34) (at 0)))
    ≡ shown (place 0 0 1) (0 ∷ []) 10000 100222600 0
    ∷ shown (place 0 0 4) (0 ∷ []) 10000 100200100 0
    ∷ shown (place 0 0 6) (0 ∷ []) 0 22600 0
    ∷ shown (place 0 1 1) (1 ∷ []) 10000 100222600 400
    ∷ shown (place 0 1 4) (1 ∷ []) 10000 100200100 400
    ∷ shown (place 0 1 6) (1 ∷ []) 0 100 400
    ∷ []
unfolding ends_in candidates_from paragraph
paragraph_ends = refl

lines : Document
lines = document ten_lines (plain 34)

lines_ends : map (map (λ (end : End). end.to)) (ends_in_each lines (high 10 ∷ high 34 ∷ [])
    (candidates_from lines (points 34) (at 0))) ≡ (at 1 ∷ []) ∷ (at 1 ∷ at 3 ∷ at 5 ∷ []) ∷ []
unfolding ends_in candidates_from lines
lines_ends = refl

-- ---- the reach of a place

tall_lines : Document
tall_lines = document ten_lines (plain 58)

reach_start : reach_of tall_lines (at 0) ≡ 12
unfolding reach_of tall_lines
reach_start = refl

reach_second : reach_of tall_lines (at 1) ≡ 14
unfolding reach_of tall_lines
reach_second = refl

reach_end : reach_of tall_lines (at 19) ≡ 20
unfolding reach_of tall_lines
reach_end = refl

-- past a paragraph the longer text decides nothing, the shorter reaches farther; a forced break stops both
reach_behind : reach_of (behind (One gap ∷ One line ∷ One eject ∷ One line ∷ [])) (place 0 0 6) ≡ 4
unfolding reach_of behind
reach_behind = refl

-- ---- picks that meet

-- two lengths of two lines, with the same sums and another price: the cheaper one's end stays
meeting : Document
meeting = document (record {
  width = points 345;
  blocks = Choice (
      record { looseness = pos 0; demerits = 300; items = line ∷ gap ∷ line ∷ [] }
      ∷ record { looseness = pos 1; demerits = 200; items = line ∷ gap ∷ line ∷ [] }
      ∷ record { looseness = pos 1; demerits = 200; items = line ∷ gap ∷ line ∷ [] }
      ∷ record { looseness = pos 2; demerits = 0; items = line ∷ gap ∷ line ∷ [] } ∷ [])
      ∷ One gap ∷ One line ∷ [];
}) (choice_style 1)

meeting_ends : map show (ends_in meeting (high 34) (candidates_from meeting (points 34) (at 0)))
    ≡ shown (place 0 0 1) (0 ∷ []) 10000 100200100 300
    ∷ shown (place 0 1 1) (1 ∷ []) 10000 100200100 200
    ∷ shown (place 0 2 1) (2 ∷ []) 10000 100200100 200
    ∷ shown (place 1 0 0) (1 ∷ []) 10000 100200100 200
    ∷ shown (place 3 0 0) (1 ∷ []) 0 100 200
    ∷ []
unfolding ends_in candidates_from meeting
meeting_ends = refl
