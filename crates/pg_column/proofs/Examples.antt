-- Spans and verdicts computed: a paragraph of two lengths, and lines with a note.
use Rattle.std.proofs.Common.{◌≡◌, refl, ℕ, pos, List, [], ◌∷◌, true, false}
use Rattle.std.specs.Prelude.{Ok, Err}
use Rattle.pg_list.specs.Places.{place}
use Rattle.pg_list.specs.declared.blocks.Block.{Block}
use Rattle.pg_list.specs.declared.blocks.Block.TheVariants.{One}
use Rattle.pg_rules.specs.Legal.{document}
use Rattle.pg_rules.specs.Room.{Document}
use Rattle.pg_rules.proofs.Examples.{at, choice_style, eject, gap, line, note_style, one_choice, one_note, paragraph as two_lengths, points}
use Rattle.pg_column.specs.Fits.{does_fit_from}
use Rattle.pg_style.specs.Plain.{no_give}
use Rattle.pg_column.specs.Judged.{verdict_on}
use Rattle.pg_column.specs.declared.cost.TextRoom.{TextRoom}

fits_first : does_fit_from one_choice.blocks (at 0) (0 ∷ []) (place 0 0 6) ≡ true
fits_first = refl

no_pick : does_fit_from one_choice.blocks (at 0) [] (place 0 0 6) ≡ false
no_pick = refl

a_pick_too_many : does_fit_from one_choice.blocks (at 0) (0 ∷ 0 ∷ []) (place 0 0 6) ≡ false
a_pick_too_many = refl

no_such_variant : does_fit_from one_choice.blocks (at 0) (2 ∷ []) (at 1) ≡ false
no_such_variant = refl

another_variant : does_fit_from one_choice.blocks (at 0) (1 ∷ []) (place 0 0 6) ≡ false
another_variant = refl

-- a room of so many points, in which no gap gives
abbrev pub high : ℕ → TextRoom
high n = record { size = points n; give = no_give }

paragraph : ℕ → Document
paragraph looseness = document one_choice (choice_style looseness)

numbers : verdict_on (paragraph 1) (high 34) (at 0) (0 ∷ []) (place 0 0 6)
    ≡ Ok (record {
      goal = points 34;
      total = points 34;
      badness = 0;
      fitness = 2;
      penalty = pos 150;
      demerits = pos 22600;
    })
unfolding paragraph
numbers = refl

no_break : verdict_on (paragraph 1) (high 34) (at 0) (0 ∷ []) (place 0 0 5) ≡ Err 3
unfolding paragraph
no_break = refl

over : verdict_on (paragraph 1) (high 33) (at 0) (0 ∷ []) (place 0 0 6) ≡ Err 4
unfolding paragraph
over = refl

too_loose : verdict_on (paragraph 0) (high 34) (at 0) (1 ∷ []) (place 0 1 6) ≡ Err 13
unfolding paragraph
too_loose = refl

unfoldable pub behind : List Block → Document
behind blocks = document (record { width = points 345; blocks = two_lengths ∷ blocks }) (choice_style 1)

past_a_forced_break : verdict_on (behind (One gap ∷ One line ∷ One eject ∷ One line ∷ [])) (high 58) (place 0 0 6)
    [] (at 5)
    ≡ Err 5
unfolding behind
past_a_forced_break = refl

-- the last line of five, with a note behind it
noted : ℕ → ℕ → Document
noted least limit = document one_note (record (note_style limit) { min_text = points least })

with_a_note : verdict_on (noted 58 9) (high 58) (at 7) [] (at 10)
    ≡ Ok (record {
      goal = points 45;
      total = points 10;
      badness = 0;
      fitness = 2;
      penalty = pos 0;
      demerits = pos 100;
    })
unfolding noted
with_a_note = refl

too_little_room : verdict_on (noted 59 9) (high 58) (at 7) [] (at 10) ≡ Err 6
unfolding noted
too_little_room = refl

too_much_of_a_class : verdict_on (noted 58 8) (high 58) (at 7) [] (at 10) ≡ Err 11
unfolding noted
too_much_of_a_class = refl

-- the least of two that are broken
room_before_notes : verdict_on (noted 59 8) (high 58) (at 7) [] (at 10) ≡ Err 6
unfolding noted
room_before_notes = refl
