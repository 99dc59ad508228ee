-- Where columns of text from a place may end, whatever their room, and which of these ends are due in a room.
use Rattle.std.specs.Prelude.{◌≡◌, ℕ, Bool, true, false, ◌&&◌, ◌||◌, not, nat_le, List, length, map, take, filter, Option, Some, None, unwrap_or, ℤ, pos, int_le}
use Rattle.pg_list.specs.declared.galley.Place.{Place}
use Rattle.pg_list.specs.declared.variants.Variant.{Variant}
use Rattle.pg_list.specs.Flat.{blocks_at, flat_items_at, fronts, is_same_place, picked_variants, steps_to}
use Rattle.pg_list.specs.Whole.{whole_sum_by}
use Rattle.pg_style.specs.Values.{StyleValue}
use Rattle.pg_breaks.specs.Near.{place_penalty, place_forced, place_spent}
use Rattle.pg_rules.specs.Room.{Document}
use Rattle.pg_column.specs.Judged.{are_loose_enough}
use Rattle.pg_column.specs.Numbers.{cost_by, is_over_by, most_room}
use Rattle.pg_column.specs.Passed.{Passed, are_within, fits, is_end_here, least_room, nothing, pass_items}
use Rattle.pg_column.specs.declared.cost.TextCost.{TextCost}
use Rattle.pg_column.specs.declared.cost.TextRoom.{TextRoom}
use Rattle.pg_column.specs.declared.end.End.{End}
use Rattle.law_walk.specs.Best.{IsAmong, IsCheaper, best_of}

-- where columns from a place may end: the picks that lead there, what they pass on the way, and the demerits of the
-- variants picked
pub record Candidate : Type 0 where
  pub to : Place
  pub picks : List ℕ
  pub passed : Passed
  pub pick_demerits : ℤ

-- ---- in a room

-- what was passed is over
abbrev pub is_over_in : StyleValue → TextRoom → Passed → Bool
is_over_in style room p = is_over_by style room p.totals p.notes

-- the numbers of the column to this end
abbrev pub cost_in : Document → TextRoom → Candidate → TextCost
cost_in doc room c =
    cost_by doc.style room c.passed.totals c.passed.notes (place_spent doc.blocks c.to)
    (unwrap_or (place_penalty doc.blocks c.to) (pos 0))

-- a column to this end keeps the rules on its text, however low its room is
abbrev pub keeps_text : Document → TextRoom → Candidate → Bool
keeps_text doc room c =
    (not (is_over_in doc.style room c.passed)
    && (place_forced doc.blocks c.to || nat_le (cost_in doc room c).badness doc.style.tolerance))
    && fits c.passed.bound (most_room room)

-- the room is not below the least one of a text
abbrev pub has_text : StyleValue → TextRoom → Bool
has_text style room = int_le style.min_text room.size

-- a column to this end keeps the rules on its text
abbrev pub keeps_in : Document → TextRoom → Candidate → Bool
keeps_in doc room c = keeps_text doc room c && has_text doc.style room

-- the end with its numbers
abbrev pub end_in : Document → TextRoom → Candidate → End
end_in doc room c =
    record { to = c.to; picks = c.picks; cost = cost_in doc room c; pick_demerits = c.pick_demerits }

-- the ends of the candidates that keep the rules in a room
abbrev pub kept_ends : Document → TextRoom → List Candidate → List End
kept_ends doc room cs = map (end_in doc room) (filter (keeps_in doc room) cs)

-- those of the candidates that keep them however low the room is
abbrev pub text_ends : Document → TextRoom → List Candidate → List End
text_ends doc room cs = map (end_in doc room) (filter (keeps_text doc room) cs)

-- the ends in a room: the best of them for each place and fitness, in order
unfoldable pub ends_in : Document → TextRoom → List Candidate → List End
ends_in doc room cs = best_of (kept_ends doc room cs)

-- the ends in each of these rooms
abbrev pub ends_in_each : Document → List TextRoom → List Candidate → List (List End)
ends_in_each doc rooms cs = map (λ (room : TextRoom). ends_in doc room cs) rooms

-- ---- which they are

-- the picks lead from the place to another, past no forced break, to a break behind a box; the notes are within the
-- limits, and so is the looseness of each variant picked
pub record IsCandidate (doc : Document) (from : Place) (c : Candidate) : Type 0 where
  pub apart : is_same_place from c.to ≡ false
  pub size : ℕ
  pub leads : steps_to doc.blocks (flat_items_at doc.blocks from c.picks) c.to ≡ Some size
  pub fronts_are : fronts (flat_items_at doc.blocks from c.picks) size ≡ length c.picks
  pub named : length (picked_variants (blocks_at doc.blocks from) c.picks) ≡ length c.picks
  pub passes : pass_items doc nothing (take size (flat_items_at doc.blocks from c.picks)) ≡ Some c.passed
  pub ends : is_end_here doc.blocks c.passed c.to ≡ true
  pub limits : are_within doc.style c.passed ≡ true
  pub loose : are_loose_enough doc.style (blocks_at doc.blocks from) c.picks ≡ true
  pub demerits : c.pick_demerits
      ≡ whole_sum_by (λ (variant : Variant). pos variant.demerits) (picked_variants (blocks_at doc.blocks from) c.picks)

-- some room up to the greatest one is neither below the bound nor one in which what was passed is over
abbrev pub is_usable : StyleValue → ℤ → Passed → Bool
is_usable style top p = fits p.bound top && int_le (least_room style p) top

-- a bound that is no greater
abbrev pub is_no_greater : Option ℤ → Option ℤ → Bool
is_no_greater None other = true
is_no_greater (Some least) None = false
is_no_greater (Some least) (Some other) = int_le least other

-- the one does as well as the other in each room: the same place, sums and notes, a bound that is no greater, and a
-- price that is less, or the same with picks that are not after
pub record Covers (a b : Candidate) : Type 0 where
  pub to : a.to ≡ b.to
  pub totals : a.passed.totals ≡ b.passed.totals
  pub notes : a.passed.notes ≡ b.passed.notes
  pub bound : is_no_greater a.passed.bound b.passed.bound ≡ true
  pub cheaper : IsCheaper a.pick_demerits a.picks b.pick_demerits b.picks

-- some candidate of the list does as well in each room
pub record CoversIn (cs : List Candidate) (c : Candidate) : Type 0 where
  pub candidate : Candidate
  pub listed : IsAmong candidate cs
  pub covers : Covers candidate c

-- the candidates from a place that suffice for all rooms up to the greatest one
pub record AreCandidates (doc : Document) (from : Place) (top : ℤ) (cs : List Candidate) : Type 0 where
  pub sound : (c : Candidate) → IsAmong c cs → IsCandidate doc from c
  pub whole : (c : Candidate) → IsCandidate doc from c → is_usable doc.style top c.passed ≡ true → CoversIn cs c
