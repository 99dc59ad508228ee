-- The ends of candidates with more height before them are the ends in a lower room, higher.
use Rattle.std.proofs.Common.{◌≡◌, refl, sym, ap, ◌∙◌, List, [], ◌∷◌, map, arith, Bool, true, false, ℕ, Option, Some, None, ℤ, pos, ◌+ℤ◌, ◌-ℤ◌}
use Rattle.std.specs.Prelude.{◌&&◌, ◌||◌, ◌==◌, not, if◌then◌else◌, int_le, int_lt, nat_le, nat_lt, unwrap_or}
use Rattle.std.specs.Int.{int_max}
use Rattle.std.specs.List.{filter}
use Rattle.std.proofs.lemmas.Int.{ints, clamps}
use Rattle.pg_lemmas.proofs.Bools.{both_ways, by_bool}
use Rattle.pg_list.specs.Badness.{badness, fill_badness, is_over}
use Rattle.pg_breaks.specs.Near.{place_forced, place_penalty, place_spent}
use Rattle.pg_notes.specs.NotesValue.{heights, smallest_by}
use Rattle.pg_column.specs.Numbers.{badness_for, cost_for, give_by, goal_by, most_room}
use Rattle.pg_column.specs.Passed.{fits}
use Rattle.pg_column.specs.declared.cost.TextCost.{TextCost}
use Rattle.pg_column.specs.declared.cost.TextRoom.{TextRoom}
use Rattle.pg_column.specs.declared.end.End.{End}
use Rattle.pg_rules.specs.ColumnRules.{fitness_by}
use Rattle.pg_rules.specs.Cost.{break_demerits}
use Rattle.pg_rules.specs.Room.{Document}
use Rattle.pg_style.specs.Values.{StyleValue}
use Rattle.pg_style.specs.declared.style.Give.{Give}
use Rattle.pg_sums.specs.Step.{has_infinite}
use Rattle.pg_sums.specs.declared.totals.Totals.{Totals}
use Rattle.law_places.proofs.Tests.{int_le_of, int_less, le_int, less_int}
use Rattle.law_walk.specs.Candidates.{Candidate, cost_in, end_in, has_text, is_over_in, keeps_in, keeps_text, kept_ends, text_ends}
use Rattle.pg_walk.specs.Moved.{moved_candidate, over}
use Rattle.pg_walk.proofs.Moved.{fits_over}
use Rattle.pg_rooms.specs.PlaceEnds.{higher_end}

-- ---- numbers that are all so much higher

le_higher : (a b by : ℤ) → int_le (a +ℤ by) (b +ℤ by) ≡ int_le a b
le_higher a b by = both_ways (int_le (a +ℤ by) (b +ℤ by)) (int_le a b)
    (λ e. let l = le_int (a +ℤ by) (b +ℤ by) e in int_le_of a b (omega (arith, ints, l)))
    (λ e. let l = le_int a b e in int_le_of (a +ℤ by) (b +ℤ by) (omega (arith, ints, l)))

less_higher : (a b by : ℤ) → int_lt (a +ℤ by) (b +ℤ by) ≡ int_lt a b
less_higher a b by = both_ways (int_lt (a +ℤ by) (b +ℤ by)) (int_lt a b)
    (λ e. let l = less_int (a +ℤ by) (b +ℤ by) e in int_less a b (omega (arith, ints, l)))
    (λ e. let l = less_int a b e in int_less (a +ℤ by) (b +ℤ by) (omega (arith, ints, l)))

apart_higher : (a b by : ℤ) → (a +ℤ by) -ℤ (b +ℤ by) ≡ a -ℤ b
apart_higher a b by = omega (arith, ints)

over_higher : (total shrink goal by : ℤ) → is_over (total +ℤ by) shrink (goal +ℤ by) ≡ is_over total shrink goal
over_higher total shrink goal by =
    ap (λ (b : Bool). b && int_lt shrink ((total +ℤ by) -ℤ (goal +ℤ by))) (le_higher goal total by)
    ∙ ap (λ (z : ℤ). int_le goal total && int_lt shrink z) (apart_higher total goal by)

fill_higher : (is_spent : Bool) (goal total by : ℤ) (is_infinite : Bool) (more less : ℤ) →
    fill_badness is_spent (goal +ℤ by) (total +ℤ by) is_infinite more less
    ≡ fill_badness is_spent goal total is_infinite more less
fill_higher is_spent goal total by is_infinite more less =
    same _ _ _ _ _ _ _ _ (le_higher total goal by) (less_higher total goal by) (apart_higher goal total by)
    (apart_higher total goal by)
  where
    fill : Bool → Bool → ℤ → ℤ → ℕ
    fill full short up down =
        if is_spent && full then 0
        else (if short then (if is_infinite then 0 else badness up more) else badness down less)

    same : (full full' short short' : Bool) (up up' down down' : ℤ) → full ≡ full' → short ≡ short' → up ≡ up' →
        down ≡ down' → fill full short up down ≡ fill full' short' up' down'
    same full full' short short' up up' down down' p q r s = rw (p, q, r, s) refl

fitness_higher : (total goal by : ℤ) (n : ℕ) → fitness_by (total +ℤ by) (goal +ℤ by) n ≡ fitness_by total goal n
fitness_higher total goal by n = same _ _ _ _ (less_higher total goal by) (less_higher goal total by)
  where
    fit : Bool → Bool → ℕ
    fit short long =
        if short then (if nat_lt 99 n then 0 else (if nat_lt 12 n then 1 else 2))
        else (if long && nat_lt 12 n then 3 else 2)

    same : (short short' long long' : Bool) → short ≡ short' → long ≡ long' → fit short long ≡ fit short' long'
    same short short' long long' p q = rw (p, q) refl

-- ---- the numbers of an end

abbrev higher_cost : ℤ → TextCost → TextCost
higher_cost by cost = record cost { goal = cost.goal +ℤ by; total = cost.total +ℤ by }

abbrev higher : ℤ → Totals → Totals
higher by t = record t { total = t.total +ℤ by }

module _ (style : StyleValue) (by : ℤ) where
  cost_for_higher : (goal : ℤ) (give : Give) (t : Totals) (is_spent : Bool) (penalty : ℤ) →
      cost_for style (goal +ℤ by) give (higher by t) is_spent penalty
      ≡ higher_cost by (cost_for style goal give t is_spent penalty)
  cost_for_higher goal give t is_spent penalty =
      ap made bad ∙ ap (λ (n : ℕ). record (made (badness_for style goal give t is_spent)) { fitness = n }) fit
    where
      made : ℕ → TextCost
      made n = record {
        goal = goal +ℤ by;
        total = t.total +ℤ by;
        badness = n;
        fitness = if style.version == 1 then 2 else fitness_by (t.total +ℤ by) (goal +ℤ by) n;
        penalty = penalty;
        demerits = break_demerits style n penalty;
      }

      bad : badness_for style (goal +ℤ by) give (higher by t) is_spent ≡ badness_for style goal give t is_spent
      bad = fill_higher is_spent goal t.total by (has_infinite t)
          (unwrap_or style.ragged (t.finite +ℤ give.stretch)) (t.shrink +ℤ give.shrink)

      fit : (if style.version == 1 then 2
          else fitness_by (t.total +ℤ by) (goal +ℤ by) (badness_for style goal give t is_spent))
          ≡ (if style.version == 1 then 2
          else fitness_by t.total goal (badness_for style goal give t is_spent))
      fit = ap (λ (n : ℕ). if style.version == 1 then 2 else n)
          (fitness_higher t.total goal by (badness_for style goal give t is_spent))

-- ---- bounds

-- what no room before lets pass, none does
none_over : (bound o : Option ℤ) (by top : ℤ) → fits bound top ≡ false → fits (over bound by o) top ≡ false
none_over None o by top f = absurd cc
none_over (Some b) None by top f = f
none_over (Some b) (Some x) by top f = by_bool (int_le (int_max b (x +ℤ by)) top)
    (λ t. let l = le_int (int_max b (x +ℤ by)) top t in
    absurd (opposite (int_le b top) (int_le_of b top (omega (arith, ints, clamps, l))) f))
    (λ so. so)
  where
    opposite : (c : Bool) → c ≡ true → c ≡ false → ⊥
    opposite true p q = absurd cc
    opposite false p q = absurd cc

-- ---- in a room

-- a room with so much less height
abbrev pub lower_room : ℤ → TextRoom → TextRoom
lower_room by room = record { size = room.size -ℤ by; give = room.give }

module _ (doc : Document) (room : TextRoom) (by : ℤ) (bound : Option ℤ) where
  cost_moved : (c : Candidate) →
      cost_in doc room (moved_candidate by bound c) ≡ higher_cost by (cost_in doc (lower_room by room) c)
  cost_moved c =
      ap (λ (goal : ℤ). cost_for doc.style goal (give_by doc.style room c.passed.notes) (higher by c.passed.totals)
      (place_spent doc.blocks c.to) (unwrap_or (place_penalty doc.blocks c.to) (pos 0)))
      (goal_lower room.size (pos (heights doc.style.classes c.passed.notes)))
      ∙ cost_for_higher doc.style by (goal_by doc.style (lower_room by room) c.passed.notes)
      (give_by doc.style room c.passed.notes) c.passed.totals (place_spent doc.blocks c.to)
      (unwrap_or (place_penalty doc.blocks c.to) (pos 0))
    where
      goal_lower : (size notes : ℤ) → size -ℤ notes ≡ ((size -ℤ by) -ℤ notes) +ℤ by
      goal_lower size notes = omega (arith, ints)

  end_moved : (c : Candidate) →
      end_in doc room (moved_candidate by bound c) ≡ higher_end by (end_in doc (lower_room by room) c)
  end_moved c = ap at (cost_moved c)
    where
      at : TextCost → End
      at cost = record { to = c.to; picks = c.picks; cost = cost; pick_demerits = c.pick_demerits }

  over_moved : (c : Candidate) → is_over_in doc.style room (moved_candidate by bound c).passed
      ≡ is_over_in doc.style (lower_room by room) c.passed
  over_moved c =
      ap (is_over (c.passed.totals.total +ℤ by) c.passed.totals.shrink)
      (most_lower room.size room.give.shrink (smallest_by doc.style.classes c.passed.notes))
      ∙ over_higher c.passed.totals.total c.passed.totals.shrink
      (most_room (lower_room by room) -ℤ smallest_by doc.style.classes c.passed.notes) by
    where
      most_lower : (size shrink notes : ℤ) →
          (size +ℤ shrink) -ℤ notes ≡ (((size -ℤ by) +ℤ shrink) -ℤ notes) +ℤ by
      most_lower size shrink notes = omega (arith, ints)

  module _ (text : has_text doc.style room ≡ true) where
    keeps_moved : fits bound (most_room room) ≡ true → (c : Candidate) →
        keeps_in doc room (moved_candidate by bound c) ≡ keeps_text doc (lower_room by room) c
    keeps_moved f c =
        same _ _ _ _ _ _ _ (over_moved c) (ap (λ (cost : TextCost). cost.badness) (cost_moved c)) fitting text
      where
        most : (size shrink : ℤ) → size +ℤ shrink ≡ ((size -ℤ by) +ℤ shrink) +ℤ by
        most size shrink = omega (arith, ints)

        fitting : fits (over bound by c.passed.bound) (most_room room)
            ≡ fits c.passed.bound (most_room (lower_room by room))
        fitting = ap (fits (over bound by c.passed.bound)) (most room.size room.give.shrink)
            ∙ fits_over bound c.passed.bound by (most_room (lower_room by room))
            (sym (ap (fits bound) (most room.size room.give.shrink)) ∙ f)

        and_true : (b : Bool) → (b && true) ≡ b
        and_true true = refl
        and_true false = refl

        same : (o o' : Bool) (n n' : ℕ) (p p' t : Bool) → o ≡ o' → n ≡ n' → p ≡ p' → t ≡ true →
            (((not o && (place_forced doc.blocks c.to || nat_le n doc.style.tolerance)) && p) && t)
            ≡ ((not o' && (place_forced doc.blocks c.to || nat_le n' doc.style.tolerance)) && p')
        same o o' n n' p p' t e1 e2 e3 e4 =
            rw (e1, e2, e3, e4) (and_true
            ((not o' && (place_forced doc.blocks c.to || nat_le n' doc.style.tolerance)) && p'))

    keeps_none : fits bound (most_room room) ≡ false → (c : Candidate) →
        keeps_in doc room (moved_candidate by bound c) ≡ false
    keeps_none f c =
        ap (λ (b : Bool). (unbound && b) && has_text doc.style room)
        (none_over bound c.passed.bound by (most_room room) f)
        ∙ none unbound (has_text doc.style room)
      where
        unbound : Bool
        unbound = not (is_over_in doc.style room (moved_candidate by bound c).passed)
            && (place_forced doc.blocks c.to
            || nat_le (cost_in doc room (moved_candidate by bound c)).badness doc.style.tolerance)

        none : (a b : Bool) → ((a && false) && b) ≡ false
        none true b = refl
        none false b = refl

    -- the ends behind a front to which columns come in the room
    pub kept_moved : fits bound (most_room room) ≡ true → (cs : List Candidate) →
        kept_ends doc room (map (moved_candidate by bound) cs)
        ≡ map (higher_end by) (text_ends doc (lower_room by room) cs)
    kept_moved f [] = refl
    kept_moved f (c ∷ cs) = when _ _ (keeps_moved f c) (kept_moved f cs)
      where
        more : List Candidate
        more = filter (keeps_in doc room) (map (moved_candidate by bound) cs)

        others : List Candidate
        others = filter (keeps_text doc (lower_room by room)) cs

        when : (k k' : Bool) → k ≡ k' →
            map (end_in doc room) more ≡ map (higher_end by) (map (end_in doc (lower_room by room)) others) →
            map (end_in doc room) (if k then moved_candidate by bound c ∷ more else more)
            ≡ map (higher_end by) (map (end_in doc (lower_room by room)) (if k' then c ∷ others else others))
        when true true e h =
            ap (λ (end : End). end ∷ map (end_in doc room) more) (end_moved c)
            ∙ ap (λ (ends : List End). higher_end by (end_in doc (lower_room by room) c) ∷ ends) h
        when true false e h = absurd cc
        when false true e h = absurd cc
        when false false e h = h

    -- none, where columns do not come there
    pub none_moved : fits bound (most_room room) ≡ false → (cs : List Candidate) →
        kept_ends doc room (map (moved_candidate by bound) cs) ≡ []
    none_moved f [] = refl
    none_moved f (c ∷ cs) = when _ (keeps_none f c) (none_moved f cs)
      where
        more : List Candidate
        more = filter (keeps_in doc room) (map (moved_candidate by bound) cs)

        when : (k : Bool) → k ≡ false → map (end_in doc room) more ≡ [] →
            map (end_in doc room) (if k then moved_candidate by bound c ∷ more else more) ≡ []
        when true e h = absurd cc
        when false e h = h
