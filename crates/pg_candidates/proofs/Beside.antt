-- Which ends are not needed from a room on.
use Rattle.std.proofs.Common.{◌≡◌, refl, sym, ap, ◌∙◌, ℕ, ◌<◌, arith, Bool, true, false, inl, inr, List, Option, Some, None, IfSome, ℤ, pos, ◌≤ℤ◌, ◌<ℤ◌, ◌+ℤ◌, ◌-ℤ◌}
use Rattle.std.specs.List.{AllByRecursion}
use Rattle.std.specs.Prelude.{◌==◌, ◌&&◌, ◌||◌, not, if◌then◌else◌, int_lt, nat_le}
use Rattle.std.proofs.lemmas.Int.{ints}
use Rattle.pg_list.specs.declared.galley.Place.{Place}
use Rattle.pg_breaks.specs.Near.{place_forced, place_spent}
use Rattle.pg_column.specs.Numbers.{badness_for, give_by, goal_by, most_room}
use Rattle.pg_column.specs.Passed.{fits}
use Rattle.pg_column.specs.declared.cost.TextRoom.{TextRoom}
use Rattle.pg_list.specs.Badness.{is_over}
use Rattle.pg_notes.specs.NotesValue.{heights, skips_by}
use Rattle.pg_notes.proofs.Kept.{skips_up}
use Rattle.pg_lemmas.proofs.Bools.{both, both_of, not_both, not_false}
use Rattle.pg_rules.specs.ColumnRules.{fitness_by}
use Rattle.pg_rules.specs.Cost.{break_demerits}
use Rattle.pg_rules.specs.Floats.{gap_shrink}
use Rattle.pg_rules.specs.Room.{Document}
use Rattle.pg_style.specs.Ranges.{IsClass}
use Rattle.pg_style.specs.Values.{StyleValue}
use Rattle.law_walk.specs.Best.{IsCheaper}
use Rattle.law_walk.specs.Candidates.{Candidate, cost_in, end_in, is_over_in, keeps_text}
use Rattle.law_walk.proofs.BestLaws.{ends_tied}
use Rattle.law_walk.proofs.Ends.{fits_more}
use Rattle.pg_candidates.specs.Nears.{IsHopelessFrom, IsServedFrom, IsWithin, IsWorst, Serves, kind_at}
use Rattle.pg_candidates.specs.declared.kind.EndKind.{EndKind}
use Rattle.pg_candidates.proofs.Short.{bad_in, no_end_in, not_over, worse_by}

-- what is worst in a room is so in each greater one
pub worst_on : (style : StyleValue) (most : ℤ) (c : Candidate) (from size : ℤ) → from ≤ℤ size →
    IsWorst style most c from → IsWorst style most c size
worst_on style most c from size le w =
    let up : (from -ℤ pos (heights style.classes c.passed.notes)) ≤ℤ (size -ℤ pos (heights style.classes c.passed.notes)) =
    omega (arith, ints, le) in
    record {
      short = omega (arith, ints, up, w.short);
      bad = worse_by c.passed.totals _ _ _ _ _ _ up (omega (arith, ints)) w.short w.bad;
    }

-- the worst badness is refused
pub hopeless_from : (doc : Document) (most : ℤ) (kind : EndKind) (c : Candidate) → kind ≡ kind_at doc.blocks c.to →
    kind.is_forced ≡ false → kind.is_spent ≡ false → doc.style.tolerance < 10000 → (o : Option ℤ) →
    IfSome o (IsWorst doc.style most c) → IfSome o (IsHopelessFrom doc most c)
hopeless_from doc most kind c is forced spent strict None w = tt
hopeless_from doc most kind c is forced spent strict (Some from) w = λ room gives le.
    no_end_in doc most room c gives
    (sym (ap (λ (k : EndKind). k.is_forced) is) ∙ forced) (sym (ap (λ (k : EndKind). k.is_spent) is) ∙ spent)
    strict (worst_on doc.style most c from room.size le w)

-- what keeps the rules in no room is served by any other
pub served_hopeless : (doc : Document) (most : ℤ) (one c : Candidate) (o : Option ℤ) →
    IfSome o (IsHopelessFrom doc most c) → IfSome o (IsServedFrom doc most one c)
served_hopeless doc most one c None h = tt
served_hopeless doc most one c (Some from) h = λ room gives le keeps.
    absurd (not_both (keeps_text doc room c) keeps (h room gives le))

-- ---- two of one place, both of the worst badness

pub loosest : (v : Bool) (total goal : ℤ) (b : ℕ) → total <ℤ goal → b ≡ 10000 →
    (if v then 2 else fitness_by total goal b) ≡ (if v then 2 else 0)
loosest v total goal b short bad =
    let less : int_lt total goal ≡ true = grind (arith, ints, short) in rw (less, bad) refl

priced : (x y p q : ℤ) (ms ns : List ℕ) → x ≡ y → IsCheaper p ms q ns → IsCheaper (x +ℤ p) ms (y +ℤ q) ns
priced x y p q ms ns e (inl h) = inl (omega (arith, ints, e, h))
priced x y p q ms ns e (inr h) = inr (ap (λ (z : ℤ). z +ℤ p) e ∙ ap (λ (z : ℤ). y +ℤ z) h.0, h.1)

module _ (doc : Document) (most : ℤ) (one c : Candidate) (same : one.to ≡ c.to)
    (spent : place_spent doc.blocks c.to ≡ false) (room : TextRoom) (gives : IsWithin most room)
    (own : IsWorst doc.style most one room.size) (its : IsWorst doc.style most c room.size) where
  own_bad : (cost_in doc room one).badness ≡ 10000
  own_bad = ap (λ (b : Bool). badness_for doc.style (goal_by doc.style room one.passed.notes)
      (give_by doc.style room one.passed.notes) one.passed.totals b) (ap (place_spent doc.blocks) same ∙ spent)
      ∙ bad_in doc.style most one room gives own

  its_bad : (cost_in doc room c).badness ≡ 10000
  its_bad = ap (λ (b : Bool). badness_for doc.style (goal_by doc.style room c.passed.notes)
      (give_by doc.style room c.passed.notes) c.passed.totals b) spent
      ∙ bad_in doc.style most c room gives its

  -- one that suits is not over
  keeps_too : is_over_in doc.style room one.passed ≡ false → fits one.passed.bound (most_room room) ≡ true →
      keeps_text doc room c ≡ true → keeps_text doc room one ≡ true
  keeps_too below suits keeps =
      let two = both_of (not (is_over_in doc.style room c.passed)
      && (place_forced doc.blocks c.to || nat_le (cost_in doc room c).badness doc.style.tolerance)) _ keeps in
      let first = both_of (not (is_over_in doc.style room c.passed)) _ two.0 in
      both _ _ (both _ _ (not_false _ below)
      (ap (λ (p : Place). place_forced doc.blocks p || nat_le (cost_in doc room one).badness doc.style.tolerance) same
      ∙ (ap (λ (n : ℕ). place_forced doc.blocks c.to || nat_le n doc.style.tolerance) (own_bad ∙ sym its_bad)
      ∙ first.1))) suits

  fitness_too : (cost_in doc room one).fitness ≡ (cost_in doc room c).fitness
  fitness_too = loosest (doc.style.version == 1) one.passed.totals.total _ _ own.short own_bad
      ∙ sym (loosest (doc.style.version == 1) c.passed.totals.total _ _ its.short its_bad)

  demerits_too : (cost_in doc room one).demerits ≡ (cost_in doc room c).demerits
  demerits_too = ap (λ (n : ℕ). break_demerits doc.style n (cost_in doc room one).penalty) (own_bad ∙ sym its_bad)
      ∙ ap (λ (p : Place). break_demerits doc.style (cost_in doc room c).badness (kind_at doc.blocks p).penalty) same

  pub serves : IsCheaper one.pick_demerits one.picks c.pick_demerits c.picks →
      is_over_in doc.style room one.passed ≡ false → fits one.passed.bound (most_room room) ≡ true →
      keeps_text doc room c ≡ true → Serves doc room one c
  serves cheaper below suits keeps = record {
    keeps = keeps_too below suits keeps;
    tied = ends_tied (end_in doc room one) (end_in doc room c) same fitness_too;
    under = priced _ _ one.pick_demerits c.pick_demerits one.picks c.picks demerits_too cheaper;
  }

-- a text that is short of its goal is not over where the gaps give nothing below 0
below_goal : (t s size h a k : ℤ) → t <ℤ (size -ℤ h) → pos 0 ≤ℤ (a +ℤ k) →
    is_over t s ((size +ℤ a) -ℤ (h -ℤ k)) ≡ false
below_goal t s size h a k short more = not_over t s ((size +ℤ a) -ℤ (h -ℤ k)) (omega (arith, ints, short, more))

-- from a size on that is not below those in which both are worst, and in which the one suits
pub served_from : (doc : Document) (most : ℤ) → AllByRecursion IsClass doc.style.classes → (one c : Candidate) →
    one.to ≡ c.to → place_spent doc.blocks c.to ≡ false →
    IsCheaper one.pick_demerits one.picks c.pick_demerits c.picks → (own its from : ℤ) →
    IsWorst doc.style most one own → IsWorst doc.style most c its → own ≤ℤ from → its ≤ℤ from →
    fits one.passed.bound from ≡ true → IsServedFrom doc most one c from
served_from doc most ranged one c same spent cheaper own its from w v low lower suits room gives le keeps =
    let here = worst_on doc.style most one own room.size (omega (arith, ints, low, le)) w in
    let there = worst_on doc.style most c its room.size (omega (arith, ints, lower, le)) v in
    let shrunk = gives.shrink in
    let up = skips_up doc.style.classes one.passed.notes ranged in
    let more : pos 0 ≤ℤ (room.give.shrink +ℤ skips_by gap_shrink doc.style.classes one.passed.notes) =
    omega (arith, ints, shrunk, up) in
    let higher : from ≤ℤ most_room room = omega (arith, ints, shrunk, le) in
    serves doc most one c same spent room gives here there cheaper
    (below_goal one.passed.totals.total one.passed.totals.shrink room.size
    (pos (heights doc.style.classes one.passed.notes)) room.give.shrink
    (skips_by gap_shrink doc.style.classes one.passed.notes) here.short more)
    (fits_more one.passed.bound from (most_room room) higher suits) keeps
