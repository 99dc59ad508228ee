-- Ends in groups.
use Rattle.std.proofs.Common.{◌≡◌, sym, ap, subst, ◌∙◌, ℕ, ◌+◌, ◌-◌, ◌≤◌, ◌<◌, suc, arith, get_or, pos}
use Rattle.std.specs.Prelude.{List, [], ◌∷◌, ◌++◌, length, take, drop}
use Rattle.std.specs.List.{AllByRecursion}
use Rattle.std.proofs.Math.Seq.{take-length}
use Rattle.std.proofs.lemmas.List.{append_assoc, append-nil, drop_all, get_or_default, length-drop}
use Rattle.pg_candidates.specs.declared.room_end.RoomEnd.{RoomEnd}
use Rattle.pg_lemmas.proofs.Lists.{all_append, all_take, no_items, one_more}
use Rattle.pg_rules.specs.Floats.{float_numbers}
use Rattle.pg_rules.specs.Room.{Document}
use Rattle.pg_sources.specs.Document.{before_of}
use Rattle.pg_sources.specs.declared.calls.Before.{Before}
use Rattle.pg_rooms.proofs.Called.{no_before, none_called}
use Rattle.pg_rooms.specs.PlaceEnds.{AreGroups}
use Rattle.pg_rooms.specs.declared.grouping.Group.{Group}

-- what holds of each of the first elements, and of the next
pub all_more : {X : Type 0} (P : X → Type 0) (xs : List X) (i : ℕ) (x : X) → i < length xs → x ≡ get_or xs i x →
    AllByRecursion P (take i xs) → P x → AllByRecursion P (take (i + 1) xs)
all_more P xs i x less is all own =
    subst (AllByRecursion P) (sym (one_more xs i x less is)) (all_append P (take i xs) (x ∷ []) all (own, tt))

-- the same, where the next one is read with any default
pub all_next : {X : Type 0} (P : X → Type 0) (xs : List X) (i : ℕ) (d : X) → i < length xs →
    AllByRecursion P (take i xs) → P (get_or xs i d) → AllByRecursion P (take (i + 1) xs)
all_next P xs i d less = all_more P xs i (get_or xs i d) less (get_or_default xs i d (get_or xs i d) less)

-- with this end as a default the clauses of loops read ends, which are plain numbers
abbrev pub no_end : RoomEnd
no_end = record {
  to = record { block = 0; variant = 0; index = 0 };
  at = 0;
  cost = record { goal = pos 0; total = pos 0; badness = 0; fitness = 0; penalty = pos 0; demerits = pos 0 };
  pick_demerits = pos 0;
}

-- the first ends are one group more, behind those that were found
pub one_group : (doc : Document) (groups now : List Group) (ends rest after left : List RoomEnd) (first : RoomEnd)
    (group : Group) (k : ℕ) →
    ((more : List Group) → AreGroups doc more rest → AreGroups doc (groups ++ more) ends) → rest ≡ first ∷ after →
    group.count ≡ k + 1 → group.before ≡ before_of doc first.to →
    AllByRecursion (λ (end : RoomEnd). group.before ≡ before_of doc end.to) (take k after) →
    now ≡ groups ++ group ∷ [] → left ≡ drop k after →
    (more : List Group) → AreGroups doc more left → AreGroups doc (now ++ more) ends
one_group doc groups now ends rest after left first group k old split count here same push cut more g =
    let next : suc k ≡ group.count = omega (arith, count) in
    let front : AreGroups doc (group ∷ more) (first ∷ after) =
    subst (λ (n : ℕ). AllByRecursion (λ (end : RoomEnd). group.before ≡ before_of doc end.to)
    (take n (first ∷ after)) × AreGroups doc more (drop n (first ∷ after))) next
    ((here, same), subst (AreGroups doc more) cut g) in
    subst (λ (gs : List Group). AreGroups doc gs ends)
    (sym (append_assoc groups (group ∷ []) more) ∙ ap (λ (gs : List Group). gs ++ more) (sym push))
    (old (group ∷ more) (subst (AreGroups doc (group ∷ more)) (sym split) front))

-- a list that begins with an element
pub split_first : {X : Type 0} (xs : List X) (x : X) → 1 ≤ length xs → x ≡ get_or xs 0 x →
    xs ≡ x ∷ take (length xs - 1) (drop 1 xs)
split_first [] x l e = absurd (omega (arith, l))
split_first (y ∷ xs) x l e =
    let n : length xs ≡ suc (length xs) - 1 = omega arith in
    ap (λ z. z ∷ xs) (sym e) ∙ ap (λ ys. x ∷ ys) (sym (take-length xs) ∙ ap (λ (k : ℕ). take k xs) n)

-- the same, where it is read with any default
pub split_read : {X : Type 0} (xs : List X) (d : X) → 1 ≤ length xs →
    xs ≡ get_or xs 0 d ∷ take (length xs - 1) (drop 1 xs)
split_read xs d l = split_first xs (get_or xs 0 d) l (get_or_default xs 0 d (get_or xs 0 d) l)

-- no more ends are left than there were
pub still_few : (ends rest after left : List RoomEnd) (first : RoomEnd) (k : ℕ) → rest ≡ first ∷ after →
    left ≡ drop k after → length rest ≤ length ends → length left ≤ length ends
still_few ends rest after left first k split cut few =
    let all = ap length split in
    let behind = ap length cut ∙ length-drop k after in
    omega (arith, all, behind, few)

-- no end is left
pub all_grouped : (doc : Document) (groups : List Group) (ends rest : List RoomEnd) →
    ((more : List Group) → AreGroups doc more rest → AreGroups doc (groups ++ more) ends) → length rest ≡ 0 →
    AreGroups doc groups ends
all_grouped doc groups ends rest old none =
    subst (λ (gs : List Group). AreGroups doc gs ends) (append-nil groups) (old [] (no_items rest none))

-- all ends are one group, where no class is of floats
pub group_of_all : (doc : Document) (old now : List Group) (ends : List RoomEnd) (group : Group) →
    length (float_numbers doc.style) ≡ 0 → group.before ≡ no_before → group.count ≡ length ends → old ≡ [] →
    now ≡ old ++ group ∷ [] → AreGroups doc now ends
group_of_all doc old now ends group none nothing count new push =
    let all = subst (λ (before : Before). AllByRecursion (λ (end : RoomEnd).
    before ≡ before_of doc end.to) ends) (sym nothing) (none_called doc ends none) in
    let few : length ends ≤ group.count = omega (arith, count) in
    subst (λ (groups : List Group). AreGroups doc groups ends)
    (sym (push ∙ ap (λ (groups : List Group). groups ++ group ∷ []) new)) (
      all_take (λ (end : RoomEnd). group.before ≡ before_of doc end.to) group.count ends all,
      drop_all group.count ends few,
    )

-- no group is there where there are no ends
pub no_groups : (doc : Document) (groups : List Group) (ends : List RoomEnd) → groups ≡ [] → length ends ≡ 0 →
    AreGroups doc groups ends
no_groups doc groups ends new none = subst (λ (found : List Group). AreGroups doc found ends) (sym new) (no_items ends none)
