-- The run of a label, by the parents.
use Rattle.std.proofs.Common.{◌≡◌, refl, sym, ap, subst, ◌∙◌, ℕ, ◌<◌, List, [], ◌∷◌, ◌++◌, length, get_or, Bool, true, false, Option, Some, None, append_assoc}
use Rattle.std.specs.Prelude.{is_some, slice_get, reverse}
use Rattle.std.specs.Option.{option_map_or, option_to_list}
use Rattle.std.proofs.lemmas.List.{append-nil, reverse-append}
use Rattle.std.proofs.lemmas.List.Elements.{filter_map-append}
use Rattle.std.proofs.lemmas.Option.{slice_get-get_or, same_Some}
use Rattle.pg_plan.specs.declared.pages.PageMove.{PageMove}
use Rattle.pg_plan.specs.declared.states.State.{State}
use Rattle.pg_table.specs.Label.{Grounded, RunOf}
use Rattle.pg_table.specs.declared.table.Entry.{Entry}
use Rattle.pg_space.specs.Runs.{IsWay, LeadsBack, move_at, moves_on}

no_move : (o : Option PageMove) → is_some o ≡ false → o ≡ None
no_move None h = refl
no_move (Some m) h = absurd cc

by_move : {P : Type 0} (o : Option PageMove) → is_some o ≡ true → ((m : PageMove) → o ≡ Some m → P) → P
by_move None h f = absurd cc
by_move (Some m) h f = f m refl

alone : (labels : List (Entry State PageMove)) (at : ℕ) →
    moves_on labels (at ∷ []) ≡ option_to_list (move_at labels at)
alone labels at = by (move_at labels at) refl
  where
    by : (o : Option PageMove) → move_at labels at ≡ o →
        moves_on labels (at ∷ []) ≡ option_to_list (move_at labels at)
    by None e = rw e refl
    by (Some m) e = rw e refl

-- the moves of one place more
pub one_more : (labels : List (Entry State PageMove)) (way : List ℕ) (at : ℕ) →
    moves_on labels (way ++ at ∷ []) ≡ moves_on labels way ++ option_to_list (move_at labels at)
one_more labels way at = filter_map-append (move_at labels) way (at ∷ [])
    ∙ ap (λ (ms : List PageMove). moves_on labels way ++ ms) (alone labels at)

-- what the label at a place is does not depend on the default
pub whatever : (labels : List (Entry State PageMove)) (at : ℕ) (d d' : Entry State PageMove) (b : Bool) →
    at < length labels → is_some (get_or labels at d).by ≡ b → is_some (get_or labels at d').by ≡ b
whatever labels at d d' b within e = subst (λ (x : Entry State PageMove). is_some x.by ≡ b)
    (same_Some (get_or labels at d) (get_or labels at d') (sym (slice_get-get_or labels at d within)
    ∙ slice_get-get_or labels at d' within)) e

-- ---- on the way

pub leads_on : (labels : List (Entry State PageMove)) (index : ℕ) (way : List ℕ) (at : ℕ)
    (d : Entry State PageMove) → at < length labels → is_some (get_or labels at d).by ≡ true →
    LeadsBack labels index way at → LeadsBack labels index (way ++ at ∷ []) (get_or labels at d).parent
leads_on labels index way at d within moved leads e p' ms at_e at_p' run =
    by_move (get_or labels at d).by moved (λ m is.
    subst (λ (ns : List PageMove). RunOf labels e ns) (sym (joined m is))
    (leads e (get_or labels at d) (m ∷ ms) at_e here (is, (p', (at_p', run)))))
  where
    here : slice_get labels at ≡ Some (get_or labels at d)
    here = slice_get-get_or labels at d within

    joined : (m : PageMove) → (get_or labels at d).by ≡ Some m →
        moves_on labels (way ++ at ∷ []) ++ ms ≡ moves_on labels way ++ (m ∷ ms)
    joined m is = ap (λ (ns : List PageMove). ns ++ ms) (one_more labels way at
        ∙ ap (λ (o : Option PageMove). moves_on labels way ++ option_to_list o)
        (ap (λ (o : Option (Entry State PageMove)). option_map_or (λ (x : Entry State PageMove). x.by) o None) here
        ∙ is))
        ∙ append_assoc (moves_on labels way) (m ∷ []) ms

pub leads_home : (labels : List (Entry State PageMove)) (index : ℕ) (way : List ℕ) (at : ℕ)
    (d : Entry State PageMove) → at < length labels → is_some (get_or labels at d).by ≡ false →
    LeadsBack labels index way at → IsWay labels index way
leads_home labels index way at d within start leads e at_e =
    subst (λ (ns : List PageMove). RunOf labels e ns) (append-nil (moves_on labels way))
    (leads e (get_or labels at d) [] at_e (slice_get-get_or labels at d within)
    (no_move (get_or labels at d).by start))

pub parent_before : (labels : List (Entry State PageMove)) (at : ℕ) (d : Entry State PageMove) → Grounded labels →
    at < length labels → is_some (get_or labels at d).by ≡ true → (get_or labels at d).parent < at
parent_before labels at d grounded within moved = by_move (get_or labels at d).by moved
    (λ m is. grounded at (get_or labels at d) m (slice_get-get_or labels at d within) is)

-- ---- and forth

pub moves_forth : (labels : List (Entry State PageMove)) (old new : List ℕ) (at : ℕ) (done : List PageMove) →
    old ≡ new ++ at ∷ [] → (done ++ option_to_list (move_at labels at)) ++ reverse (moves_on labels new)
    ≡ done ++ reverse (moves_on labels old)
moves_forth labels old new at done e =
    append_assoc done (option_to_list (move_at labels at)) (reverse (moves_on labels new))
    ∙ ap (λ (ms : List PageMove). done ++ ms)
    (ap (λ (ms : List PageMove). ms ++ reverse (moves_on labels new)) (one_back (move_at labels at))
    ∙ sym (reverse-append (moves_on labels new) (option_to_list (move_at labels at)))
    ∙ ap reverse (sym (one_more labels new at) ∙ ap (moves_on labels) (sym e)))
  where
    one_back : (o : Option PageMove) → option_to_list o ≡ reverse (option_to_list o)
    one_back None = refl
    one_back (Some m) = refl
