-- Places before which the same floats are called.
use Rattle.std.proofs.Common.{◌≡◌, sym, ap, subst, ◌∙◌, ℕ, Option, Some, None, List, [], ◌∷◌, take, drop}
use Rattle.std.specs.Prelude.{IfSome, length, map}
use Rattle.std.specs.List.{AllByRecursion, insert}
use Rattle.pg_candidates.specs.declared.room_end.RoomEnd.{RoomEnd}
use Rattle.pg_list.specs.Flat.{flat, items_before}
use Rattle.pg_lemmas.proofs.Lists.{all_append, all_drop, all_take, no_items}
use Rattle.pg_list.specs.declared.galley.Place.{Place}
use Rattle.pg_list.specs.Barrier.{up_to_barrier}
use Rattle.pg_rules.specs.Floats.{called, float_numbers, flushed, sizes_of}
use Rattle.pg_rules.specs.Room.{Document}
use Rattle.pg_sources.specs.Document.{before_of}
use Rattle.pg_sources.specs.declared.calls.Before.{Before}
use Rattle.pg_rooms.specs.Calls.{AreCalls, IsLike}
use Rattle.pg_rooms.specs.declared.calls.Call.{Call}

-- where none is kept
pub no_calls : (doc : Document) (calls : List Call) → calls ≡ [] → AreCalls doc calls
no_calls doc calls none = subst (AreCalls doc) (sym none) (record { all = tt })

-- a place before which so many floats are called as before another one
pub some_like : (doc : Document) (at : Place) (before : Before) (o : Option Place) →
    before ≡ before_of doc at → IfSome o (λ like. before_of doc like ≡ before) →
    IfSome o (λ like. IsLike doc like at)
some_like doc at before None own so = tt
some_like doc at before (Some like) own so = record { same = so ∙ own }

-- ends of which each is like a place have what is called before it
pub all_like : (doc : Document) (before : Before) (like : Place) (ends : List RoomEnd) →
    before ≡ before_of doc like → AllByRecursion (λ (end : RoomEnd). IsLike doc like end.to) ends →
    AllByRecursion (λ (end : RoomEnd). before ≡ before_of doc end.to) ends
all_like doc before like [] e all = tt
all_like doc before like (end ∷ ends) e all = (e ∙ all.0.same, all_like doc before like ends e all.1)

-- one call more among them
pub with_call : (doc : Document) (calls : List Call) (at : ℕ) (call : Call) → AreCalls doc calls →
    IsLike doc call.like call.at → AreCalls doc (insert calls at call)
with_call doc calls at call are like =
    let P : Call → Type 0 = λ it. IsLike doc it.like it.at in
    record {
      all = all_append P (take at calls) (call ∷ drop at calls) (all_take P at calls are.all)
          (like, all_drop P at calls are.all);
    }

-- nothing is called
abbrev pub no_before : Before
no_before = record { called = []; flushed = [] }

-- where no class is of floats, nothing is called before any end
pub none_called : (doc : Document) (ends : List RoomEnd) → length (float_numbers doc.style) ≡ 0 →
    AllByRecursion (λ (end : RoomEnd). no_before ≡ before_of doc end.to) ends
none_called doc [] none = tt
none_called doc (end ∷ ends) none = (
  same [] (called doc.blocks doc.style end.to) [] (flushed doc.blocks doc.style end.to.block)
      (sym (ap (map (λ (number : ℕ). length (sizes_of number (items_before doc.blocks end.to))))
      (no_items (float_numbers doc.style) none)))
      (sym (ap (map (λ (number : ℕ). length (sizes_of number
      (flat (up_to_barrier (take end.to.block doc.blocks)) []))))
      (no_items (float_numbers doc.style) none))),
  none_called doc ends none,
)
  where
    same : (a b c d : List ℕ) → a ≡ b → c ≡ d →
        ◌≡◌ {A = Before} (record { called = a; flushed = c }) (record { called = b; flushed = d })
    same a b c d p q = cc
