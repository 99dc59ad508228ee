-- The laid columns without text.
use Rattle.std.proofs.Common.{◌≡◌, refl, subst, List, ◌∷◌, [], map, inl, inr, ℕ}
use Rattle.std.specs.Prelude.{Contains}
use Rattle.std.specs.List.{AllByRecursion}
use Rattle.pg_plan.specs.declared.states.State.{State}
use Rattle.pg_column.specs.Numbers.{IsRoom}
use Rattle.pg_layouts.specs.Layouts.{float_layouts}
use Rattle.pg_layouts.specs.declared.layout.Layout.{Layout}
use Rattle.law_places.proofs.Members.{contains_among, of_map}
use Rattle.law_places.proofs.Among.{Among}
use Rattle.pg_rules.specs.Room.{Document}
use Rattle.law_moves.proofs.Layouts.{IsFloatLayout, of_float_layouts}
use Rattle.pg_rooms.specs.Laid.{IsFloatLaid, laid_of}
use Rattle.pg_rooms.specs.declared.laid.Laid.{Laid}

-- what holds of each of a list holds of its members
all_in : {X : Type 0} (P : X → Type 0) (xs : List X) (x : X) → AllByRecursion P xs → Among x xs → P x
all_in P [] x a b = absurd b
all_in P (y ∷ ys) x a (inl e) = subst P e a.0
all_in P (y ∷ ys) x a (inr b) = all_in P ys x a.1 b

-- each of the laid columns without text
pub float_each : (doc : Document) (u : State) (ceiling : List ℕ) (laid : List Laid) →
    laid ≡ map (laid_of doc u) (float_layouts doc u ceiling) →
    AllByRecursion (λ (it : Laid). IsRoom it.room) laid → (it : Laid) → Contains laid it →
    IsFloatLaid doc u it
float_each doc u ceiling laid e small it c =
    of_map (laid_of doc u) (float_layouts doc u ceiling) it
    (subst (Among it) e (contains_among laid it c))
    (λ layout a i. by layout i (of_float_layouts doc u ceiling layout a))
  where
    by : (layout : Layout) → laid_of doc u layout ≡ it → IsFloatLayout doc u ceiling layout → IsFloatLaid doc u it
    by layout i is = subst (λ (x : Laid). IsRoom x.room → IsFloatLaid doc u x) i (λ few. record {
      is = refl;
      small = few;
      long = is.top.long;
      bottom = is.bottom;
    }) (all_in (λ (x : Laid). IsRoom x.room) laid it small (contains_among laid it c))
