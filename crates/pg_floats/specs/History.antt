-- What happens to a queue, and what it then holds.
use Rattle.std.specs.Prelude.{◌≡◌, ℕ, zero, suc, ◌+◌, ◌<◌, ◌≤◌, ◌==◌, if◌then◌else◌, List, [], ◌∷◌, ◌++◌, length, map}
use Rattle.std.specs.Prelude.{take, drop, slice_index}
use Rattle.pg_floats.specs.QueueValue.{QueueValue, with_callout, with_placed, turned}

-- a float of a class is called; the first of a class that waits is placed; a page ends
pub data Event : Type 0 where
  called : ℕ → Event
  placed : ℕ → Event
  page_ended : Event

-- the ages of the floats of a class that wait
abbrev pub ages_of : List ℕ → List ℕ → ℕ → List ℕ
ages_of [] ages slot = []
ages_of (count ∷ waiting) ages zero = take count ages
ages_of (count ∷ waiting) ages (suc slot) = ages_of waiting (drop count ages) slot

-- ---- events, from the last to the first

-- how often a float of the class was placed
abbrev pub placings : ℕ → List Event → ℕ
placings slot [] = 0
placings slot (called other ∷ events) = placings slot events
placings slot (placed other ∷ events) = (if other == slot then 1 else 0) + placings slot events
placings slot (page_ended ∷ events) = placings slot events

-- how many pages ended
abbrev pub pages : List Event → ℕ
pages [] = 0
pages (called other ∷ events) = pages events
pages (placed other ∷ events) = pages events
pages (page_ended ∷ events) = pages events + 1

-- for each callout of the class, from the first on, how many pages ended behind it
abbrev pub since_callouts : ℕ → List Event → List ℕ
since_callouts slot [] = []
since_callouts slot (called other ∷ events) =
    if other == slot then since_callouts slot events ++ 0 ∷ [] else since_callouts slot events
since_callouts slot (placed other ∷ events) = since_callouts slot events
since_callouts slot (page_ended ∷ events) = map (λ (n : ℕ). n + 1) (since_callouts slot events)

-- the ages of all floats of the class, as if none had been placed: of those that waited at first, and of those called
abbrev pub ages_by : ℕ → List ℕ → List Event → List ℕ
ages_by slot first events = map (λ (age : ℕ). age + pages events) first ++ since_callouts slot events

-- these events lead from one queue to another: classes are those of the queue, and a float that is placed waits
abbrev pub Leads : QueueValue → List Event → QueueValue → Type 0
Leads first [] last = last ≡ first
Leads first (called slot ∷ events) last =
    (queue : QueueValue) × (Leads first events queue × ((slot < length queue.waiting)
    × (last ≡ with_callout queue slot)))
Leads first (placed slot ∷ events) last =
    (queue : QueueValue) × (Leads first events queue × ((slot < length queue.waiting)
    × ((0 < slice_index queue.waiting slot) × (last ≡ with_placed queue slot))))
Leads first (page_ended ∷ events) last = (queue : QueueValue) × (Leads first events queue × (last ≡ turned queue))

-- the queue counts what happened to a class: the floats placed, and the ages of those that wait, the first called first
pub record CountsHistory (first : QueueValue) (events : List Event) (last : QueueValue) (slot : ℕ) : Type 0 where
  pub placed : slice_index last.placed slot ≡ slice_index first.placed slot + placings slot events
  pub enough : placings slot events ≤ length (ages_by slot (ages_of first.waiting first.ages slot) events)
  pub ages : ages_of last.waiting last.ages slot
      ≡ drop (placings slot events) (ages_by slot (ages_of first.waiting first.ages slot) events)
