-- Courses of queues, worked by hand: floats are called, placed, and wait.
use Rattle.std.proofs.Common.{refl, ℕ, List, [], ◌∷◌, Option, Some, None}
use Rattle.std.specs.Prelude.{◌==◌, if◌then◌else◌, slice_index}
use Rattle.std.specs.Option.{option_map_or}
use Rattle.pg_style.specs.Values.{StyleValue}
use Rattle.pg_rules.specs.Floats.{distance_table}
use Rattle.pg_floats.specs.History.{Event, called, placed, page_ended}
use Rattle.pg_floats.specs.QueueValue.{QueueValue, ages_before, late_of, none, turned, with_callout, with_placed}
use Rattle.pg_floats.specs.declared.queue.Late.{Late}
use Rattle.test_parts.proofs.Cases.{AreTold, float_style}

-- behind a call and a page's end the ages of the floats that wait, by class; of a float that is placed what it costs; at
-- a page's end the class and the age of one that waited too long
abbrev Said : Type 0
Said = Option Late × List ℕ

abbrev ages : List ℕ → Said
ages list = (None, list)

abbrev price : ℕ → Said
price n = (None, n ∷ [])

abbrev nothing : Said
nothing = (None, [])

abbrev late : ℕ → ℕ → Said
late slot age = (Some (record { slot = slot; age = age }), [])

-- what is said of an event, and the queue behind it
abbrev step : StyleValue → QueueValue → Event → Said × QueueValue
step style queue (called slot) = (ages (with_callout queue slot).ages, with_callout queue slot)
step style queue (placed slot) =
    if slice_index queue.waiting slot == 0 then (nothing, queue)
    else (
      price (slice_index (distance_table style slot) (slice_index queue.ages (ages_before queue slot))),
      with_placed queue slot,
    )
step style queue page_ended =
    option_map_or (λ (it : Late). ((Some it, []), queue)) (late_of style queue) (ages (turned queue).ages, turned queue)

abbrev course_from : StyleValue → QueueValue → List Event → List Said
course_from style queue [] = []
course_from style queue (event ∷ events) =
    (step style queue event).0 ∷ course_from style (step style queue event).1 events

-- what is said of each event, of two classes with these distance tables
abbrev course : List ℕ → List ℕ → List Event → List Said
course near far events = course_from (float_style near far) (none (float_style near far)) events

-- distance tables, events, and what is said of each
courses : AreTold ((
  course (0 ∷ 100 ∷ 400 ∷ []) (0 ∷ [])
      (called 0 ∷ called 0 ∷ page_ended ∷ placed 0 ∷ page_ended ∷ placed 0 ∷ placed 0 ∷ page_ended ∷ []),
  ages (0 ∷ []) ∷ ages (0 ∷ 0 ∷ []) ∷ ages (1 ∷ 1 ∷ []) ∷ price 100 ∷ ages (2 ∷ []) ∷ price 400 ∷ nothing ∷ ages [] ∷ [],
)
    ∷ (
      course (0 ∷ 100 ∷ []) (0 ∷ [])
          (called 0 ∷ called 0 ∷ page_ended ∷ placed 0 ∷ page_ended ∷ page_ended ∷ placed 0 ∷ page_ended ∷ []),
      ages (0 ∷ []) ∷ ages (0 ∷ 0 ∷ []) ∷ ages (1 ∷ 1 ∷ []) ∷ price 100 ∷ late 0 2 ∷ late 0 2 ∷ price 100 ∷ ages [] ∷ [],
    )
    ∷ (
      course (0 ∷ []) (0 ∷ [])
          (called 0 ∷ placed 0 ∷ page_ended ∷ []),
      ages (0 ∷ []) ∷ price 0 ∷ ages [] ∷ [],
    )
    ∷ (
      course (0 ∷ []) (0 ∷ [])
          (called 0 ∷ page_ended ∷ placed 0 ∷ []),
      ages (0 ∷ []) ∷ late 0 1 ∷ price 0 ∷ [],
    )
    ∷ (
      course (0 ∷ 0 ∷ 0 ∷ 500 ∷ []) (0 ∷ [])
          (called 0 ∷ page_ended ∷ placed 0 ∷ []),
      ages (0 ∷ []) ∷ ages (1 ∷ []) ∷ price 0 ∷ [],
    )
    ∷ (
      course (0 ∷ 0 ∷ 0 ∷ 500 ∷ []) (0 ∷ [])
          (called 0 ∷ page_ended ∷ page_ended ∷ page_ended ∷ placed 0 ∷ []),
      ages (0 ∷ []) ∷ ages (1 ∷ []) ∷ ages (2 ∷ []) ∷ ages (3 ∷ []) ∷ price 500 ∷ [],
    )
    ∷ (
      course (0 ∷ 0 ∷ 0 ∷ 500 ∷ []) (0 ∷ [])
          (called 0 ∷ page_ended ∷ page_ended ∷ page_ended ∷ page_ended ∷ placed 0 ∷ []),
      ages (0 ∷ []) ∷ ages (1 ∷ []) ∷ ages (2 ∷ []) ∷ ages (3 ∷ []) ∷ late 0 4 ∷ price 500 ∷ [],
    )
    ∷ (
      course (0 ∷ []) (0 ∷ 50 ∷ [])
          (called 1 ∷ page_ended ∷ placed 1 ∷ placed 1 ∷ []),
      ages (0 ∷ []) ∷ ages (1 ∷ []) ∷ price 50 ∷ nothing ∷ [],
    )
    ∷ (
      course (0 ∷ 100 ∷ 400 ∷ []) (0 ∷ 50 ∷ [])
          (called 1 ∷ called 0 ∷ page_ended ∷ called 0 ∷ placed 1 ∷ page_ended ∷ placed 0 ∷ placed 0 ∷ []),
      ages (0 ∷ []) ∷ ages (0 ∷ 0 ∷ []) ∷ ages (1 ∷ 1 ∷ []) ∷ ages (1 ∷ 0 ∷ 1 ∷ []) ∷ price 50 ∷ ages (2 ∷ 1 ∷ []) ∷ price 400 ∷ price 100 ∷ [],
    )
    ∷ (
      course (0 ∷ 100 ∷ []) (0 ∷ [])
          (called 1 ∷ called 0 ∷ page_ended ∷ placed 1 ∷ page_ended ∷ []),
      ages (0 ∷ []) ∷ ages (0 ∷ 0 ∷ []) ∷ late 1 1 ∷ price 0 ∷ ages (1 ∷ []) ∷ [],
    )
    ∷ (
      course (0 ∷ []) (0 ∷ [])
          (called 1 ∷ called 0 ∷ page_ended ∷ placed 0 ∷ page_ended ∷ []),
      ages (0 ∷ []) ∷ ages (0 ∷ 0 ∷ []) ∷ late 0 1 ∷ price 0 ∷ late 1 1 ∷ [],
    )
    ∷ [])
courses = refl
