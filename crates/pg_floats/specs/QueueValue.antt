-- The floats that are placed and that wait, by class, and the ages of these.
use Rattle.std.specs.Option.{option_or}
use Rattle.std.specs.Prelude.{◌≡◌, ℕ, ◌+◌, ◌-◌, ◌<◌, ◌≤◌, ◌^◌, nat_le, ◌==◌, if◌then◌else◌, List, [], ◌∷◌, length}
use Rattle.std.specs.Prelude.{map, sum, take, drop, slice_index, slice_set, replicate, Option, Some, None}
use Rattle.std.specs.List.{insert, remove, AllByRecursion}
use Rattle.pg_style.specs.Values.{StyleValue}
use Rattle.pg_rules.specs.Floats.{float_numbers}
use Rattle.pg_rules.specs.Floats.{distance_table}
use Rattle.pg_style.specs.Classes.{is_float_class}
use Rattle.pg_style.specs.declared.style.Class.{Class}
use Rattle.pg_style.specs.declared.style.Kind.{Kind}
use Rattle.pg_style.specs.declared.style.Kind.TheVariants.{Note, Float}
use Rattle.pg_floats.specs.declared.queue.Late.{Late}

-- ages stand by class, then by number: of each class as many as wait
pub record QueueValue : Type 0 where
  pub placed : List ℕ
  pub waiting : List ℕ
  pub ages : List ℕ

pub record IsQueue (queue : QueueValue) : Type 0 where
  pub slots : length queue.placed ≡ length queue.waiting
  pub each_waits : sum queue.waiting ≡ length queue.ages
  pub few : sum queue.placed + sum queue.waiting ≤ 2 ^ 12

-- each age is below the length of its class's table
abbrev pub AreYoung : StyleValue → ℕ → List ℕ → List ℕ → Type 0
AreYoung style slot [] ages = Unit {0}
AreYoung style slot (count ∷ waiting) ages =
    AllByRecursion (λ (age : ℕ). age < length (distance_table style slot)) (take count ages)
    × AreYoung style (slot + 1) waiting (drop count ages)

-- a queue of the style's float classes, in which no float has waited too long
pub record IsOf (style : StyleValue) (queue : QueueValue) : Type 0 where
  pub slots : length queue.waiting ≡ length (float_numbers style)
  pub young : AreYoung style 0 queue.waiting queue.ages

-- no float is placed, and none waits
abbrev pub none : StyleValue → QueueValue
none style = record {
  placed = replicate (length (float_numbers style)) 0;
  waiting = replicate (length (float_numbers style)) 0;
  ages = [];
}

-- the ages of the classes before a slot
abbrev pub ages_before : QueueValue → ℕ → ℕ
ages_before queue slot = sum (take slot queue.waiting)

-- one more float of a class waits, behind those of its class
abbrev pub with_callout : QueueValue → ℕ → QueueValue
with_callout queue slot = record {
  placed = queue.placed;
  waiting = slice_set queue.waiting slot (slice_index queue.waiting slot + 1);
  ages = insert queue.ages (ages_before queue (slot + 1)) 0;
}

-- the first float of a class that waits is placed
abbrev pub with_placed : QueueValue → ℕ → QueueValue
with_placed queue slot = record {
  placed = slice_set queue.placed slot (slice_index queue.placed slot + 1);
  waiting = slice_set queue.waiting slot (slice_index queue.waiting slot - 1);
  ages = remove queue.ages (ages_before queue slot);
}

-- all ages are one more
abbrev pub turned : QueueValue → QueueValue
turned queue = record { placed = queue.placed; waiting = queue.waiting; ages = map (λ (age : ℕ). age + 1) queue.ages }

-- the first age of a slot that would reach the length of its table
abbrev pub late_in : ℕ → ℕ → List ℕ → Option Late
late_in limit slot [] = None
late_in limit slot (age ∷ ages) =
    if nat_le limit (age + 1) then Some (record { slot = slot; age = limit }) else late_in limit slot ages

-- the first by class and number, where each slot has a limit
abbrev pub late_by : (ℕ → ℕ) → ℕ → List ℕ → List ℕ → Option Late
late_by limit slot [] ages = None
late_by limit slot (count ∷ waiting) ages =
    option_or (late_in (limit slot) slot (take count ages)) (late_by limit (slot + 1) waiting (drop count ages))

-- the float that would have waited too long
abbrev pub late_of : StyleValue → QueueValue → Option Late
late_of style queue = late_by (λ slot. length (distance_table style slot)) 0 queue.waiting queue.ages

-- the table of the slot-th float class
abbrev pub next_table : Kind → ℕ → List ℕ → List ℕ → List ℕ
next_table (Note skip limit) slot same less = same
next_table (Float area distance) slot same less = if slot == 0 then distance else less

abbrev pub table_in : List Class → ℕ → List ℕ
table_in [] slot = []
table_in (class ∷ classes) slot = next_table class.kind slot (table_in classes slot) (table_in classes (slot - 1))

-- how many float classes there are
abbrev pub float_count_in : List Class → ℕ
float_count_in [] = 0
float_count_in (class ∷ classes) = (if is_float_class class then 1 else 0) + float_count_in classes
