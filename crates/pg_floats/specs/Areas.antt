-- The height of an area, from the callouts of its floats.
use Rattle.std.specs.Prelude.{◌≡◌, ℕ, ◌+◌, ◌*◌, ◌-◌, ◌≤◌, ◌^◌, ◌==◌, ◌&&◌, ◌||◌, nat_le, Bool, true, if◌then◌else◌}
use Rattle.std.specs.Prelude.{List, [], ◌∷◌, length, take, drop, unsigned_abs}
use Rattle.std.specs.List.{sum_by}
use Rattle.pg_style.specs.Values.{AreaRuleValue}
use Rattle.pg_rules.specs.Floats.{entry}
use Rattle.pg_floats.specs.declared.area.Dealt.{Dealt}
use Rattle.pg_floats.specs.declared.callouts.Callout.{Callout}
use Rattle.pg_floats.specs.FloatsValue.{ClassFloatsValue}

abbrev pub sizes_together : List Callout → ℕ
sizes_together callouts = sum_by (λ (callout : Callout). callout.size) callouts

-- so many floats from a number on
abbrev pub next_of : List Callout → ℕ → ℕ → List Callout
next_of callouts from count = take count (drop from callouts)

-- a class has as many
abbrev pub has_next : List Callout → ℕ → ℕ → Bool
has_next callouts from count = (count == 0) || nat_le (from + count) (length callouts)

abbrev pub has_dealt : ℕ → List ClassFloatsValue → List ℕ → List ℕ → Bool
has_dealt slot [] before counts = true
has_dealt slot (floats ∷ list) before counts =
    has_next floats.callouts (entry before slot) (entry counts slot) && has_dealt (slot + 1) list before counts

-- how many floats counts deal out, from a slot on, and their sizes
abbrev pub dealt_count : ℕ → List ClassFloatsValue → List ℕ → List ℕ → ℕ
dealt_count slot [] before counts = 0
dealt_count slot (floats ∷ list) before counts =
    length (next_of floats.callouts (entry before slot) (entry counts slot)) + dealt_count (slot + 1) list before counts

abbrev pub dealt_sizes : ℕ → List ClassFloatsValue → List ℕ → List ℕ → ℕ
dealt_sizes slot [] before counts = 0
dealt_sizes slot (floats ∷ list) before counts =
    sizes_together (next_of floats.callouts (entry before slot) (entry counts slot))
    + dealt_sizes (slot + 1) list before counts

-- the next floats of a class, counted and added
pub record IsNext (callouts : List Callout) (from count : ℕ) (dealt : Dealt) : Type 0 where
  pub there : has_next callouts from count ≡ true
  pub count_is : dealt.count ≡ length (next_of callouts from count)
  pub sizes_is : dealt.sizes ≡ sizes_together (next_of callouts from count)
  pub few : dealt.count ≤ 2 ^ 16
  pub bounded : dealt.sizes ≤ 2 ^ 30 * dealt.count

-- the floats that counts deal out, counted and added
pub record IsDealt (list : List ClassFloatsValue) (before counts : List ℕ) (dealt : Dealt) : Type 0 where
  pub there : has_dealt 0 list before counts ≡ true
  pub count_is : dealt.count ≡ dealt_count 0 list before counts
  pub sizes_is : dealt.sizes ≡ dealt_sizes 0 list before counts
  pub few : dealt.count ≤ 2 ^ 12
  pub bounded : dealt.sizes ≤ 2 ^ 30 * dealt.count

-- so many floats of these sizes together, with a separator between two, and a gap
abbrev pub area_size : AreaRuleValue → ℕ → ℕ → ℕ
area_size rule count sizes =
    if count == 0 then 0 else ((sizes + unsigned_abs rule.sep.size * (count - 1)) + unsigned_abs rule.gap.size)
