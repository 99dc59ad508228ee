-- The ranges of what items add.
use Rattle.std.specs.Prelude.{◌≡◌, ℕ, ◌+◌, ◌*◌, ◌≤◌, ◌^◌, IfSome, nat_abs}
use Rattle.pg_hops.specs.declared.shift.Shift.{Shift}

pub record AddedValue : Type 0 where
  pub count : ℕ
  pub shift : Shift

-- glue sums that stand as they were
abbrev pub HasSameGlue : Shift → Shift → Type 0
HasSameGlue a b = (a.finite ≡ b.finite) × (a.fil ≡ b.fil) × (a.fill ≡ b.fill) × (a.filll ≡ b.filll)
    × (a.shrink ≡ b.shrink)

-- no stretch has grown by more than one item can add
abbrev pub HasMoreGlue : Shift → Shift → Type 0
HasMoreGlue new old = (nat_abs new.finite ≤ nat_abs old.finite + 2 ^ 31)
    × (nat_abs new.fil ≤ nat_abs old.fil + 2 ^ 31) × (nat_abs new.fill ≤ nat_abs old.fill + 2 ^ 31)
    × (nat_abs new.filll ≤ nat_abs old.filll + 2 ^ 31)

-- nor has any sum, and a depth is one that a single item has
pub record HasRisen (new old : Shift) : Type 0 where
  pub height_size : nat_abs new.height ≤ nat_abs old.height + 2 ^ 31
  pub depth_size : IfSome new.depth (λ depth. nat_abs depth ≤ 2 ^ 30)
  pub glue_size : HasMoreGlue new old
  pub shrink_size : nat_abs new.shrink ≤ nat_abs old.shrink + 2 ^ 31

-- so many items cannot add more; without an item no depth is new
abbrev pub IsLight : Shift → ℕ → Type 0
IsLight shift count = (nat_abs shift.height ≤ 2 ^ 31 * count)
    × IfSome shift.depth (λ depth. (nat_abs depth ≤ 2 ^ 30) × (1 ≤ count))
    × (nat_abs shift.finite ≤ 2 ^ 31 * count) × (nat_abs shift.fil ≤ 2 ^ 31 * count)
    × (nat_abs shift.fill ≤ 2 ^ 31 * count) × (nat_abs shift.filll ≤ 2 ^ 31 * count)
    × (nat_abs shift.shrink ≤ 2 ^ 31 * count)

-- the ranges that kept sums have
pub record IsWellKept (count : ℕ) (shift : Shift) : Type 0 where
  pub few : count ≤ 2 ^ 20
  pub light : IsLight shift count
