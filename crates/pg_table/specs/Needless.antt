-- What needs no label.
use Rattle.std.specs.Prelude.{◌≡◌, ℕ, ◌+◌, ◌<◌, ◌⊎◌, ◌||◌, nat_lt, ℤ, ◌<ℤ◌, Bool, true, List, Contains}
use Rattle.pg_table.specs.Space.{Meaning}
use Rattle.pg_table.specs.declared.table.Entry.{Entry}

-- one of the labels P costs less than c, and is no worse than the state u
pub record IsOutdone {S M K : Type 0} (sp : Meaning S M K) (P : Entry S M → Type 0) (u : S)
    (c : ℤ) : Type 0 where
  pub entry : Entry S M
  pub among : P entry
  pub no_worse : sp.no_worse entry.state u ≡ true
  pub cheaper : entry.cost <ℤ c

-- the state u is below t, or one of the labels P costs less than c and is no worse than it
abbrev pub IsNeedless : {S M K : Type 0} → Meaning S M K → ℕ → (Entry S M → Type 0) → S → ℤ → Type 0
IsNeedless sp t P u c = (sp.block u + 1 < t) ⊎ IsOutdone sp P u c

-- the labels that are opened, and those that are pending
abbrev pub Known : {S M : Type 0} → List (Entry S M) → (Entry S M → Type 0) → Entry S M → Type 0
Known es P e = Contains es e ⊎ P e

-- a move to the state u needs no label, where its run costs c: the state is below t, or what is remembered tells that it
-- was reached at a lower cost
unfoldable pub is_spared : {S M K : Type 0} → Meaning S M K → ℕ → (S → ℤ → Bool) → S → ℤ → Bool
is_spared sp t outdone u c = nat_lt (sp.block u + 1) t || outdone u c

-- what is remembered more is at most that the state u was reached at the cost c
abbrev pub MarksMore : {S : Type 0} → (S → S → Type 0) → (S → ℤ → Bool) → S → ℤ → (S → ℤ → Bool) → Type 0
MarksMore {S} NoWorse old u c new =
    (v : S) (d : ℤ) → new v d ≡ true → (old v d ≡ true) ⊎ (NoWorse u v × (c <ℤ d))

-- of each state of the space's own that is remembered there is a label, opened or pending, that is no worse and costs no more
pub record AreMarks {S M K : Type 0} (sp : Meaning S M K) (es : List (Entry S M)) (P : Entry S M → Type 0)
    (outdone : S → ℤ → Bool) : Type 0 where
  pub known : (v : S) (c : ℤ) → sp.Own v → outdone v c ≡ true → IsOutdone sp (Known es P) v c
