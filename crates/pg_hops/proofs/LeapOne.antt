-- Past one item more of a leap.
use Rattle.std.proofs.Common.{◌≡◌, refl, sym, ap, subst, ◌∙◌, ℕ, zero, suc, ◌+◌, ◌-◌, ◌≤◌, ◌<◌, List, arith, Bool, true, false, Option, Some, None, ℤ}
use Rattle.std.specs.Prelude.{if◌then◌else◌}
use Rattle.std.specs.Option.{option_map_or}
use Rattle.std.proofs.lemmas.Option.{same_Some}
use Rattle.pg_list.specs.declared.item.Item.{Item}
use Rattle.pg_list.specs.declared.blocks.Block.{Block}
use Rattle.pg_lemmas.proofs.Bools.{if_true}
use Rattle.pg_column.specs.Passed.{raised}
use Rattle.pg_list.specs.Break.{is_forcing}
use Rattle.pg_hops.specs.Ahead.{item_ahead, settled, stepped}
use Rattle.pg_hops.specs.declared.cursor.Cursor.{Cursor}
use Rattle.pg_hops.specs.Bounds.{AddedValue}
use Rattle.pg_hops.specs.Shift.{with_shift}
use Rattle.pg_hops.specs.declared.shift.Shift.{Shift}
use Rattle.pg_hops.specs.Leap.{IsLeap, IsLeapAt, Leaping, asked, is_break_ahead, leap_begun, leap_on, leap_one, may_leap}

module _ (blocks : List Block) (maxdepth : ℤ) where
  -- past the item ahead, and on from there
  abbrev past_ahead : Leaping → (Leaping → Option Leaping) → Option Item → Option Leaping
  past_ahead l more o =
      option_map_or (λ (item : Item). if may_leap blocks l.way item then more (leap_one blocks maxdepth l item) else None)
      o None

  leap_past : (n : ℕ) (l : Leaping) (x : Item) → item_ahead blocks l.way.to ≡ Some x →
      may_leap blocks l.way x ≡ true →
      leap_on blocks maxdepth (suc n) l ≡ leap_on blocks maxdepth n (leap_one blocks maxdepth l x)
  leap_past n l x i e = ap (past_ahead l (leap_on blocks maxdepth n)) i
      ∙ if_true (may_leap blocks l.way x) (leap_on blocks maxdepth n (leap_one blocks maxdepth l x)) None e

  -- one item that was passed, and the way on from it
  pub record Leapt (n : ℕ) (l k : Leaping) : Type 0 where
    pub item : Item
    pub is : item_ahead blocks l.way.to ≡ Some item
    pub may : may_leap blocks l.way item ≡ true
    pub on : leap_on blocks maxdepth n (leap_one blocks maxdepth l item) ≡ Some k

  pub leap_at : (n : ℕ) (l k : Leaping) → leap_on blocks maxdepth (suc n) l ≡ Some k → Leapt n l k
  leap_at n l k p = by (item_ahead blocks l.way.to) refl p
    where
      passes : (x : Item) (b : Bool) → item_ahead blocks l.way.to ≡ Some x → may_leap blocks l.way x ≡ b →
          (if b then leap_on blocks maxdepth n (leap_one blocks maxdepth l x) else None) ≡ Some k → Leapt n l k
      passes x true i e q = record { item = x; is = i; may = e; on = q }
      passes x false i e q = absurd cc

      by : (o : Option Item) → item_ahead blocks l.way.to ≡ o →
          past_ahead l (leap_on blocks maxdepth n) o ≡ Some k → Leapt n l k
      by None i q = absurd cc
      by (Some x) i q = passes x (may_leap blocks l.way x) i refl q

  -- one item more behind those that were passed
  leap_more : (n : ℕ) (l k : Leaping) (x : Item) → leap_on blocks maxdepth n l ≡ Some k →
      item_ahead blocks k.way.to ≡ Some x → may_leap blocks k.way x ≡ true →
      leap_on blocks maxdepth (suc n) l ≡ Some (leap_one blocks maxdepth k x)
  leap_more zero l k x p i e = subst (λ (g : Leaping). leap_on blocks maxdepth (suc zero) g
      ≡ Some (leap_one blocks maxdepth k x)) (sym (same_Some l k p)) (leap_past zero k x i e)
  leap_more (suc n) l k x p i e = let s = leap_at n l k p in
      leap_past (suc n) l s.item s.is s.may
      ∙ leap_more n (leap_one blocks maxdepth l s.item) k x s.on i e

  -- what holds past each item holds past all
  module _ (P : Leaping → Type 0)
      (step : (l : Leaping) (item : Item) → item_ahead blocks l.way.to ≡ Some item → may_leap blocks l.way item ≡ true →
      P l → P (leap_one blocks maxdepth l item)) (k : Leaping) where
    pub leap_all : (n : ℕ) (l : Leaping) → leap_on blocks maxdepth n l ≡ Some k → P l → P k
    leap_all zero l e held = subst P (same_Some l k e) held
    leap_all (suc n) l e held =
        let s = leap_at n l k e in
        leap_all n (leap_one blocks maxdepth l s.item) s.on (step l s.item s.is s.may held)

-- a leap so far: from a break that its item does not force, past at least this item
pub record IsLeapBegun (blocks : List Block) (maxdepth : ℤ) (from : Cursor) (l : Leaping) : Type 0 where
  pub item : Item
  pub is : item_ahead blocks from ≡ Some item
  pub is_break : is_break_ahead blocks from ≡ true
  pub is_free : is_forcing item ≡ false
  pub some : 1 ≤ l.way.added.count
  pub few : l.way.added.count ≤ 256
  pub on : leap_on blocks maxdepth (l.way.added.count - 1) (leap_begun blocks maxdepth from item) ≡ Some l

module _ (blocks : List Block) (maxdepth : ℤ) (from : Cursor) where
  pub leap_begun_on : (l : Leaping) (x : Item) → IsLeapBegun blocks maxdepth from l → l.way.added.count < 256 →
      item_ahead blocks l.way.to ≡ Some x → may_leap blocks l.way x ≡ true →
      IsLeapBegun blocks maxdepth from (leap_one blocks maxdepth l x)
  leap_begun_on l x b few i e =
      let some = b.some in
      let count : l.way.added.count + 1 - 1 ≡ suc (l.way.added.count - 1) = omega (arith, some) in
      record {
        item = b.item;
        is = b.is;
        is_break = b.is_break;
        is_free = b.is_free;
        some = omega arith;
        few = omega (arith, few);
        on = ap (λ (n : ℕ). leap_on blocks maxdepth n (leap_begun blocks maxdepth from b.item)) count
            ∙ leap_more blocks maxdepth (l.way.added.count - 1) (leap_begun blocks maxdepth from b.item) l x b.on i e;
      }

  -- the same, with what the item adds told by its parts
  pub leap_begun_by : (at to : Cursor) (old new : AddedValue) (so_far highest : Option ℤ) (x : Item) →
      IsLeapBegun blocks maxdepth from (record { way = record { to = at; added = old }; highest = so_far }) →
      old.count < 256 → item_ahead blocks at ≡ Some x →
      may_leap blocks (record { to = at; added = old }) x ≡ true → to ≡ settled blocks (stepped at) →
      new.count ≡ old.count + 1 → new.shift ≡ with_shift maxdepth old.shift x →
      highest ≡ (if is_break_ahead blocks at then raised so_far (asked old.shift) else so_far) →
      IsLeapBegun blocks maxdepth from (record { way = record { to = to; added = new }; highest = highest })
  leap_begun_by at to old new so_far highest x b few i e t n s h =
      let next = leap_one blocks maxdepth (record { way = record { to = at; added = old }; highest = so_far }) x in
      subst (λ (o : Option ℤ). IsLeapBegun blocks maxdepth from
      (record { way = record { to = to; added = new }; highest = o })) (sym h)
      (subst (λ (c : Cursor). IsLeapBegun blocks maxdepth from
      (record { way = record { to = c; added = new }; highest = next.highest })) (sym t)
      (subst (λ (k : ℕ). IsLeapBegun blocks maxdepth from (record {
        way = record { to = next.way.to; added = record { count = k; shift = new.shift } };
        highest = next.highest;
      })) (sym n)
      (subst (λ (k : Shift). IsLeapBegun blocks maxdepth from (record {
        way = record { to = next.way.to; added = record { count = next.way.added.count; shift = k } };
        highest = next.highest;
      })) (sym s)
      (leap_begun_on (record { way = record { to = at; added = old }; highest = so_far }) x b few i e))))
