-- Past one plain item more.
use Rattle.std.proofs.Common.{◌≡◌, refl, sym, ap, subst, ◌∙◌, ℕ, zero, suc, ◌+◌, ◌-◌, ◌≤◌, ◌<◌, List, arith, Bool, true, false, Option, Some, None}
use Rattle.std.specs.Prelude.{if◌then◌else◌, is_some, ℤ}
use Rattle.std.specs.Option.{option_map_or}
use Rattle.std.proofs.lemmas.Option.{same_Some}
use Rattle.pg_list.specs.declared.item.Item.{Item}
use Rattle.pg_list.specs.declared.blocks.Block.{Block}
use Rattle.pg_lemmas.proofs.Bools.{if_false}
use Rattle.pg_breaks.specs.Near.{place_penalty}
use Rattle.pg_list.specs.Break.{is_forcing}
use Rattle.pg_hops.specs.Ahead.{item_ahead, place_ahead, settled, stepped}
use Rattle.pg_hops.specs.declared.cursor.Cursor.{Cursor}
use Rattle.pg_hops.specs.Bounds.{AddedValue}
use Rattle.pg_hops.specs.Shift.{with_shift}
use Rattle.pg_hops.specs.declared.shift.Shift.{Shift}
use Rattle.pg_hops.specs.Hop.{HopValue, IsHop, IsHopAt, IsHopOver, ends_hop, past_one, past_plain, standing}

module _ (blocks : List Block) (maxdepth : ℤ) where
  -- the way on from a plain item
  pub plain_on : (n : ℕ) (h : HopValue) (x : Item) → item_ahead blocks h.to ≡ Some x →
      ends_hop blocks h.to x ≡ false →
      past_plain blocks maxdepth (suc n) h ≡ past_plain blocks maxdepth n (past_one blocks maxdepth h x)
  plain_on n h x i e = ap (λ (o : Option Item). option_map_or (λ (item : Item). if ends_hop blocks h.to item then None
      else past_plain blocks maxdepth n (past_one blocks maxdepth h item)) o None) i
      ∙ if_false (ends_hop blocks h.to x) None _ e

  -- one item that was passed, and the way on from it
  pub record Plain (n : ℕ) (h k : HopValue) : Type 0 where
    pub item : Item
    pub is : item_ahead blocks h.to ≡ Some item
    pub plain : ends_hop blocks h.to item ≡ false
    pub on : past_plain blocks maxdepth n (past_one blocks maxdepth h item) ≡ Some k

  pub plain_at : (n : ℕ) (h k : HopValue) → past_plain blocks maxdepth (suc n) h ≡ Some k → Plain n h k
  plain_at n h k p = by (item_ahead blocks h.to) refl p
    where
      ends : (x : Item) (b : Bool) → item_ahead blocks h.to ≡ Some x → ends_hop blocks h.to x ≡ b →
          (if b then None else past_plain blocks maxdepth n (past_one blocks maxdepth h x)) ≡ Some k → Plain n h k
      ends x true i e q = absurd cc
      ends x false i e q = record { item = x; is = i; plain = e; on = q }

      by : (o : Option Item) → item_ahead blocks h.to ≡ o →
          option_map_or (λ (item : Item). if ends_hop blocks h.to item then None
          else past_plain blocks maxdepth n (past_one blocks maxdepth h item)) o None ≡ Some k → Plain n h k
      by None i q = absurd cc
      by (Some x) i q = ends x (ends_hop blocks h.to x) i refl q

  -- one item more behind those that were passed
  pub plain_more : (n : ℕ) (h k : HopValue) (x : Item) → past_plain blocks maxdepth n h ≡ Some k →
      item_ahead blocks k.to ≡ Some x → ends_hop blocks k.to x ≡ false →
      past_plain blocks maxdepth (suc n) h ≡ Some (past_one blocks maxdepth k x)
  plain_more zero h k x p i e = subst (λ (g : HopValue). past_plain blocks maxdepth (suc zero) g
      ≡ Some (past_one blocks maxdepth k x)) (sym (same_Some h k p)) (plain_on zero k x i e)
  plain_more (suc n) h k x p i e = let s = plain_at n h k p in
      plain_on (suc n) h s.item s.is s.plain
      ∙ plain_more n (past_one blocks maxdepth h s.item) k x s.on i e

-- a hop so far: from a break that its item does not force, past at least this item
pub record IsBegun (blocks : List Block) (maxdepth : ℤ) (from : Cursor) (hop : HopValue) : Type 0 where
  pub item : Item
  pub is : item_ahead blocks from ≡ Some item
  pub some : 1 ≤ hop.added.count
  pub over : IsHopOver blocks maxdepth from hop item

module _ (blocks : List Block) (maxdepth : ℤ) (from : Cursor) where
  pub begun_more : (h : HopValue) (x : Item) → IsBegun blocks maxdepth from h → h.added.count < 64 →
      item_ahead blocks h.to ≡ Some x → ends_hop blocks h.to x ≡ false →
      IsBegun blocks maxdepth from (past_one blocks maxdepth h x)
  begun_more h x b l i e =
      let some = b.some in
      let count : h.added.count + 1 - 1 ≡ suc (h.added.count - 1) = omega (arith, some) in
      record {
        item = b.item;
        is = b.is;
        some = omega arith;
        over = record {
          is_break = b.over.is_break;
          is_free = b.over.is_free;
          few = omega (arith, l);
          plain = ap (λ (n : ℕ). past_plain blocks maxdepth n (past_one blocks maxdepth (standing from) b.item)) count
              ∙ plain_more blocks maxdepth (h.added.count - 1) (past_one blocks maxdepth (standing from) b.item) h x
              b.over.plain i e;
        };
      }

  -- the same, with what the item adds told by its parts
  pub begun_on : (at to : Cursor) (old new : AddedValue) (x : Item) →
      IsBegun blocks maxdepth from (record { to = at; added = old }) → old.count < 64 →
      item_ahead blocks at ≡ Some x → ends_hop blocks at x ≡ false → to ≡ settled blocks (stepped at) →
      new.count ≡ old.count + 1 → new.shift ≡ with_shift maxdepth old.shift x →
      IsBegun blocks maxdepth from (record { to = to; added = new })
  begun_on at to old new x b l i e t n s =
      subst (λ (c : Cursor). IsBegun blocks maxdepth from (record { to = c; added = new })) (sym t)
      (subst (λ (k : ℕ). IsBegun blocks maxdepth from
      (record { to = settled blocks (stepped at); added = record { count = k; shift = new.shift } })) (sym n)
      (subst (λ (k : Shift). IsBegun blocks maxdepth from
      (record { to = settled blocks (stepped at); added = record { count = old.count + 1; shift = k } })) (sym s)
      (begun_more (record { to = at; added = old }) x b l i e)))
