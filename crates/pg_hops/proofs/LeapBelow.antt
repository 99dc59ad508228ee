-- Galleys that agree below a block have the same leaps from places well below it.
use Rattle.std.proofs.Common.{◌≡◌, refl, sym, ap, subst, ◌∙◌, ℕ, zero, suc, ◌+◌, ◌-◌, ◌<◌, List, Bool, true, Option, Some, None, arith, ℤ}
use Rattle.std.specs.Prelude.{◌&&◌, not, if◌then◌else◌}
use Rattle.std.specs.Option.{option_map_or}
use Rattle.pg_list.specs.Shapes.{is_insert}
use Rattle.pg_list.specs.declared.item.Item.{Item}
use Rattle.pg_list.specs.declared.blocks.Block.{Block}
use Rattle.pg_column.specs.Passed.{raised}
use Rattle.pg_hops.specs.Ahead.{item_ahead}
use Rattle.pg_hops.specs.declared.cursor.Cursor.{Cursor}
use Rattle.pg_hops.specs.Hop.{HopValue, past_one, standing}
use Rattle.pg_hops.specs.Leap.{IsLeap, IsLeapAt, LeapValue, Leaping, asked, leap_begun, leap_on, leap_one, may_cross, may_leap}
use Rattle.pg_hops.proofs.BelowCut.{SameBlocks, ahead_same, break_same, near_next, one_same}

module _ (n : ℕ) (blocks others : List Block) (same : SameBlocks n blocks others) where
  may_same : (way : HopValue) (x : Item) → way.to.block + 1 < n → may_leap blocks way x ≡ may_leap others way x
  may_same way x h = ap (λ (b : Bool). not (is_insert x) && (if b then may_cross way.added.shift x else true))
      (break_same n blocks others same way.to h)

  module _ (maxdepth : ℤ) where
    begun_same : (c : Cursor) (x : Item) → c.block < n →
        leap_begun blocks maxdepth c x ≡ leap_begun others maxdepth c x
    begun_same c x h = ap (λ (way : HopValue). record { way = way; highest = None })
        (one_same n blocks others same maxdepth (standing c) x h)

    next_same : (l : Leaping) (x : Item) → l.way.to.block + 1 < n →
        leap_one blocks maxdepth l x ≡ leap_one others maxdepth l x
    next_same l x h =
        ap (λ (b : Bool). record {
          way = past_one blocks maxdepth l.way x;
          highest = if b then raised l.highest (asked l.way.added.shift) else l.highest;
        }) (break_same n blocks others same l.way.to h)
        ∙ ap (λ (way : HopValue). record { way = way; highest = (leap_one others maxdepth l x).highest })
        (one_same n blocks others same maxdepth l.way x (omega (arith, h)))

    on_same : (m : ℕ) (l : Leaping) → l.way.to.block + m < n →
        leap_on blocks maxdepth m l ≡ leap_on others maxdepth m l
    on_same zero l h = refl
    on_same (suc m) l h =
        ap (λ (o : Option Item). option_map_or (λ (item : Item). if may_leap blocks l.way item
        then leap_on blocks maxdepth m (leap_one blocks maxdepth l item) else None) o None)
        (ahead_same n blocks others same l.way.to (omega (arith, h)))
        ∙ by (item_ahead others l.way.to) (λ x. let near = near_next n blocks others same l.way.to in
        on_same m (leap_one blocks maxdepth l x) (omega (arith, h, near))
        ∙ ap (leap_on others maxdepth m) (next_same l x (omega (arith, h))))
      where
        by : (o : Option Item) → ((x : Item) → leap_on blocks maxdepth m (leap_one blocks maxdepth l x)
            ≡ leap_on others maxdepth m (leap_one others maxdepth l x)) →
            option_map_or (λ (item : Item). if may_leap blocks l.way item
            then leap_on blocks maxdepth m (leap_one blocks maxdepth l item) else None) o None
            ≡ option_map_or (λ (item : Item). if may_leap others l.way item
            then leap_on others maxdepth m (leap_one others maxdepth l item) else None) o None
        by None on = refl
        by (Some x) on = ap (λ (b : Bool). if b then leap_on blocks maxdepth m (leap_one blocks maxdepth l x) else None)
            (may_same l.way x (omega (arith, h)))
            ∙ ap (λ (o : Option Leaping). if may_leap others l.way x then o else None) (on x)

-- a leap from well below the block leads on in the other galley
pub leap_same : (n : ℕ) (blocks others : List Block) → SameBlocks n blocks others → (maxdepth : ℤ) (c : Cursor)
    (l : LeapValue) → c.block + 258 < n → IsLeap blocks maxdepth c l → IsLeap others maxdepth c l
leap_same n blocks others same maxdepth c l h is =
    subst (IsLeapAt others maxdepth c l) (ahead_same n blocks others same c (omega (arith, h)))
    (by (item_ahead blocks c) is)
  where
    by : (o : Option Item) → IsLeapAt blocks maxdepth c l o → IsLeapAt others maxdepth c l o
    by None z = absurd z
    by (Some x) z = record {
      is_break = sym (break_same n blocks others same c (omega (arith, h))) ∙ z.is_break;
      is_free = z.is_free;
      few = z.few;
      on =
          let near = near_next n blocks others same c in
          let few = z.few in
          sym (on_same n blocks others same maxdepth (l.way.added.count - 1) (leap_begun blocks maxdepth c x)
          (omega (arith, h, near, few))
          ∙ ap (leap_on others maxdepth (l.way.added.count - 1))
          (begun_same n blocks others same maxdepth c x (omega (arith, h))))
          ∙ z.on;
    }
