-- Floats before a barrier, where counts of 16 bits were asked.
use Rattle.std.proofs.Common.{◌≡◌, refl, ap, ◌∙◌, ℕ, zero, suc, ◌^◌, ◌≤◌, arith, List, [], ◌∷◌, length, map, Bool, true, false}
use Rattle.std.specs.List.{AllByRecursion, list_all, range_with_len}
use Rattle.pg_list.specs.Barrier.{text_block}
use Rattle.pg_list.specs.declared.blocks.Block.{Block}
use Rattle.pg_list.specs.declared.galley.Place.{Place}
use Rattle.pg_list.specs.Flat.{flat, items_before}
use Rattle.pg_list.specs.Shapes.{IsBlock}
use Rattle.pg_style.specs.Values.{StyleValue}
use Rattle.std.specs.Prelude.{nat_le, ◌&&◌, ◌||◌}
use Rattle.std.proofs.lemmas.Bool.{leb-true, le-leb}
use Rattle.pg_lemmas.proofs.Bools.{both_ways}
use Rattle.law_places.proofs.Callouts.{called_total}
use Rattle.pg_rules.specs.Floats.{called, entry, float_numbers, flushed, sizes_of}
use Rattle.pg_rules.specs.Legal.{are_placed, are_ready}
use Rattle.pg_floats.specs.AreFloats.{float_total}
use Rattle.pg_floats.specs.Counts.{cap, capped}
use Rattle.pg_floats.proofs.Capped.{AreFew, are_few, entry_capped}

cap_le : (f p : ℕ) → f ≤ 2 ^ 12 → nat_le f (cap p) ≡ nat_le f p
cap_le f p h = both_ways (nat_le f (cap p)) (nat_le f p)
    (λ e. le-leb f p (let k : f ≤ cap p = leb-true _ _ e in omega (arith, k)))
    (λ e. le-leb f (cap p) (let k : f ≤ p = leb-true _ _ e in omega (arith, k, h)))

-- as many of a class are placed as this, which is no great number
pub placed_is : (f n : ℕ) (placed counts : List ℕ) (slot : ℕ) → f ≤ 2 ^ 12 → n ≡ entry placed slot →
    placed ≡ capped counts → nat_le f n ≡ nat_le f (entry counts slot)
placed_is f n placed counts slot h e c =
    ap (nat_le f) (e ∙ (ap (λ (xs : List ℕ). entry xs slot) c ∙ entry_capped counts slot))
    ∙ cap_le f (entry counts slot) h

-- no more floats of a class are called than there may be
pub called_small : (blocks : List Block) (style : StyleValue) → AllByRecursion IsBlock blocks →
    float_total blocks style ≤ 2 ^ 12 → (at : Place) (slot : ℕ) → entry (called blocks style at) slot ≤ 2 ^ 12
called_small blocks style shape few at slot = by (float_numbers style) slot (are_few blocks style few)
  where
    by : (numbers : List ℕ) (slot : ℕ) → AreFew (map (λ number. sizes_of number (flat blocks [])) numbers) →
        entry (map (λ number. length (sizes_of number (items_before blocks at))) numbers) slot ≤ 2 ^ 12
    by [] slot h = omega arith
    by (number ∷ numbers) zero h =
        let a : length (sizes_of number (items_before blocks at)) ≤ length (sizes_of number (flat blocks [])) =
        called_total (record { blocks = blocks; style = style }) shape number at in
        let b : length (sizes_of number (flat blocks [])) ≤ 2 ^ 12 = h.0 in omega (arith, a, b)
    by (number ∷ numbers) (suc slot) h = by numbers slot h.1

-- ---- all classes

pub ready_is : (blocks : List Block) (style : StyleValue) (from : Place) (block n : ℕ) (counts : List ℕ) (r : Bool) →
    n ≡ length (float_numbers style) → block ≡ text_block blocks from →
    r ≡ list_all (λ (slot : ℕ). nat_le (entry (called blocks style from) slot) (entry counts slot)
    || nat_le (entry (flushed blocks style block) slot) (entry counts slot)) (range_with_len 0 n) →
    r ≡ are_ready style (called blocks style from) (flushed blocks style (text_block blocks from)) counts
ready_is blocks style from block n counts r long text is = is
    ∙ (ap (λ (b : ℕ). list_all (λ (slot : ℕ). nat_le (entry (called blocks style from) slot) (entry counts slot)
    || nat_le (entry (flushed blocks style b) slot) (entry counts slot)) (range_with_len 0 n)) text
    ∙ ap (λ (m : ℕ). list_all (λ (slot : ℕ). nat_le (entry (called blocks style from) slot) (entry counts slot)
    || nat_le (entry (flushed blocks style (text_block blocks from)) slot) (entry counts slot)) (range_with_len 0 m)) long)

pub all_placed : (blocks : List Block) (style : StyleValue) (block n : ℕ) (counts : List ℕ) (r : Bool) →
    n ≡ length (float_numbers style) →
    r ≡ list_all (λ (slot : ℕ). nat_le (entry (flushed blocks style block) slot) (entry counts slot))
    (range_with_len 0 n) → r ≡ are_placed style (flushed blocks style block) counts
all_placed blocks style block n counts r long is = is
    ∙ ap (λ (m : ℕ). list_all (λ (slot : ℕ). nat_le (entry (flushed blocks style block) slot) (entry counts slot))
    (range_with_len 0 m)) long

-- a column with text, where it may begin and where it may not
pub kept_then : (same ready placed r : Bool) → same ≡ false → ready ≡ true → r ≡ placed →
    r ≡ (same || (ready && placed))
kept_then true ready placed r p q e = absurd cc
kept_then false true placed r p q e = e
kept_then false false placed r p q e = absurd cc

pub kept_else : (same ready placed : Bool) → same ≡ false → ready ≡ false → false ≡ (same || (ready && placed))
kept_else true ready placed p q = absurd cc
kept_else false true placed p q = absurd cc
kept_else false false placed p q = refl
