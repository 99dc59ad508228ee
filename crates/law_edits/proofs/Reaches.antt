-- How far a column that starts in the front may go, whatever stands behind the front.
use Rattle.std.proofs.Common.{◌≡◌, sym, ap, subst, ◌∙◌, ℕ, ◌+◌, ◌-◌, ◌≤◌, ◌<◌, inl, inr, List, ◌∷◌, ◌++◌, length, map, take, Bool, true, arith}
use Rattle.std.specs.Prelude.{◌==◌, ◌+ℤ◌, nat_lt}
use Rattle.std.proofs.Math.Seq.{take-append-add, take-append_seam}
use Rattle.std.proofs.lemmas.Bool.{eqb-true}
use Rattle.std.proofs.lemmas.List.{length-map}
use Rattle.pg_list.specs.Places.{place}
use Rattle.pg_list.specs.Shapes.{IsBlock}
use Rattle.pg_list.specs.declared.blocks.Block.{Block}
use Rattle.pg_list.specs.declared.galley.Place.{Place}
use Rattle.pg_list.specs.declared.item.Item.{Item}
use Rattle.pg_style.specs.Values.{StyleValue}
use Rattle.pg_list.specs.Badness.{is_over}
use Rattle.pg_list.specs.Break.{passes_between}
use Rattle.pg_list.specs.Flat.{FlatItem, blocks_at, flat_items_at, flat_items_from, fronts, picked_variants}
use Rattle.pg_list.specs.Totals.{trimmed, total, shrink}
use Rattle.pg_rules.specs.Floats.{gap_shrink}
use Rattle.pg_rules.specs.Reach.{IsReach, Reaches, greatest_extra, greatest_give, is_over_at_most}
use Rattle.pg_rules.specs.Room.{Document}
use Rattle.pg_table.specs.Below.{SameBelow}
use Rattle.law_places.proofs.Alike.{item_of}
use Rattle.pg_lemmas.proofs.Bools.{both, both_of, by_bool}
use Rattle.pg_lemmas.proofs.Lists.{all_drop}
use Rattle.pg_lemmas.proofs.Numbers.{eq_yes, less_true, not_less}
use Rattle.law_space.proofs.Picks.{named}
use Rattle.law_texts.proofs.Picks.{at_fronts, front_append, front_count, named_few}
use Rattle.law_edits.proofs.Behind.{GoesOn, front_each, is_glue_block}
use Rattle.law_edits.proofs.Fronts.{blocks_cut, cut_at, left_by, named_parts, none_left, picks_parted, read_at, read_by, variants_front, variants_read}
use Rattle.law_edits.proofs.Items.{passes_less, take_same}
use Rattle.law_edits.proofs.Steps.{ItemsCut, LeadsIn, items_cut, leads_in, out_fronts, out_named, out_steps, steps_behind, steps_seam}

abbrev pub document_of : StyleValue → List Block → Document
document_of style blocks = record { blocks = blocks; style = style }

fronts_more : (xs ys : List FlatItem) (n : ℕ) → length xs ≤ n → front_count xs ≤ fronts (xs ++ ys) n
fronts_more xs ys n h =
    let q : length xs + (n - length xs) ≡ n = omega (arith, h) in
    let t : take n (xs ++ ys) ≡ xs ++ take (n - length xs) ys =
    ap (λ (k : ℕ). take k (xs ++ ys)) (sym q) ∙ take-append-add xs ys (n - length xs) in
    let e : fronts (xs ++ ys) n ≡ front_count xs + front_count (take (n - length xs) ys) =
    ap front_count t ∙ front_append xs (take (n - length xs) ys) in
    omega (arith, e)

-- no break inside is due, with the tallest room
abbrev PassesIn : StyleValue → List Item → ℕ → Type 0
PassesIn style xs n = passes_between xs (is_over_at_most style xs) n ≡ true

-- of two lists of items that are cut alike, what passes in the one passes in the other, and in a part of it
cut_passes : (style : StyleValue) (w : List Item) (glue : Bool) (xs ys : List Item) (m n : ℕ) →
    ItemsCut w glue xs → ItemsCut w glue ys → m ≤ n → m ≤ length w → PassesIn style xs n → PassesIn style ys m
cut_passes style w glue xs ys m n a b h l p =
    subst (λ (zs : List Item). PassesIn style zs m) (sym b.is)
    (passes_less w a.next b.next a.rest b.rest (a.glue_is ∙ sym b.glue_is) a.boxed b.boxed
    (is_over_at_most style (w ++ a.next ∷ a.rest)) (is_over_at_most style (w ++ b.next ∷ b.rest)) m n h l
    (λ k i. ap (λ (zs : List Item). is_over (total style.topskip style.maxdepth (trimmed zs)) (shrink (trimmed zs))
    ((style.height +ℤ greatest_extra style.runs) +ℤ greatest_give gap_shrink style))
    (take_same w a.next b.next a.rest b.rest (a.glue_is ∙ sym b.glue_is) a.boxed b.boxed k (omega arith)))
    (subst (λ (zs : List Item). PassesIn style zs n) a.is p))

module _ (style : StyleValue) {front : List Block} {next : Block} {ra rb : List Block}
    (a : GoesOn front next ra) (b : GoesOn front next rb) where
  -- to a place in the front
  reach_low : (from to : Place) → from.block < length front → to.block < length front →
      Reaches (document_of style (front ++ next ∷ ra)) from to →
      Reaches (document_of style (front ++ next ∷ rb)) from to
  reach_low from to i h r =
      let s = both_of (fronts (flat_items_at (front ++ next ∷ ra) from r.picks) r.size == length r.picks) _ r.picked in
      let n : named (blocks_at (front ++ next ∷ ra) from) r.picks ≡ length r.picks = eqb-true _ _ s.1 in
      let l : LeadsIn front from to r.picks r.size =
      leads_in front from i (front_each a) (next ∷ ra) to r.picks r.size h r.leads (eqb-true _ _ s.0) n in
      let m : named (blocks_at (front ++ next ∷ rb) from) r.picks ≡ length r.picks = out_named l (next ∷ rb) in
      let w : r.size < length (flat_items_at front from r.picks) = l.within in
      let k = length-map (flat_items_at front from r.picks) item_of in
      record {
        picks = r.picks;
        size = r.size;
        leads = out_steps l (next ∷ rb);
        picked = both (fronts (flat_items_at (front ++ next ∷ rb) from r.picks) r.size == length r.picks) _
            (eq_yes _ _ (out_fronts l (next ∷ rb))) (eq_yes _ _ m);
        passes = cut_passes style (map item_of (flat_items_at front from r.picks)) (is_glue_block next)
            (map item_of (flat_items_at (front ++ next ∷ ra) from r.picks))
            (map item_of (flat_items_at (front ++ next ∷ rb) from r.picks)) r.size r.size
            (items_cut a from i r.picks n) (items_cut b from i r.picks m) (omega arith) (omega (arith, w, k)) r.passes;
      }

-- to a place behind the front, and so to the first place behind it, with the picks that the front reads
module _ (style : StyleValue) {front : List Block} {next : Block} {ra rb : List Block}
    (a : GoesOn front next ra) (b : GoesOn front next rb) (from to : Place) (inside : from.block < length front)
    (out : length front ≤ to.block) (r : Reaches (document_of style (front ++ next ∷ ra)) from to) where
  abbrev own : List ℕ
  own = read_by (blocks_at front from) r.picks

  fronts_are : fronts (flat_items_at (front ++ next ∷ ra) from r.picks) r.size ≡ length r.picks
  fronts_are = eqb-true _ _
      (both_of (fronts (flat_items_at (front ++ next ∷ ra) from r.picks) r.size == length r.picks) _ r.picked).0

  names : named (blocks_at (front ++ next ∷ ra) from) r.picks ≡ length r.picks
  names = eqb-true _ _
      (both_of (fronts (flat_items_at (front ++ next ∷ ra) from r.picks) r.size == length r.picks) _ r.picked).1

  behind : length (flat_items_at front from r.picks) ≤ r.size
  behind = steps_behind a from inside r.picks names to r.size out r.leads

  same : flat_items_at front from own ≡ flat_items_at front from r.picks
  same = read_at from front inside r.picks

  front_named : named (blocks_at front from) own ≡ length own
  front_named = (named_parts (blocks_at front from) (next ∷ ra) r.picks
      (ap (λ (bs : List Block). named bs r.picks) (sym (blocks_cut from front inside (next ∷ ra))) ∙ names)).0

  own_named : named (blocks_at (front ++ next ∷ rb) from) own ≡ length own
  own_named =
      let few = named_few (blocks_at front from) own in
      ap length (ap (λ (bs : List Block). picked_variants bs own) (blocks_cut from front inside (next ∷ rb))
      ∙ variants_front (blocks_at front from) (next ∷ rb) own
      (none_left (blocks_at front from) own (omega (arith, few, front_named)))) ∙ front_named

  -- the fronts that are passed are no more than the picks, so each choice of the front has its pick
  front_passed : front_count (flat_items_at front from own) ≡ length own
  front_passed =
      let each = λ (k : ℕ). all_drop IsBlock k front (front_each a) in
      let own_fronts = at_fronts front from own each in
      let all_fronts = at_fronts front from r.picks each in
      let fewer = fronts_more (flat_items_at front from r.picks)
      (flat_items_from (length front) (next ∷ ra) (left_by (blocks_at front from) r.picks)) r.size behind in
      let cut = ap (λ (xs : List FlatItem). fronts xs r.size) (cut_at from front inside (next ∷ ra) r.picks) in
      let parts = picks_parted (blocks_at front from) r.picks in
      omega (
        arith,
        own_fronts,
        all_fronts,
        ap front_count same,
        ap length (variants_read (blocks_at front from) r.picks),
        front_named,
        fewer,
        cut,
        fronts_are,
        parts,
      )

  own_fronts : fronts (flat_items_at (front ++ next ∷ rb) from own) (length (flat_items_at front from own)) ≡ length own
  own_fronts = ap (λ (xs : List FlatItem). fronts xs (length (flat_items_at front from own)))
      (cut_at from front inside (next ∷ rb) own)
      ∙ (ap front_count (take-append_seam (flat_items_at front from own) (flat_items_from (length front) (next ∷ rb)
      (left_by (blocks_at front from) own))) ∙ front_passed)

  reach_high : Reaches (document_of style (front ++ next ∷ rb)) from (place (length front) 0 0)
  reach_high = record {
    picks = own;
    size = length (flat_items_at front from own);
    leads = steps_seam b from inside own own_named;
    picked = both (fronts (flat_items_at (front ++ next ∷ rb) from own) (length (flat_items_at front from own))
        == length own) _ (eq_yes _ _ own_fronts) (eq_yes _ _ own_named);
    passes = cut_passes style (map item_of (flat_items_at front from own)) (is_glue_block next)
        (map item_of (flat_items_at (front ++ next ∷ ra) from r.picks))
        (map item_of (flat_items_at (front ++ next ∷ rb) from own)) (length (flat_items_at front from own)) r.size
        (subst (λ (xs : List FlatItem). ItemsCut (map item_of xs) (is_glue_block next)
        (map item_of (flat_items_at (front ++ next ∷ ra) from r.picks))) (sym same)
        (items_cut a from inside r.picks names)) (items_cut b from inside own own_named)
        (omega (arith, ap length same, behind))
        (omega (arith, length-map (flat_items_at front from own) item_of)) r.passes;
  }

-- the reach of a place in the front is the same whatever stands behind the front, or it is behind in both
pub reach_same : (style : StyleValue) {front : List Block} {next : Block} {ra rb : List Block} →
    GoesOn front next ra → GoesOn front next rb → (from : Place) (m n : ℕ) → from.block < length front →
    IsReach (document_of style (front ++ next ∷ ra)) from m → IsReach (document_of style (front ++ next ∷ rb)) from n →
    SameBelow (length front + 1) m n
reach_same style {front} {next} {ra} {rb} a b from m n i p q = by_bool (nat_lt p.last.block (length front))
    (λ s. by_bool (nat_lt q.last.block (length front)) (λ t. inl (same (less_true _ _ s) (less_true _ _ t)))
    (λ t. inr (behind_other (not_less _ _ t))))
    (λ s. inr (behind_one (not_less _ _ s)))
  where
    same : p.last.block < length front → q.last.block < length front → m ≡ n
    same s t =
        let k : p.last.block + 1 ≤ n = q.greatest p.last (reach_low style a b from p.last i s p.reached) in
        let l : q.last.block + 1 ≤ m = p.greatest q.last (reach_low style b a from q.last i t q.reached) in
        omega (arith, k, l, p.one_more, q.one_more)

    behind_one : length front ≤ p.last.block → (length front + 1 ≤ m) × (length front + 1 ≤ n)
    behind_one s =
        let k : length front + 1 ≤ n =
        q.greatest (place (length front) 0 0) (reach_high style a b from p.last i s p.reached) in
        (omega (arith, p.one_more, s), k)

    behind_other : length front ≤ q.last.block → (length front + 1 ≤ m) × (length front + 1 ≤ n)
    behind_other t =
        let k : length front + 1 ≤ m =
        p.greatest (place (length front) 0 0) (reach_high style b a from q.last i t q.reached) in
        (k, omega (arith, q.one_more, t))
