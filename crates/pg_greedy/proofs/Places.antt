-- What stands behind so many items of a page.
use Rattle.std.proofs.Common.{◌≡◌, ◌∙◌, sym, ap, arith, ℕ, zero, suc, ◌+◌, ◌-◌, ◌<◌, ◌≤◌, Bool, true, false, true≢false, List, [], take, length, ◌^◌, Option, Some, None}
use Rattle.std.specs.Prelude.{◌==◌, slice_get, option_copied, IfSome, ℤ, ◌+ℤ◌, ◌-ℤ◌}
use Rattle.std.specs.List.{list_any, AllByRecursion}
use Rattle.std.specs.Borrow.{Bor}
use Rattle.std.proofs.lemmas.Bool.{eqb-true}
use Rattle.std.proofs.lemmas.Option.{slice_get_within}
use Rattle.pg_lemmas.proofs.Bools.{by_bool}
use Rattle.pg_list.specs.Places.{item_at, place}
use Rattle.pg_list.specs.Ranges.{IsItemInRange}
use Rattle.pg_list.specs.Shapes.{IsBlock, is_box}
use Rattle.pg_list.specs.declared.blocks.Block.{Block}
use Rattle.pg_list.specs.declared.galley.Place.{Place}
use Rattle.pg_list.specs.declared.item.Item.{Item}
use Rattle.pg_list.specs.Break.{break_penalty, is_spent}
use Rattle.pg_list.specs.Flat.{blocks_at, flat_items_at, steps_to}
use Rattle.pg_list.specs.Totals.{trimmed}
use Rattle.pg_breaks.specs.Read.{AreNamed, items_at}
use Rattle.pg_column.proofs.Spans.{item_range}
use Rattle.pg_rules.specs.Room.{extra, notes}
use Rattle.pg_greedy.specs.Breaks.{front_goal}
use Rattle.pg_greedy.specs.Looking.{AreRead, IsBuilder, items_from, style_of}
use Rattle.pg_greedy.specs.Single.{singles}
use Rattle.pg_greedy.specs.declared.look.Builder.{Builder}
use Rattle.pg_greedy.specs.declared.read.Read.{Read}
use Rattle.pg_greedy.proofs.Singles.{get_behind, item_single, items_single, no_picks, rest_long, steps_single}

pub some_read : (items : List Item) (k : ℕ) → list_any is_box (take k items) ≡ true → 1 ≤ k
some_read items zero e = absurd (true≢false (sym e))
some_read items (suc k) e = omega arith

module _ (builder : Builder) (is : IsBuilder builder) (from : ℕ) where
  abbrev blocks : List Block
  blocks = builder.galley.now.blocks

  abbrev items : List Item
  items = items_from builder from

  pub items_long : length items ≡ length blocks - from
  items_long = rest_long blocks from is.single

  pub read_within : (read : Read) → from ≤ length blocks → AreRead (style_of builder) items read →
      from + read.count ≤ length blocks
  read_within read start r = let long = items_long in let within = r.within in omega (arith, long, within, start)

  pub last_here : (count : ℕ) → from + count ≡ length blocks → count ≡ length items
  last_here count e = let long = items_long in omega (arith, long, e)

  pub not_last : (count : ℕ) → from + count ≤ length blocks → (from + count ≡ length blocks → ⊥) →
      (count == length items) ≡ false
  not_last count within apart = by_bool (count == length items)
      (λ t. absurd (apart (let e : count ≡ length items = eqb-true count (length items) t in
      let long = items_long in omega (arith, e, long, within))))
      (λ f. f)

  module _ (count : ℕ) (within : from + count ≤ length blocks) (at : Place) (here : at ≡ place (from + count) 0 0) where
    steps_here : steps_to blocks (flat_items_at blocks (place from 0 0) []) at ≡ Some count
    steps_here = ap (steps_to blocks (flat_items_at blocks (place from 0 0) [])) here
        ∙ steps_single blocks from count is.single within

    pub penalty_here : (found : Option ℤ) →
        ((start : Place) (picks : List ℕ) (n : ℕ) → AreNamed (blocks_at blocks start) picks →
        steps_to blocks (flat_items_at blocks start picks) at ≡ Some n → 1 ≤ n →
        found ≡ break_penalty (items_at blocks start picks) n) → 1 ≤ count → found ≡ break_penalty items count
    penalty_here found column some =
        column (place from 0 0) [] count (no_picks (blocks_at blocks (place from 0 0))) steps_here some
        ∙ ap (λ (xs : List Item). break_penalty xs count) (items_single blocks from is.single)

    pub spent_here : (found : Bool) →
        ((start : Place) (picks : List ℕ) (n : ℕ) → AreNamed (blocks_at blocks start) picks →
        steps_to blocks (flat_items_at blocks start picks) at ≡ Some n →
        found ≡ is_spent (items_at blocks start picks) n) → found ≡ is_spent items count
    spent_here found column =
        column (place from 0 0) [] count (no_picks (blocks_at blocks (place from 0 0))) steps_here
        ∙ ap (λ (xs : List Item). is_spent xs count) (items_single blocks from is.single)

  pub spent_start : from ≤ length blocks → (at : Place) → at ≡ place from 0 0 → (found : Bool) →
      ((start : Place) (picks : List ℕ) (n : ℕ) → AreNamed (blocks_at blocks start) picks →
      steps_to blocks (flat_items_at blocks start picks) at ≡ Some n →
      found ≡ is_spent (items_at blocks start picks) n) → found ≡ is_spent items 0
  spent_start start at here found column =
      let same : from ≡ from + 0 = omega arith in
      spent_here 0 (let within : from + 0 ≤ length blocks = omega (arith, start) in within) at
      (here ∙ ap (λ (k : ℕ). place k 0 0) same) found column

  pub goal_here : (count : ℕ) (goal room height : ℤ) → room ≡ builder.room →
      height ≡ notes (style_of builder) (take count items) →
      notes (style_of builder) (trimmed (take count items)) ≡ notes (style_of builder) (take count items) →
      goal ≡ room -ℤ height → goal ≡ front_goal (style_of builder) items count
  goal_here count goal room height r h front e =
      e ∙ (ap (λ z. z -ℤ height) (r ∙ is.room)
      ∙ ap (λ z. ((style_of builder).height +ℤ extra (style_of builder) 0) -ℤ z) (h ∙ sym front))

  -- ---- the item behind so many

  pub item_here : (count : ℕ) (at : Place) → at ≡ place (from + count) 0 0 → item_at blocks at ≡ slice_get items count
  item_here count at here = ap (item_at blocks) here
      ∙ (item_single blocks (from + count) is.single ∙ get_behind from (singles blocks) count)

  pub few_behind : (count : ℕ) → length blocks ≤ 2 ^ 20 → (found : Option (Bor Item)) →
      option_copied found ≡ slice_get items count → IfSome found (λ item. count < 2 ^ 20)
  few_behind count few None e = tt
  few_behind count few (Some item) e =
      let within = slice_get_within items count item.now (sym e) in
      let long = items_long in omega (arith, within, long, few)

pub in_range : (builder : Builder) → AllByRecursion IsBlock builder.galley.now.blocks → (at : Place)
    (found : Option (Bor Item)) → option_copied found ≡ item_at builder.galley.now.blocks at →
    IfSome found (λ item. IsItemInRange item.now)
in_range builder all at None e = tt
in_range builder all at (Some item) e = item_range builder.galley.now.blocks all at item.now (sym e)
