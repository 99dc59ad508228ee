-- A text whose glue is set fills its goal.
use Rattle.std.proofs.Common.{◌≡◌, refl, sym, ap, ap₂, ◌∙◌, subst, ℕ, ◌<◌, arith, append_assoc, append-nil, List, [], ◌∷◌, ◌++◌, map, Bool, true, false, ℤ, pos, ◌+ℤ◌, ◌-ℤ◌, ◌⊎◌, inl, inr}
use Rattle.std.specs.Prelude.{◌&&◌, not, if◌then◌else◌, int_lt, ◌<ℤ◌, ◌≤ℤ◌, unsigned_abs}
use Rattle.std.specs.List.{flat_map}
use Rattle.std.proofs.lemmas.Int.{ints}
use Rattle.pg_list.specs.GalleyValue.{GalleyValue}
use Rattle.pg_list.specs.declared.item.Item.{Item}
use Rattle.pg_style.specs.Ranges.{IsStyle}
use Rattle.pg_style.specs.Values.{StyleValue}
use Rattle.pg_style.specs.declared.style.Gap.{Gap}
use Rattle.law_columns.proofs.Rigid.{early_rigid, rigid_give, shrink_none}
use Rattle.pg_lemmas.proofs.Bools.{if_false}
use Rattle.pg_list.specs.Break.{is_spent}
use Rattle.pg_list.specs.Totals.{depth, full_size, shrink, top_glue, total}
use Rattle.pg_list.specs.Whole.{whole_sum, whole_sum_by}
use Rattle.pg_glue.specs.Widths.{amounts, changes, chosen, set_widths}
use Rattle.pg_glue.specs.declared.Elastic.{Elastic}
use Rattle.pg_glue.specs.declared.Sense.{Sense}
use Rattle.pg_glue.specs.declared.Sense.TheVariants.{Stretch, Shrink}
use Rattle.pg_glue.proofs.Laws.{changes_all}
use Rattle.pg_lemmas.proofs.Numbers.{length_is}
use Rattle.pg_rules.specs.ColumnRules.{segment, tallest_goal, text_goal, text_is_over, text_total}
use Rattle.pg_rules.specs.Floats.{gap_shrink}
use Rattle.pg_rules.specs.History.{context}
use Rattle.pg_rules.specs.Legal.{document}
use Rattle.pg_rules.specs.Ranges.{AreInRange}
use Rattle.pg_rules.specs.Room.{ColumnContext, areas_give, items_of, notes, room, skips_give}
use Rattle.law_places.proofs.Tests.{int_less}
use Rattle.law_columns.specs.Stands.{Stand}
use Rattle.law_columns.specs.BeginningLaws.{KeepsRules}
use Rattle.law_columns.proofs.BeginningContracts.{unbroken_keep_rules}
use Rattle.pg_pages.specs.Gaps.{gaps_above, shows_gaps}
use Rattle.pg_pages.specs.SetGlue.{elastic, gap_elastic, glue_between, own_sizes as own_gaps, own_width, stays_short}
use Rattle.law_columns.proofs.Beginnings.{stand_behind}
use Rattle.pg_pages.proofs.Excess.{within}
use Rattle.pg_pages.proofs.TextColumn.{text_fits}
use Rattle.law_page_text.specs.Heights.{FillsGoal, between, gaps_below, glue_of, set_sizes, sizes_of_gaps, stretch_in, text_between}
use Rattle.law_page_text.specs.PageLaws.{LegalFillGoals}
use Rattle.law_page_text.proofs.SetSizes.{own_sizes, shrunk_sizes, stretched_sizes}
use Rattle.law_page_text.proofs.Shrinking.{finite_chosen, finite_shrink}

-- all of an excess is shared where there is something to share it by
shared : (list : List Elastic) (excess : ℤ) → pos 0 ≤ℤ excess → pos 0 <ℤ amounts (chosen list) list →
    whole_sum (changes list excess) ≡ excess
shared list excess some more =
    let sum = amounts (chosen list) list in
    let s : sum ≡ pos (unsigned_abs sum) = length_is sum (omega (arith, ints, more)) in
    let n : 0 < unsigned_abs sum = above sum (unsigned_abs sum) s more in
    subst (λ (z : ℤ). whole_sum (changes list z) ≡ z) (sym (length_is excess some))
    (changes_all list (unsigned_abs excess) (unsigned_abs sum) s n)
  where
    above : (z : ℤ) (n : ℕ) → z ≡ pos n → pos 0 <ℤ z → 0 < n
    above z n e h = omega (arith, ints, e, h)

not_lower : (a b : ℤ) → a ≤ℤ b → int_lt b a ≡ false
not_lower a b h = grind (arith, ints, h)

-- where glue is stretched, and where it is shrunk
widths_stretched : {X : Type 0} (a b s : Bool) (x y z : X) → a ≡ true → s ≡ false →
    (if a && not s then x else (if b then y else z)) ≡ x
widths_stretched a b s x y z p q = rw (p, q) refl

widths_shrunk : {X : Type 0} (a b s : Bool) (x y z : X) → a ≡ false → b ≡ true →
    (if a && not s then x else (if b then y else z)) ≡ y
widths_shrunk a b s x y z p q = rw (p, q) refl

widths_own : {X : Type 0} (a b s : Bool) (x y z : X) → a ≡ false → b ≡ false →
    (if a && not s then x else (if b then y else z)) ≡ z
widths_own a b s x y z p q = rw (p, q) refl

-- ---- between gaps

gaps_elastic : (sense : Sense) (gaps : List Gap) → map (gap_elastic sense) gaps ≡ flat_map (elastic sense) (map glue_of gaps)
gaps_elastic sense [] = refl
gaps_elastic sense (gap ∷ gaps) = ap (λ (more : List Elastic). gap_elastic sense gap ∷ more) (gaps_elastic sense gaps)

gaps_own : (gaps : List Gap) → own_gaps gaps ≡ flat_map own_width (map glue_of gaps)
gaps_own [] = refl
gaps_own (gap ∷ gaps) = ap (λ (more : List ℤ). gap.size ∷ more) (gaps_own gaps)

flat_two : {X : Type 0} (f : Item → List X) (xs ys : List Item) → flat_map f xs ++ flat_map f ys ≡ flat_map f (xs ++ ys)
flat_two f [] ys = refl
flat_two f (x ∷ xs) ys = append_assoc (f x) (flat_map f xs) (flat_map f ys)
    ∙ ap (λ more. f x ++ more) (flat_two f xs ys)

flat_between : {X : Type 0} (f : Item → List X) (above : List Gap) (items : List Item) (below : List Gap) →
    flat_map f (map glue_of above) ++ flat_map f items ++ flat_map f (map glue_of below)
    ≡ flat_map f (between above items below)
flat_between f above items below =
    ap (λ more. more ++ flat_map f (map glue_of below)) (flat_two f (map glue_of above) items)
    ∙ flat_two f (map glue_of above ++ items) (map glue_of below)

elastic_all : (sense : Sense) (above : List Gap) (items : List Item) (below : List Gap) →
    glue_between sense above items below ≡ flat_map (elastic sense) (between above items below)
elastic_all sense above items below =
    rw (gaps_elastic sense above, gaps_elastic sense below) (flat_between (elastic sense) above items below)

own_all : (above : List Gap) (items : List Item) (below : List Gap) →
    (own_gaps above ++ flat_map own_width items ++ own_gaps below) ≡ flat_map own_width (between above items below)
own_all above items below =
    rw (gaps_own above, gaps_own below) (flat_between own_width above items below)

-- ---- sums of their parts

sum_two : (f : Item → ℤ) (xs ys : List Item) → whole_sum_by f (xs ++ ys) ≡ whole_sum_by f xs +ℤ whole_sum_by f ys
sum_two f [] ys = omega (arith, ints)
sum_two f (x ∷ xs) ys = one (f x) _ _ _ (sum_two f xs ys)
  where
    one : (a b c d : ℤ) → b ≡ c +ℤ d → a +ℤ b ≡ (a +ℤ c) +ℤ d
    one a b c d e = omega (arith, ints, e)

gaps_sum : (gaps : List Gap) → whole_sum_by full_size (map glue_of gaps) ≡ sizes_of_gaps gaps
gaps_sum [] = refl
gaps_sum (gap ∷ gaps) = ap (λ (z : ℤ). gap.size +ℤ z) (gaps_sum gaps)

sum_all : (above : List Gap) (items : List Item) (below : List Gap) →
    whole_sum_by full_size (between above items below)
    ≡ (sizes_of_gaps above +ℤ whole_sum_by full_size items) +ℤ sizes_of_gaps below
sum_all above items below = sum_two full_size (map glue_of above ++ items) (map glue_of below)
    ∙ (ap (λ (z : ℤ). z +ℤ whole_sum_by full_size (map glue_of below)) (sum_two full_size (map glue_of above) items)
    ∙ (ap (λ (z : ℤ). (z +ℤ whole_sum_by full_size items) +ℤ whole_sum_by full_size (map glue_of below)) (gaps_sum above)
    ∙ ap (λ (z : ℤ). (sizes_of_gaps above +ℤ whole_sum_by full_size items) +ℤ z) (gaps_sum below)))

-- without gaps there is the text's shrink alone
bare_shrink : (above : List Gap) (items : List Item) (below : List Gap) → above ≡ [] → below ≡ [] →
    shrink (between above items below) ≡ shrink items
bare_shrink above items below a b =
    ap (λ (gaps : List Gap). shrink (between gaps items below)) a
    ∙ (ap (λ (gaps : List Gap). shrink (between [] items gaps)) b ∙ ap shrink (append-nil items))

module _ (topskip maxdepth goal : ℤ) (above : List Gap) (items : List Item) (below : List Gap) where
  abbrev height : ℤ
  height = total topskip maxdepth items

  abbrev all : List Item
  all = between above items below

  -- the height of the text, with what the gaps are longer than they are
  abbrev printed : List ℤ → ℤ
  printed widths = ((top_glue topskip items +ℤ set_sizes all widths)
      -ℤ (sizes_of_gaps above +ℤ sizes_of_gaps below)) -ℤ depth maxdepth items

  stretched_fills : height <ℤ goal → pos 0 <ℤ stretch_in all →
      printed (set_widths (glue_between Stretch above items below) (goal -ℤ height) Stretch) ≡ goal
  stretched_fills low more =
      let list = flat_map (elastic Stretch) all in
      let shares = shared list (goal -ℤ height) (some height goal low) more in
      let sizes = stretched_sizes (goal -ℤ height) (chosen list) (amounts (chosen list) list) [] all in
      ap (λ (list : List Elastic). printed (set_widths list (goal -ℤ height) Stretch)) (elastic_all Stretch above items below)
      ∙ by (top_glue topskip items) (whole_sum_by full_size items) (depth maxdepth items) goal _ _
      (sizes_of_gaps above) (sizes_of_gaps below) _ sizes (sum_all above items below) shares
    where
      some : (a b : ℤ) → a <ℤ b → pos 0 ≤ℤ (b -ℤ a)
      some a b h = omega (arith, ints, h)

      by : (t s d g c z a b w : ℤ) → z ≡ w +ℤ c → w ≡ (a +ℤ s) +ℤ b → c ≡ g -ℤ ((t +ℤ s) -ℤ d) →
          ((t +ℤ z) -ℤ (a +ℤ b)) -ℤ d ≡ g
      by t s d g c z a b w e f h = omega (arith, ints, e, f, h)

  shrunk_fills : goal <ℤ height → pos 0 <ℤ shrink all →
      printed (set_widths (glue_between Shrink above items below) (height -ℤ goal) Shrink) ≡ goal
  shrunk_fills high gives =
      let list = flat_map (elastic Shrink) all in
      let sum : amounts (chosen list) list ≡ shrink all =
      ap (λ order. amounts order list) (finite_chosen all) ∙ finite_shrink all in
      let more : pos 0 <ℤ amounts (chosen list) list = subst (λ (z : ℤ). pos 0 <ℤ z) (sym sum) gives in
      let shares = shared list (height -ℤ goal) (some goal height high) more in
      let sizes = shrunk_sizes (height -ℤ goal) (chosen list) (amounts (chosen list) list) [] all in
      ap (λ (list : List Elastic). printed (set_widths list (height -ℤ goal) Shrink)) (elastic_all Shrink above items below)
      ∙ by (top_glue topskip items) (whole_sum_by full_size items) (depth maxdepth items) goal _ _
      (sizes_of_gaps above) (sizes_of_gaps below) _ sizes (sum_all above items below) shares
    where
      some : (a b : ℤ) → a <ℤ b → pos 0 ≤ℤ (b -ℤ a)
      some a b h = omega (arith, ints, h)

      by : (t s d g c z a b w : ℤ) → z ≡ w -ℤ c → w ≡ (a +ℤ s) +ℤ b → c ≡ ((t +ℤ s) -ℤ d) -ℤ g →
          ((t +ℤ z) -ℤ (a +ℤ b)) -ℤ d ≡ g
      by t s d g c z a b w e f h = omega (arith, ints, e, f, h)

  own_fills : printed (own_gaps above ++ flat_map own_width items ++ own_gaps below) ≡ height
  own_fills = ap printed (own_all above items below)
      ∙ by (top_glue topskip items) (whole_sum_by full_size items) (depth maxdepth items) (sizes_of_gaps above)
      (sizes_of_gaps below) _ _ (own_sizes all) (sum_all above items below)
    where
      by : (t s d a b z w : ℤ) → z ≡ w → w ≡ (a +ℤ s) +ℤ b → ((t +ℤ z) -ℤ (a +ℤ b)) -ℤ d ≡ (t +ℤ s) -ℤ d
      by t s d a b z w e f = omega (arith, ints, e, f)

-- in versions 1 and 2 a text that is too high but not over shrinks
early_shrink : (it : ColumnContext) (n : ℕ) → IsStyle it.document.style → text_is_over it n ≡ false →
    text_goal it n <ℤ text_total it n → shows_gaps it.document.style ≡ false → pos 0 <ℤ shrink (text_between it n)
early_shrink it n range fits high early =
    let items = segment it n in
    let none = rigid_give gap_shrink shrink_none it (early_rigid it.document.style range early) items in
    let bare = bare_shrink (gaps_above it) items (gaps_below it n) (if_false (shows_gaps it.document.style) _ [] early)
    (ap₂ (λ (a b : List Gap). a ++ b) (if_false (shows_gaps it.document.style) _ [] early)
    (if_false (shows_gaps it.document.style) _ [] early)) in
    by (text_goal it n) (text_total it n) (tallest_goal it n) (shrink items) _ bare high
    (sums (room it) (areas_give gap_shrink it) (notes it.document.style items)
    (skips_give gap_shrink it.document.style items) none) (within (text_total it n) (shrink items) (tallest_goal it n) fits)
  where
    sums : (r a h k : ℤ) → a +ℤ k ≡ pos 0 → ((r +ℤ a) -ℤ (h -ℤ k)) ≡ (r -ℤ h)
    sums r a h k e = omega (arith, ints, e)

    by : (g t tall s z : ℤ) → z ≡ s → g <ℤ t → tall ≡ g → (t -ℤ tall) ≤ℤ pos 0 ⊎ (t -ℤ tall) ≤ℤ s → pos 0 <ℤ z
    by g t tall s z e h f (inl m) = absurd (omega (arith, ints, h, f, m))
    by g t tall s z e h f (inr m) = omega (arith, ints, e, h, f, m)

fills_goal : (it : ColumnContext) (n : ℕ) → IsStyle it.document.style → text_is_over it n ≡ false → FillsGoal it n
fills_goal it n range fits =
    let style = it.document.style in
    let above = gaps_above it in
    let below = gaps_below it n in
    let items = segment it n in
    let goal = text_goal it n in
    let height = text_total it n in
    let longer = set_widths (glue_between Stretch above items below) (goal -ℤ height) Stretch in
    let shorter = set_widths (glue_between Shrink above items below) (height -ℤ goal) Shrink in
    let same = own_gaps above ++ flat_map own_width items ++ own_gaps below in
    let short = stays_short style items (is_spent (items_of it) n) in
    let sum = λ (widths : List ℤ). printed style.topskip style.maxdepth goal above items below widths in
    record {
      shrunk = λ high gives. ap sum (widths_shrunk (int_lt height goal) (int_lt goal height) short longer shorter
          same (not_lower goal height (less goal height high)) (int_less goal height high))
          ∙ shrunk_fills style.topskip style.maxdepth goal above items below high
          (elim gives [ inl early ↦ early_shrink it n range fits high early | inr some ↦ some ]);
      stretched = λ low not_short more. ap sum (widths_stretched (int_lt height goal) (int_lt goal height) short longer
          shorter same (int_less height goal low) not_short)
          ∙ stretched_fills style.topskip style.maxdepth goal above items below low more;
      as_high = λ equals. ap sum (widths_own (int_lt height goal) (int_lt goal height) short longer shorter
          same (not_lower goal height (equal goal height equals))
          (not_lower height goal (equal height goal (sym equals))))
          ∙ (own_fills style.topskip style.maxdepth goal above items below ∙ equals);
    }
  where
    less : (a b : ℤ) → a <ℤ b → a ≤ℤ b
    less a b h = omega (arith, ints, h)

    equal : (a b : ℤ) → b ≡ a → a ≤ℤ b
    equal a b e = omega (arith, ints, e)

pub goals_filled : (galley : GalleyValue) (style : StyleValue) → AreInRange galley style → LegalFillGoals galley style
goals_filled galley style range plan behind m ms n legal are text size =
    let doc = document galley style in
    let keeps : KeepsRules galley style plan = (unbroken_keep_rules galley style range plan).0 legal.unbroken in
    let stand : Stand doc (m ∷ ms) = stand_behind doc behind (m ∷ ms) (subst (Stand doc) are keeps.stand) in
    fills_goal (context doc m ms) n range.style_in
    (text_fits (context doc m ms) range.blocks range.style_in stand.0.stands.rules n size text)
