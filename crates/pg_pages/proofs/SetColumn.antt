-- A column whose widths are set: how many they are, that they can be printed, and its text.
use Rattle.std.proofs.Common.{◌≡◌, refl, sym, ap, ◌∙◌, subst, ℕ, ◌+◌, ◌≤◌, ◌<◌, ◌^◌, arith, List, ◌++◌, drop, length, length-append, Bool}
use Rattle.std.specs.Prelude.{codes, decimal, nat_abs, ℤ, ◌-ℤ◌}
use Rattle.std.specs.List.{AllByRecursion, flat_map}
use Rattle.pg_lemmas.proofs.Lists.{all_append}
use Rattle.pg_list.specs.Ranges.{IsItemInRange}
use Rattle.pg_list.specs.declared.item.Item.{Item}
use Rattle.pg_style.specs.Ranges.{IsGap, IsStyle}
use Rattle.pg_style.specs.Values.{StyleValue}
use Rattle.pg_style.specs.declared.style.Gap.{Gap}
use Rattle.pg_plan.specs.declared.pages.Column.{Column}
use Rattle.pg_rules.specs.Floats.{dealt_from}
use Rattle.pg_column.specs.declared.cost.TextCost.{TextCost}
use Rattle.pg_glue.specs.Widths.{IsPrintable}
use Rattle.pg_words.specs.Written.{line}
use Rattle.pg_pages.specs.Gaps.{note_gaps}
use Rattle.pg_pages.specs.SetGlue.{own_sizes, own_width, widths_by}
use Rattle.pg_pages.specs.Printed.{bare_text, bottom_by, hung_by, notes_area, numbers_text, read_text, set_column, stood_by, text_by, top_by, wide_by, wide_set}
use Rattle.pg_pages.proofs.GapLists.{hung_few, hung_range, notes_few, notes_range, standing_few, standing_range}
use Rattle.pg_pages.proofs.Grown.{two_parts}
use Rattle.pg_pages.proofs.Widths.{by_printable, sizes_printable}

module _ (style : StyleValue) (bodies : List (List (List ℕ))) (before below : List ℕ) (column : Column) where
  abbrev tops : List Gap
  tops = hung_by style style.top bodies before column.top

  abbrev bottoms : List Gap
  bottoms = stood_by style style.bottom bodies below column.bottom

  pub tops_printable : IsStyle style → (widths : List ℤ) → widths ≡ own_sizes tops → AllByRecursion IsPrintable widths
  tops_printable range widths are = subst (AllByRecursion IsPrintable) (sym are) (sizes_printable tops
      (hung_range style style.top range.top_in (length (dealt_from 0 bodies before column.top))))

  pub bottoms_printable : IsStyle style → (widths : List ℤ) → widths ≡ own_sizes bottoms →
      AllByRecursion IsPrintable widths
  bottoms_printable range widths are = subst (AllByRecursion IsPrintable) (sym are) (sizes_printable bottoms
      (standing_range style style.bottom range.bottom_in (length (dealt_from 0 bodies below column.bottom))))

  -- a column without text, from its parts
  pub bare_from : (old front mid new : List ℕ) (top bottom : List ℤ) → top ≡ own_sizes tops →
      bottom ≡ own_sizes bottoms →
      front ≡ old ++ line (codes "without text demerits " ++ decimal style.float_column.demerits) →
      mid ≡ front ++ top_by style bodies before column top → new ≡ mid ++ bottom_by style bodies below column bottom →
      new ≡ old ++ bare_text style bodies before below column
  unfolding bare_text
  bare_from old front mid new top bottom p q f m n =
      n ∙ ap (λ (widths : List ℤ). mid ++ bottom_by style bodies below column widths) q
      ∙ ap (λ (text : List ℕ). text ++ bottom_by style bodies below column (own_sizes bottoms)) (m
      ∙ ap (λ (widths : List ℤ). front ++ top_by style bodies before column widths) p
      ∙ ap (λ (text : List ℕ). text ++ top_by style bodies before column (own_sizes tops)) f)
      ∙ joined old _ (top_by style bodies before column (own_sizes tops))
      (bottom_by style bodies below column (own_sizes bottoms))
    where
      joined : (a b c d : List ℕ) → ((a ++ b) ++ c) ++ d ≡ a ++ (b ++ c ++ d)
      joined a b c d = search (Rattle.std.proofs.Common.append_assoc)

  module _ (items : List Item) where
    abbrev lows : List Gap
    lows = note_gaps style items ++ bottoms

    pub glues_few : IsStyle style → length (dealt_from 0 bodies before column.top) ≤ 4 →
        length (dealt_from 0 bodies below column.bottom) ≤ 4 → length items ≤ 2 ^ 20 →
        length tops + length items + length lows ≤ 2 ^ 21
    glues_few range top bottom few =
        let a = hung_few style style.top (length (dealt_from 0 bodies before column.top)) in
        let b = standing_few style style.bottom (length (dealt_from 0 bodies below column.bottom)) in
        let c = notes_few style items in
        let d = length-append (note_gaps style items) bottoms in
        omega (arith, range.classes_in.few, top, bottom, few, a, b, c, d)

    -- its set widths
    pub set_printable : IsStyle style → AllByRecursion IsItemInRange items → (goal total : ℤ) (spent : Bool) →
        length (dealt_from 0 bodies before column.top) ≤ 4 → length (dealt_from 0 bodies below column.bottom) ≤ 4 →
        length items ≤ 2 ^ 20 → nat_abs (goal -ℤ total) < 2 ^ 52 →
        AllByRecursion IsPrintable (widths_by style tops items lows goal total spent)
    set_printable range items_in goal total spent top bottom few small =
        by_printable style tops items lows goal total spent
        (hung_range style style.top range.top_in (length (dealt_from 0 bodies before column.top))) items_in
        (all_append IsGap (note_gaps style items) bottoms (notes_range style range items)
        (standing_range style style.bottom range.bottom_in (length (dealt_from 0 bodies below column.bottom))))
        (glues_few range top bottom few) small

    pub widths_are : (goal total : ℤ) (spent : Bool) (widths : List ℤ) (above under : List Gap) → above ≡ tops →
        under ≡ lows → widths ≡ widths_by style above items under goal total spent →
        widths ≡ widths_by style tops items lows goal total spent
    widths_are goal total spent widths above under p q are =
        are ∙ ap (λ (gaps : List Gap). widths_by style gaps items under goal total spent) p
        ∙ ap (λ (gaps : List Gap). widths_by style tops items gaps goal total spent) q

    -- a text column from its parts, with the widths of each
    pub set_from : (numbers : TextCost) (widths inner noted under : List ℤ) (above inside many : ℕ) →
        inner ≡ drop above widths → noted ≡ drop inside inner → under ≡ drop many noted →
        (old first second third fourth new : List ℕ) → first ≡ old ++ numbers_text numbers →
        second ≡ first ++ top_by style bodies before column widths → third ≡ second ++ text_by style items inner →
        fourth ≡ third ++ bottom_by style bodies below column under → new ≡ fourth ++ notes_area style items noted →
        new ≡ old ++ set_column style bodies before below column items numbers widths above inside many
    unfolding set_column
    set_from numbers widths inner noted under above inside many p q r old first second third fourth new a b c d e =
        let line = numbers_text numbers in
        let top = top_by style bodies before column widths in
        let text = text_by style items inner in
        let bottom = bottom_by style bodies below column under in
        let two = two_parts old first second line top a b in
        let three = two_parts old second third (line ++ top) text two c in
        let four = two_parts old third fourth (line ++ top ++ text) bottom three d in
        two_parts old fourth new (line ++ top ++ text ++ bottom) (notes_area style items noted) four e
        ∙ same inner (drop above widths) noted (drop inside (drop above widths)) under
        (drop many (drop inside (drop above widths))) p (q ∙ ap (drop inside) p)
        (r ∙ ap (drop many) (q ∙ ap (drop inside) p))
      where
        same : (i i' n n' u u' : List ℤ) → i ≡ i' → n ≡ n' → u ≡ u' →
            old ++ (numbers_text numbers ++ top_by style bodies before column widths ++ text_by style items i
            ++ bottom_by style bodies below column u ++ notes_area style items n)
            ≡ old ++ (numbers_text numbers ++ top_by style bodies before column widths ++ text_by style items i'
            ++ bottom_by style bodies below column u' ++ notes_area style items n')
        same i i' n n' u u' p q r = rw (p, q, r) refl

    -- its text, from its widths and how many they are
    pub read_from : (numbers : TextCost) (spent : Bool) (widths : List ℤ) (above inside noted : ℕ) →
        widths ≡ widths_by style tops items lows numbers.goal numbers.total spent → above ≡ length tops →
        inside ≡ length (flat_map own_width items) → noted ≡ length (note_gaps style items) →
        set_column style bodies before below column items numbers widths above inside noted
        ≡ read_text style bodies before below column items numbers spent
    unfolding read_text
    read_from numbers spent widths above inside noted p q r s = same p q r s
      where
        same : {w w' : List ℤ} {a a' i i' n n' : ℕ} → w ≡ w' → a ≡ a' → i ≡ i' → n ≡ n' →
            set_column style bodies before below column items numbers w a i n
            ≡ set_column style bodies before below column items numbers w' a' i' n'
        same p q r s = rw (p, q, r, s) refl

-- the wide area of a page
pub wides_printable : (style : StyleValue) (bodies : List (List (List ℕ))) (before counts : List ℕ) → IsStyle style →
    (widths : List ℤ) → widths ≡ own_sizes (hung_by style style.wide bodies before counts) →
    AllByRecursion IsPrintable widths
wides_printable style bodies before counts range widths are = subst (AllByRecursion IsPrintable) (sym are)
    (sizes_printable (hung_by style style.wide bodies before counts)
    (hung_range style style.wide range.wide_in (length (dealt_from 0 bodies before counts))))

pub wide_from : (style : StyleValue) (bodies : List (List (List ℕ))) (placed counts before these : List ℕ) →
    before ≡ placed → these ≡ counts → (widths : List ℤ) →
    widths ≡ own_sizes (hung_by style style.wide bodies placed counts) →
    wide_set style bodies before these widths ≡ wide_by style bodies placed counts
unfolding wide_by
wide_from style bodies placed counts before these p q widths r = rw (p, q, r) refl
