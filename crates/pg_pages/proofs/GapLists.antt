-- The gaps of areas: as many as floats are dealt out, and each within its range.
use Rattle.std.proofs.Common.{◌≡◌, refl, sym, ap, ◌∙◌, ℕ, zero, suc, ◌+◌, ◌≤◌, ◌<◌, arith, append_assoc, append-nil, List, [], ◌∷◌, ◌++◌, length, length-append, map, take, drop, replicate, Bool, true, false, Some, None}
use Rattle.std.specs.Prelude.{◌==◌, codes, if◌then◌else◌, not, ℤ}
use Rattle.std.specs.List.{AllByRecursion, cons_option, flat_map}
use Rattle.std.proofs.lemmas.Bool.Decides.{nat_tests}
use Rattle.pg_list.specs.declared.item.Item.{Item}
use Rattle.pg_list.specs.declared.item.Item.TheVariants.{BoxItem, Rule, Glue, Kern, Penalty, Insert, Carry}
use Rattle.pg_list.specs.Flat.{flat}
use Rattle.pg_style.specs.Ranges.{IsAreaRule, IsClass, IsGap, IsKind, IsStyle}
use Rattle.pg_style.specs.Values.{AreaRuleValue, StyleValue}
use Rattle.pg_style.specs.declared.style.Class.{Class}
use Rattle.pg_style.specs.declared.style.Gap.{Gap}
use Rattle.pg_style.specs.declared.style.Kind.{Kind}
use Rattle.pg_style.specs.declared.style.Kind.TheVariants.{Note, Float}
use Rattle.pg_rules.specs.Floats.{dealt, dealt_from, entry, float_numbers, floats, sizes_of}
use Rattle.pg_rules.specs.Room.{ColumnContext, Document, before_bottom}
use Rattle.pg_lemmas.proofs.Lists.{all_append}
use Rattle.pg_pages.specs.Bodies.{body_text}
use Rattle.pg_pages.specs.Gaps.{bottom_gaps, gap_gives, gap_line, gap_name, gap_set, gaps_above, hung_gaps, hung_text, kind_skips, set_gap, note_gaps, shows_gaps, skip_gaps, skipped_text, standing_gaps}
use Rattle.pg_pages.specs.PageText.{float_bodies, inserted, kind_notes}
use Rattle.pg_pages.specs.Printed.{hung_by, hung_gap, stood_by}
use Rattle.pg_pages.proofs.Grown.{two_parts}

-- ---- as many bodies as sizes

as_long : (number : ℕ) (items : List Item) → length (sizes_of number items) ≡ length (inserted number items)
as_long number [] = refl
as_long number (BoxItem height depth body ∷ items) = as_long number items
as_long number (Rule height depth body ∷ items) = as_long number items
as_long number (Glue width stretch order shrink body ∷ items) = as_long number items
as_long number (Kern width body ∷ items) = as_long number items
as_long number (Penalty value body ∷ items) = as_long number items
as_long number (Carry body ∷ items) = as_long number items
as_long number (Insert class size body ∷ items) = by (class == number) (as_long number items)
  where
    by : (b : Bool) → length (sizes_of number items) ≡ length (inserted number items) →
        length (cons_option (if b then Some size else None) (sizes_of number items))
        ≡ length (cons_option (if b then Some body else None) (inserted number items))
    by true h = ap suc h
    by false h = h

take_long : {X Y : Type 0} (c : ℕ) (xs : List X) (ys : List Y) → length xs ≡ length ys →
    length (take c xs) ≡ length (take c ys)
take_long zero xs ys h = refl
take_long (suc c) [] [] h = refl
take_long (suc c) [] (y ∷ ys) h = absurd (omega (arith, h))
take_long (suc c) (x ∷ xs) [] h = absurd (omega (arith, h))
take_long (suc c) (x ∷ xs) (y ∷ ys) h = ap suc (take_long c xs ys (omega (arith, h)))

cut_long : {X Y : Type 0} (b c : ℕ) (xs : List X) (ys : List Y) → length xs ≡ length ys →
    length (take c (drop b xs)) ≡ length (take c (drop b ys))
cut_long zero c xs ys h = take_long c xs ys h
cut_long (suc b) c [] [] h = take_long c [] [] refl
cut_long (suc b) c [] (y ∷ ys) h = absurd (omega (arith, h))
cut_long (suc b) c (x ∷ xs) [] h = absurd (omega (arith, h))
cut_long (suc b) c (x ∷ xs) (y ∷ ys) h = cut_long b c xs ys (omega (arith, h))

dealt_long : (items : List Item) (slot : ℕ) (numbers : List ℕ) (before counts : List ℕ) →
    length (dealt_from slot (map (λ (number : ℕ). sizes_of number items) numbers) before counts)
    ≡ length (dealt_from slot (map (λ (number : ℕ). inserted number items) numbers) before counts)
dealt_long items slot [] before counts = refl
dealt_long items slot (number ∷ numbers) before counts =
    length-append (take (entry counts slot) (drop (entry before slot) (sizes_of number items)))
    (dealt_from (slot + 1) (map (λ (number : ℕ). sizes_of number items) numbers) before counts)
    ∙ (ap (λ (n : ℕ). n
    + length (dealt_from (slot + 1) (map (λ (number : ℕ). sizes_of number items) numbers) before counts))
    (cut_long (entry before slot) (entry counts slot) (sizes_of number items) (inserted number items)
    (as_long number items))
    ∙ (ap (λ (n : ℕ). length (take (entry counts slot) (drop (entry before slot) (inserted number items))) + n)
    (dealt_long items (slot + 1) numbers before counts)
    ∙ sym (length-append (take (entry counts slot) (drop (entry before slot) (inserted number items)))
    (dealt_from (slot + 1) (map (λ (number : ℕ). inserted number items) numbers) before counts))))

pub many : (doc : Document) (before counts : List ℕ) →
    length (dealt (floats doc.blocks doc.style) before counts) ≡ length (dealt_from 0 (float_bodies doc) before counts)
many doc before counts = dealt_long (flat doc.blocks []) 0 (float_numbers doc.style) before counts

pub above_is : (it : ColumnContext) →
    hung_by it.document.style it.document.style.top (float_bodies it.document) it.before it.column.top ≡ gaps_above it
above_is it = ap (λ (n : ℕ). if shows_gaps it.document.style then hung_gaps it.document.style.top n else [])
    (sym (many it.document it.before it.column.top))

pub bottom_is : (it : ColumnContext) →
    stood_by it.document.style it.document.style.bottom (float_bodies it.document) (before_bottom it) it.column.bottom
    ≡ bottom_gaps it
bottom_is it = ap (λ (n : ℕ). if shows_gaps it.document.style then standing_gaps it.document.style.bottom n else [])
    (sym (many it.document (before_bottom it) it.column.bottom))

-- ---- ranges

replicated : (gap : Gap) → IsGap gap → (n : ℕ) → AllByRecursion IsGap (replicate n gap)
replicated gap range zero = tt
replicated gap range (suc n) = (range, replicated gap range n)

pub hung_range : (style : StyleValue) (rule : AreaRuleValue) → IsAreaRule rule → (n : ℕ) →
    AllByRecursion IsGap (if shows_gaps style then hung_gaps rule n else [])
hung_range style rule range n = by (shows_gaps style) n
  where
    by : (b : Bool) (n : ℕ) → AllByRecursion IsGap (if b then hung_gaps rule n else [])
    by false n = tt
    by true zero = tt
    by true (suc n) = all_append IsGap (replicate n rule.sep) (rule.gap ∷ []) (replicated rule.sep range.sep_in n)
        (range.gap_in, tt)

pub standing_range : (style : StyleValue) (rule : AreaRuleValue) → IsAreaRule rule → (n : ℕ) →
    AllByRecursion IsGap (if shows_gaps style then standing_gaps rule n else [])
standing_range style rule range n = by (shows_gaps style) n
  where
    by : (b : Bool) (n : ℕ) → AllByRecursion IsGap (if b then standing_gaps rule n else [])
    by false n = tt
    by true zero = tt
    by true (suc n) = (range.gap_in, replicated rule.sep range.sep_in n)

kind_range : (items : List Item) (number : ℕ) (kind : Kind) → IsKind kind → AllByRecursion IsGap (kind_skips items number kind)
kind_range items number (Float area distance) range = tt
kind_range items number (Note skip limit) range = by (length (sizes_of number items) == 0)
  where
    by : (b : Bool) → AllByRecursion IsGap (if b then [] else (skip ∷ []))
    by true = tt
    by false = (range.0, tt)

skips_range : (items : List Item) (classes : List Class) → AllByRecursion IsClass classes →
    AllByRecursion IsGap (skip_gaps classes items)
skips_range items [] ranges = tt
skips_range items (class ∷ classes) ranges =
    all_append IsGap (kind_skips items class.number class.kind) (skip_gaps classes items)
    (kind_range items class.number class.kind ranges.0.kind_in) (skips_range items classes ranges.1)

pub notes_range : (style : StyleValue) → IsStyle style → (items : List Item) → AllByRecursion IsGap (note_gaps style items)
notes_range style range items = by (shows_gaps style)
  where
    by : (b : Bool) → AllByRecursion IsGap (if b then skip_gaps style.classes items else [])
    by true = skips_range items style.classes range.classes_in.each
    by false = tt

-- ---- one step more

pub more_times : (gap : Gap) (old mid new : List Gap) (n : ℕ) → mid ≡ old ++ replicate n gap → new ≡ mid ++ gap ∷ [] →
    new ≡ old ++ replicate (n + 1) gap
more_times gap old mid new n was is =
    let next : suc n ≡ n + 1 = omega arith in
    is ∙ (ap (λ (gaps : List Gap). gaps ++ gap ∷ []) was
    ∙ (append_assoc old (replicate n gap) (gap ∷ []) ∙ (ap (λ (gaps : List Gap). old ++ gaps) (behind n)
    ∙ ap (λ (k : ℕ). old ++ replicate k gap) next)))
  where
    behind : (n : ℕ) → replicate n gap ++ gap ∷ [] ≡ replicate (suc n) gap
    behind zero = refl
    behind (suc n) = ap (λ (gaps : List Gap). gap ∷ gaps) (behind n)

-- the first of floats that hang, and the rest
pub hung_step : (rule : AreaRuleValue) (body : List ℕ) (after : List (List ℕ)) (widths : List ℤ) →
    hung_text rule (body ∷ after) widths ≡ (body_text body ++ hung_gap rule after widths)
    ++ hung_text rule after (drop 1 widths)
hung_step rule body [] widths = sym (append-nil (body_text body ++ set_gap (codes "gap") rule.gap widths))
hung_step rule body (next ∷ after) widths = refl

-- the line of a gap, from its parts
pub line_from : (name : List ℕ) (gap : Gap) (width : ℤ) (old first second third new : List ℕ) →
    first ≡ old ++ gap_name name gap.size → second ≡ first ++ gap_gives gap.stretch gap.shrink →
    third ≡ second ++ gap_set width → new ≡ third ++ 10 ∷ [] → new ≡ old ++ gap_line name gap width
unfolding gap_line
line_from name gap width old first second third new p q r s =
    let both = two_parts old first second (gap_name name gap.size) (gap_gives gap.stretch gap.shrink) p q in
    let all = two_parts old second third (gap_name name gap.size ++ gap_gives gap.stretch gap.shrink) (gap_set width) both r in
    two_parts old third new (gap_name name gap.size ++ gap_gives gap.stretch gap.shrink ++ gap_set width) (10 ∷ []) all s

-- the notes of a class without a note among the items, and with one
skipped_none : (skip : Gap) (sizes : List ℤ) (bodies : List (List ℕ)) (widths : List ℤ) →
    length sizes ≡ length bodies → false ≡ not (length sizes == 0) → skipped_text skip bodies widths ≡ []
skipped_none skip sizes [] widths long none = refl
skipped_none skip [] (body ∷ bodies) widths long none = absurd (omega (arith, long))
skipped_none skip (size ∷ sizes) (body ∷ bodies) widths long none = absurd
    (let k : false ≡ true = none ∙ ap not (some (length (size ∷ sizes)) (omega arith)) in cc)
  where
    some : (n : ℕ) → 0 < n → (n == 0) ≡ false
    some n h = grind (arith, nat_tests)

skipped_some : (skip : Gap) (sizes : List ℤ) (bodies : List (List ℕ)) (widths : List ℤ) →
    length sizes ≡ length bodies → true ≡ not (length sizes == 0) →
    skipped_text skip bodies widths ≡ set_gap (codes "skip") skip widths ++ flat_map body_text bodies
skipped_some skip [] bodies widths long some = absurd cc
skipped_some skip (size ∷ sizes) [] widths long some = absurd (omega (arith, long))
skipped_some skip (size ∷ sizes) (body ∷ bodies) widths long some = refl

module _ (items : List Item) (number : ℕ) (kind : Kind) (skip : Gap) (limit : ℤ) (is : kind ≡ Note skip limit)
    (widths : List ℤ) (old : List ℕ) where
  pub no_notes : false ≡ not (length (sizes_of number items) == 0) → old ≡ old ++ kind_notes items number kind widths
  no_notes none = sym (append-nil old) ∙ ap (λ (text : List ℕ). old ++ text) (sym (skipped_none skip
      (sizes_of number items) (inserted number items) widths (as_long number items) none))
      ∙ ap (λ (kind : Kind). old ++ kind_notes items number kind widths) (sym is)

  pub some_notes : true ≡ not (length (sizes_of number items) == 0) → (mid new : List ℕ) →
      mid ≡ old ++ set_gap (codes "skip") skip widths → new ≡ mid ++ flat_map body_text (inserted number items) →
      new ≡ old ++ kind_notes items number kind widths
  some_notes some mid new m n =
      two_parts old mid new (set_gap (codes "skip") skip widths) (flat_map body_text (inserted number items)) m n
      ∙ ap (λ (text : List ℕ). old ++ text) (sym (skipped_some skip (sizes_of number items) (inserted number items) widths
      (as_long number items) some)) ∙ ap (λ (kind : Kind). old ++ kind_notes items number kind widths) (sym is)

-- ---- how many

replicate_long : (gap : Gap) (n : ℕ) → length (replicate n gap) ≡ n
replicate_long gap zero = refl
replicate_long gap (suc n) = ap suc (replicate_long gap n)

pub hung_few : (style : StyleValue) (rule : AreaRuleValue) (n : ℕ) →
    length (if shows_gaps style then hung_gaps rule n else []) ≤ n
hung_few style rule n = by (shows_gaps style) n
  where
    by : (b : Bool) (n : ℕ) → length (if b then hung_gaps rule n else []) ≤ n
    by false n = omega arith
    by true zero = omega arith
    by true (suc n) =
        let e = length-append (replicate n rule.sep) (rule.gap ∷ []) in
        let k = replicate_long rule.sep n in omega (arith, e, k)

pub standing_few : (style : StyleValue) (rule : AreaRuleValue) (n : ℕ) →
    length (if shows_gaps style then standing_gaps rule n else []) ≤ n
standing_few style rule n = by (shows_gaps style) n
  where
    by : (b : Bool) (n : ℕ) → length (if b then standing_gaps rule n else []) ≤ n
    by false n = omega arith
    by true zero = omega arith
    by true (suc n) = let k = replicate_long rule.sep n in omega (arith, k)

skips_few : (items : List Item) (classes : List Class) → length (skip_gaps classes items) ≤ length classes
skips_few items [] = omega arith
skips_few items (class ∷ classes) =
    let e = length-append (kind_skips items class.number class.kind) (skip_gaps classes items) in
    let k = one class.number class.kind in
    let r = skips_few items classes in omega (arith, e, k, r)
  where
    one : (number : ℕ) (kind : Kind) → length (kind_skips items number kind) ≤ 1
    one number (Float area distance) = omega arith
    one number (Note skip limit) = by (length (sizes_of number items) == 0)
      where
        by : (b : Bool) → length (if b then [] else (skip ∷ [])) ≤ 1
        by true = omega arith
        by false = omega arith

pub notes_few : (style : StyleValue) (items : List Item) → length (note_gaps style items) ≤ length style.classes
notes_few style items = by (shows_gaps style)
  where
    by : (b : Bool) → length (if b then skip_gaps style.classes items else []) ≤ length style.classes
    by true = skips_few items style.classes
    by false = omega arith
