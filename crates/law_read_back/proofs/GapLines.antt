-- The lines of gaps are lines of an area.
use Rattle.std.proofs.Common.{◌≡◌, refl, ℕ, Bool, true, false, List, [], ◌∷◌, ◌++◌, drop, length, arith}
use Rattle.std.specs.Prelude.{◌==◌, codes, if◌then◌else◌, ℤ, pos}
use Rattle.std.specs.List.{flat_map}
use Rattle.std.specs.Ordering.{int_eq}
use Rattle.pg_list.specs.declared.item.Item.{Item}
use Rattle.pg_scaled.specs.Scaled.{scaled_text}
use Rattle.pg_style.specs.Values.{AreaRuleValue, StyleValue}
use Rattle.pg_style.specs.declared.style.Class.{Class}
use Rattle.pg_style.specs.declared.style.Gap.{Gap}
use Rattle.pg_style.specs.declared.style.Kind.{Kind}
use Rattle.pg_style.specs.declared.style.Kind.TheVariants.{Note, Float}
use Rattle.pg_rules.specs.Floats.{dealt}
use Rattle.pg_rules.specs.Room.{Document}
use Rattle.pg_pages.specs.Bodies.{body_text}
use Rattle.pg_pages.specs.Gaps.{gap_gives, gap_line, gap_name, gap_set, hung_text, kind_skips, part_text, separated_text, set_gap, shows_gaps, skipped_text, standing_text}
use Rattle.pg_pages.specs.PageText.{float_bodies, floats_text, hanging_text, inserted, kind_notes, notes_text, set_notes, skipped_notes, standing_floats}
use Rattle.law_words.proofs.Cut.{lacks, lacks_append}
use Rattle.law_words.proofs.Blanks.{any_scaled_lacks}
use Rattle.law_read_back.proofs.Pointed.{IsPointed, all_pointed, body_pointed, floats_pointed, notes_pointed, pointed_both, pointed_line, pointed_none}

part_lacks : (word : List ℕ) → lacks 10 word ≡ true → (part : ℤ) → lacks 10 (part_text word part) ≡ true
part_lacks word none part = by (int_eq part (pos 0))
  where
    by : (b : Bool) → lacks 10 (if b then [] else (word ++ scaled_text part)) ≡ true
    by true = refl
    by false = lacks_append 10 word (scaled_text part) none (any_scaled_lacks 10 part (omega arith))

gap_pointed : (name : List ℕ) → lacks 10 name ≡ true → (gap : Gap) (width : ℤ) → IsPointed (gap_line name gap width)
unfolding gap_line gap_name gap_gives gap_set
gap_pointed name none gap width =
    let stretch = part_text (codes " plus ") gap.stretch in
    let shrink = part_text (codes " minus ") gap.shrink in
    let head = codes "\\glue(" ++ name ++ codes ") " in
    let size = head ++ scaled_text gap.size in
    let set = codes ", set " ++ scaled_text width in
    pointed_line (size ++ (stretch ++ shrink) ++ set)
    (lacks_append 10 (size ++ (stretch ++ shrink)) set
    (lacks_append 10 size (stretch ++ shrink)
    (lacks_append 10 head (scaled_text gap.size)
    (lacks_append 10 (codes "\\glue(" ++ name) (codes ") ") (lacks_append 10 (codes "\\glue(") name refl none) refl)
    (any_scaled_lacks 10 gap.size (omega arith)))
    (lacks_append 10 stretch shrink (part_lacks (codes " plus ") refl gap.stretch)
    (part_lacks (codes " minus ") refl gap.shrink)))
    (lacks_append 10 (codes ", set ") (scaled_text width) refl (any_scaled_lacks 10 width (omega arith))))

set_pointed : (name : List ℕ) → lacks 10 name ≡ true → (gap : Gap) (widths : List ℤ) → IsPointed (set_gap name gap widths)
set_pointed name none gap [] = pointed_none
set_pointed name none gap (width ∷ widths) = gap_pointed name none gap width

hung_pointed : (rule : AreaRuleValue) (bodies : List (List ℕ)) (widths : List ℤ) → IsPointed (hung_text rule bodies widths)
hung_pointed rule [] widths = pointed_none
hung_pointed rule (body ∷ []) widths = pointed_both (body_text body) (set_gap (codes "gap") rule.gap widths)
    (body_pointed body) (set_pointed (codes "gap") refl rule.gap widths)
hung_pointed rule (body ∷ next ∷ bodies) widths =
    pointed_both (body_text body ++ set_gap (codes "sep") rule.sep widths) (hung_text rule (next ∷ bodies) (drop 1 widths))
    (pointed_both (body_text body) (set_gap (codes "sep") rule.sep widths) (body_pointed body)
    (set_pointed (codes "sep") refl rule.sep widths)) (hung_pointed rule (next ∷ bodies) (drop 1 widths))

separated_pointed : (sep : Gap) (bodies : List (List ℕ)) (widths : List ℤ) → IsPointed (separated_text sep bodies widths)
separated_pointed sep [] widths = pointed_none
separated_pointed sep (body ∷ bodies) widths =
    pointed_both (set_gap (codes "sep") sep widths ++ body_text body) (separated_text sep bodies (drop 1 widths))
    (pointed_both (set_gap (codes "sep") sep widths) (body_text body) (set_pointed (codes "sep") refl sep widths)
    (body_pointed body)) (separated_pointed sep bodies (drop 1 widths))

standing_pointed : (rule : AreaRuleValue) (bodies : List (List ℕ)) (widths : List ℤ) →
    IsPointed (standing_text rule bodies widths)
standing_pointed rule [] widths = pointed_none
standing_pointed rule (body ∷ bodies) widths =
    pointed_both (set_gap (codes "gap") rule.gap widths ++ body_text body)
    (separated_text rule.sep bodies (drop 1 widths))
    (pointed_both (set_gap (codes "gap") rule.gap widths) (body_text body)
    (set_pointed (codes "gap") refl rule.gap widths) (body_pointed body))
    (separated_pointed rule.sep bodies (drop 1 widths))

skipped_pointed : (skip : Gap) (bodies : List (List ℕ)) (widths : List ℤ) → IsPointed (skipped_text skip bodies widths)
skipped_pointed skip [] widths = pointed_none
skipped_pointed skip (body ∷ bodies) widths =
    pointed_both (set_gap (codes "skip") skip widths) (flat_map body_text (body ∷ bodies))
    (set_pointed (codes "skip") refl skip widths) (all_pointed body_text body_pointed (body ∷ bodies))

kind_pointed : (items : List Item) (number : ℕ) (kind : Kind) (widths : List ℤ) →
    IsPointed (kind_notes items number kind widths)
kind_pointed items number (Note skip limit) widths = skipped_pointed skip (inserted number items) widths
kind_pointed items number (Float area distance) widths = pointed_none

class_pointed : (classes : List Class) (items : List Item) (widths : List ℤ) →
    IsPointed (skipped_notes classes items widths)
class_pointed [] items widths = pointed_none
class_pointed (class ∷ classes) items widths =
    let left = drop (length (kind_skips items class.number class.kind)) widths in
    pointed_both (kind_notes items class.number class.kind widths) (skipped_notes classes items left)
    (kind_pointed items class.number class.kind widths) (class_pointed classes items left)

-- ---- areas, with gaps or without

either : (b : Bool) (x y : List ℕ) → IsPointed x → IsPointed y → IsPointed (if b then x else y)
either true x y p q = p
either false x y p q = q

pub hanging_pointed : (doc : Document) (rule : AreaRuleValue) (before counts : List ℕ) (widths : List ℤ) →
    IsPointed (hanging_text doc rule before counts widths)
unfolding hanging_text
hanging_pointed doc rule before counts widths =
    either (shows_gaps doc.style) (hung_text rule (dealt (float_bodies doc) before counts) widths)
    (floats_text doc before counts) (hung_pointed rule (dealt (float_bodies doc) before counts) widths)
    (floats_pointed doc before counts)

pub standing_area_pointed : (doc : Document) (rule : AreaRuleValue) (before counts : List ℕ) (widths : List ℤ) →
    IsPointed (standing_floats doc rule before counts widths)
unfolding standing_floats
standing_area_pointed doc rule before counts widths =
    either (shows_gaps doc.style) (standing_text rule (dealt (float_bodies doc) before counts) widths)
    (floats_text doc before counts) (standing_pointed rule (dealt (float_bodies doc) before counts) widths)
    (floats_pointed doc before counts)

pub set_notes_pointed : (style : StyleValue) (items : List Item) (widths : List ℤ) → IsPointed (set_notes style items widths)
unfolding set_notes
set_notes_pointed style items widths =
    either (shows_gaps style) (skipped_notes style.classes items widths) (notes_text style items)
    (class_pointed style.classes items widths) (notes_pointed style items)
