-- Shown texts are lines that begin with a point, whatever stands in them.
use Rattle.std.proofs.Common.{◌≡◌, refl, sym, ap, subst, ◌∙◌, ◌+◌, not, ℕ, suc, Bool, true, false, List, [], ◌∷◌, ◌++◌, length, take, drop, append_assoc, append-nil, arith}
use Rattle.std.specs.Prelude.{◌==◌, nat_lt, codes, Some, if◌then◌else◌, cond, ℤ}
use Rattle.std.specs.List.{flat_map, prefix_len, take_while, range_with_len}
use Rattle.pg_list.specs.declared.item.Item.{Item}
use Rattle.pg_list.specs.declared.item.Item.TheVariants as item
use Rattle.pg_list.specs.Shapes.{is_box}
use Rattle.pg_list.specs.Totals.{top_glue}
use Rattle.pg_scaled.specs.Scaled.{scaled_text}
use Rattle.pg_style.specs.Values.{StyleValue}
use Rattle.pg_rules.specs.Room.{Document}
use Rattle.pg_rules.specs.Floats.{dealt}
use Rattle.pg_words.specs.Written.{line}
use Rattle.pg_scan.specs.Lines.{is_no_feed, dotted}
use Rattle.pg_pages.specs.Bodies.{body_text, set_text, plain_text}
use Rattle.pg_pages.specs.PageText.{set_items, top_line, items_text, floats_text, float_bodies, notes_text, is_note, inserted}
use Rattle.pg_labels.specs.Drafts.{step, step_at}
use Rattle.pg_labels.specs.declared.draft.Draft.{Draft}
use Rattle.pg_labels.specs.declared.draft.Stands.{Stands}
use Rattle.pg_labels.specs.declared.draft.Stands.TheVariants.{Start, NoneLegal, Head, Begun, ColumnBegun, GoesOn, Labels}
use Rattle.law_words.proofs.Cut.{lacks, lacks_append}
use Rattle.law_words.proofs.Blanks.{any_scaled_lacks}
use Rattle.law_read_back.proofs.Runs.{Reads, reads_none, reads_then, reads_line, reads_to}

-- a line of an area may stand next
abbrev pub in_area : Stands → Bool
in_area Start = false
in_area NoneLegal = false
in_area Head = false
in_area (Begun has_wide) = has_wide
in_area ColumnBegun = false
in_area (GoesOn next) = nat_lt 0 next
in_area (Labels fitness) = false

-- a text was read
abbrev pub told : Draft → List ℕ → Draft
told d text = record d { page_text = d.page_text ++ text }

-- the text is lines of an area
abbrev pub IsPointed : List ℕ → Type 0
IsPointed text = (d : Draft) → in_area d.stands ≡ true → Reads d text (told d text)

pub told_both : (d : Draft) (a b : List ℕ) → told (told d a) b ≡ told d (a ++ b)
told_both d a b = ap (λ (t : List ℕ). record d { page_text = t }) (append_assoc d.page_text a b)

pub pointed_none : IsPointed []
pointed_none d h = reads_to d d (told d []) []
    (ap (λ (t : List ℕ). record d { page_text = t }) (sym (append-nil d.page_text))) (reads_none d)

pub pointed_both : (a b : List ℕ) → IsPointed a → IsPointed b → IsPointed (a ++ b)
pointed_both a b p q d h = reads_to d (told (told d a) b) (told d (a ++ b)) (a ++ b) (told_both d a b)
    (reads_then d (told d a) (told (told d a) b) a b (p d h) (q (told d a) h))

pub pointed_as : (a b : List ℕ) → a ≡ b → IsPointed a → IsPointed b
pointed_as a b e p = subst IsPointed e p

point_step : (stands : Stands) → in_area stands ≡ true → (d : Draft) (text : List ℕ) →
    step_at stands d (46 ∷ text) ≡ Some (record d { stands = d.stands; page_text = d.page_text ++ line (46 ∷ text) })
point_step Start h d text = absurd cc
point_step NoneLegal h d text = absurd cc
point_step Head h d text = absurd cc
point_step (Begun false) h d text = absurd cc
point_step (Begun true) h d text = refl
point_step ColumnBegun h d text = absurd cc
point_step (GoesOn next) h d text = rw h refl
point_step (Labels fitness) h d text = absurd cc

pub pointed_line : (text : List ℕ) → lacks 10 text ≡ true → IsPointed (line (46 ∷ text))
unfolding step
pointed_line text none d h = reads_line d (told d (line (46 ∷ text))) (46 ∷ text) none (by d h)
  where
    by : (d : Draft) → in_area d.stands ≡ true → step d (46 ∷ text) ≡ Some (told d (line (46 ∷ text)))
    by d h = point_step d.stands h d text

-- a line that goes on with a body
pub pointed_dotted : (front body : List ℕ) → lacks 10 front ≡ true → IsPointed (line (46 ∷ (front ++ dotted body)))
pointed_dotted front [] none = pointed_as (line (46 ∷ front)) (line (46 ∷ (front ++ dotted [])))
    (ap (λ (t : List ℕ). line (46 ∷ t)) (sym (append-nil front))) (pointed_line front none)
pointed_dotted front (c ∷ cs) none = by (c == 10) refl
    (pointed_both (line (46 ∷ front)) (line (46 ∷ dotted cs)) (pointed_line front none) (pointed_dotted [] cs refl))
    (λ (e : (c == 10) ≡ false). pointed_dotted (front ++ c ∷ []) cs (lacks_append 10 front (c ∷ []) none (rw e refl)))
  where
    by : (b : Bool) → b ≡ (c == 10) → IsPointed (line (46 ∷ front) ++ line (46 ∷ dotted cs)) →
        ((c == 10) ≡ false → IsPointed (line (46 ∷ (front ++ c ∷ [] ++ dotted cs)))) →
        IsPointed (line (46 ∷ (front ++ ((if b then 10 ∷ 46 ∷ [] else c ∷ []) ++ dotted cs))))
    by true e p q = pointed_as (line (46 ∷ front) ++ line (46 ∷ dotted cs))
        (line (46 ∷ (front ++ 10 ∷ 46 ∷ dotted cs)))
        (ap (λ (t : List ℕ). 46 ∷ t) (append_assoc front (10 ∷ []) (line (46 ∷ dotted cs))
        ∙ sym (append_assoc front (10 ∷ 46 ∷ dotted cs) (10 ∷ [])))) p
    by false e p q = pointed_as (line (46 ∷ (front ++ c ∷ [] ++ dotted cs))) (line (46 ∷ (front ++ c ∷ dotted cs)))
        (ap (λ (t : List ℕ). line (46 ∷ t)) (append_assoc front (c ∷ []) (dotted cs))) (q (sym e))

pub body_pointed : (body : List ℕ) → IsPointed (body_text body)
body_pointed body = pointed_dotted [] body refl

-- the first line of a body has no line feed
front_lacks : (body : List ℕ) → lacks 10 (dotted (take (prefix_len is_no_feed body) body)) ≡ true
front_lacks [] = refl
front_lacks (c ∷ cs) = by (c == 10) refl (prefix_len is_no_feed cs) (front_lacks cs)
  where
    by : (b : Bool) → b ≡ (c == 10) → (n : ℕ) → lacks 10 (dotted (take n cs)) ≡ true →
        lacks 10 (dotted (take (cond (not b) (1 + n) 0) (c ∷ cs))) ≡ true
    by true e n h = refl
    by false e n h = let one : 1 + n ≡ suc n = omega arith in rw (one, sym e, sym e) h

pub set_pointed : (body : List ℕ) (width : ℤ) → IsPointed (set_text body width)
set_pointed body width =
    let front = dotted (take (prefix_len is_no_feed body) body) in
    let rest = drop (prefix_len is_no_feed body) body in
    pointed_as (line (46 ∷ (front ++ codes ", set " ++ scaled_text width ++ dotted rest))) (set_text body width)
    (grouped front (codes ", set ") (scaled_text width) (dotted rest))
    (pointed_dotted (front ++ codes ", set " ++ scaled_text width) rest
    (lacks_append 10 (front ++ codes ", set ") (scaled_text width)
    (lacks_append 10 front (codes ", set ") (front_lacks body) refl) (any_scaled_lacks 10 width (omega arith))))
  where
    grouped : (a b c d : List ℕ) → line (46 ∷ (a ++ b ++ c ++ d)) ≡ 46 ∷ a ++ (b ++ c ++ line d)
    grouped a b c d = ap (λ (t : List ℕ). 46 ∷ t) (append_assoc (a ++ b ++ c) d (10 ∷ [])
        ∙ append_assoc (a ++ b) c (line d) ∙ append_assoc a b (c ++ line d)
        ∙ ap (λ (t : List ℕ). a ++ t) (sym (append_assoc b c (line d))))

pub plain_pointed : (x : Item) → IsPointed (plain_text x)
plain_pointed (item.BoxItem h d body) = body_pointed body
plain_pointed (item.Rule h d body) = body_pointed body
plain_pointed (item.Glue width stretch order shrink body) = body_pointed body
plain_pointed (item.Kern width body) = body_pointed body
plain_pointed (item.Penalty value body) = body_pointed body
plain_pointed (item.Insert class size body) = pointed_none
plain_pointed (item.Carry body) = body_pointed body

pub all_pointed : {X : Type 0} (text : X → List ℕ) → ((x : X) → IsPointed (text x)) → (xs : List X) →
    IsPointed (flat_map text xs)
all_pointed text each [] = pointed_none
all_pointed text each (x ∷ xs) = pointed_both (text x) (flat_map text xs) (each x) (all_pointed text each xs)

pub set_items_pointed : (items : List Item) (widths : List ℤ) → IsPointed (set_items items widths)
set_items_pointed [] widths = pointed_none
set_items_pointed (item.Glue width stretch order shrink body ∷ items) [] =
    pointed_both (body_text body) (set_items items []) (body_pointed body) (set_items_pointed items [])
set_items_pointed (item.Glue width stretch order shrink body ∷ items) (set ∷ widths) =
    pointed_both (set_text body set) (set_items items widths) (set_pointed body set) (set_items_pointed items widths)
set_items_pointed (item.BoxItem h d body ∷ items) widths =
    pointed_both (body_text body) (set_items items widths) (body_pointed body) (set_items_pointed items widths)
set_items_pointed (item.Rule h d body ∷ items) widths =
    pointed_both (body_text body) (set_items items widths) (body_pointed body) (set_items_pointed items widths)
set_items_pointed (item.Kern width body ∷ items) widths =
    pointed_both (body_text body) (set_items items widths) (body_pointed body) (set_items_pointed items widths)
set_items_pointed (item.Penalty value body ∷ items) widths =
    pointed_both (body_text body) (set_items items widths) (body_pointed body) (set_items_pointed items widths)
set_items_pointed (item.Insert class size body ∷ items) widths =
    pointed_both [] (set_items items widths) pointed_none (set_items_pointed items widths)
set_items_pointed (item.Carry body ∷ items) widths =
    pointed_both (body_text body) (set_items items widths) (body_pointed body) (set_items_pointed items widths)

pub top_pointed : (topskip : ℤ) (items : List Item) → IsPointed (top_line topskip items)
top_pointed topskip items = pointed_line (codes "\\glue(\\topskip) " ++ scaled_text (top_glue topskip items))
    (lacks_append 10 (codes "\\glue(\\topskip) ") (scaled_text (top_glue topskip items)) refl
    (any_scaled_lacks 10 (top_glue topskip items) (omega arith)))

pub items_pointed : (topskip : ℤ) (items : List Item) (widths : List ℤ) → IsPointed (items_text topskip items widths)
items_pointed topskip items widths =
    let above = flat_map plain_text (take_while (λ (x : Item). not (is_box x)) items) in
    let rest = set_items (drop (length (take_while (λ (x : Item). not (is_box x)) items)) items) widths in
    pointed_both (above ++ top_line topskip items) rest
    (pointed_both above (top_line topskip items)
    (all_pointed plain_text plain_pointed (take_while (λ (x : Item). not (is_box x)) items))
    (top_pointed topskip items))
    (set_items_pointed (drop (length (take_while (λ (x : Item). not (is_box x)) items)) items) widths)

pub floats_pointed : (doc : Document) (before counts : List ℕ) → IsPointed (floats_text doc before counts)
unfolding floats_text
floats_pointed doc before counts = all_pointed body_text body_pointed (dealt (float_bodies doc) before counts)

pub notes_pointed : (style : StyleValue) (items : List Item) → IsPointed (notes_text style items)
unfolding notes_text
notes_pointed style items = all_pointed
    (λ (number : ℕ). if is_note style number then flat_map body_text (inserted number items) else [])
    (λ (number : ℕ). by (is_note style number) (flat_map body_text (inserted number items))
    (all_pointed body_text body_pointed (inserted number items)))
    (range_with_len 0 255)
  where
    by : (b : Bool) (text : List ℕ) → IsPointed text → IsPointed (if b then text else [])
    by true text p = p
    by false text p = pointed_none
