-- How the printer goes along items is what the definitions say.
use Rattle.std.proofs.Common.{◌≡◌, ◌∙◌, refl, sym, ap, ℕ, zero, suc, ◌+◌, ◌≤◌, ◌-◌, arith, subst, get_or, append_assoc, List, [], ◌∷◌, ◌++◌, take, drop, map, length, Bool, true, false, Option, Some, None}
use Rattle.std.specs.Prelude.{◌&&◌, not, if◌then◌else◌}
use Rattle.std.specs.List.{flat_map, prefix_len, range_with_len}
use Rattle.std.specs.Borrow.{Bor}
use Rattle.pg_glue.specs.declared.Sense.{Sense}
use Rattle.pg_list.specs.declared.item.Item.{Item}
use Rattle.pg_list.specs.declared.item.Item.TheVariants.{BoxItem, Rule, Glue, Kern, Penalty, Insert, Carry}
use Rattle.pg_list.specs.Shapes.{is_box, is_discardable}
use Rattle.pg_list.specs.Totals.{trimmed}
use Rattle.std.proofs.lemmas.List.Elements.{filter_map-append}
use Rattle.pg_pages.specs.Bodies.{plain_text}
use Rattle.pg_pages.specs.SetGlue.{elastic}
use Rattle.pg_pages.specs.PageText.{inserted, inserted_body}
use Rattle.pg_pages.specs.Printed.{box_on, front_of}
use Rattle.std.specs.Prelude.{ℤ, pos}
use Rattle.std.proofs.lemmas.List.{map-append, take_all}
use Rattle.pg_lemmas.proofs.Lists.{range_more}
use Rattle.pg_column.specs.Between.{behind}

-- ---- items that are kept

box_on_top : (d b : Bool) (item : Item) (items : List Item) → b ≡ true →
    item ∷ items ≡ (if b then item ∷ items else (if d then trimmed items else item ∷ trimmed items))
box_on_top d true item items e = refl
box_on_top d false item items e = absurd cc

solid_kept : (d b : Bool) (item : Item) (items : List Item) → b ≡ false →
    (if d then [] else item ∷ []) ++ trimmed items
    ≡ (if b then item ∷ items else (if d then trimmed items else item ∷ trimmed items))
solid_kept d true item items e = absurd cc
solid_kept true false item items e = refl
solid_kept false false item items e = refl

-- from a box on all are kept
pub trimmed_box : (rest : List (Bor Item)) (x d : Bor Item) → 1 ≤ length rest → x ≡ get_or rest 0 d →
    is_box x.now ≡ true → behind rest ≡ trimmed (behind rest)
trimmed_box [] x d some is box = absurd (omega (arith, some))
trimmed_box (y ∷ rest) x d some is box = box_on_top (is_discardable y.now) (is_box y.now) y.now (behind rest)
    (subst (λ (z : Bor Item). is_box z.now ≡ true) is box)

-- before it an item is kept that is not discardable
pub trimmed_front : (rest : List (Bor Item)) (x d : Bor Item) (old new whole : List Item) → 1 ≤ length rest →
    x ≡ get_or rest 0 d → is_box x.now ≡ false →
    new ≡ old ++ (if is_discardable x.now then [] else x.now ∷ []) → old ++ trimmed (behind rest) ≡ whole →
    new ++ trimmed (behind (take (length rest - 1) (drop 1 rest))) ≡ whole
trimmed_front [] x d old new whole some is other more was = absurd (omega (arith, some))
trimmed_front (y ∷ rest) x d old new whole some is other more was =
    let all : take (length (y ∷ rest) - 1) rest ≡ rest = take_all (length (y ∷ rest) - 1) rest (omega arith) in
    let none : is_box y.now ≡ false = subst (λ (z : Bor Item). is_box z.now ≡ false) is other in
    let same : new ≡ old ++ (if is_discardable y.now then [] else y.now ∷ []) =
    subst (λ (z : Bor Item). new ≡ old ++ (if is_discardable z.now then [] else z.now ∷ [])) is more in
    ap (λ (those : List (Bor Item)). new ++ trimmed (behind those)) all
    ∙ ap (λ (those : List Item). those ++ trimmed (behind rest)) same
    ∙ append_assoc old (if is_discardable y.now then [] else y.now ∷ []) (trimmed (behind rest))
    ∙ ap (λ (those : List Item). old ++ those) (solid_kept (is_discardable y.now) (is_box y.now) y.now (behind rest)
    none)
    ∙ was

-- ---- what is behind references

behind_take : {X : Type 0} (n : ℕ) (xs : List (Bor X)) → behind (take n xs) ≡ take n (behind xs)
behind_take zero xs = refl
behind_take (suc n) [] = refl
behind_take (suc n) (x ∷ xs) = ap (λ ys. x.now ∷ ys) (behind_take n xs)

behind_drop : {X : Type 0} (n : ℕ) (xs : List (Bor X)) → behind (drop n xs) ≡ drop n (behind xs)
behind_drop zero xs = refl
behind_drop (suc n) [] = refl
behind_drop (suc n) (x ∷ xs) = behind_drop n xs

pub behind_some : {X : Type 0} (count first : ℕ) (own : List (Bor X)) →
    behind (take count (drop first own)) ≡ take count (drop first (behind own))
behind_some count first own = behind_take count (drop first own) ∙ ap (take count) (behind_drop first own)

pub behind_long : {X : Type 0} (xs : List (Bor X)) → length (behind xs) ≡ length xs
behind_long [] = refl
behind_long (x ∷ xs) = ap suc (behind_long xs)

-- ---- inserts

pub inserted_append : (number : ℕ) (xs ys : List Item) →
    inserted number (xs ++ ys) ≡ inserted number xs ++ inserted number ys
inserted_append number xs ys = filter_map-append (inserted_body number) xs ys

-- ---- glue

pub elastics_few : (sense : Sense) (items : List Item) → length (flat_map (elastic sense) items) ≤ length items
elastics_few sense [] = omega arith
elastics_few sense (Glue width stretch order shrink body ∷ items) = let k = elastics_few sense items in omega (arith, k)
elastics_few sense (BoxItem height depth body ∷ items) = let k = elastics_few sense items in omega (arith, k)
elastics_few sense (Rule height depth body ∷ items) = let k = elastics_few sense items in omega (arith, k)
elastics_few sense (Kern width body ∷ items) = let k = elastics_few sense items in omega (arith, k)
elastics_few sense (Penalty value body ∷ items) = let k = elastics_few sense items in omega (arith, k)
elastics_few sense (Insert class size body ∷ items) = let k = elastics_few sense items in omega (arith, k)
elastics_few sense (Carry body ∷ items) = let k = elastics_few sense items in omega (arith, k)

-- ---- the front

abbrev front_length : List Item → ℕ
front_length items = prefix_len (λ (item : Item). not (is_box item)) items

pub front_step : (item : Item) (items : List Item) → is_box item ≡ false → front_of (item ∷ items) ≡ item ∷ front_of items
front_step item items e =
    let next : 1 + front_length items ≡ suc (front_length items) = omega arith in
    ap (λ (b : Bool). take (if not b then 1 + front_length items else 0) (item ∷ items)) e
    ∙ ap (λ (n : ℕ). take n (item ∷ items)) next

pub box_step : (item : Item) (items : List Item) → is_box item ≡ false → box_on (item ∷ items) ≡ box_on items
box_step item items e = ap (λ (those : List Item). drop (length those) (item ∷ items)) (front_step item items e)

-- ---- one item of a slice

pub split_first : {X : Type 0} (xs : List X) (x d : X) → 1 ≤ length xs → x ≡ get_or xs 0 d →
    x ∷ take (length xs - 1) (drop 1 xs) ≡ xs
split_first [] x d some is = absurd (omega (arith, some))
split_first (y ∷ xs) x d some is =
    ap (λ ys. x ∷ ys) (take_all (length (y ∷ xs) - 1) xs (omega arith)) ∙ ap (λ z. z ∷ xs) is

pub front_text : (old out new : List ℕ) (rest items : List (Bor Item)) (x d : Bor Item) → 1 ≤ length rest →
    x ≡ get_or rest 0 d → is_box x.now ≡ false → new ≡ out ++ plain_text x.now →
    out ++ flat_map plain_text (front_of (behind rest)) ≡ old ++ flat_map plain_text (front_of (behind items)) →
    new ++ flat_map plain_text (front_of (behind (take (length rest - 1) (drop 1 rest))))
    ≡ old ++ flat_map plain_text (front_of (behind items))
front_text old out new [] items x d some is other more was = absurd (omega (arith, some))
front_text old out new (y ∷ rest) items x d some is other more was =
    let whole : take (length (y ∷ rest) - 1) rest ≡ rest = take_all (length (y ∷ rest) - 1) rest (omega arith) in
    let none : is_box y.now ≡ false = subst (λ (z : Bor Item). is_box z.now ≡ false) is other in
    let same : new ≡ out ++ plain_text y.now = subst (λ (z : Bor Item). new ≡ out ++ plain_text z.now) is more in
    ap (λ (those : List (Bor Item)). new ++ flat_map plain_text (front_of (behind those))) whole
    ∙ ap (λ (text : List ℕ). text ++ flat_map plain_text (front_of (behind rest))) same
    ∙ append_assoc out (plain_text y.now) (flat_map plain_text (front_of (behind rest)))
    ∙ ap (λ (those : List Item). out ++ flat_map plain_text those) (sym (front_step y.now (behind rest) none))
    ∙ was

pub box_next : (rest : List (Bor Item)) (x d : Bor Item) → 1 ≤ length rest → x ≡ get_or rest 0 d →
    is_box x.now ≡ false → box_on (behind (take (length rest - 1) (drop 1 rest))) ≡ box_on (behind rest)
box_next [] x d some is other = absurd (omega (arith, some))
box_next (y ∷ rest) x d some is other =
    let whole : take (length (y ∷ rest) - 1) rest ≡ rest = take_all (length (y ∷ rest) - 1) rest (omega arith) in
    let none : is_box y.now ≡ false = subst (λ (z : Bor Item). is_box z.now ≡ false) is other in
    ap (λ (those : List (Bor Item)). box_on (behind those)) whole ∙ sym (box_step y.now (behind rest) none)

-- ---- counts and heights

pub counted_more : (f : ℕ → ℕ) (mid new : List ℕ) (n x : ℕ) → mid ≡ map f (range_with_len 0 n) → new ≡ mid ++ x ∷ [] →
    x ≡ f n → new ≡ map f (range_with_len 0 (n + 1))
counted_more f mid new n x was push is =
    let next : suc n ≡ n + 1 = omega arith in
    let same : n ≡ 0 + n = omega arith in
    push ∙ ap (λ ys. ys ++ x ∷ []) was
    ∙ ap (λ y. map f (range_with_len 0 n) ++ y ∷ []) (is ∙ ap f same)
    ∙ sym (ap (map f) (range_more 0 n) ∙ map-append f (range_with_len 0 n) ((0 + n) ∷ []))
    ∙ ap (λ k. map f (range_with_len 0 k)) next

pub height_some : (b : Bool) (x h : ℤ) → Some h ≡ (if b then Some x else None) → h ≡ (if true && b then x else pos 0)
height_some true x h e = cc
height_some false x h e = absurd cc

pub height_none : (b : Bool) (x : ℤ) → ◌≡◌ {A = Option ℤ} None (if b then Some x else None) → pos 0 ≡ (if true && b then x else pos 0)
height_none true x e = absurd cc
height_none false x e = refl
