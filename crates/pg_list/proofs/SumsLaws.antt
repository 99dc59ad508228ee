-- What one more item makes of the sums.
use Rattle.std.proofs.Common.{◌≡◌, refl, sym, ap, ◌∙◌, ℤ, pos, ◌+ℤ◌, ◌-ℤ◌, List, [], ◌∷◌, ◌++◌, Bool, true, false, Option, Some, None, arith}
use Rattle.std.proofs.lemmas.Grind.{common_steps}
use Rattle.std.proofs.lemmas.Int.{ints}
use Rattle.std.proofs.lemmas.List.{reverse-append}
use Rattle.std.specs.Prelude.{reverse, if◌then◌else◌, ◌||◌, not}
use Rattle.std.specs.List.{find, list_any}
use Rattle.std.specs.Int.{int_min, int_max}
use Rattle.std.specs.Option.{option_map_or}
use Rattle.pg_list.specs.declared.item.Item.{Item}
use Rattle.pg_list.specs.declared.item.Item.TheVariants.{BoxItem, Rule, Glue, Kern, Penalty, Insert, Carry}
use Rattle.pg_list.specs.Shapes.{is_box, is_discardable}
use Rattle.pg_list.specs.Totals.{total, full_size, depth_of, height_of, has_size, depth, top_glue, trimmed}
use Rattle.pg_list.specs.Whole.{whole_sum_by}
use Rattle.std.proofs.lemmas.Bool.{or_parts}

pub sum_push : {X : Type 0} (f : X → ℤ) (xs : List X) (x : X) →
    whole_sum_by f (xs ++ x ∷ []) ≡ whole_sum_by f xs +ℤ f x
sum_push f [] x = omega (arith, ints)
sum_push f (y ∷ xs) x = omega (arith, ints, sum_push f xs x)

find_push : {X : Type 0} (p : X → Bool) (xs : List X) (x : X) →
    find p (xs ++ x ∷ []) ≡ (if list_any p xs then find p xs else (if p x then Some x else None))
find_push p [] x = refl
find_push p (y ∷ xs) x = grind (arith, common_steps, find_push p xs x)

map_or_if : {X : Type 0} (f : X → ℤ) (b : Bool) (o p : Option X) (d : ℤ) →
    option_map_or f (if b then o else p) d ≡ (if b then option_map_or f o d else option_map_or f p d)
map_or_if f true o p d = refl
map_or_if f false o p d = refl

pub depth_push : (m : ℤ) (xs : List Item) (x : Item) →
    depth m (xs ++ x ∷ []) ≡ (if has_size x then int_min m (depth_of x) else depth m xs)
depth_push m xs x =
    rw (reverse-append xs (x ∷ [])) (map_or_if (λ item. int_min m (depth_of item)) (has_size x) (Some x) (find has_size (reverse xs)) (pos 0))

pub top_push : (t : ℤ) (xs : List Item) (x : Item) →
    top_glue t (xs ++ x ∷ []) ≡ (if list_any is_box xs then top_glue t xs else (if is_box x then int_max (pos 0) (t -ℤ height_of x) else pos 0))
top_push t xs x =
    let f : Item → ℤ = λ item. int_max (pos 0) (t -ℤ height_of item) in
    ap (λ o. option_map_or f o (pos 0)) (find_push is_box xs x)
    ∙ map_or_if f (list_any is_box xs) (find is_box xs) (if is_box x then Some x else None) (pos 0)
    ∙ ap (λ z. if list_any is_box xs then top_glue t xs else z) (map_or_if f (is_box x) (Some x) None (pos 0))

pub top_none : (t : ℤ) (xs : List Item) → list_any is_box xs ≡ false → top_glue t xs ≡ pos 0
top_none t [] e = refl
top_none t (BoxItem h d body ∷ xs) e = absurd (cc)
top_none t (Rule h d body ∷ xs) e = absurd (cc)
top_none t (Glue w s o k body ∷ xs) e = top_none t xs e
top_none t (Kern w body ∷ xs) e = top_none t xs e
top_none t (Penalty v body ∷ xs) e = top_none t xs e
top_none t (Insert c z body ∷ xs) e = top_none t xs e
top_none t (Carry body ∷ xs) e = top_none t xs e

top_step : (any : Bool) (before above : ℤ) → (any ≡ false → before ≡ pos 0) →
    (if any then before else above) ≡ before +ℤ (if any then pos 0 else above)
top_step true before above none = omega (arith, ints)
top_step false before above none = omega (arith, ints, none refl)

pub top_box : (t : ℤ) (xs : List Item) (x : Item) → is_box x ≡ true →
    top_glue t (xs ++ x ∷ []) ≡ top_glue t xs +ℤ (if list_any is_box xs then pos 0 else int_max (pos 0) (t -ℤ height_of x))
top_box t xs x box =
    top_push t xs x ∙ ap (λ (b : Bool). if list_any is_box xs then top_glue t xs else (if b then int_max (pos 0) (t -ℤ height_of x) else pos 0)) box
    ∙ top_step (list_any is_box xs) (top_glue t xs) (int_max (pos 0) (t -ℤ height_of x)) (top_none t xs)

top_keep : (any : Bool) (before : ℤ) → (any ≡ false → before ≡ pos 0) → (if any then before else pos 0) ≡ before
top_keep true before none = refl
top_keep false before none = sym (none refl)

pub top_same : (t : ℤ) (xs : List Item) (x : Item) → is_box x ≡ false →
    top_glue t (xs ++ x ∷ []) ≡ top_glue t xs
top_same t xs x plain =
    top_push t xs x ∙ ap (λ (b : Bool). if list_any is_box xs then top_glue t xs else (if b then int_max (pos 0) (t -ℤ height_of x) else pos 0)) plain
    ∙ top_keep (list_any is_box xs) (top_glue t xs) (top_none t xs)

add_box : (top top' above sum sum' full h d below below' : ℤ) → top' ≡ top +ℤ above → sum' ≡ sum +ℤ full →
    full ≡ h +ℤ d → ((top' +ℤ sum') -ℤ below') ≡ ((((((top +ℤ sum) -ℤ below) +ℤ above) +ℤ below) +ℤ h) +ℤ d) -ℤ below'
add_box top top' above sum sum' full h d below below' a b c = omega (arith, ints)

add_width : (top top' sum sum' w below below' : ℤ) → top' ≡ top → sum' ≡ sum +ℤ w →
    ((top' +ℤ sum') -ℤ below') ≡ ((((top +ℤ sum) -ℤ below) +ℤ below) +ℤ w) -ℤ below'
add_width top top' sum sum' w below below' a b = omega (arith, ints)

-- a box behind the items so far, as it is read from left to right
pub total_box : (t m : ℤ) (xs : List Item) (x : Item) → is_box x ≡ true →
    full_size x ≡ height_of x +ℤ depth_of x →
    total t m (xs ++ x ∷ []) ≡ ((((total t m xs +ℤ (if list_any is_box xs then pos 0 else int_max (pos 0) (t -ℤ height_of x))) +ℤ depth m xs) +ℤ height_of x) +ℤ depth_of x) -ℤ depth m (xs ++ x ∷ [])
total_box t m xs x box full =
    add_box (top_glue t xs) (top_glue t (xs ++ x ∷ [])) (if list_any is_box xs then pos 0 else int_max (pos 0) (t -ℤ height_of x)) (whole_sum_by full_size xs) (whole_sum_by full_size (xs ++ x ∷ [])) (full_size x) (height_of x) (depth_of x) (depth m xs) (depth m (xs ++ x ∷ []))
    (top_box t xs x box) (sum_push full_size xs x) full

-- glue or a kern
pub total_width : (t m : ℤ) (xs : List Item) (x : Item) → is_box x ≡ false →
    total t m (xs ++ x ∷ []) ≡ ((total t m xs +ℤ depth m xs) +ℤ full_size x) -ℤ depth m (xs ++ x ∷ [])
total_width t m xs x plain =
    add_width (top_glue t xs) (top_glue t (xs ++ x ∷ [])) (whole_sum_by full_size xs) (whole_sum_by full_size (xs ++ x ∷ [])) (full_size x) (depth m xs) (depth m (xs ++ x ∷ []))
    (top_same t xs x plain) (sum_push full_size xs x)

add_plain : (top top' sum sum' full below below' : ℤ) → top' ≡ top → sum' ≡ sum +ℤ full → full ≡ pos 0 →
    below' ≡ below → ((top' +ℤ sum') -ℤ below') ≡ ((top +ℤ sum) -ℤ below)
add_plain top top' sum sum' full below below' a b c d = omega (arith, ints)

-- the size of a box or rule is its height and its depth
pub box_full : (x : Item) → is_box x ≡ true → full_size x ≡ height_of x +ℤ depth_of x
box_full (BoxItem h d body) e = refl
box_full (Rule h d body) e = refl
box_full (Glue w s o k body) e = absurd (cc)
box_full (Kern w body) e = absurd (cc)
box_full (Penalty v body) e = absurd (cc)
box_full (Insert c z body) e = absurd (cc)
box_full (Carry body) e = absurd (cc)

-- what has no size is no box and adds nothing
pub sizeless : (x : Item) → has_size x ≡ false → (is_box x ≡ false) × (full_size x ≡ pos 0)
sizeless (BoxItem h d body) e = absurd (cc)
sizeless (Rule h d body) e = absurd (cc)
sizeless (Glue w s o k body) e = absurd (cc)
sizeless (Kern w body) e = absurd (cc)
sizeless (Penalty v body) e = (refl, refl)
sizeless (Insert c z body) e = (refl, refl)
sizeless (Carry body) e = (refl, refl)

any_step : (box weak : Bool) (x : Item) (xs : List Item) → box ≡ is_box x →
    list_any is_box (trimmed xs) ≡ list_any is_box xs →
    list_any is_box (if box then x ∷ xs else (if weak then trimmed xs else x ∷ trimmed xs)) ≡ (box || list_any is_box xs)
any_step true weak x xs is e = ap (λ b. b || list_any is_box xs) (sym is)
any_step false true x xs is e = e
any_step false false x xs is e = rw (← is, e) refl

solid_alone : (box weak : Bool) (x : Item) → not weak ≡ true →
    (if box then x ∷ [] else (if weak then [] else x ∷ [])) ≡ x ∷ []
solid_alone true weak x e = refl
solid_alone false false x e = refl
solid_alone false true x e = absurd (cc)

push_step : (box weak any solid : Bool) (y : Item) (xs : List Item) (x : Item) →
    ((box || any) || solid) ≡ true →
    ((any || solid) ≡ true → trimmed (xs ++ x ∷ []) ≡ trimmed xs ++ x ∷ []) →
    (if box then y ∷ (xs ++ x ∷ []) else (if weak then trimmed (xs ++ x ∷ []) else y ∷ trimmed (xs ++ x ∷ []))) ≡ (if box then y ∷ xs else (if weak then trimmed xs else y ∷ trimmed xs)) ++ x ∷ []
push_step true weak any solid y xs x counts rest = refl
push_step false true any solid y xs x counts rest = rest counts
push_step false false any solid y xs x counts rest = ap (λ (zs : List Item). y ∷ zs) (rest counts)

-- an item without a size
pub total_plain : (t m : ℤ) (xs : List Item) (x : Item) → is_box x ≡ false → has_size x ≡ false →
    full_size x ≡ pos 0 → (total t m (xs ++ x ∷ []) ≡ total t m xs) × (depth m (xs ++ x ∷ []) ≡ depth m xs)
total_plain t m xs x plain no-size none =
    let below : depth m (xs ++ x ∷ []) ≡ depth m xs = depth_push m xs x
    ∙ ap (λ b. if b then int_min m (depth_of x) else depth m xs) no-size in
    (add_plain (top_glue t xs) (top_glue t (xs ++ x ∷ [])) (whole_sum_by full_size xs) (whole_sum_by full_size (xs ++ x ∷ [])) (full_size x) (depth m xs) (depth m (xs ++ x ∷ [])) (top_same t xs x plain) (sum_push full_size xs x) none below, below)

-- ---- what stands before the first box

pub trimmed_any : (xs : List Item) → list_any is_box (trimmed xs) ≡ list_any is_box xs
trimmed_any [] = refl
trimmed_any (x ∷ xs) = any_step (is_box x) (is_discardable x) x xs refl (trimmed_any xs)

-- a discardable item before the first box does not count
pub trimmed_skip : (xs : List Item) (x : Item) → list_any is_box xs ≡ false → is_discardable x ≡ true →
    is_box x ≡ false → trimmed (xs ++ x ∷ []) ≡ trimmed xs
trimmed_skip [] x none weak plain = rw (plain, weak) refl
trimmed_skip (y ∷ xs) x none weak plain =
    let two = or_parts (is_box y) (list_any is_box xs) none in
    let rest = trimmed_skip xs x two.1 weak plain in
    rw (two.0, rest) refl

-- any other item does
pub trimmed_push : (xs : List Item) (x : Item) → (list_any is_box xs || not (is_discardable x)) ≡ true →
    trimmed (xs ++ x ∷ []) ≡ trimmed xs ++ x ∷ []
trimmed_push [] x counts = solid_alone (is_box x) (is_discardable x) x counts
trimmed_push (y ∷ xs) x counts =
    push_step (is_box y) (is_discardable y) (list_any is_box xs) (not (is_discardable x)) y xs x counts (trimmed_push xs x)
