-- What stands near a place is what the definitions over a list of items ask for.
use Rattle.std.proofs.Common.{◌≡◌, refl, sym, ap, ◌∙◌, ℕ, zero, suc, ◌+◌, ◌-◌, ◌≤◌, ◌<◌, List, [], ◌∷◌, ◌++◌, length, take, arith, Bool, true, false, Option, Some, None, ℤ, pos}
use Rattle.std.specs.Prelude.{◌==◌, ◌&&◌, ◌||◌, not, nat_lt, if◌then◌else◌, map, option_map, drop, slice_get, get_or}
use Rattle.std.specs.List.{list_any}
use Rattle.std.specs.Option.{option_map_or}
use Rattle.std.proofs.lemmas.Bool.Decides.{nat_tests}
use Rattle.std.proofs.lemmas.List.{length-map, length-take-le, take_all, take_more}
use Rattle.std.proofs.lemmas.Option.{slice_get-map}
use Rattle.pg_list.specs.declared.item.Item.{Item}
use Rattle.pg_list.specs.Shapes.{is_box, is_discardable}
use Rattle.pg_list.specs.Break.{follows_solid, has_at, is_forcing, is_glue, item_break}
use Rattle.pg_hlist.specs.declared.item.HItem.{HItem}
use Rattle.pg_hlist.specs.declared.item.HItem.TheVariants.{BoxItem, Glue, Kern, Penalty}
use Rattle.pg_hlist.specs.Items.{as_item, as_items}
use Rattle.law_lines.specs.Lines.{is_forced_at, penalty_at}
use Rattle.pg_lines.specs.Near.{box_end, follows_box, forces, is_hbox, is_hglue, item_penalty, near_forced, near_penalty, passes_at}
use Rattle.pg_breaks.proofs.Kept.{front_step, back_step}
use Rattle.pg_list.proofs.Sizes.{last_step}

-- ---- breaks

has_same : (test : Item → Bool) (para : List HItem) (k : ℕ) →
    has_at test (as_items para) k ≡ passes_at (λ (item : HItem). test (as_item item)) para k
has_same test para k = ap (λ (o : Option Item). option_map_or test o false) (slice_get-map as_item para k)
    ∙ by (slice_get para k)
  where
    by : (o : Option HItem) →
        option_map_or test (option_map as_item o) false ≡ option_map_or (λ (item : HItem). test (as_item item)) o false
    by None = refl
    by (Some item) = refl

solid_same : (para : List HItem) (k : ℕ) → follows_solid (as_items para) k ≡ follows_box para k
solid_same para zero = refl
solid_same para (suc k) = has_same (λ (item : Item). not (is_discardable item)) para k ∙ by (slice_get para k)
  where
    by : (o : Option HItem) → option_map_or (λ (item : HItem). not (is_discardable (as_item item))) o false
        ≡ option_map_or is_hbox o false
    by None = refl
    by (Some (BoxItem width height depth body)) = refl
    by (Some (Glue width stretch order shrink body)) = refl
    by (Some (Kern width body)) = refl
    by (Some (Penalty value body)) = refl

item_same : (para : List HItem) (k : ℕ) (item : HItem) →
    item_break (as_items para) k (as_item item) ≡ item_penalty para k item
item_same para k (BoxItem width height depth body) = refl
item_same para k (Glue width stretch order shrink body) =
    ap (λ (b : Bool). if b then Some (pos 0) else None) (solid_same para k)
item_same para k (Kern width body) =
    ap (λ (b : Bool). if b then Some (pos 0) else None) (has_same is_glue para (k + 1))
item_same para k (Penalty value body) = refl

pub penalty_is : (para : List HItem) (k : ℕ) → near_penalty para k ≡ penalty_at para k
penalty_is para k = sym (
    ap (λ (n : ℕ). if k == n then Some (pos 0) else option_map_or (item_break (as_items para) k)
    (slice_get (as_items para) k) None) (length-map para as_item)
    ∙ ap (λ (o : Option ℤ). if k == length para then Some (pos 0) else o)
    (ap (λ (o : Option Item). option_map_or (item_break (as_items para) k) o None) (slice_get-map as_item para k)
    ∙ by (slice_get para k)))
  where
    by : (o : Option HItem) → option_map_or (item_break (as_items para) k) (option_map as_item o) None
        ≡ option_map_or (item_penalty para k) o None
    by None = refl
    by (Some item) = item_same para k item

-- ---- boxes behind a place

any_from : (para : List HItem) (b : ℕ) → list_any is_box (drop b (as_items para)) ≡ nat_lt b (box_end para)
any_from [] zero = refl
any_from [] (suc b) = grind (arith, nat_tests)
any_from (item ∷ items) zero =
    front_step (is_hbox item) (list_any is_box (as_items items)) (box_end items) (any_from items zero)
any_from (item ∷ items) (suc b) =
    back_step (is_hbox item) (list_any is_box (drop b (as_items items))) (box_end items) b (any_from items b)

pub forced_is : (para : List HItem) (k : ℕ) → near_forced para k ≡ is_forced_at para k
forced_is para k = sym (
    ap (λ (n : ℕ). (k == n) || (has_at is_forcing (as_items para) k && list_any is_box (drop (k + 1) (as_items para))))
    (length-map para as_item)
    ∙ ap (λ (b : Bool). (k == length para) || (b && list_any is_box (drop (k + 1) (as_items para))))
    (has_same is_forcing para k)
    ∙ ap (λ (b : Bool). (k == length para) || (passes_at forces para k && b)) (any_from para (k + 1)))

-- ---- the last box

last_push : (items : List HItem) (item : HItem) →
    box_end (items ++ item ∷ []) ≡ (if is_hbox item then length items + 1 else box_end items)
last_push [] item = refl
last_push (b ∷ items) item =
    last_step (box_end (items ++ item ∷ [])) (box_end items) (length items) (is_hbox item) (is_hbox b)
    (last_push items item)

pub split_last : {X : Type 0} (xs : List X) (last : X) → 1 ≤ length xs → last ≡ get_or xs (length xs - 1) last →
    xs ≡ take (length xs - 1) xs ++ last ∷ []
split_last {X} xs last some is =
    let n = length xs - 1 in
    sym (take_all (n + 1) xs (omega arith)) ∙ take_more xs n last (omega arith)
    ∙ ap (λ (x : X). take n xs ++ x ∷ []) (sym is)

last_cases : (items : List HItem) (last : HItem) → 1 ≤ length items → last ≡ get_or items (length items - 1) last →
    box_end items
    ≡ (if is_hbox last then length (take (length items - 1) items) + 1 else box_end (take (length items - 1) items))
last_cases items last some is = ap box_end (split_last items last some is) ∙ last_push (take (length items - 1) items) last

pub last_passes : (items : List HItem) (last : HItem) → 1 ≤ length items → last ≡ get_or items (length items - 1) last →
    is_hbox last ≡ true → box_end items ≡ length items
last_passes items last some is passes =
    let cases = rw passes at (last_cases items last some is) in
    omega (arith, cases, length-take-le (length items - 1) items (omega arith))

pub last_fails : (items : List HItem) (last : HItem) → 1 ≤ length items → last ≡ get_or items (length items - 1) last →
    is_hbox last ≡ false → box_end items ≡ box_end (take (length items - 1) items)
last_fails items last some is fails = rw fails at (last_cases items last some is)
