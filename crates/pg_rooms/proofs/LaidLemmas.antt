-- Heights of areas whose floats are there.
use Rattle.std.proofs.Common.{Bool, ◌≡◌, refl, sym, ap, ◌∙◌, subst, ℕ, ◌<◌, List, true, Option, Some, None, ℤ, pos, arith, ◌++◌, map, take, get_or, length, ◌+◌, [], ◌∷◌}
use Rattle.std.specs.Prelude.{◌==◌, nat_lt, if◌then◌else◌, nat_abs, ◌^◌, ◌&&◌, int_le, int_lt, ◌-ℤ◌, ◌+ℤ◌, unwrap_or, IfSome}
use Rattle.std.specs.Option.{option_map_or}
use Rattle.std.proofs.lemmas.Int.{ints}
use Rattle.pg_plan.specs.declared.states.State.{State}
use Rattle.pg_style.specs.Plain.{plus_give}
use Rattle.pg_style.specs.Ranges.{IsAreaRule}
use Rattle.pg_style.specs.Values.{AreaRuleValue}
use Rattle.pg_style.specs.declared.style.Gap.{Gap}
use Rattle.pg_style.specs.declared.style.Give.{Give}
use Rattle.pg_rules.specs.Floats.{dealt, float_numbers, floats, gap_shrink, gap_stretch, plus_counts, total_count}
use Rattle.pg_rules.specs.IsState.{not_first}
use Rattle.pg_rules.specs.Room.{Document, checked_give, checked_height, extra}
use Rattle.std.specs.List.{AllByRecursion}
use Rattle.pg_list.specs.Shapes.{IsBlock}
use Rattle.law_columns.proofs.Areas.{area_range, dealt_range, floats_range}
use Rattle.law_columns.proofs.Gives.{IsPart, give_range}
use Rattle.pg_column.specs.declared.cost.TextRoom.{TextRoom}
use Rattle.pg_layouts.specs.declared.layout.Layout.{Layout}
use Rattle.std.proofs.lemmas.List.{map-append}
use Rattle.pg_lemmas.proofs.Lists.{all_append, one_more}
use Rattle.pg_lemmas.proofs.Bools.{both_of, by_bool, if_false}
use Rattle.std.proofs.lemmas.Bool.{eqb-true}
use Rattle.law_moves.proofs.Moves.{checked_give_is, checked_is, same_give}
use Rattle.law_moves.specs.Listed.{placed_with}
use Rattle.law_moves.specs.Steps.{area_of, give_of, text_give, text_room, text_size, wide_of}
use Rattle.pg_rooms.specs.Laid.{IsLaidBy, IsThere, laid_of}
use Rattle.pg_rooms.specs.Runs.{IsLow}
use Rattle.pg_rooms.specs.declared.laid.Laid.{Laid}
use Rattle.law_places.proofs.Tests.{le_int, less_int}

-- the height that a list of floats answers
pub height_is : (doc : Document) (rule : AreaRuleValue) (before counts : List ℕ) (z : ℤ) → IsThere doc before counts →
    z ≡ checked_height (floats doc.blocks doc.style) true rule before counts → z ≡ area_of doc rule before counts
height_is doc rule before counts z there e =
    e ∙ checked_is (floats doc.blocks doc.style) true rule before counts refl there.there

pub height_small : (doc : Document) (rule : AreaRuleValue) (before counts : List ℕ) (z : ℤ) →
    AllByRecursion IsBlock doc.blocks → IsAreaRule rule → IsThere doc before counts →
    z ≡ area_of doc rule before counts → nat_abs z < 2 ^ 34
height_small doc rule before counts z blocks range there e =
    let r = area_range rule range (dealt (floats doc.blocks doc.style) before counts)
    (dealt_range 0 (floats doc.blocks doc.style) before counts (floats_range doc.blocks (float_numbers doc.style) blocks))
    there.few in
    let few = r.1 in
    subst (λ (y : ℤ). nat_abs y < 2 ^ 34) (sym e) (omega (arith, few))

-- what the gaps of an area give
pub give_is : (part : Gap → ℤ) (doc : Document) (rule : AreaRuleValue) (before counts : List ℕ) (z : ℤ) →
    IsThere doc before counts → z ≡ checked_give part (floats doc.blocks doc.style) true rule before counts →
    z ≡ give_of part doc rule before counts
give_is part doc rule before counts z there e =
    e ∙ checked_give_is part (floats doc.blocks doc.style) true rule before counts refl there.there

pub give_small : (part : Gap → ℤ) → IsPart part → (doc : Document) (rule : AreaRuleValue) (before counts : List ℕ) (z : ℤ) →
    IsAreaRule rule → IsThere doc before counts → z ≡ give_of part doc rule before counts → nat_abs z < 2 ^ 33
give_small part sized doc rule before counts z range there e =
    let r = give_range part sized rule range (length (dealt (floats doc.blocks doc.style) before counts)) there.few in
    let few = r.1 in
    subst (λ (y : ℤ). nat_abs y < 2 ^ 33) (sym e) (omega (arith, few))

-- what those of both areas of a layout give
pub gives_are : (doc : Document) (u : State) (layout : Layout) (wide : Option ℤ) (before below : List ℕ) (t b : Give) →
    IsLaidBy doc u layout wide before below →
    t.stretch ≡ give_of gap_stretch doc doc.style.top before layout.top →
    t.shrink ≡ give_of gap_shrink doc doc.style.top before layout.top →
    b.stretch ≡ give_of gap_stretch doc doc.style.bottom below layout.bottom →
    b.shrink ≡ give_of gap_shrink doc doc.style.bottom below layout.bottom →
    plus_give t b ≡ (text_room doc u layout).give
gives_are doc u layout wide before below t b by e f g h =
    same _ _ _ _ (sum gap_stretch t.stretch b.stretch e g) (sum gap_shrink t.shrink b.shrink f h)
  where
    same : (a a' b b' : ℤ) → a ≡ a' → b ≡ b' →
        ◌≡◌ {A = Give} (record { stretch = a; shrink = b }) (record { stretch = a'; shrink = b' })
    same a a' b b' p q = cc

    sum : (part : Gap → ℤ) (x y : ℤ) → x ≡ give_of part doc doc.style.top before layout.top →
        y ≡ give_of part doc doc.style.bottom below layout.bottom → x +ℤ y ≡ text_give part doc u layout
    sum part x y p q = same_give x _ y _
        (p ∙ ap (λ (counts : List ℕ). give_of part doc doc.style.top counts layout.top) by.before_is)
        (q ∙ ap (λ (counts : List ℕ). give_of part doc doc.style.bottom counts layout.bottom)
        (by.below_is ∙ ap (λ (counts : List ℕ). plus_counts doc.style counts layout.top) by.before_is))

-- the room of a text
pub whole_is : (doc : Document) (u : State) (layout : Layout) (size : ℤ) (give : Give) → size ≡ text_size doc u layout →
    give ≡ (text_room doc u layout).give →
    ◌≡◌ {A = TextRoom} (record { size = size; give = give }) (text_room doc u layout)
whole_is doc u layout size give p q = same size _ give _ p q
  where
    same : (s s' : ℤ) (g g' : Give) → s ≡ s' → g ≡ g' →
        ◌≡◌ {A = TextRoom} (record { size = s; give = g }) (record { size = s'; give = g' })
    same s s' g g' p q = cc

-- the wide area of the page of a later column, and of a first one
pub wide_kept : (doc : Document) (u : State) (wide : List ℕ) → (u.column ≡ 1 → ⊥) → u.wide ≡ wide_of doc u wide
wide_kept doc u wide n = by_bool (u.column == 1) (λ t. absurd (n (eqb-true u.column 1 t)))
    (λ f. sym (if_false (u.column == 1) _ _ f))

pub wide_first : (doc : Document) (u : State) (wide : List ℕ) (b : Bool) → u.column ≡ 1 → b ≡ nat_lt 0 (total_count wide) →
    (if b then Some (area_of doc doc.style.wide u.placed wide) else None) ≡ wide_of doc u wide
wide_first doc u wide b one e =
    ap (λ (c : Bool). if c then Some (area_of doc doc.style.wide u.placed wide) else None) e
    ∙ ap (λ (n : ℕ). if n == 1 then (if nat_lt 0 (total_count wide) then Some (area_of doc doc.style.wide u.placed wide)
    else None) else u.wide) (sym one)

-- a height that a state keeps
pub kept_small : (column : ℕ) (o : Option ℤ) →
    option_map_or (λ (z : ℤ). not_first column && (int_le (pos 0) z && int_lt z (pos (2 ^ 33)))) o true ≡ true →
    IfSome o (λ height. nat_abs height < 2 ^ 34)
kept_small column None e = tt
kept_small column (Some z) e =
    let b = both_of (int_le (pos 0) z) (int_lt z (pos (2 ^ 33))) (both_of (not_first column) _ e).1 in
    let l = le_int (pos 0) z b.0 in
    let h = less_int z (pos (2 ^ 33)) b.1 in
    omega (arith, ints, l, h)

-- what the areas of a layout leave to a text
pub room_is : (doc : Document) (u : State) (layout : Layout) (wide : Option ℤ) (before below : List ℕ)
    (full w t b : ℤ) → IsLaidBy doc u layout wide before below → full ≡ doc.style.height +ℤ extra doc.style layout.run →
    w ≡ unwrap_or wide (pos 0) → t ≡ area_of doc doc.style.top before layout.top →
    b ≡ area_of doc doc.style.bottom below layout.bottom → ((full -ℤ w) -ℤ t) -ℤ b ≡ text_size doc u layout
room_is doc u layout wide before below full w t b by f h i j =
    left_is full w t b _ _ _ _ f (h ∙ ap (λ (o : Option ℤ). unwrap_or o (pos 0)) by.wide_is)
    (i ∙ ap (λ (counts : List ℕ). area_of doc doc.style.top counts layout.top) by.before_is)
    (j ∙ ap (λ (counts : List ℕ). area_of doc doc.style.bottom counts layout.bottom)
    (by.below_is ∙ ap (λ (counts : List ℕ). plus_counts doc.style counts layout.top) by.before_is))
  where
    left_is : (f w t b f' w' t' b' : ℤ) → f ≡ f' → w ≡ w' → t ≡ t' → b ≡ b' →
        ((f -ℤ w) -ℤ t) -ℤ b ≡ ((f' -ℤ w') -ℤ t') -ℤ b'
    left_is f w t b f' w' t' b' p q r s = cc

pub laid_is : (doc : Document) (u : State) (layout kept : Layout) (wide : Option ℤ) (before below after : List ℕ) (placed : ℕ)
    (room : TextRoom) → IsLaidBy doc u layout wide before below → after ≡ plus_counts doc.style below layout.bottom →
    placed ≡ total_count after → room ≡ text_room doc u layout → kept ≡ layout →
    ◌≡◌ {A = Laid} (record { layout = kept; wide = wide; after = after; placed = placed; room = room })
    (laid_of doc u layout)
laid_is doc u layout kept wide before below after placed room by a n r k =
    same kept _ wide _ after _ placed _ room _ k by.wide_is is (n ∙ ap total_count is) r
  where
    is : after ≡ placed_with doc.style u.placed layout
    is = a ∙ (ap (λ (counts : List ℕ). plus_counts doc.style counts layout.bottom) by.below_is
        ∙ ap (λ (counts : List ℕ). plus_counts doc.style (plus_counts doc.style counts layout.top) layout.bottom)
        by.before_is)

    same : (l l' : Layout) (w w' : Option ℤ) (a a' : List ℕ) (n n' : ℕ) (r r' : TextRoom) → l ≡ l' → w ≡ w' → a ≡ a' →
        n ≡ n' → r ≡ r' → ◌≡◌ {A = Laid} (record { layout = l; wide = w; after = a; placed = n; room = r })
        (record { layout = l'; wide = w'; after = a'; placed = n'; room = r' })
    same l l' w w' a a' n n' r r' o p q t s = cc

-- one more layout behind those before it
pub laid_more : (doc : Document) (u : State) (layouts : List Layout) (i : ℕ) (layout copy : Layout) (it : Laid)
    (mid new : List Laid) → i < length layouts → layout ≡ get_or layouts i layout → copy ≡ layout →
    it ≡ laid_of doc u copy → IsLow it.room → mid ≡ map (laid_of doc u) (take i layouts) →
    AllByRecursion (λ (x : Laid). IsLow x.room) mid → new ≡ mid ++ it ∷ [] →
    (new ≡ map (laid_of doc u) (take (i + 1) layouts)) × AllByRecursion (λ (x : Laid). IsLow x.room) new
laid_more doc u layouts i layout copy it mid new less is c e small h all n = (
  n ∙ (ap (λ (xs : List Laid). xs ++ it ∷ []) h
      ∙ (ap (λ (x : Laid). map (laid_of doc u) (take i layouts) ++ x ∷ []) (e ∙ ap (laid_of doc u) c)
      ∙ (sym (map-append (laid_of doc u) (take i layouts) (layout ∷ []))
      ∙ ap (map (laid_of doc u)) (sym (one_more layouts i layout less is))))),
  subst (AllByRecursion (λ (x : Laid). IsLow x.room)) (sym n)
      (all_append (λ (x : Laid). IsLow x.room) mid (it ∷ []) all (small, tt)),
)
