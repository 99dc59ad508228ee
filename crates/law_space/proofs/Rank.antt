-- The rank rises with each column.
use Rattle.std.proofs.Common.{◌≡◌, refl, sym, ap, subst, ◌∙◌, ℕ, ◌+◌, ◌*◌, ◌≤◌, ◌<◌, ◌⊎◌, inl, inr, length, Bool, true, false, Option, None, arith}
use Rattle.std.specs.Prelude.{ℤ, ◌&&◌, ◌==◌, not, nat_lt, if◌then◌else◌, is_some}
use Rattle.std.specs.List.{AllByRecursion}
use Rattle.pg_list.specs.declared.galley.Place.{Place}
use Rattle.pg_list.specs.Shapes.{IsBlock}
use Rattle.pg_plan.specs.declared.pages.PageMove.{PageMove}
use Rattle.pg_plan.specs.declared.states.State.{State}
use Rattle.pg_rules.specs.ColumnRules.{is_idle}
use Rattle.pg_list.specs.Flat.{is_same_place}
use Rattle.pg_rules.specs.Floats.{total_count, float_count, float_numbers}
use Rattle.pg_rules.specs.Follow.{Follow, context_in, wide_in, next_state}
use Rattle.pg_rules.specs.History.{placed_after, made_wide}
use Rattle.pg_rules.specs.IsState.{IsPlace, IsState}
use Rattle.law_places.specs.Past.{IsPast, Past}
use Rattle.law_places.proofs.Callouts.{fit_ends}
use Rattle.law_places.proofs.Tests.{place_refl}
use Rattle.law_columns.proofs.PagesLaws.{wide_long}
use Rattle.law_columns.proofs.BoundCounts.{after_total, float_total}
use Rattle.pg_rules.specs.Room.{Document, is_text, is_top_allowed, is_bottom_allowed}
use Rattle.law_space.specs.PageSpace.{place_rank, rank, side_run}
use Rattle.pg_lemmas.proofs.Bools.{both_of, or_cases, by_bool, if_false, if_true}
use Rattle.std.proofs.lemmas.Bool.{eqb-true}
use Rattle.pg_lemmas.proofs.Numbers.{eq_refl, less_true}
use Rattle.pg_list.proofs.Places.{same_place}

rank_step : (b b' : Bool) (x y : ℕ) → x < y → 2 * x + (if b then 1 else 0) < 2 * y + (if b' then 1 else 0)
rank_step true true x y h = omega arith
rank_step true false x y h = omega arith
rank_step false true x y h = omega arith
rank_step false false x y h = omega arith

full_page : (a b : ℕ) → 1 ≤ a → a ≤ b → b ≤ 2 → (a ≡ 1 → ⊥) → a ≡ b
full_page a b h k l n = omega arith

last_step : (b b' : Bool) (x y : ℕ) → b ≡ false → b' ≡ true → x ≤ y →
    2 * x + (if b then 1 else 0) < 2 * y + (if b' then 1 else 0)
last_step false true x y p q h = omega arith
last_step true b' x y p q h = absurd cc
last_step false false x y p q h = absurd cc

-- a measure of the place, the floats that are placed, or else the column rises
pub record Climbs (F : Place → ℕ) (u v : State) : Type 0 where
  pub place : F u.place ≤ F v.place
  pub placed : total_count u.placed ≤ total_count v.placed
  pub more : (F u.place + total_count u.placed < F v.place + total_count v.placed)
      ⊎ (((u.column == 1) ≡ false) × ((v.column == 1) ≡ true))

-- a weight by a measure of places
abbrev pub ranked : (Place → ℕ) → State → ℕ
ranked F u = 2 * (F u.place + total_count u.placed) + (if u.column == 1 then 1 else 0)

pub weighs : (F : Place → ℕ) (u v : State) → Climbs F u v → ranked F u < ranked F v
weighs F u v c = by c.more
  where
    by : (F u.place + total_count u.placed < F v.place + total_count v.placed)
        ⊎ (((u.column == 1) ≡ false) × ((v.column == 1) ≡ true)) → ranked F u < ranked F v
    by (inl h) = rank_step (u.column == 1) (v.column == 1) (F u.place + total_count u.placed)
        (F v.place + total_count v.placed) h
    by (inr (p, q)) =
        let k : F u.place ≤ F v.place = c.place in
        let l : total_count u.placed ≤ total_count v.placed = c.placed in
        last_step (u.column == 1) (v.column == 1) (F u.place + total_count u.placed)
        (F v.place + total_count v.placed) p q (omega arith)

-- what is below 16 is of no account where something above it rises
digit_step : (b b' : Bool) (x y p q s t : ℕ) → x ≤ y → p ≤ q → x + p < y + q → s < 16 →
    262144 * x + 32 * p + (if b then 16 else 0) + s < 262144 * y + 32 * q + (if b' then 16 else 0) + t
digit_step true true x y p q s t h i j k = omega arith
digit_step true false x y p q s t h i j k = omega arith
digit_step false true x y p q s t h i j k = omega arith
digit_step false false x y p q s t h i j k = omega arith

digit_last : (b b' : Bool) (x y p q s t : ℕ) → b ≡ false → b' ≡ true → x ≤ y → p ≤ q → s < 16 →
    262144 * x + 32 * p + (if b then 16 else 0) + s < 262144 * y + 32 * q + (if b' then 16 else 0) + t
digit_last false true x y p q s t e f h i k = omega arith
digit_last true b' x y p q s t e f h i k = absurd cc
digit_last false false x y p q s t e f h i k = absurd cc

pub ranks : (doc : Document) (u v : State) → Climbs place_rank u v → side_run u < 16 → rank doc u < rank doc v
ranks doc u v c few = by c.more
  where
    by : (place_rank u.place + total_count u.placed < place_rank v.place + total_count v.placed)
        ⊎ (((u.column == 1) ≡ false) × ((v.column == 1) ≡ true)) → rank doc u < rank doc v
    by (inl h) = digit_step (u.column == 1) (v.column == 1) (place_rank u.place) (place_rank v.place)
        (total_count u.placed) (total_count v.placed) (side_run u) (side_run v) c.place c.placed h few
    by (inr (p, q)) = digit_last (u.column == 1) (v.column == 1) (place_rank u.place) (place_rank v.place)
        (total_count u.placed) (total_count v.placed) (side_run u) (side_run v) p q c.place c.placed few

module _ (doc : Document) (blocks : AllByRecursion IsBlock doc.blocks) (few : doc.style.columns ≤ 2)
    (F : Place → ℕ) (climbs : (from to : Place) → IsPlace doc.blocks from → IsPast doc.blocks from to →
    F from < F to) where
  far_after : (u : State) (m : PageMove) (v : State) (c : ℤ) → IsState doc u → Follow doc u m v c →
      (F u.place ≤ F m.column.to) × ((is_text (context_in doc u m) ≡ true) → F u.place < F m.column.to)
  far_after u m v c own f =
      let from : m.column.from ≡ u.place = same_place m.column.from u.place f.starts in
      let here : IsPlace doc.blocks m.column.from = subst (IsPlace doc.blocks) (sym from) own.place in
      let start : F m.column.from ≡ F u.place = ap F from in
      elim (fit_ends doc (context_in doc u m) refl blocks here f.stands.rules.fits) [
        | inl e ↦ (let s : F m.column.to ≡ F m.column.from = ap F e in (
          omega arith,
          λ t. absurd (not_text (is_same_place m.column.from m.column.to) t
              (subst (λ (at : Place). is_same_place m.column.from at ≡ true) (sym e)
              (place_refl m.column.from))),
        ))
        | inr q ↦ (let r : F m.column.from < F m.column.to = climbs m.column.from m.column.to here q in
            (omega arith, λ t. omega arith))
      ]
    where
      not_text : (b : Bool) → not b ≡ true → b ≡ true → ⊥
      not_text true t s = absurd cc
      not_text false t s = absurd cc

  pub climbs_with : (u : State) (m : PageMove) (v : State) (c : ℤ) → IsState doc u → Follow doc u m v c →
      Climbs F u v
  climbs_with u m v c own f = subst (Climbs F u) (sym f.leads)
      (by_bool (is_text (context_in doc u m)) with_text without)
    where
      counts : (length m.column.top ≡ length (float_numbers doc.style))
          × (length m.column.bottom ≡ length (float_numbers doc.style))
      counts =
          (let a = both_of ((length m.column.top == length (float_numbers doc.style))
          && (length m.column.bottom == length (float_numbers doc.style))
          && is_top_allowed (context_in doc u m)) (is_bottom_allowed (context_in doc u m))
          f.stands.rules.counts in
          let b = both_of ((length m.column.top == length (float_numbers doc.style))
          && (length m.column.bottom == length (float_numbers doc.style)))
          (is_top_allowed (context_in doc u m)) a.0 in
          let c = both_of (length m.column.top == length (float_numbers doc.style))
          (length m.column.bottom == length (float_numbers doc.style)) b.0 in
          (eqb-true _ _ c.0, eqb-true _ _ c.1))

      sum : total_count (placed_after doc.style u.placed m)
          ≡ ((total_count u.placed + total_count m.wide) + total_count m.column.top)
          + total_count m.column.bottom
      sum = after_total doc.style u.placed m own.placed (wide_long doc u.column m f.stands.wide) counts.0
          counts.1

      moved : (F u.place ≤ F m.column.to) × ((is_text (context_in doc u m) ≡ true) → F u.place < F m.column.to)
      moved = far_after u m v c own f

      le : F u.place ≤ F m.column.to
      le = moved.0

      up : F u.place + total_count u.placed < F m.column.to
          + total_count (placed_after doc.style u.placed m) → Climbs F u (next_state doc u m)
      up h = record { place = le; placed = omega (arith, sum); more = inl h }

      with_text : is_text (context_in doc u m) ≡ true → Climbs F u (next_state doc u m)
      with_text t = let h : F u.place < F m.column.to = moved.1 t in up (omega (arith, sum))

      idle : is_some (wide_in doc u m) ≡ true → Climbs F u (next_state doc u m)
      idle i = by_bool (u.column == 1)
          (λ t. (let made : is_some (made_wide doc u.placed m.wide) ≡ true =
          subst (λ (o : Option ℤ). is_some o ≡ true)
          (if_true (u.column == 1) (made_wide doc u.placed m.wide) u.wide t) i in
          let some : 0 < total_count m.wide =
          some_wide (nat_lt 0 (float_count doc.style m.wide)) refl made in up (omega (arith, sum, le))))
          (λ n. second n)
        where
          some_wide : (b : Bool) → b ≡ nat_lt 0 (float_count doc.style m.wide) →
              is_some (made_wide doc u.placed m.wide) ≡ true → 0 < total_count m.wide
          some_wide true e h = let l : 0 < float_count doc.style m.wide =
              less_true 0 (float_count doc.style m.wide) (sym e) in
              let t : float_count doc.style m.wide ≡ total_count m.wide =
              float_total doc.style m.wide (wide_long doc u.column m f.stands.wide) in omega arith
          some_wide false e h = let z : made_wide doc u.placed m.wide ≡ None =
              if_false (nat_lt 0 (float_count doc.style m.wide)) _ None (sym e) in
              let y : is_some (made_wide doc u.placed m.wide) ≡ false = ap is_some z in absurd cc

          second : (u.column == 1) ≡ false → Climbs F u (next_state doc u m)
          second n =
              let not_one : u.column ≡ 1 → ⊥ =
              λ e. (let t : (u.column == 1) ≡ true = subst (λ (z : ℕ). (z == 1) ≡ true) (sym e) refl in
              absurd cc) in
              let low : 1 ≤ u.column = own.column.0 in
              let high : u.column ≤ doc.style.columns = own.column.1.0 in
              let full : u.column ≡ doc.style.columns =
              full_page u.column doc.style.columns low high few not_one in
              let t : (u.column == doc.style.columns) ≡ true =
              subst (λ (z : ℕ). (u.column == z) ≡ true) full (eq_refl u.column) in
              let first : (next_state doc u m).column ≡ 1 =
              if_true (u.column == doc.style.columns) 1 (u.column + 1) t in
              let one : ((next_state doc u m).column == 1) ≡ true =
              subst (λ (z : ℕ). (z == 1) ≡ true) (sym first) refl in
              record { place = le; placed = omega (arith, sum); more = inr (n, one) }

      without : is_text (context_in doc u m) ≡ false → Climbs F u (next_state doc u m)
      without n =
          let form = both_of (length m.column.picks == 0) _
          (sym (if_false (is_text (context_in doc u m)) _ _ n) ∙ f.stands.rules.well_formed) in
          elim (or_cases (nat_lt 0 (float_count doc.style m.column.top)
          && (float_count doc.style m.column.bottom == 0)) (is_idle (context_in doc u m)) form.1) [
            | inl t ↦ (let l : 0 < float_count doc.style m.column.top =
                less_true 0 (float_count doc.style m.column.top)
                (both_of (nat_lt 0 (float_count doc.style m.column.top)) _ t).0 in
                let e : float_count doc.style m.column.top ≡ total_count m.column.top =
                float_total doc.style m.column.top counts.0 in up (omega (arith, sum, le)))
            | inr t ↦
                idle (both_of ((float_count doc.style m.column.top == 0)
                && (float_count doc.style m.column.bottom == 0)) (is_some (wide_in doc u m)) t).1
          ]

module _ (doc : Document) (blocks : AllByRecursion IsBlock doc.blocks) where
  -- a column never leads to a smaller block
  pub onward : (u : State) (m : PageMove) (v : State) (c : ℤ) → IsState doc u → Follow doc u m v c →
      u.place.block ≤ v.place.block
  onward u m v c own f =
      let from : m.column.from ≡ u.place = same_place m.column.from u.place f.starts in
      let here : IsPlace doc.blocks m.column.from = subst (IsPlace doc.blocks) (sym from) own.place in
      let start : m.column.from.block ≡ u.place.block = ap (λ (at : Place). at.block) from in
      let end : v.place.block ≡ m.column.to.block = ap (λ (x : State). x.place.block) f.leads in
      elim (fit_ends doc (context_in doc u m) refl blocks here f.stands.rules.fits) [
        | inl e ↦ (let s : m.column.to.block ≡ m.column.from.block = ap (λ (at : Place). at.block) e in
            omega arith)
        | inr q ↦ later u m v start end q.past
      ]
    where
      later : (u : State) (m : PageMove) (v : State) → m.column.from.block ≡ u.place.block →
          v.place.block ≡ m.column.to.block → Past m.column.from m.column.to → u.place.block ≤ v.place.block
      later u m v start end (inl l) = omega arith
      later u m v start end (inr l) = let s : m.column.from.block ≡ m.column.to.block = l.block in omega arith
