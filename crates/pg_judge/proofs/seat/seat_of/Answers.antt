use Rattle.std.proofs.Common.{rules, sym, subst, ap, ◌∙◌, ◌<◌, ◌^◌, ℤ, w64}
use Rattle.std.specs.Prelude.{nat_abs, not}
use Rattle.std.proofs.lemmas.Int.{to_z-of_z}
use Rattle.pg_style.specs.declared.style.Give.{Give}
use Rattle.pg_floats.specs.Given.{IsAreaHeight}
use Rattle.pg_judge.proofs.Seating.{bottom_height_is, gives_small, is_seat, top_height_is, wide_is}
use Rattle.pg_judge.proofs.seat.seat_of.Goals as goal

pub returns-clause-heights : goal.returns-clause-heights
returns-clause-heights c =
    let are = c.requires.list.floats in
    let full = sym (to_z-of_z w64 c.full_height.result (record { sfits = search rules })) in
    let wide = sym (to_z-of_z w64 c.unwrap_or.result (record { sfits = search rules })) in
    let top = sym (to_z-of_z w64 c.top_area.result (record { sfits = search rules })) in
    let bottom = sym (to_z-of_z w64 c.bottom_area.result (record { sfits = search rules })) in
    let blocks = c.args.basis.now.galley.now.blocks in
    let gives = gives_small c.args.basis.now.galley.now c.args.basis.now.style.now c.args.basis.now.list.now c.requires.list c.stays_in_range.ensures
    (not c.is_same_place-is_text.result) c.is_top_allowed-is_top_allowed.result
    c.is_bottom_allowed-is_bottom_allowed.result c.args.step.now.column.now c.args.counted.now.before c.args.counted.now.below
    c.top_give-top_give.result c.bottom_give-bottom_give.result c.is_top_allowed-is_top_allowed.ensures
    c.is_bottom_allowed-is_bottom_allowed.ensures (c.top_give-top_give.ensures.stretch blocks are)
    (c.top_give-top_give.ensures.shrink blocks are) (c.bottom_give-bottom_give.ensures.stretch blocks are)
    (c.bottom_give-bottom_give.ensures.shrink blocks are) in
    record {
      full = subst (λ (z : ℤ). nat_abs z < 2 ^ 33) full c.full_height.ensures.size;
      wide = subst IsAreaHeight (sym c.unwrap_or.ensures ∙ wide) (wide_is c.args.wide c.requires.wide);
      top = subst IsAreaHeight top (top_height_is c.args.basis.now.galley.now c.args.basis.now.style.now c.args.basis.now.list.now c.requires.list
          c.stays_in_range.ensures (not c.is_same_place-is_text.result) c.is_top_allowed-is_top_allowed.result
          c.args.counted.now.before c.args.step.now.column.now.top c.top_area.result c.is_top_allowed-is_top_allowed.ensures
          (c.top_area.ensures c.args.basis.now.galley.now.blocks are));
      bottom = subst IsAreaHeight bottom (bottom_height_is c.args.basis.now.galley.now c.args.basis.now.style.now c.args.basis.now.list.now
          c.requires.list c.stays_in_range.ensures (not c.is_same_place-is_text.result)
          c.is_bottom_allowed-is_bottom_allowed.result c.args.counted.now.below c.args.step.now.column.now.bottom c.bottom_area.result
          c.is_bottom_allowed-is_bottom_allowed.ensures (c.bottom_area.ensures c.args.basis.now.galley.now.blocks are));
      stretch = subst (λ (give : Give). nat_abs give.stretch < 2 ^ 40) (sym c.plus.ensures.value) gives.0;
      shrink = subst (λ (give : Give). nat_abs give.shrink < 2 ^ 40) (sym c.plus.ensures.value) gives.1;
    }

pub returns-clause-seat : goal.returns-clause-seat
returns-clause-seat c = λ placed e f.
    let are = c.requires.list.floats in
    let full = to_z-of_z w64 c.full_height.result (record { sfits = search rules }) in
    let wide = to_z-of_z w64 c.unwrap_or.result (record { sfits = search rules }) in
    let top = to_z-of_z w64 c.top_area.result (record { sfits = search rules }) in
    let bottom = to_z-of_z w64 c.bottom_area.result (record { sfits = search rules }) in
    let blocks = c.args.basis.now.galley.now.blocks in
    is_seat c.args.basis.now.galley.now c.args.basis.now.style.now c.args.basis.now.list.now c.requires.list c.stays_in_range.ensures c.args.step.now.column.now
    c.args.step.now.run c.args.wide placed c.args.counted.now.before c.args.counted.now.below _ (record {
      top = c.top_give-top_give.result;
      bottom = c.bottom_give-bottom_give.result;
      whole = c.plus.ensures.value;
      top_stretch = c.top_give-top_give.ensures.stretch blocks are;
      top_shrink = c.top_give-top_give.ensures.shrink blocks are;
      bottom_stretch = c.bottom_give-bottom_give.ensures.stretch blocks are;
      bottom_shrink = c.bottom_give-bottom_give.ensures.shrink blocks are;
    }) e f (ap not c.is_same_place-is_text.ensures)
    c.is_top_allowed-is_top_allowed.ensures c.is_bottom_allowed-is_bottom_allowed.ensures c.is_some.ensures
    (full ∙ c.full_height.ensures.value) (wide ∙ c.unwrap_or.ensures)
    (top ∙ c.top_area.ensures c.args.basis.now.galley.now.blocks are) (bottom ∙ c.bottom_area.ensures c.args.basis.now.galley.now.blocks are)
