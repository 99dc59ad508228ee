use Rattle.std.proofs.Common.{rules, sym, subst, ◌∙◌, ℤ, None, w64}
use Rattle.std.specs.Prelude.{Ok}
use Rattle.std.proofs.lemmas.Int.{to_z-of_z}
use Rattle.pg_judge.specs.Judged.{JudgesColumn}
use Rattle.pg_judge.proofs.Columns.{breaks_none, breaks_room, breaks_shape, is_column_is, is_formed_is}
use Rattle.pg_judge.proofs.judged.judge_floats.Goals as goal

pub returns-then-not-is_formed : goal.returns-then-not-is_formed
returns-then-not-is_formed c = λ it s k seat.
    let formed = is_formed_is c.args.style.now c.args.column.now c.args.seat.now c.args.slots
    c.count_floats-top.result c.as_slice.result.now c.requires.slots c.as_slice.ensures c.count_floats-top.ensures
    c.requires.text it s k seat c.count_floats-bottom.result c.as_slice-3.result.now c.as_slice-2.result.now
    c.as_slice-3.ensures c.as_slice-2.ensures c.count_floats-bottom.ensures c.is_formed.result c.is_formed.ensures in
    breaks_shape c.args.style.now c.args.column.now c.args.seat.now c.args.slots
    c.count_floats-top.result c.as_slice.result.now c.requires.slots c.as_slice.ensures c.count_floats-top.ensures
    c.requires.text it s k seat (sym formed ∙ c.if-not-is_formed.true)

pub returns-then-not-has_column : goal.returns-then-not-has_column
returns-then-not-has_column c = λ it s k seat.
    let formed = is_formed_is c.args.style.now c.args.column.now c.args.seat.now c.args.slots
    c.count_floats-top.result c.as_slice.result.now c.requires.slots c.as_slice.ensures c.count_floats-top.ensures
    c.requires.text it s k seat c.count_floats-bottom.result c.as_slice-3.result.now c.as_slice-2.result.now
    c.as_slice-3.ensures c.as_slice-2.ensures c.count_floats-bottom.ensures c.is_formed.result c.is_formed.ensures in
    let fits = is_column_is c.args.style.now c.args.column.now c.args.seat.now c.args.slots
    c.count_floats-top.result c.as_slice.result.now c.requires.slots c.as_slice.ensures c.count_floats-top.ensures
    c.requires.text it s k seat c.has_column.result c.has_column.ensures in
    breaks_room c.args.style.now c.args.column.now c.args.seat.now c.args.slots
    c.count_floats-top.result c.as_slice.result.now c.requires.slots c.as_slice.ensures c.count_floats-top.ensures
    c.requires.text it s k seat (sym formed ∙ c.if-not-is_formed.false) (sym fits ∙ c.if-not-has_column.true)

pub returns : goal.returns
returns c = λ it s k seat.
    let formed = is_formed_is c.args.style.now c.args.column.now c.args.seat.now c.args.slots
    c.count_floats-top.result c.as_slice.result.now c.requires.slots c.as_slice.ensures c.count_floats-top.ensures
    c.requires.text it s k seat c.count_floats-bottom.result c.as_slice-3.result.now c.as_slice-2.result.now
    c.as_slice-3.ensures c.as_slice-2.ensures c.count_floats-bottom.ensures c.is_formed.result c.is_formed.ensures in
    let fits = is_column_is c.args.style.now c.args.column.now c.args.seat.now c.args.slots
    c.count_floats-top.result c.as_slice.result.now c.requires.slots c.as_slice.ensures c.count_floats-top.ensures
    c.requires.text it s k seat c.has_column.result c.has_column.ensures in
    let z = sym c.demerits_of.ensures ∙ sym (to_z-of_z w64 c.demerits_of.result (record { sfits = search rules })) in
    subst (λ (z : ℤ). JudgesColumn it (Ok (record { demerits = z; fitness = None }))) z
    (breaks_none c.args.style.now c.args.column.now c.args.seat.now c.args.slots
    c.count_floats-top.result c.as_slice.result.now c.requires.slots c.as_slice.ensures c.count_floats-top.ensures
    c.requires.text it s k seat (sym formed ∙ c.if-not-is_formed.false) (sym fits ∙ c.if-not-has_column.false))
