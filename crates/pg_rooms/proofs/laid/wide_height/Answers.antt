use Rattle.std.proofs.Common.{rules, sym, ap, subst, ◌∙◌, ◌<◌, ◌^◌, true, false, Some, ℤ, w64}
use Rattle.std.specs.Prelude.{nat_abs}
use Rattle.std.proofs.lemmas.Int.{to_z-of_z}
use Rattle.pg_sources.specs.Document.{doc_of}
use Rattle.pg_rooms.proofs.LaidLemmas.{kept_small, wide_first, wide_kept}
use Rattle.pg_rooms.proofs.laid.wide_height.Goals as goal

pub returns-then-state-ne1-clause-value : goal.returns-then-state-ne1-clause-value
returns-then-state-ne1-clause-value c =
    wide_kept (doc_of c.args.sources.now) c.args.state.now c.args.wide.now c.if-state-ne1.true

pub returns-then-state-ne1-clause-size : goal.returns-then-state-ne1-clause-size
returns-then-state-ne1-clause-size c = kept_small c.args.state.now.column c.args.state.now.wide c.requires.own.wide

pub has_floats-requires : goal.has_floats-requires
has_floats-requires c = c.requires.there.long

pub wide_area-requires : goal.wide_area-requires
wide_area-requires c = c.requires.there

pub returns-then-has_floats-clause-value : goal.returns-then-has_floats-clause-value
returns-then-has_floats-clause-value c =
    ap (λ (z : ℤ). Some z) (to_z-of_z w64 c.wide_area.result (record { sfits = search rules }) ∙ c.wide_area.ensures.value)
    ∙ wide_first (doc_of c.args.sources.now) c.args.state.now c.args.wide.now true c.if-state-ne1.false
    (sym c.if-has_floats.true ∙ c.has_floats.ensures)

pub returns-then-has_floats-clause-size : goal.returns-then-has_floats-clause-size
returns-then-has_floats-clause-size c = subst (λ (z : ℤ). nat_abs z < 2 ^ 34)
    (sym (to_z-of_z w64 c.wide_area.result (record { sfits = search rules }))) c.wide_area.ensures.size

pub returns-else-has_floats-clause-value : goal.returns-else-has_floats-clause-value
returns-else-has_floats-clause-value c = wide_first (doc_of c.args.sources.now) c.args.state.now c.args.wide.now false
    c.if-state-ne1.false (sym c.if-has_floats.false ∙ c.has_floats.ensures)
