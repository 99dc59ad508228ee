use Rattle.std.proofs.Common.{◌≡◌, ◌+◌, sym, subst, length, List, ℕ}
use Rattle.std.specs.Prelude.{IfOk}
use Rattle.pg_rules.specs.Floats.{entry, float_numbers, plus_counts as the_plus_counts}
use Rattle.pg_layouts.proofs.Areas.{slots_long}
use Rattle.pg_layouts.specs.Fit.{Fit}
use Rattle.pg_rooms.proofs.Undealt.{none_in, on_long, plus_none}
use Rattle.pg_rooms.proofs.laid.plus.Goals as goal

pub plus_counts-requires-clause-slots : goal.plus_counts-requires-clause-slots
plus_counts-requires-clause-slots c = c.slots.ensures.value

pub plus_counts-requires-clause-fit : goal.plus_counts-requires-clause-fit
plus_counts-requires-clause-fit c = subst (λ (a : List ℕ). Fit a c.as_slice-2.result.now) (sym c.as_slice.ensures)
    (subst (λ (b : List ℕ). Fit c.args.a.now b) (sym c.as_slice-2.ensures) c.requires.there.fits)

pub has_floats-requires : goal.has_floats-requires
has_floats-requires c = c.requires.there.long

pub returns-then-not-has_floats-clause-value : goal.returns-then-not-has_floats-clause-value
returns-then-not-has_floats-clause-value c = subst (λ (sum : List ℕ). IfOk c.copy.result (λ counts. counts ≡ sum))
    (sym (plus_none c.args.sources.now.style.now c.args.a.now c.args.b.now c.requires.long
    (none_in c.args.b.now c.has_floats.result c.has_floats.ensures c.if-not-has_floats.true))) c.copy.ensures

pub returns-then-not-has_floats-clause-long : goal.returns-then-not-has_floats-clause-long
returns-then-not-has_floats-clause-long c = on_long c.copy.result (length (float_numbers c.args.sources.now.style.now))
    c.args.a.now c.requires.long c.copy.ensures

pub returns-clause-long : goal.returns-clause-long
returns-clause-long c =
    let style = c.args.sources.now.style.now in
    on_long c.plus_counts.result (length (float_numbers style)) (the_plus_counts style c.as_slice.result.now c.as_slice-2.result.now)
    (slots_long style (λ (slot : ℕ). entry c.as_slice.result.now slot + entry c.as_slice-2.result.now slot))
    c.plus_counts.ensures

pub returns-clause-value : goal.returns-clause-value
returns-clause-value c = subst (λ (a : List ℕ). IfOk c.plus_counts.result (λ counts. counts
    ≡ the_plus_counts c.args.sources.now.style.now a c.args.b.now)) c.as_slice.ensures
    (subst (λ (b : List ℕ). IfOk c.plus_counts.result (λ counts. counts
    ≡ the_plus_counts c.args.sources.now.style.now c.as_slice.result.now b)) c.as_slice-2.ensures c.plus_counts.ensures)
