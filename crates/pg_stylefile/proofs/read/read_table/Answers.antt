use Rattle.std.proofs.Common.{◌≡◌, ◌∙◌, sym, ap, subst, rules, to_z, of_z, to_z-of_z, w32, ℤ, Ok}
use Rattle.pg_style.specs.Values.{StyleValue}
use Rattle.pg_stylefile.specs.Style.{AreRules, style_of}
use Rattle.pg_stylefile.proofs.read.read_table.Goals as goal

pub style_from-requires-clause-rules : goal.style_from-requires-clause-rules
style_from-requires-clause-rules c =
    let height = c.in_ok-root.root.lengths.height in
    let same : to_z w32 (of_z w32 height) ≡ height = to_z-of_z {w = w32} {z = height} (record { sfits = search rules }) in
    subst (λ (z : ℤ). AreRules c.in_ok-root.root.head.version z c.in_ok-rules.rules) same c.in_ok-rules.ensures.range

pub returns : goal.returns
unfolding style_of
returns c =
    let height = c.in_ok-root.root.lengths.height in
    let same : to_z w32 (of_z w32 height) ≡ height = to_z-of_z {w = w32} {z = height} (record { sfits = search rules }) in
    rw (c.in_ok-root.ensures.value, rw same at c.in_ok-rules.ensures.value)
    (ap (λ (style : StyleValue). Ok style) (sym c.style_from.ensures))
