use Rattle.std.proofs.Common.{◌∙◌, ◌++◌, ◌∷◌, [], ap, sym, subst, arith, append-nil, List, ℤ, to_z, of_z, w32}
use Rattle.std.proofs.lemmas.Int.{to_z-of_z}
use Rattle.pg_lines.specs.Found.{IsFound}
use Rattle.pg_lines.proofs.Counted.{way_short}
use Rattle.pg_list.specs.declared.variants.Variant.{Variant}
use Rattle.law_lines.specs.Variants.{variant_of}
use Rattle.pg_lines.proofs.Found.{no_lines, no_variant, one_variant}
use Rattle.pg_lines.proofs.choice.push_variant.Goals as goal

pub lines_beyond-lines-requires : goal.lines_beyond-lines-requires
lines_beyond-lines-requires c =
    let space = c.args.space.now in
    let s = way_short space.rule.now space.items.now c.args.best.now.ends.items c.requires.best.legal in
    let f = c.requires.para.few in
    omega (arith, s, f)

pub returns-then-lines-eq0 : goal.returns-then-lines-eq0
returns-then-lines-eq0 c =
    let space = c.args.space.now in
    let same = to_z-of_z w32 c.args.looseness (record { sfits = c.ranges.looseness.sfits }) in
    sym (append-nil c.args.variants.now.items)
    ∙ ap (λ (vs : List Variant). c.args.variants.now.items ++ vs)
    (sym (no_lines space.rule.now space.items.now c.args.best.now.ends.items c.args.looseness
    (to_z w32 (of_z w32 c.args.looseness)) c.lines_beyond-lines.result same c.lines_beyond-lines.ensures
    c.if-lines-eq0.true))

pub returns-in_ok-push : goal.returns-in_ok-push
returns-in_ok-push c =
    let space = c.args.space.now in
    let best = c.args.best.now.ends.items in
    let same = to_z-of_z w32 c.args.looseness (record { sfits = c.ranges.looseness.sfits }) in
    c.in_ok-push.ensures.items
    ∙ (ap (λ (v : Variant). c.args.variants.now.items ++ v ∷ []) (c.in_ok-variant_of.ensures.value
    ∙ ap (λ (o : ℤ). variant_of space.rule.now space.items.now best o c.in-Some.way.ends.items) same)
    ∙ ap (λ (vs : List Variant). c.args.variants.now.items ++ vs)
    (sym (one_variant space.rule.now space.items.now best c.args.looseness
    (to_z w32 (of_z w32 c.args.looseness)) c.lines_beyond-lines.result c.in-Some.way same c.lines_beyond-lines.ensures
    (omega (arith, c.if-lines-eq0.false))
    (subst (IsFound space.rule.now space.items.now c.lines_beyond-lines.result) c.in-Some.is c.in_ok-way.ensures))))

pub returns-in_default : goal.returns-in_default
returns-in_default c =
    let space = c.args.space.now in
    let same = to_z-of_z w32 c.args.looseness (record { sfits = c.ranges.looseness.sfits }) in
    sym (append-nil c.args.variants.now.items)
    ∙ ap (λ (vs : List Variant). c.args.variants.now.items ++ vs)
    (sym (no_variant space.rule.now space.items.now c.args.best.now.ends.items c.args.looseness
    (to_z w32 (of_z w32 c.args.looseness)) c.lines_beyond-lines.result same c.lines_beyond-lines.ensures
    (omega (arith, c.if-lines-eq0.false))
    (subst (IsFound space.rule.now space.items.now c.lines_beyond-lines.result) c.in_default.is c.in_ok-way.ensures)))
