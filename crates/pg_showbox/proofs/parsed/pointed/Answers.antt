use Rattle.std.proofs.Common.{◌∙◌, sym, ap, ℕ, List, Bor}
use Rattle.std.specs.Prelude.{Result, Ok}
use Rattle.std.specs.Option.{option_map}
use Rattle.pg_showbox.specs.declared.kinds.ListKind.{ListKind}
use Rattle.pg_showbox.specs.declared.node.Node.{Node}
use Rattle.pg_showbox.specs.declared.parsed.ParsedLine.TheVariants.{Item}
use Rattle.pg_showbox.specs.Parts.{◌>>=◌}
use Rattle.pg_showbox.proofs.PointedLines.{fault_stays, not_seen, none_seen, says_marker, says_node}
use Rattle.pg_showbox.proofs.parsed.pointed.Goals as goal

pub returns-in-Some-clause-value : goal.returns-in-Some-clause-value
returns-in-Some-clause-value c =
    let no_point = not_seen (λ (b : Bor (List ℕ)). b.now) c.skip.result _ c.is_some.result c.skip.ensures
    c.is_some.ensures c.if-is_some.false in
    c.marker.ensures.value ∙ sym (says_marker c.args.bytes.now c.in-Some.rest.now no_point
    (sym c.skip-2.ensures ∙ ap (option_map (λ (b : Bor (List ℕ)). b.now)) c.in-Some.is))

pub returns-in_err-node-clause-value : goal.returns-in_err-node-clause-value
returns-in_err-node-clause-value c =
    let no_point = not_seen (λ (b : Bor (List ℕ)). b.now) c.skip.result _ c.is_some.result c.skip.ensures
    c.is_some.ensures c.if-is_some.false in
    let no_marker = none_seen (λ (b : Bor (List ℕ)). b.now) c.skip-2.result _ c.skip-2.ensures c.in_default.not-Some in
    fault_stays c.from_residual.result (λ (node : Node). Ok (Item node)) _ c.in_err-node.field-0.0
    c.from_residual.ensures.1 c.in_err-node.ensures.value
    ∙ sym (says_node c.args.bytes.now no_point no_marker)

pub returns-clause-value : goal.returns-clause-value
returns-clause-value c =
    let no_point = not_seen (λ (b : Bor (List ℕ)). b.now) c.skip.result _ c.is_some.result c.skip.ensures
    c.is_some.ensures c.if-is_some.false in
    let no_marker = none_seen (λ (b : Bor (List ℕ)). b.now) c.skip-2.result _ c.skip-2.ensures c.in_default.not-Some in
    ap (λ (said : Result Node ListKind). said >>= (λ node. Ok (Item node))) c.in_ok-node.ensures.value
    ∙ sym (says_node c.args.bytes.now no_point no_marker)
