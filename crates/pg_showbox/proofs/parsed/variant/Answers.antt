use Rattle.std.proofs.Common.{◌≡◌, ◌∙◌, sym, ap, arith, rules, true, false, ℕ, List, Bor, ℤ, w32, w64, to_z, of_z}
use Rattle.std.specs.Prelude.{nat_abs, codes, Ok}
use Rattle.std.specs.Str.{bytes_eq}
use Rattle.std.specs.Option.{option_map}
use Rattle.std.proofs.lemmas.Int.{ints}
use Rattle.pg_showbox.specs.declared.parsed.ParsedLine.TheVariants.{VariantMark}
use Rattle.pg_showbox.proofs.PointedLines.{at_fault, none_seen}
use Rattle.pg_showbox.proofs.VariantLines.{no_looseness, no_space, no_demerits, not_closed, says_variant}
use Rattle.pg_showbox.proofs.parsed.variant.Goals as goal

pub returns-in_err-looseness-clause-value : goal.returns-in_err-looseness-clause-value
returns-in_err-looseness-clause-value c = at_fault c.from_residual.result _ c.from_residual.ensures.1
    ∙ sym (no_looseness c.args.bytes.now _ c.in_err-looseness.ensures.value)

pub returns-in_default-clause-value : goal.returns-in_default-clause-value
returns-in_default-clause-value c = sym (no_space c.args.bytes.now c.in_ok-looseness.looseness
    c.in_ok-looseness.rest.now c.in_ok-looseness.ensures.value
    (none_seen (λ (b : Bor (List ℕ)). b.now) c.skip.result _ c.skip.ensures c.in_default.not-Some))

pub returns-in_err-demerits-clause-value : goal.returns-in_err-demerits-clause-value
returns-in_err-demerits-clause-value c =
    let space = sym c.skip.ensures ∙ ap (option_map (λ (b : Bor (List ℕ)). b.now)) c.in-Some.is in
    at_fault c.from_residual-in_err-demerits.result _ c.from_residual-in_err-demerits.ensures.1
    ∙ sym (no_demerits c.args.bytes.now c.in_ok-looseness.looseness c.in_ok-looseness.rest.now
    c.in_ok-looseness.ensures.value c.in-Some.rest.now space _ c.in_err-demerits.ensures.value)

pub returns-then-ne-clause-value : goal.returns-then-ne-clause-value
returns-then-ne-clause-value c =
    let space = sym c.skip.ensures ∙ ap (option_map (λ (b : Bor (List ℕ)). b.now)) c.in-Some.is in
    let unclosed : bytes_eq c.in_ok-demerits.rest.now (codes "}") ≡ false = search rules in
    sym (not_closed c.args.bytes.now c.in_ok-looseness.looseness c.in_ok-looseness.rest.now
    c.in_ok-looseness.ensures.value c.in-Some.rest.now space c.in_ok-demerits.demerits c.in_ok-demerits.rest.now
    c.in_ok-demerits.ensures.value unclosed)

pub returns-clause-value : goal.returns-clause-value
returns-clause-value c =
    let space = sym c.skip.ensures ∙ ap (option_map (λ (b : Bor (List ℕ)). b.now)) c.in-Some.is in
    let closed : bytes_eq c.in_ok-demerits.rest.now (codes "}") ≡ true = search rules in
    let l = c.in_ok-looseness.looseness in
    let d = c.in_ok-demerits.demerits in
    let low = c.in_ok-looseness.ensures.range.0 in
    let high = c.in_ok-looseness.ensures.range.1 in
    let least = c.in_ok-demerits.ensures.range.0 in
    let most = c.in_ok-demerits.ensures.range.1 in
    let looseness : to_z w32 (of_z w32 (to_z w64 (of_z w64 l))) ≡ l = omega (arith, ints) in
    let demerits : to_z w64 (of_z w64 d) ≡ d = omega (arith, ints) in
    ap (λ (z : ℤ). Ok (VariantMark z (nat_abs (to_z w64 (of_z w64 d))))) looseness
    ∙ ap (λ (z : ℤ). Ok (VariantMark l (nat_abs z))) demerits
    ∙ sym (says_variant c.args.bytes.now l c.in_ok-looseness.rest.now c.in_ok-looseness.ensures.value
    c.in-Some.rest.now space d c.in_ok-demerits.rest.now c.in_ok-demerits.ensures.value closed)
