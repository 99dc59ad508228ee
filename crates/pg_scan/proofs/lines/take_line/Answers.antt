use Rattle.std.proofs.Common.{◌≡◌, ◌∙◌, ◌+◌, ap, sym, arith, List, ℕ, ◌++◌, Bool}
use Rattle.pg_scan.specs.Lines.{raw_lines, joined}
use Rattle.pg_scan.proofs.LineLemmas.{with_rest, first_part, next_part, no_part, raw_count}
use Rattle.pg_scan.proofs.lines.take_line.Goals as goal

pub parts-init : goal.parts-init
parts-init c =
    let line_is : c.extend_from_slice.new.self.items ≡ c.without_returns-part.result.now =
    cc (c.in_ok-extend_from_slice.ensures.items, c.clear.ensures.items) in
    let count = raw_count c.args.text.now c.in-Some.after.now c.in-Some.part.now c.in-Some.ensures.lines in
    record {
      said = first_part c.args.wrap c.args.number c.args.text.now c.in-Some.after.now c.in-Some.part.now
          c.without_returns-part.result.now c.is_full-open.result
          c.in-Some.ensures.lines c.without_returns-part.ensures c.is_full-open.ensures
          ∙ ap (λ (line : List ℕ). with_rest c.is_full-open.result c.args.number line
          (joined c.args.wrap (c.args.number + 1) (raw_lines c.in-Some.after.now))) (sym line_is);
      count = omega arith;
      shorter = c.in-Some.ensures.shorter;
      room = let shorter = c.in-Some.ensures.shorter in omega arith;
    }

pub returns-in_default-split_line-clause-line : goal.returns-in_default-split_line-clause-line
returns-in_default-split_line-clause-line c =
    c.parts.invariant.said
    ∙ ap (λ (full : Bool). with_rest full c.args.number c.parts.line.items
    (joined c.args.wrap c.parts.next (raw_lines c.parts.rest.now))) c.parts-test.true
    ∙ no_part c.args.wrap c.args.number c.parts.next c.parts.line.items c.parts.rest.now
    c.in_default-split_line.ensures.lines

pub parts-preserved : goal.parts-preserved
parts-preserved c =
    let line_is : c.extend_from_slice-in-parts.new.self.items ≡ c.parts.line.items
    ++ c.without_returns-part-in-parts.result.now = c.in_ok-extend_from_slice-2.ensures.items in
    let count = raw_count c.parts.rest.now c.in-Some-split_line.after.now c.in-Some-split_line.part.now
    c.in-Some-split_line.ensures.lines in
    let shorter = c.in-Some-split_line.ensures.shorter in
    record {
      said = c.parts.invariant.said
          ∙ ap (λ (full : Bool). with_rest full c.args.number c.parts.line.items
          (joined c.args.wrap c.parts.next (raw_lines c.parts.rest.now))) c.parts-test.true
          ∙ next_part c.args.wrap c.args.number c.parts.next c.parts.line.items c.parts.rest.now
          c.in-Some-split_line.after.now c.in-Some-split_line.part.now c.without_returns-part-in-parts.result.now
          c.is_full-open-in-parts.result
          c.in-Some-split_line.ensures.lines c.without_returns-part-in-parts.ensures c.is_full-open-in-parts.ensures
          ∙ ap (λ (line : List ℕ). with_rest c.is_full-open-in-parts.result c.args.number line
          (joined c.args.wrap (c.parts.next + 1) (raw_lines c.in-Some-split_line.after.now))) (sym line_is);
      count = omega arith;
      shorter = omega arith;
      room = omega arith;
    }
