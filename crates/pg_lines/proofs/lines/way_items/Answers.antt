use Rattle.std.proofs.Common.{◌∙◌, ◌++◌, ◌-◌, ap, sym, arith, length, append-nil, List, ℕ, true}
use Rattle.std.specs.Prelude.{reverse}
use Rattle.std.proofs.lemmas.List.{length-take}
use Rattle.pg_lemmas.proofs.Lists.{no_items}
use Rattle.pg_list.specs.declared.item.Item.{Item}
use Rattle.pg_lines.specs.Set.{set_ends}
use Rattle.pg_lines.proofs.Setting.{set_further, way_is_set}
use Rattle.pg_lines.proofs.lines.way_items.Goals as goal

pub lines-init : goal.lines-init
lines-init c = record {
  set = ap (λ (xs : List Item). xs
      ++ set_ends c.args.rule.now c.args.items.now true 0 (reverse c.args.ends.now)) c.new-out.ensures
      ∙ way_is_set c.args.rule.now c.args.items.now c.args.ends.now;
  within = omega arith;
}

pub lines-preserved : goal.lines-preserved
lines-preserved c = record {
  set = set_further c.args.rule.now c.args.items.now c.lines.is_first c.lines.start 0 c.lines.out c.push_line.new.out _
      c.line_between-line.result.now c.lines.rest.now c.in-len1-up.len_at_least c.line_between-line.ensures.line
      c.in_ok-push_line.ensures c.lines.invariant.set;
  within = (let t = length-take (length c.lines.rest.now - 1) c.lines.rest.now in
      let w = c.lines.invariant.within in omega (arith, t, w));
}

pub returns : goal.returns
returns c = sym (append-nil c.lines.out)
    ∙ (ap (λ (ks : List ℕ). c.lines.out
    ++ set_ends c.args.rule.now c.args.items.now c.lines.is_first c.lines.start (reverse ks))
    (sym (no_items c.lines.rest.now (omega (arith, c.in_default.len_below)))) ∙ c.lines.invariant.set)
