use Rattle.std.proofs.Common.{◌≡◌, ◌∙◌, ◌-◌, sym, ap, subst, arith, length, List, ℕ, ◌∷◌, take}
use Rattle.std.specs.Prelude.{drop}
use Rattle.std.proofs.lemmas.List.{length-take-le}
use Rattle.pg_lines.specs.declared.sizes.BoxSizes.{BoxSizes}
use Rattle.pg_lines.specs.Printed.{sizes_of, sizes_with}
use Rattle.pg_lines.proofs.Back.{front_back, one_back}
use Rattle.pg_lines.proofs.Texts.{one_size}
use Rattle.pg_lines.proofs.sizes.box_sizes.Goals as goal

pub back-preserved : goal.back-preserved
back-preserved c =
    let line = c.args.line.now in
    let rest = c.back.rest.now in
    let n = length rest - 1 in
    let long = length-take-le n rest (omega arith) in
    let more : drop (length (take n rest)) line ≡ c.last-item.result ∷ drop (length rest) line =
    ap (λ (k : ℕ). drop k line) long
    ∙ one_back line rest c.last-item.result c.back.invariant.front c.back.invariant.within c.in-len1-up.len_at_least
    c.last-item.is in
    record {
      sizes = c.grow.ensures ∙ ap (sizes_with c.last-item.result) c.back.invariant.sizes
          ∙ sym (one_size c.last-item.result (drop (length rest) line)) ∙ ap sizes_of (sym more);
      front = front_back line rest c.back.invariant.front;
      within = omega (arith, long, c.back.invariant.within);
    }

pub returns : goal.returns
returns c =
    let none : length c.back.rest.now ≡ 0 = omega (arith, c.in_default.len_below) in
    c.back.invariant.sizes ∙ ap (λ (k : ℕ). sizes_of (drop k c.args.line.now)) none
