use Rattle.std.proofs.Common.{◌≡◌, ◌∙◌, ◌+◌, ◌++◌, ◌∷◌, [], sym, ap, arith, length, List, map, ℕ}
use Rattle.std.specs.List.{range_with_len}
use Rattle.std.proofs.lemmas.List.FromFn.{map-range_with_len_more}
use Rattle.pg_lines.specs.declared.ends.LineEnd.{LineEnd}
use Rattle.pg_lines.specs.Ends.{ends_from}
use Rattle.pg_lines.proofs.lists.LineLists.of.Goals as goal

pub places-preserved : goal.places-preserved
places-preserved c =
    let from = ends_from c.args.rule.now c.args.items.now in
    record {
      lists = c.in_ok-push.ensures.items
          ∙ ap (λ (ls : List (List LineEnd)). ls ++ c.in_ok-ends.ends ∷ []) c.places.invariant.lists
          ∙ ap (λ (ends : List LineEnd). map from (range_with_len 0 c.places.start) ++ ends ∷ []) c.in_ok-ends.ensures
          ∙ sym (map-range_with_len_more from 0 c.places.start c.places.start (omega arith));
      within = omega (arith, c.places-test.true);
    }

pub returns : goal.returns
returns c =
    let end : c.places.start ≡ length c.args.items.now + 1 =
    (let w = c.places.invariant.within in omega (arith, c.places-test.false, w)) in
    c.places.invariant.lists
    ∙ ap (λ (n : ℕ). map (ends_from c.args.rule.now c.args.items.now) (range_with_len 0 n)) end
