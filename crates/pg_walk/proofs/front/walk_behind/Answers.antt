use Rattle.std.proofs.Common.{rules, sym, subst, ◌∙◌, List, [], ℤ, w64}
use Rattle.std.proofs.lemmas.Int.{to_z-of_z}
use Rattle.pg_rules.specs.Legal.{document}
use Rattle.law_walk.specs.Candidates.{Candidate}
use Rattle.law_walk.specs.Reached.{tallest}
use Rattle.pg_candidates.specs.Nears.{AreNear}
use Rattle.pg_walk.specs.Collected.{Collects}
use Rattle.pg_walk.specs.Meaning.{IsOwn}
use Rattle.pg_walk.proofs.front.walk_behind.Goals as goal

pub collect-requires-clause-own : goal.collect-requires-clause-own
collect-requires-clause-own c =
    let top = to_z-of_z w64 c.tallest.result (record { sfits = search rules }) ∙ c.tallest.ensures in
    subst (λ (z : ℤ). IsOwn (document c.args.galley.now c.args.style.now) z c.args.base) (sym top) c.requires.own

pub returns-clause-right : goal.returns-clause-right
returns-clause-right c =
    let doc = document c.args.galley.now c.args.style.now in
    let top = to_z-of_z w64 c.tallest.result (record { sfits = search rules }) ∙ c.tallest.ensures in
    record {
      candidates = c.collect.new.found;
      are = record {
        ends = subst (λ (xs : List Candidate). Collects doc (tallest doc.style) c.args.base xs c.collect.new.found)
            c.in_ok-found.ensures
            (subst (λ (z : ℤ). Collects doc z c.args.base c.in_ok-found.found c.collect.new.found) top
            c.in_ok-collect.ensures);
        near = subst (λ (most : ℤ). AreNear doc most c.collect.new.found c.in_ok-near.near)
            c.areas_give.ensures.stretch c.in_ok-near.ensures;
      };
    }
