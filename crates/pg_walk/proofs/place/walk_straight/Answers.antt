use Rattle.std.proofs.Common.{refl, subst, ◌∙◌, arith}
use Rattle.std.specs.List.{AllByRecursion}
use Rattle.pg_list.specs.Shapes.{IsBlock}
use Rattle.pg_list.proofs.Sizes.{blocks_le}
use Rattle.pg_rules.specs.Legal.{document}
use Rattle.law_walk.specs.Reached.{tallest}
use Rattle.pg_walk.specs.Straight.{straight_candidates}
use Rattle.pg_walk.proofs.First.{has_start}
use Rattle.pg_walk.proofs.InRoom.{last_alone}
use Rattle.pg_walk.proofs.place.walk_straight.Goals as goal

pub walk_is_a_space-requires-clause-few : goal.walk_is_a_space-requires-clause-few
walk_is_a_space-requires-clause-few c =
    let all = subst (AllByRecursion IsBlock) c.blocks-2.ensures.blocks c.as_slice.ensures.shape in
    let long = blocks_le c.args.galley.now.blocks all in
    let limit = c.blocks-2.ensures.limit in
    omega (arith, long, limit)

pub returns-then-not-comes_to_choice-clause-whole : goal.returns-then-not-comes_to_choice-clause-whole
returns-then-not-comes_to_choice-clause-whole c = λ none.
    let doc = document c.args.galley.now c.args.style.now in
    let top = tallest c.args.style.now in
    let start = has_start doc top c.args.from c.in_ok-straight.field-0.walked c.in_ok-straight.field-0.walked.state refl
    c.in_ok-straight.ensures.walked in
    record {
      candidates = straight_candidates doc c.args.from;
      found = c.walk_is_a_space.ensures.stretch c.args.from top c.requires.place
          (last_alone doc top c.args.from c.in_ok-straight.field-0.walked.state start
          (c.comes_to_choice.ensures c.if-not-comes_to_choice.true));
      tells = record {
        near = λ e. absurd cc;
        straight = (
          c.none-near.ensures,
          (
            refl,
            (
              c.in_ok-straight.ensures.room ∙ c.tallest_room.ensures.value,
              c.in_ok-straight.ensures.ends,
            ),
          ),
        );
      };
    }
