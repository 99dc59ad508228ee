use Rattle.std.proofs.Common.{refl, arith, rules, subst, ◌∙◌, ap, ℤ, w64}
use Rattle.std.specs.List.{AllByRecursion}
use Rattle.std.proofs.lemmas.Int.{to_z-of_z}
use Rattle.pg_list.specs.Shapes.{IsBlock}
use Rattle.pg_list.proofs.Sizes.{blocks_le}
use Rattle.pg_rules.specs.Floats.{gap_stretch}
use Rattle.pg_rules.specs.Legal.{document}
use Rattle.pg_rules.specs.Reach.{greatest_areas}
use Rattle.pg_style.specs.declared.style.Give.{Give}
use Rattle.law_walk.specs.Reached.{tallest}
use Rattle.law_walk.specs.Space.{first_ends}
use Rattle.pg_candidates.specs.Alone.{TookAlone}
use Rattle.pg_walk.specs.Blocks.{HasStart, HasWalked}
use Rattle.pg_walk.specs.Fronts.{IsAhead}
use Rattle.pg_walk.specs.Straight.{straight_candidates}
use Rattle.pg_walk.proofs.First.{has_start, tells_alone}
use Rattle.pg_walk.proofs.InRoom.{first_plain, last_alone, last_told}
use Rattle.pg_walk.proofs.ForRooms.{near_told, of_some}
use Rattle.pg_walk.proofs.place.walk_for_rooms.Goals as goal

pub walk_is_a_space-requires-clause-few : goal.walk_is_a_space-requires-clause-few
walk_is_a_space-requires-clause-few c =
    let all = subst (AllByRecursion IsBlock) c.blocks-2.ensures.blocks c.as_slice.ensures.shape in
    let long = blocks_le c.args.galley.now.blocks all in
    let limit = c.blocks-2.ensures.limit in
    omega (arith, long, limit)

pub front_behind-requires-clause-start : goal.front_behind-requires-clause-start
front_behind-requires-clause-start c =
    let doc = document c.args.galley.now c.args.style.now in
    let top = to_z-of_z w64 c.tallest.result (record { sfits = search rules }) ∙ c.tallest.ensures in
    subst (λ (z : ℤ). HasStart doc z c.args.from c.state_behind.result) top
    (has_start doc _ c.args.from c.in_ok-walked.walked c.state_behind.result c.state_behind.ensures
    c.in_ok-walked.ensures.walked)

pub reach_told-requires-clause-told : goal.reach_told-requires-clause-told
reach_told-requires-clause-told c =
    let doc = document c.args.galley.now c.args.style.now in
    let most = tallest c.args.style.now in
    let top = to_z-of_z w64 c.tallest.result (record { sfits = search rules }) ∙ c.tallest.ensures in
    let walked = subst (λ (z : ℤ). HasWalked doc z c.args.from c.in_ok-walked.walked) top c.in_ok-walked.ensures.walked in
    let start = has_start doc most c.args.from c.in_ok-walked.walked c.in_ok-walked.walked.state refl
    walked in
    tells_alone doc most c.args.from c.in_ok-walked.walked c.in_ok-walked.walked.state c.quiet_greatest-told.result
    refl c.quiet_greatest-told.ensures walked
    (last_told doc most c.args.from c.in_ok-walked.walked.state start
    (c.comes_to_choice.ensures c.if-not-comes_to_choice.true))

pub returns-then-not-comes_to_choice-clause-whole : goal.returns-then-not-comes_to_choice-clause-whole
returns-then-not-comes_to_choice-clause-whole c = λ none.
    let doc = document c.args.galley.now c.args.style.now in
    let top = to_z-of_z w64 c.tallest.result (record { sfits = search rules }) ∙ c.tallest.ensures in
    let walked = subst (λ (z : ℤ). HasWalked doc z c.args.from c.in_ok-walked.walked) top c.in_ok-walked.ensures.walked in
    let start = has_start doc (tallest c.args.style.now) c.args.from c.in_ok-walked.walked c.in_ok-walked.walked.state
    refl walked in
    let took = subst (λ (z : ℤ). TookAlone c.args.style.now c.in_ok-found.found c.first_stretch.new.found
    (first_ends doc z c.args.from)) top c.in_ok-walked.ensures.ends in
    record {
      candidates = straight_candidates doc c.args.from;
      found = c.walk_is_a_space.ensures.stretch c.args.from (tallest c.args.style.now) c.requires.place
          (last_alone doc (tallest c.args.style.now) c.args.from c.in_ok-walked.walked.state start
          (c.comes_to_choice.ensures c.if-not-comes_to_choice.true));
      tells = record {
        near = λ e. near_told c.args.galley.now c.args.style.now (greatest_areas gap_stretch c.args.style.now)
            (straight_candidates doc c.args.from) c.in_ok-found.found c.first_stretch.new.found c.into_near.result
            c.in_ok-found.ensures.galley
            (ap (λ (give : Give). give.stretch) c.in_ok-found.ensures.most ∙ c.areas_give.ensures.stretch)
            c.in_ok-found.ensures.nears (first_plain doc (tallest c.args.style.now) c.args.from) took
            (c.into_near.ensures c.args.style.now);
        straight = tt;
      };
    }

pub returns-clause-front : goal.returns-clause-front
returns-clause-front c =
    let doc = document c.args.galley.now c.args.style.now in
    let top = to_z-of_z w64 c.tallest.result (record { sfits = search rules }) ∙ c.tallest.ensures in
    let took = subst (λ (z : ℤ). TookAlone c.args.style.now c.in_ok-found.found c.first_stretch.new.found
    (first_ends doc z c.args.from)) top c.in_ok-walked.ensures.ends in
    record {
      tells = record {
        near = λ none. near_told c.args.galley.now c.args.style.now (greatest_areas gap_stretch c.args.style.now)
            (straight_candidates doc c.args.from) c.in_ok-found.found c.first_stretch.new.found c.into_near-near.result
            c.in_ok-found.ensures.galley
            (ap (λ (give : Give). give.stretch) c.in_ok-found.ensures.most ∙ c.areas_give.ensures.stretch)
            c.in_ok-found.ensures.nears (first_plain doc (tallest c.args.style.now) c.args.from) took
            (c.into_near-near.ensures c.args.style.now);
        straight = tt;
      };
      ahead = of_some c.in_ok-front.front c.in-Some.front (λ front. IsAhead doc c.args.from front.value) c.in-Some.is
          c.in_ok-front.ensures;
    }
