-- The laws in the form of their contracts.
use Rattle.std.proofs.Common.{List}
use Rattle.std.specs.List.{AllByRecursion}
use Rattle.pg_list.specs.Shapes.{IsBlock}
use Rattle.pg_list.specs.declared.blocks.Block.{Block}
use Rattle.law_places.specs.PlaceLaws.{CalloutsAreAmongAll, LeadsGoOn, PlacesBehindHaveMore}
use Rattle.law_places.proofs.Callouts.{few_in_all}
use Rattle.law_places.proofs.Measures.{called_grows, far_rises, past_within}
use Rattle.law_places.proofs.Places.{ends_at}
use Rattle.law_places.proofs.Steps.{steps_far}

module _ (blocks : List Block) (each : AllByRecursion IsBlock blocks) where
  pub leads_go_on : LeadsGoOn blocks
  leads_go_on from to picks n l =
      record {
        behind = ends_at blocks from to picks n each l.place l.named l.steps;
        farther =
            steps_far blocks from to picks n l.place l.steps;
      }

  pub behind_have_more : PlacesBehindHaveMore blocks
  behind_have_more from to p q =
      record {
        items = far_rises blocks from to p q (past_within blocks from to q);
        callouts =
            λ number. called_grows number blocks from to each p q;
      }

  pub among_all : CalloutsAreAmongAll blocks
  among_all at number = few_in_all blocks each number at
