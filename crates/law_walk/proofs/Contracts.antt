-- The laws in the form of their contracts.
use Rattle.std.proofs.Common.{inl, inr, ◌≤◌, ◌^◌, List, [], ◌∷◌, length}
use Rattle.std.specs.List.{AllByRecursion}
use Rattle.pg_list.specs.Shapes.{IsBlock}
use Rattle.pg_rules.specs.Room.{Document}
use Rattle.pg_style.specs.Ranges.{IsStyle}
use Rattle.pg_column.specs.declared.cost.TextRoom.{TextRoom}
use Rattle.law_walk.specs.Candidates.{ends_in_each}
use Rattle.law_walk.specs.Laws.{AreEndsInEach, AreUpTo, CandidatesGiveEnds, CandidatesServeRooms, LabelsSuffice, LabelsTellReach, StretchSuffices, StretchTellsReach, WalkFindsCandidates, WalkIsSpace, WalkTellsReach}
use Rattle.law_walk.proofs.Ends.{best_are_ends, candidates_give_ends}
use Rattle.law_walk.proofs.Reach.{reach_is, stretch_alone, stretch_tells}
use Rattle.law_walk.proofs.ReachLabels.{labels_tell_reach}
use Rattle.law_walk.proofs.Sound.{sound}
use Rattle.law_walk.proofs.SpaceLaws.{walk_lawful}
use Rattle.law_walk.proofs.Tables.{end_suffices, labels_suffice, stretch_suffices}
use Rattle.law_walk.proofs.Whole.{listed}
use Rattle.law_walk.proofs.Covering.{covers_itself}

module _ (doc : Document) (all : AllByRecursion IsBlock doc.blocks) where
  pub give_ends : IsStyle doc.style → CandidatesGiveEnds doc
  give_ends is-style from top height cs ends lower cands best =
      best_are_ends doc from top height cs ends all is-style lower cands best

  pub serve_rooms : IsStyle doc.style → CandidatesServeRooms doc
  serve_rooms is-style from top rooms cs upto cands = by rooms upto
    where
      by : (rooms : List TextRoom) → AreUpTo top rooms → AreEndsInEach doc from rooms (ends_in_each doc rooms cs)
      by [] u = tt
      by (height ∷ rooms) u = (candidates_give_ends doc from top height cs all is-style u.0 cands, by rooms u.1)

  pub is_space : length doc.blocks ≤ 2 ^ 20 → WalkIsSpace doc
  is_space few top start own eq decides reflexive = walk_lawful doc all few top start own eq decides reflexive

  pub suffice : LabelsSuffice doc
  suffice from top start es cs at begins table those = labels_suffice doc top all from at start begins es table cs those

  pub stretch : StretchSuffices doc
  stretch from top at (inl stopped) = stretch_suffices doc top all from at stopped
  stretch from top at (inr last) = end_suffices doc top all from at last

  pub tells_reach : IsStyle doc.style → WalkTellsReach doc
  tells_reach is-style from at = reach_is doc all is-style from at

  pub labels_reach : IsStyle doc.style → LabelsTellReach doc
  labels_reach is-style from start es n at begins table greatest =
      labels_tell_reach doc all is-style from at start begins es table n greatest

  pub stretch_reach : IsStyle doc.style → StretchTellsReach doc
  stretch_reach is-style from at (inl stopped) = stretch_tells doc all is-style from at stopped
  stretch_reach is-style from at (inr last) = stretch_alone doc all is-style from at last

  pub finds_candidates : WalkFindsCandidates doc
  finds_candidates from top at = record {
    sound = λ c m. sound doc top all from at c m;
    whole = λ c is usable. record {
      candidate = c;
      listed = listed doc top all from at c is usable;
      covers = covers_itself c;
    };
  }
