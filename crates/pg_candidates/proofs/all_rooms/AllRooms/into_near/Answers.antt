use Rattle.std.proofs.Common.{ap, map, rc_value}
use Rattle.pg_rules.specs.Legal.{document}
use Rattle.pg_candidates.proofs.Alone.{near_alone}
use Rattle.pg_candidates.proofs.all_rooms.AllRooms.into_near.Goals as goal

pub returns : goal.returns
returns c = λ style cs plain are.
    near_alone (document c.args.self.galley.now style) c.args.self.most.stretch cs _ c.args.self.nears.items
    (ap (map rc_value) c.new.ensures.items) plain are
