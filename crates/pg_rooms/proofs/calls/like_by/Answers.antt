use Rattle.std.proofs.Common.{subst}
use Rattle.pg_list.specs.declared.galley.Place.{Place}
use Rattle.pg_rooms.specs.Calls.{IsLike}
use Rattle.pg_rooms.proofs.calls.like_by.Goals as goal

pub returns : goal.returns
returns c = λ doc like.
    subst (λ (at : Place). IsLike doc c.args.call.like at) (c.is_same.ensures c.if-not-is_same.false) like
