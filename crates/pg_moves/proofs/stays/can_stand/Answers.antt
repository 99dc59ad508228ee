use Rattle.std.proofs.Common.{rules, ◌∙◌, of_z, to_z, w64}
use Rattle.std.proofs.lemmas.Int.{to_z-of_z}
use Rattle.pg_sources.specs.Document.{doc_of}
use Rattle.pg_moves.proofs.Standing.{stands_is}
use Rattle.pg_moves.proofs.stays.can_stand.Goals as goal

pub returns : goal.returns
returns c = λ u is. c.stands.ensures ∙ stands_is (doc_of c.args.sources.now) u c.args.laid.now
    (to_z w64 (of_z w64 c.args.laid.now.room.size)) c.has_top-has_floats.result is
    (to_z-of_z w64 c.args.laid.now.room.size (record { sfits = search rules })) c.has_top-has_floats.ensures
