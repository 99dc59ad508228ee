use Rattle.std.proofs.Common.{◌∙◌, ap, Option, subst, sym, ◌≡◌, refl, true}
use Rattle.std.proofs.lemmas.Result.{on_ok_weaker}
use Rattle.pg_sources.specs.Document.{doc_of}
use Rattle.pg_rooms.specs.PlaceEnds.{behind_candidates, has_behind}
use Rattle.pg_rooms.specs.declared.behind.Behind.{Behind}
use Rattle.pg_rooms.proofs.Kept.{AreBehind, same_candidates}
use Rattle.pg_rooms.proofs.left.ask_behind.Goals as goal

pub returns-in-Some-clause-right : goal.returns-in-Some-clause-right
returns-in-Some-clause-right c = on_ok_weaker c.add_behind.result (λ right cs page calls are.
    right cs page calls (subst (AreBehind (doc_of c.args.sources.now) cs) c.in-Some.is are)) c.add_behind.ensures.right

pub returns-in-Some-clause-walk : goal.returns-in-Some-clause-walk
returns-in-Some-clause-walk c = on_ok_weaker c.add_behind.result (λ same cs.
    same_candidates _ _ same cs ∙ sym (ap (λ (o : Option Behind). behind_candidates o cs) c.in-Some.is)) c.add_behind.ensures.same

pub returns-in-None-clause-has : goal.returns-in-None-clause-has
returns-in-None-clause-has c = λ it among t.
    subst (λ (o : Option Behind). has_behind o it.room ≡ true) (sym c.in-None.is) refl

pub returns-in-None-clause-right : goal.returns-in-None-clause-right
returns-in-None-clause-right c = λ cs page calls are. are

pub returns-in-None-clause-walk : goal.returns-in-None-clause-walk
returns-in-None-clause-walk c = λ cs. refl

pub returns-in-None-clause-calls : goal.returns-in-None-clause-calls
returns-in-None-clause-calls c = λ calls. calls

pub add_behind-requires : goal.add_behind-requires
add_behind-requires c = record { small = c.requires.small }

pub returns-in-Some-clause-has : goal.returns-in-Some-clause-has
returns-in-Some-clause-has c = c.add_behind.ensures.has

pub returns-in-Some-clause-calls : goal.returns-in-Some-clause-calls
returns-in-Some-clause-calls c = c.add_behind.ensures.calls
