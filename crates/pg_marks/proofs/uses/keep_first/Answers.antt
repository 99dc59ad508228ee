use Rattle.std.proofs.Common.{◌∙◌, sym}
use Rattle.std.proofs.lemmas.Map.Text.{hash_map_updates_str}
use Rattle.pg_marks.specs.Told.{page_in}
use Rattle.pg_marks.proofs.FoundLabels.{added, already}
use Rattle.pg_marks.proofs.uses.keep_first.Goals as goal

pub returns-in_ok-insert : goal.returns-in_ok-insert
unfolding page_in
returns-in_ok-insert c = λ i name. added (page_in c.args.labels.now) (page_in c.insert.new.self) c.args.page
    c.args.name.now name (sym c.contains_key.ensures ∙ c.if-not-contains_key.true)
    (hash_map_updates_str c.args.name.now c.args.labels.now c.insert.new.self _ c.in_ok-insert.ensures.updates name) i

pub returns-else-not-contains_key : goal.returns-else-not-contains_key
unfolding page_in
returns-else-not-contains_key c = λ i name. already (page_in c.args.labels.now) c.args.page c.args.name.now name
    (sym c.contains_key.ensures ∙ c.if-not-contains_key.false) i
