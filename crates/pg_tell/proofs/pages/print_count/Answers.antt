use Rattle.std.proofs.Common.{◌≡◌, ◌++◌, OnOk, rules, subst, sym}
use Rattle.std.proofs.lemmas.Int.{to_z-of_z}
use Rattle.std.specs.Int.{w128}
use Rattle.pg_pieces.specs.declared.letters.Form.TheVariants.{Json}
use Rattle.pg_tell.specs.Lines.{count_text}
use Rattle.pg_tell.proofs.pages.print_count.Goals as goal

pub returns-in-Json : goal.returns-in-Json
returns-in-Json c =
    subst (λ f. OnOk c.print-in-Json.result
    (c.print-in-Json.new.out.items ≡ c.args.out.now.items ++ count_text f c.args.pages c.args.cost.now))
    (sym c.in-Json.is)
    (subst (λ cost. OnOk c.print-in-Json.result
    (c.print-in-Json.new.out.items ≡ c.args.out.now.items ++ count_text Json c.args.pages cost))
    (to_z-of_z w128 c.args.cost.now (record { sfits = search rules })) c.print-in-Json.ensures)
