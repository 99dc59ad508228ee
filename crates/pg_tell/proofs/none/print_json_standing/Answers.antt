use Rattle.std.proofs.Common.{◌≡◌, ◌++◌, OnOk}
use Rattle.pg_pieces.specs.declared.letters.Form.TheVariants.{Json}
use Rattle.pg_tell.specs.Lines.{standing_text}
use Rattle.pg_tell.proofs.Sayings.{four_same, stood}
use Rattle.pg_tell.proofs.none.print_json_standing.Goals as goal

pub returns : goal.returns
returns c =
    four_same (λ block variant index column. OnOk c.print.result (c.print.new.out.items
    ≡ c.args.out.now.items ++ standing_text Json (stood block variant index column c.args.standing.now.page)))
    c.from.result c.from-2.result c.from-3.result c.from-4.result
    c.args.standing.now.at.block c.args.standing.now.at.variant c.args.standing.now.at.index c.args.standing.now.column
    c.from.ensures c.from-2.ensures c.from-3.ensures c.from-4.ensures c.print.ensures
