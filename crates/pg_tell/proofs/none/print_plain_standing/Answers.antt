use Rattle.std.proofs.Common.{◌≡◌, ◌++◌, OnOk, refl}
use Rattle.pg_pieces.specs.declared.letters.Form.TheVariants.{Plain}
use Rattle.pg_tell.specs.Lines.{standing_text}
use Rattle.pg_tell.proofs.Sayings.{four_same, stood}
use Rattle.pg_tell.proofs.none.print_plain_standing.Goals as goal

pub returns : goal.returns
returns c =
    four_same (λ block variant index column. OnOk c.print.result (c.print.new.out.items
    ≡ c.args.out.now.items ++ standing_text Plain (stood block variant index column c.args.standing.now.page)))
    c.from.result 0 0 c.from-2.result c.args.standing.now.at.block 0 0 c.args.standing.now.column
    c.from.ensures refl refl c.from-2.ensures c.print.ensures
