use Rattle.std.proofs.Common.{◌∙◌, ◌*◌, refl, rules}
use Rattle.std.specs.Char.{encode_utf8}
use Rattle.pg_drawing.proofs.T1Letters.{letter_is}
use Rattle.pg_drawing.proofs.signs.t1_letter.Goals as goal

pub returns : goal.returns
unfolding encode_utf8
returns c =
    letter_is c.as_bytes.result.now c.split_at.result.1.now c.split_at-2.result.0.now (2 * c.from-first.result) c.args.byte
    (c.as_bytes.ensures.value ∙ refl) (search rules) c.split_at.ensures.back c.split_at-2.ensures.front
