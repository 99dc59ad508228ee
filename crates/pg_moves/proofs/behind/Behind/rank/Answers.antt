use Rattle.std.proofs.Common.{◌∙◌, ap, ◌+◌, ◌*◌, ◌%◌, ◌^◌, ℕ}
use Rattle.std.specs.Prelude.{◌==◌, if◌then◌else◌}
use Rattle.law_space.specs.PageSpace.{side_run}
use Rattle.pg_moves.proofs.Built.{rank_is}
use Rattle.pg_moves.proofs.behind.Behind.rank.Goals as goal

pub returns : goal.returns
returns c = λ doc. c.joined.ensures ∙ ap (λ (n : ℕ). n % 2 ^ 64) (rank_is doc c.args.self.now.state
    c.place_rank.result c.rest_rank.result c.place_rank.ensures
    (c.rest_rank.ensures ∙ ap (λ (n : ℕ). 32 * n + (if c.args.self.now.state.column == 1 then 16 else 0)
    + side_run c.args.self.now.state) c.requires))
