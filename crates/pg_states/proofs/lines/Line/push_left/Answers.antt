use Rattle.std.proofs.Common.{◌≡◌, ◌-◌, ◌++◌, ◌∙◌, sym, drop, true}
use Rattle.std.specs.Prelude.{replicate}
use Rattle.std.proofs.lemmas.Result.{IfOk-weaker}
use Rattle.pg_states.specs.Lines.{are_young, later, with_zeros}
use Rattle.pg_states.proofs.Fresh.{left_behind, young_behind}
use Rattle.pg_states.proofs.lines.Line.push_left.Goals as goal

pub returns-clause-young : goal.returns-clause-young
returns-clause-young c = IfOk-weaker c.push_zeros.result
    (λ young. young ≡ are_young c.args.limit c.args.pages (replicate (c.args.self.now.fresh - c.fresh_among.result) 0))
    (λ young. young ≡ are_young c.args.limit c.args.pages
    (drop c.args.count (with_zeros c.args.self.now.waited.now c.args.self.now.fresh)))
    (λ young y. young_behind c.args.limit c.args.pages c.args.count c.args.self.now.fresh c.fresh_among.result
    c.args.self.now.waited.now c.behind.result.now young c.behind.ensures c.fresh_among.ensures
    (sym c.in_ok-push_ages.ensures.young ∙ c.if-not-branch.false) y) c.push_zeros.ensures.young

pub returns-clause-left : goal.returns-clause-left
returns-clause-left c = IfOk-weaker c.push_zeros.result
    (λ young. young ≡ true → c.push_zeros.new.left
    ≡ c.push_ages.new.left ++ later c.args.pages (replicate (c.args.self.now.fresh - c.fresh_among.result) 0))
    (λ young. young ≡ true → c.push_zeros.new.left ≡ c.args.left.now ++ later c.args.pages
    (drop c.args.count (with_zeros c.args.self.now.waited.now c.args.self.now.fresh)))
    (λ young h y. left_behind c.args.pages c.args.count c.args.self.now.fresh c.fresh_among.result
    c.args.self.now.waited.now c.behind.result.now c.args.left.now c.push_ages.new.left c.push_zeros.new.left
    c.behind.ensures c.fresh_among.ensures (c.in_ok-push_ages.ensures.left c.if-not-branch.false) (h y))
    c.push_zeros.ensures.left
