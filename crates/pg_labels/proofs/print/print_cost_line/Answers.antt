use Rattle.std.proofs.Common.{◌≡◌, ◌∙◌, [], ◌∷◌, ◌++◌, ap, rules, ℤ, to_z, of_z}
use Rattle.std.specs.Int.{w128}
use Rattle.pg_words.specs.Written.{whole_text}
use Rattle.pg_scaled.proofs.Grown.{grown, grows_on, grows_by, grows_same, grows_no_more, two_parts}
use Rattle.pg_labels.proofs.print.print_cost_line.Goals as goal

pub returns-in_err-push-clause-grows : goal.returns-in_err-push-clause-grows
returns-in_err-push-clause-grows c = grows_same c.args.out.now.items c.push.new.self.items c.in_err-push.ensures.items

pub returns-in_err-print_whole-clause-grows : goal.returns-in_err-print_whole-clause-grows
returns-in_err-print_whole-clause-grows c =
    let space = grown c.args.out.now.items (32 ∷ []) c.push.new.self.items c.in_ok-push.ensures.items in
    grows_on c.args.out.now.items c.push.new.self.items c.print_whole.new.out.items space c.print_whole.ensures.grows

pub returns-in_err-push-2-clause-grows : goal.returns-in_err-push-2-clause-grows
returns-in_err-push-2-clause-grows c =
    let space = grown c.args.out.now.items (32 ∷ []) c.push.new.self.items c.in_ok-push.ensures.items in
    let cost = grows_on c.args.out.now.items c.push.new.self.items c.print_whole.new.out.items space
    c.in_ok-print_whole.ensures.grows in
    grows_no_more c.args.out.now.items c.print_whole.new.out.items c.push-2.new.self.items cost
    c.in_err-push-2.ensures.items

pub returns-clause-ok : goal.returns-clause-ok
returns-clause-ok c =
    let old = c.args.out.now.items in
    let first = c.push.new.self.items in
    let second = c.print_whole.new.out.items in
    let new = c.push-2.new.self.items in
    let cost = whole_text c.args.cost in
    let same : to_z w128 (of_z w128 c.args.cost) ≡ c.args.cost = search rules in
    let said = c.in_ok-print_whole.ensures.ok ∙ ap (λ (z : ℤ). first ++ whole_text z) same in
    two_parts old first new (32 ∷ []) (cost ++ 10 ∷ []) c.in_ok-push.ensures.items
    (two_parts first second new cost (10 ∷ []) said c.in_ok-push-2.ensures.items)

pub returns-clause-grows : goal.returns-clause-grows
returns-clause-grows c =
    let space = grown c.args.out.now.items (32 ∷ []) c.push.new.self.items c.in_ok-push.ensures.items in
    let cost = grows_on c.args.out.now.items c.push.new.self.items c.print_whole.new.out.items space
    c.in_ok-print_whole.ensures.grows in
    grows_by c.args.out.now.items c.print_whole.new.out.items (10 ∷ []) c.push-2.new.self.items cost
    c.in_ok-push-2.ensures.items
