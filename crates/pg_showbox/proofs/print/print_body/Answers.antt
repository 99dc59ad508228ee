use Rattle.std.proofs.Common.{[], ◌∷◌, ◌++◌}
use Rattle.std.specs.List.{flat_map}
use Rattle.pg_showbox.specs.Text.{pointed_byte}
use Rattle.pg_showbox.proofs.Grown.{grown, grows_on, grows_by, grows_same, grows_no_more, two_parts}
use Rattle.pg_showbox.proofs.print.print_body.Goals as goal

pub returns-in_err-push-clause-grows : goal.returns-in_err-push-clause-grows
returns-in_err-push-clause-grows c = grows_same c.args.out.now.items c.push.new.self.items c.in_err-push.ensures.items

pub returns-in_err-print_dotted-clause-grows : goal.returns-in_err-print_dotted-clause-grows
returns-in_err-print_dotted-clause-grows c =
    let point = grown c.args.out.now.items (46 ∷ []) c.push.new.self.items c.in_ok-push.ensures.items in
    grows_on c.args.out.now.items c.push.new.self.items c.print_dotted.new.out.items point
    c.print_dotted.ensures.grows

pub returns-in_err-push-2-clause-grows : goal.returns-in_err-push-2-clause-grows
returns-in_err-push-2-clause-grows c =
    let point = grown c.args.out.now.items (46 ∷ []) c.push.new.self.items c.in_ok-push.ensures.items in
    let body = grows_on c.args.out.now.items c.push.new.self.items c.print_dotted.new.out.items point
    c.in_ok-print_dotted.ensures.grows in
    grows_no_more c.args.out.now.items c.print_dotted.new.out.items c.push-2.new.self.items body
    c.in_err-push-2.ensures.items

pub returns-clause-ok : goal.returns-clause-ok
returns-clause-ok c =
    let body = flat_map pointed_byte c.args.body.now in
    let end = two_parts c.push.new.self.items c.print_dotted.new.out.items c.push-2.new.self.items body (10 ∷ [])
    c.in_ok-print_dotted.ensures.ok c.in_ok-push-2.ensures.items in
    two_parts c.args.out.now.items c.push.new.self.items c.push-2.new.self.items (46 ∷ []) (body ++ 10 ∷ [])
    c.in_ok-push.ensures.items end

pub returns-clause-grows : goal.returns-clause-grows
returns-clause-grows c =
    let point = grown c.args.out.now.items (46 ∷ []) c.push.new.self.items c.in_ok-push.ensures.items in
    let body = grows_on c.args.out.now.items c.push.new.self.items c.print_dotted.new.out.items point
    c.in_ok-print_dotted.ensures.grows in
    grows_by c.args.out.now.items c.print_dotted.new.out.items (10 ∷ []) c.push-2.new.self.items body
    c.in_ok-push-2.ensures.items
