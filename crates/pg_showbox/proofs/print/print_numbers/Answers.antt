use Rattle.std.proofs.Common.{◌∙◌, [], ◌∷◌, ◌++◌, ap, decimal, ℤ, w32}
use Rattle.std.specs.Fmt.{signed_decimal}
use Rattle.std.proofs.lemmas.Int.{to_z-of_z}
use Rattle.pg_showbox.proofs.Grown.{grows_on, grows_by, grows_no_more, two_parts}
use Rattle.pg_showbox.proofs.print.print_numbers.Goals as goal

pub returns-in_err-print_looseness-clause-grows : goal.returns-in_err-print_looseness-clause-grows
returns-in_err-print_looseness-clause-grows c = c.print_looseness.ensures.grows

pub returns-in_err-push-clause-grows : goal.returns-in_err-push-clause-grows
returns-in_err-push-clause-grows c = grows_no_more c.args.out.now.items c.print_looseness.new.out.items
    c.push.new.self.items c.in_ok-print_looseness.ensures.grows c.in_err-push.ensures.items

pub returns-in_err-print_demerits-clause-grows : goal.returns-in_err-print_demerits-clause-grows
returns-in_err-print_demerits-clause-grows c =
    let space = grows_by c.args.out.now.items c.print_looseness.new.out.items (32 ∷ []) c.push.new.self.items
    c.in_ok-print_looseness.ensures.grows c.in_ok-push.ensures.items in
    grows_on c.args.out.now.items c.push.new.self.items c.print_demerits.new.out.items space
    c.print_demerits.ensures.grows

pub returns-in_err-push-2-clause-grows : goal.returns-in_err-push-2-clause-grows
returns-in_err-push-2-clause-grows c =
    let space = grows_by c.args.out.now.items c.print_looseness.new.out.items (32 ∷ []) c.push.new.self.items
    c.in_ok-print_looseness.ensures.grows c.in_ok-push.ensures.items in
    let numbers = grows_on c.args.out.now.items c.push.new.self.items c.print_demerits.new.out.items space
    c.in_ok-print_demerits.ensures.grows in
    grows_no_more c.args.out.now.items c.print_demerits.new.out.items c.push-2.new.self.items numbers
    c.in_err-push-2.ensures.items

pub returns-in_err-push-3-clause-grows : goal.returns-in_err-push-3-clause-grows
returns-in_err-push-3-clause-grows c =
    let space = grows_by c.args.out.now.items c.print_looseness.new.out.items (32 ∷ []) c.push.new.self.items
    c.in_ok-print_looseness.ensures.grows c.in_ok-push.ensures.items in
    let numbers = grows_on c.args.out.now.items c.push.new.self.items c.print_demerits.new.out.items space
    c.in_ok-print_demerits.ensures.grows in
    let bracket = grows_by c.args.out.now.items c.print_demerits.new.out.items (125 ∷ []) c.push-2.new.self.items
    numbers c.in_ok-push-2.ensures.items in
    grows_no_more c.args.out.now.items c.push-2.new.self.items c.push-3.new.self.items bracket
    c.in_err-push-3.ensures.items

pub returns-clause-ok : goal.returns-clause-ok
returns-clause-ok c =
    let old = c.args.out.now.items in
    let first = c.print_looseness.new.out.items in
    let second = c.push.new.self.items in
    let third = c.print_demerits.new.out.items in
    let new = c.push-3.new.self.items in
    let number = decimal c.args.demerits in
    let end = two_parts third c.push-2.new.self.items new (125 ∷ []) (10 ∷ []) c.in_ok-push-2.ensures.items
    c.in_ok-push-3.ensures.items in
    let demerits = two_parts second third new number (125 ∷ 10 ∷ []) c.in_ok-print_demerits.ensures.ok end in
    let space = two_parts first second new (32 ∷ []) (number ++ 125 ∷ 10 ∷ []) c.in_ok-push.ensures.items demerits in
    let is = to_z-of_z w32 c.args.looseness (record { sfits = c.ranges.looseness.sfits }) in
    two_parts old first new (signed_decimal c.args.looseness) (32 ∷ (number ++ 125 ∷ 10 ∷ []))
    (c.in_ok-print_looseness.ensures.ok ∙ ap (λ (z : ℤ). old ++ signed_decimal z) is) space

pub returns-clause-grows : goal.returns-clause-grows
returns-clause-grows c =
    let old = c.args.out.now.items in
    let space = grows_by old c.print_looseness.new.out.items (32 ∷ []) c.push.new.self.items
    c.in_ok-print_looseness.ensures.grows c.in_ok-push.ensures.items in
    let numbers = grows_on old c.push.new.self.items c.print_demerits.new.out.items space
    c.in_ok-print_demerits.ensures.grows in
    let bracket = grows_by old c.print_demerits.new.out.items (125 ∷ []) c.push-2.new.self.items numbers
    c.in_ok-push-2.ensures.items in
    grows_by old c.push-2.new.self.items (10 ∷ []) c.push-3.new.self.items bracket c.in_ok-push-3.ensures.items
