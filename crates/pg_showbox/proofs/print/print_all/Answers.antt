use Rattle.std.proofs.Common.{◌≡◌, ◌∙◌, [], ◌∷◌, ◌++◌, ap, rules, List, ℤ, w32, to_z, of_z}
use Rattle.std.specs.Int.{w128}
use Rattle.std.specs.List.{flat_map}
use Rattle.pg_list.specs.declared.blocks.Block.{Block}
use Rattle.pg_scaled.specs.Scaled.{scaled_text}
use Rattle.pg_showbox.specs.Text.{block_text, root_front}
use Rattle.pg_showbox.proofs.Grown.{grows_on, grows_by, grows_no_more, on_ok, two_parts}
use Rattle.pg_showbox.proofs.print.print_all.Goals as goal

pub returns-in_err-print_root_front-clause-grows : goal.returns-in_err-print_root_front-clause-grows
returns-in_err-print_root_front-clause-grows c = c.print_root_front.ensures.grows

pub returns-in_err-print_scaled-clause-grows : goal.returns-in_err-print_scaled-clause-grows
returns-in_err-print_scaled-clause-grows c = grows_no_more c.args.out.now.items c.print_root_front.new.out.items
    c.print_scaled.new.out.items c.in_ok-print_root_front.ensures.grows c.in_err-print_scaled.ensures.err

pub returns-in_err-push-clause-grows : goal.returns-in_err-push-clause-grows
returns-in_err-push-clause-grows c =
    let width = grows_by c.args.out.now.items c.print_root_front.new.out.items _ c.print_scaled.new.out.items
    c.in_ok-print_root_front.ensures.grows c.in_ok-print_scaled.ensures.ok in
    grows_no_more c.args.out.now.items c.print_scaled.new.out.items c.push.new.self.items width
    c.in_err-push.ensures.items

pub returns-clause-ok : goal.returns-clause-ok
returns-clause-ok c =
    let galley = c.args.galley.now in
    let old = c.args.out.now.items in
    let first = c.print_root_front.new.out.items in
    let second = c.print_scaled.new.out.items in
    let third = c.push.new.self.items in
    let new = c.print_blocks.new.out.items in
    let width = scaled_text galley.width in
    let blocks = flat_map block_text galley.blocks in
    let same : to_z w128 (of_z w128 (to_z w32 (of_z w32 c.width.result))) ≡ c.width.result = search rules in
    let said = c.in_ok-print_scaled.ensures.ok
    ∙ ap (λ (z : ℤ). first ++ scaled_text z) (same ∙ c.width.ensures.width) in
    on_ok c.print_blocks.result _ _ (λ printed.
    two_parts old first new root_front (width ++ 10 ∷ blocks) c.in_ok-print_root_front.ensures.ok
    (two_parts first second new width (10 ∷ blocks) said
    (two_parts second third new (10 ∷ []) blocks c.in_ok-push.ensures.items
    (printed ∙ ap (λ (them : List Block). third ++ flat_map block_text them)
    (c.as_slice.ensures.blocks ∙ c.blocks-2.ensures.blocks)))))
    c.print_blocks.ensures.ok

pub returns-clause-grows : goal.returns-clause-grows
returns-clause-grows c =
    let old = c.args.out.now.items in
    let width = grows_by old c.print_root_front.new.out.items _ c.print_scaled.new.out.items
    c.in_ok-print_root_front.ensures.grows c.in_ok-print_scaled.ensures.ok in
    let front = grows_by old c.print_scaled.new.out.items (10 ∷ []) c.push.new.self.items width
    c.in_ok-push.ensures.items in
    grows_on old c.push.new.self.items c.print_blocks.new.out.items front c.print_blocks.ensures.grows
