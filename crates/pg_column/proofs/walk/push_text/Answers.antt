use Rattle.std.proofs.Common.{ap, ◌∙◌, ◌++◌, List, ℕ}
use Rattle.pg_list.specs.declared.item.Item.{Item}
use Rattle.pg_list.specs.Flat.{end_of, flat_items_at, is_same_place}
use Rattle.pg_column.specs.Fits.{are_named}
use Rattle.pg_column.specs.Between.{behind, items_to}
use Rattle.pg_column.proofs.Steps.{fit_named, text_is}
use Rattle.pg_column.proofs.walk.push_text.Goals as goal

pub push_between-requires : goal.push_between-requires
push_between-requires c =
    ap (λ (picks : List ℕ). are_named c.args.galley.now.blocks c.args.column.now.from picks) c.as_slice.ensures
    ∙ fit_named c.args.galley.now.blocks c.args.column.now.from c.args.column.now.picks c.args.column.now.to c.requires

pub returns : goal.returns
returns c = c.in_ok-push_between.ensures ∙ ap (λ (xs : List Item). behind c.args.items.now.items ++ xs)
    (ap (λ (picks : List ℕ). items_to (is_same_place c.args.column.now.to (end_of c.args.galley.now.blocks))
    c.args.column.now.to (flat_items_at c.args.galley.now.blocks c.args.column.now.from picks)) c.as_slice.ensures
    ∙ text_is c.args.galley.now.blocks c.args.column.now c.requires)
