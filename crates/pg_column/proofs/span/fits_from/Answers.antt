use Rattle.std.proofs.Common.{rules, ◌≡◌, sym, ◌∙◌, ℕ, List, length}
use Rattle.pg_list.specs.declared.blocks.Block.{Block}
use Rattle.pg_list.specs.declared.galley.Place.{Place}
use Rattle.pg_list.specs.Flat.{flat_items_at}
use Rattle.pg_rules.specs.ColumnRules.{does_fit}
use Rattle.pg_rules.specs.Room.{ColumnContext}
use Rattle.pg_column.specs.Fits.{are_named, does_fit_from}
use Rattle.pg_column.proofs.Leads.{fits_named}
use Rattle.pg_column.proofs.span.fits_from.Goals as goal

pub returns-clause-value : goal.returns-clause-value
returns-clause-value c = c.leads.ensures
    ∙ fits_named c.args.galley.now.blocks (flat_items_at c.args.galley.now.blocks c.args.from c.args.picks.now)
    c.args.to
    (length c.args.picks.now) (are_named c.args.galley.now.blocks c.args.from c.args.picks.now)
    (sym c.names_variants.ensures ∙ c.if-not-names_variants.false)

fits_column : (blocks : List Block) (from to : Place) (picks : List ℕ) (it : ColumnContext) →
    it.document.blocks ≡ blocks → it.column.from ≡ from → it.column.to ≡ to → it.column.picks ≡ picks →
    does_fit_from blocks from picks to ≡ does_fit it
fits_column blocks from to picks it within front back named = search rules

pub returns-clause-column : goal.returns-clause-column
returns-clause-column c = λ it within front back named. returns-clause-value c
    ∙ fits_column c.args.galley.now.blocks c.args.from c.args.to c.args.picks.now it within front back named
