use Rattle.std.proofs.Common.{◌≡◌, ◌∙◌, refl, sym, ap, is_some, Bor, Option, Some, None, option_map}
use Rattle.toml.proofs.Views.{table_get}
use Rattle.toml.specs.Data.{Data}
use Rattle.toml.specs.View.{view}
use Rattle.toml.specs.declared.value.Value.{Value}
use Rattle.pg_stylefile.proofs.keys.Keys.has.Goals as goal

mapped : (found : Option (Bor Value))
    → is_some (option_map {T = Bor Value} {U = Data} (λ x. view x.now) found) ≡ is_some found
mapped None = refl
mapped (Some value) = refl

pub returns : goal.returns
returns c =
    let found = table_get c.get.result c.args.key.now c.args.self.now.table.now.entries c.get.ensures.value in
    c.is_some.ensures ∙ sym (mapped c.get.result) ∙ ap (λ (o : Option Data). is_some o) found
