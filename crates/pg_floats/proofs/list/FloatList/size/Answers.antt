use Rattle.std.proofs.Common.{◌∙◌, ap, sym, Option, Some, w32, rules}
use Rattle.std.proofs.lemmas.Int.{to_z-of_z}
use mir.Val.{SFits}
use Rattle.std.specs.Prelude.{option_map}
use Rattle.pg_floats.specs.declared.callouts.Callout.{Callout}
use Rattle.pg_floats.proofs.Lists.{size_of}
use Rattle.pg_floats.proofs.Called.{size_is}
use Rattle.pg_floats.proofs.list.FloatList.size.Goals as goal

pub returns-in-None : goal.returns-in-None
returns-in-None c = λ blocks style are.
    ap (λ (o : Option Callout). option_map size_of o) (sym c.in-None.is ∙ c.callout_at.ensures.value)
    ∙ size_is blocks style c.args.self.now c.args.slot c.args.number are

pub returns-in-Some : goal.returns-in-Some
returns-in-Some c = λ blocks style are.
    let fits : SFits w32 c.size_of.result = search rules in
    ap Some (to_z-of_z w32 c.size_of.result fits ∙ c.size_of.ensures)
    ∙ (ap (λ (o : Option Callout). option_map size_of o) (sym c.in-Some.is ∙ c.callout_at.ensures.value)
    ∙ size_is blocks style c.args.self.now c.args.slot c.args.number are)
