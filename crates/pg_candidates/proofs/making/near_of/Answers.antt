use Rattle.std.proofs.Common.{◌∙◌, arith, refl, rules, subst, sym, w64}
use Rattle.std.proofs.lemmas.Int.{to_z-of_z}
use Rattle.pg_rules.specs.Legal.{document}
use Rattle.pg_candidates.specs.Nears.{IsLeastRoom}
use Rattle.pg_candidates.specs.View.{end_of}
use Rattle.pg_candidates.proofs.TooLow.{needs_least}
use Rattle.pg_candidates.proofs.making.near_of.Goals as goal

pub returns-clause-near : goal.returns-clause-near
returns-clause-near c = λ g style most kind are worst. record {
  to = refl;
  totals = refl;
  notes = to_z-of_z w64 c.args.needs.now.notes (record { sfits = omega (arith, c.requires.small) }) ∙ are.notes;
  give = are.give;
  pick_demerits = to_z-of_z w64 c.args.end.now.demerits (record { sfits = search rules });
  kind = kind;
  least = subst (IsLeastRoom (document g style) (end_of c.args.end.now))
      (sym (to_z-of_z w64 c.args.needs.now.bound (record { sfits = search rules })))
      (needs_least (document g style) (end_of c.args.end.now) c.args.needs.now are);
  worst = worst;
}
