use Rattle.std.proofs.Common.{◌≡◌, ◌∙◌, sym, true, ℕ}
use Rattle.std.specs.Prelude.{◌==◌, ◌&&◌}
use Rattle.std.proofs.lemmas.Bool.{eqb-true}
use Rattle.pg_lemmas.proofs.Bools.{both_of}
use Rattle.pg_list.specs.declared.galley.Place.{Place}
use Rattle.pg_space.proofs.kept.KeptPages.take.Goals as goal

pub returns-then-eq : goal.returns-then-eq
returns-then-eq g c = same c.in-Ok-Some.kept.from c.args.from (sym c.eq.ensures ∙ c.if-eq.true)
  where
    of_fields : (a b c d e f : ℕ) → a ≡ b → c ≡ d → e ≡ f → ◌≡◌ {A = Place} (record { block = a; variant = c; index = e })
        (record { block = b; variant = d; index = f })
    of_fields a b c d e f p q r = cc

    same : (a b : Place) → ((a.block == b.block) && ((a.variant == b.variant) && (a.index == b.index))) ≡ true → a ≡ b
    same a b e =
        let first = both_of (a.block == b.block) ((a.variant == b.variant) && (a.index == b.index)) e in
        let rest = both_of (a.variant == b.variant) (a.index == b.index) first.1 in
        of_fields _ _ _ _ _ _ (eqb-true a.block b.block first.0) (eqb-true a.variant b.variant rest.0)
        (eqb-true a.index b.index rest.1)
