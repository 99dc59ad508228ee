use Rattle.std.proofs.Common.{◌≡◌, ◌∙◌, ◌-◌, sym, ap, subst, arith, length, List, ℕ}
use Rattle.std.specs.Prelude.{◌^◌, drop, get_or}
use Rattle.pg_lines.specs.declared.ahead.Fall.{Fall}
use Rattle.pg_lines.specs.Ahead.{IsBounded, fall_of}
use Rattle.pg_lines.proofs.FallLaws.{fall_bounded, fall_found, falls_long}
use Rattle.pg_lines.proofs.ahead.fall_at.Goals as goal

pub bounds-falls-items : goal.bounds-falls-items
bounds-falls-items c =
    let long = ap length c.requires.falls ∙ falls_long c.args.items.now in omega (arith, long)

pub returns-clause-value : goal.returns-clause-value
returns-clause-value c =
    ap (λ (fs : List Fall). get_or fs (length c.args.items.now - c.args.place) _) c.requires.falls
    ∙ fall_found c.args.items.now c.args.place _ c.requires.place

pub returns-clause-bounds : goal.returns-clause-bounds
returns-clause-bounds c = subst (λ (fall : Fall). IsBounded fall (2 ^ 11))
    (sym (ap (λ (fs : List Fall). get_or fs (length c.args.items.now - c.args.place) _) c.requires.falls
    ∙ fall_found c.args.items.now c.args.place _ c.requires.place))
    (fall_bounded c.args.items.now c.args.place c.requires.para)
