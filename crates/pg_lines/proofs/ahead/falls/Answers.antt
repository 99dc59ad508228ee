use Rattle.std.proofs.Common.{◌≡◌, ◌∙◌, ◌-◌, sym, ap, subst, arith, length, List, ℕ, ◌∷◌, take}
use Rattle.std.specs.Prelude.{◌^◌, drop}
use Rattle.std.proofs.lemmas.List.{length-take-le}
use Rattle.pg_hlist.specs.declared.item.HItem.{HItem}
use Rattle.pg_lines.specs.declared.ahead.Fall.{Fall}
use Rattle.pg_lines.specs.Ahead.{IsBounded, falls_of}
use Rattle.pg_lines.proofs.Back.{front_back, one_back}
use Rattle.pg_lines.proofs.FallLaws.{fall_bounded, falls_back}
use Rattle.pg_lines.proofs.ahead.falls.Goals as goal

pub fall_before-fall-requires-clause-bounds : goal.fall_before-fall-requires-clause-bounds
fall_before-fall-requires-clause-bounds c = subst (λ (fall : Fall). IsBounded fall (2 ^ 11)) (sym c.back.invariant.fall)
    (fall_bounded c.args.items.now (length c.back.rest.now) c.requires)

pub back-preserved : goal.back-preserved
back-preserved c =
    let items = c.args.items.now in
    let rest = c.back.rest.now in
    let n = length rest - 1 in
    let long = length-take-le n rest (omega arith) in
    let more : drop (length (take n rest)) items ≡ c.last-item.result ∷ drop (length rest) items =
    ap (λ (k : ℕ). drop k items) long
    ∙ one_back items rest c.last-item.result c.back.invariant.front c.back.invariant.within c.in-len1-up.len_at_least
    c.last-item.is in
    let two = falls_back (drop (length rest) items) (drop (length (take n rest)) items) c.last-item.result more
    c.back.falls.items c.push-in-len1-up.new.self.items c.back.fall c.fall_before-fall.result c.back.invariant.falls
    c.back.invariant.fall c.fall_before-fall.ensures c.in_ok-push-2.ensures.items in
    record {
      falls = two.0;
      fall = two.1;
      front = front_back items rest c.back.invariant.front;
      within = omega (arith, long, c.back.invariant.within);
    }

pub returns : goal.returns
returns c =
    let none : length c.back.rest.now ≡ 0 = omega (arith, c.in_default.len_below) in
    c.back.invariant.falls ∙ ap (λ (k : ℕ). falls_of (drop k c.args.items.now)) none
