use Rattle.std.proofs.Common.{◌≡◌, ◌∙◌, ◌^◌, ap, arith, rules, w32, ℤ}
use Rattle.std.proofs.lemmas.Int.{to_z-of_z}
use mir.Val.{SFits}
use Rattle.pg_list.specs.declared.item.Item.{Item}
use Rattle.pg_hops.specs.declared.shift.Shift.{Shift}
use Rattle.pg_hops.specs.Bounds.{AddedValue}
use Rattle.pg_hops.specs.Shift.{with_shift}
use Rattle.pg_hops.proofs.Light.{kept_more, more_light}
use Rattle.pg_hops.proofs.added.Added.add.Goals as goal

few_inside : (a b : AddedValue) → a ≡ b → a.count ≡ b.count
few_inside a b e = ap (λ (v : AddedValue). v.count) e

same_step : (m n : ℤ) (s u r : Shift) (x : Item) → r ≡ with_shift m s x → m ≡ n → s ≡ u → r ≡ with_shift n u x
same_step m n s u r x e f g = e ∙ ap (λ z. with_shift z s x) f ∙ ap (λ v. with_shift n v x) g

pub add-requires-clause-light : goal.add-requires-clause-light
add-requires-clause-light c =
    let few = c.self.invariant.few in
    more_light c.self.inside.shift c.self.inside.count (2 ^ 24) (omega (arith, few)) c.self.invariant.light

pub invariant_of-self : goal.invariant_of-self
invariant_of-self c =
    kept_more c.self.inside.shift c.add.new.self c.self.inside.count (search rules) c.self.invariant.light c.add.ensures.size

pub returns-clause-value : goal.returns-clause-value
returns-clause-value c =
    let f : SFits w32 c.style.inside.maxdepth = search rules in
    same_step c.style.inside.maxdepth c.args.style.now.maxdepth c.self.inside.shift c.args.self.now.shift
    c.add.new.self c.args.item.now (simp to_z-of_z at c.add.ensures.value) (search rules) (search rules)
