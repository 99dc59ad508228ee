use Rattle.std.proofs.Common.{◌≡◌, ◌∙◌, refl, ap, rules, w64, ℤ, ◌-ℤ◌}
use Rattle.std.proofs.lemmas.Int.{to_z-of_z}
use mir.Val.{SFits}
use Rattle.pg_hops.specs.Shift.{shifted}
use Rattle.pg_hops.proofs.Shifting.{same_totals}
use Rattle.pg_hops.proofs.shift.Shift.moved.Goals as goal

behind_is : (r a k m : ℤ) → r ≡ a -ℤ k → k ≡ m → r ≡ a -ℤ m
behind_is r a k m e f = e ∙ ap (λ z. a -ℤ z) f

pub returns : goal.returns
returns c =
    let t0 : SFits w64 c.args.totals.total = search rules in
    let t1 : SFits w64 c.args.totals.depth = search rules in
    let t2 : SFits w64 c.args.totals.finite = search rules in
    let t3 : SFits w64 c.args.totals.fil = search rules in
    let t4 : SFits w64 c.args.totals.fill = search rules in
    let t5 : SFits w64 c.args.totals.filll = search rules in
    let t6 : SFits w64 c.args.totals.shrink = search rules in
    let s0 : SFits w64 c.args.self.now.height = search rules in
    let s2 : SFits w64 c.args.self.now.finite = search rules in
    let s3 : SFits w64 c.args.self.now.fil = search rules in
    let s4 : SFits w64 c.args.self.now.fill = search rules in
    let s5 : SFits w64 c.args.self.now.filll = search rules in
    let s6 : SFits w64 c.args.self.now.shrink = search rules in
    let d0 : SFits w64 c.depth_behind-depth.result = search rules in
    let behind = simp to_z-of_z at c.depth_behind-depth.ensures.value in
    record {
      value = same_totals _ (shifted c.args.totals c.args.self.now)
          (to_z-of_z w64 c.risen.result (record { sfits = search rules })
          ∙ behind_is _ _ _ _ (simp to_z-of_z at c.risen.ensures.value) behind)
          (to_z-of_z w64 c.depth_behind-depth.result d0 ∙ behind)
          refl
          (to_z-of_z w64 c.plus.result (record { sfits = search rules }) ∙ (simp to_z-of_z at c.plus.ensures.value))
          (to_z-of_z w64 c.plus-2.result (record { sfits = search rules }) ∙ (simp to_z-of_z at c.plus-2.ensures.value))
          (to_z-of_z w64 c.plus-3.result (record { sfits = search rules }) ∙ (simp to_z-of_z at c.plus-3.ensures.value))
          (to_z-of_z w64 c.plus-4.result (record { sfits = search rules }) ∙ (simp to_z-of_z at c.plus-4.ensures.value))
          (to_z-of_z w64 c.plus-5.result (record { sfits = search rules }) ∙ (simp to_z-of_z at c.plus-5.ensures.value));
    }
