use Rattle.std.proofs.Common.{◌≡◌, ◌∙◌, sym, ap, subst, rules, w32, w64, to_z, of_z, ℕ, ℤ, Option}
use Rattle.std.proofs.lemmas.Int.{to_z-of_z}
use mir.Val.{SFits}
use Rattle.pg_hops.specs.Bounds.{AddedValue, IsWellKept}
use Rattle.pg_hops.specs.declared.shift.Shift.{Shift}
use Rattle.pg_hops.specs.declared.cursor.Cursor.{Cursor}
use Rattle.pg_hops.specs.Hop.{HopValue}
use Rattle.pg_hops.proofs.hop.Hop.new.Goals as goal

-- what fits fewer bytes is the same in them
narrowed : (n s : ℤ) → SFits w32 n → SFits w64 s → n ≡ to_z w64 (of_z w64 s) → to_z w32 (of_z w32 n) ≡ s
narrowed n s f g e = to_z-of_z w32 n f ∙ (e ∙ to_z-of_z w64 s g)

abbrev made : ℤ → Option ℤ → ℤ → ℤ → ℤ → ℤ → ℤ → Shift
made height depth finite fil fill filll shrink = record {
  height = height;
  depth = depth;
  finite = finite;
  fil = fil;
  fill = fill;
  filll = filll;
  shrink = shrink;
}

same_made : (a b : Shift) → a.height ≡ b.height → a.depth ≡ b.depth → a.finite ≡ b.finite → a.fil ≡ b.fil →
    a.fill ≡ b.fill → a.filll ≡ b.filll → a.shrink ≡ b.shrink → a ≡ b
same_made a b height depth finite fil fill filll shrink =
    ap (λ z. made z a.depth a.finite a.fil a.fill a.filll a.shrink) height
    ∙ ap (λ z. made b.height z a.finite a.fil a.fill a.filll a.shrink) depth
    ∙ ap (λ z. made b.height b.depth z a.fil a.fill a.filll a.shrink) finite
    ∙ ap (λ z. made b.height b.depth b.finite z a.fill a.filll a.shrink) fil
    ∙ ap (λ z. made b.height b.depth b.finite b.fil z a.filll a.shrink) fill
    ∙ ap (λ z. made b.height b.depth b.finite b.fil b.fill z a.shrink) filll
    ∙ ap (λ z. made b.height b.depth b.finite b.fil b.fill b.filll z) shrink

same_hop : (to : Cursor) (count : ℕ) (shift : Shift) (added : AddedValue) → count ≡ added.count → shift ≡ added.shift →
    ◌≡◌ {A = HopValue} (record { to = to; added = record { count = count; shift = shift } })
    (record { to = to; added = added })
same_hop to count shift added e f =
    ap (λ (n : ℕ). record { to = to; added = record { count = n; shift = shift } }) e
    ∙ ap (λ (s : Shift). record { to = to; added = record { count = added.count; shift = s } }) f

-- the sums kept are those told
abbrev Kept : goal.In_ok-narrow_sum-6 → Type 0
Kept c = made (to_z w32 (of_z w32 c.in_ok-narrow_sum.field-0)) c.in_ok-narrow.field-0
    (to_z w32 (of_z w32 c.in_ok-narrow_sum-2.field-0)) (to_z w32 (of_z w32 c.in_ok-narrow_sum-3.field-0))
    (to_z w32 (of_z w32 c.in_ok-narrow_sum-4.field-0)) (to_z w32 (of_z w32 c.in_ok-narrow_sum-5.field-0))
    (to_z w32 (of_z w32 c.in_ok-narrow_sum-6.field-0)) ≡ c.shift-shift.result

kept : (c : goal.In_ok-narrow_sum-6) → Kept c
kept c = same_made _ c.shift-shift.result
    (narrowed c.in_ok-narrow_sum.field-0 c.shift-shift.result.height (search rules) (search rules)
    c.in_ok-narrow_sum.ensures)
    c.in_ok-narrow.ensures
    (narrowed c.in_ok-narrow_sum-2.field-0 c.shift-shift.result.finite (search rules) (search rules)
    c.in_ok-narrow_sum-2.ensures)
    (narrowed c.in_ok-narrow_sum-3.field-0 c.shift-shift.result.fil (search rules) (search rules)
    c.in_ok-narrow_sum-3.ensures)
    (narrowed c.in_ok-narrow_sum-4.field-0 c.shift-shift.result.fill (search rules) (search rules)
    c.in_ok-narrow_sum-4.ensures)
    (narrowed c.in_ok-narrow_sum-5.field-0 c.shift-shift.result.filll (search rules) (search rules)
    c.in_ok-narrow_sum-5.ensures)
    (narrowed c.in_ok-narrow_sum-6.field-0 c.shift-shift.result.shrink (search rules) (search rules)
    c.in_ok-narrow_sum-6.ensures)

pub invariant_of-result : goal.invariant_of-result
invariant_of-result c =
    subst (λ (s : Shift). IsWellKept c.count.result s) (sym (kept c ∙ c.shift-shift.ensures.value))
    (subst (λ (n : ℕ). IsWellKept n c.args.added.now.shift) (sym c.count.ensures.value) c.shift-shift.ensures.kept)

pub returns : goal.returns
returns c = same_hop c.args.to c.count.result _ c.args.added.now c.count.ensures.value
    (kept c ∙ c.shift-shift.ensures.value)
