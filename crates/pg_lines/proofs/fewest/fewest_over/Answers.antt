use Rattle.std.proofs.Common.{◌≡◌, ◌≤◌, ◌+◌, sym, subst, arith, length, inl, inr, List}
use Rattle.std.specs.Prelude.{[], pos}
use Rattle.pg_lemmas.proofs.Lists.{no_items}
use Rattle.pg_lines.specs.declared.ends.LineEnd.{LineEnd}
use Rattle.pg_lines.specs.Moves.{low_by}
use Rattle.pg_lines.proofs.LowLaws.{among_front}
use Rattle.law_places.proofs.Among.{Among}
use Rattle.law_places.proofs.Members.{contains_among}
use Rattle.pg_lines.proofs.fewest.fewest_over.Goals as goal

pub ends-preserved : goal.ends-preserved
ends-preserved c = λ e a. elim (c.ends.invariant e a) [
  | inl m ↦ elim (among_front c.ends.rest.now (record { place = 0; demerits = pos 0 }) e c.in-len1-up.len_at_least m) [
    | inl p ↦ inr (subst (λ (x : LineEnd). c.fewer_by-fewest.result ≤ low_by c.args.len c.args.low.now x.place + 1) p
        c.fewer_by-fewest.ensures.by)
    | inr q ↦ inl q
  ]
  | inr h ↦ inr (let f = c.fewer_by-fewest.ensures.fewer in omega (arith, h, f))
]

pub returns : goal.returns
returns c = λ e a. elim (c.ends.invariant e (contains_among c.args.ends.now e a)) [
  | inl m ↦ absurd (subst (Among e) (no_items c.ends.rest.now (omega (arith, c.in_default.len_below))) m)
  | inr h ↦ h
]
