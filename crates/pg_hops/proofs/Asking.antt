-- What a place asks of a room under a style without classes.
use Rattle.std.proofs.Common.{◌≡◌, sym, ap, subst, List, [], true, Some, ℤ, pos}
use Rattle.std.specs.Prelude.{is_none}
use Rattle.pg_notes.specs.NotesValue.{first_over_limit, heights, skips, smallest_by}
use Rattle.pg_style.specs.Plain.{no_give}
use Rattle.pg_style.specs.Values.{StyleValue}
use Rattle.pg_style.specs.declared.style.Class.{Class}
use Rattle.pg_column.specs.Passed.{Passed, are_within, least_room, raised}
use Rattle.pg_hops.specs.Needs.{least_by}

module _ (style : StyleValue) (p : Passed) (none : style.classes ≡ []) where
  pub no_notes : pos 0 ≡ pos (heights style.classes p.notes)
  no_notes = ap (λ (cs : List Class). pos (heights cs p.notes)) (sym none)

  pub no_skips : no_give ≡ skips style.classes p.notes
  no_skips = ap (λ (cs : List Class). skips cs p.notes) (sym none)

  pub none_over : true ≡ are_within style p
  none_over = ap (λ (cs : List Class). is_none (first_over_limit cs p.notes)) (sym none)

  pub bound_alone : (bound : ℤ) → raised p.bound (least_by p (pos 0)) ≡ Some bound →
      raised p.bound (least_room style p) ≡ Some bound
  bound_alone bound e = subst (λ (cs : List Class). raised p.bound (least_by p (smallest_by cs p.notes)) ≡ Some bound)
      (sym none) e
