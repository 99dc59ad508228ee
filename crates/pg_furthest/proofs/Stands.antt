-- Where a label stands, with a beginning of it.
use Rattle.std.proofs.Common.{◌≡◌, sym, ap, subst, ◌∙◌, ℕ, ◌<◌, List, length}
use Rattle.std.specs.Prelude.{Some, slice_get}
use Rattle.pg_lemmas.proofs.Lists.{some_at}
use Rattle.pg_list.specs.GalleyValue.{GalleyValue}
use Rattle.pg_list.specs.declared.galley.Place.{Place}
use Rattle.pg_plan.specs.declared.pages.PageMove.{PageMove}
use Rattle.pg_plan.specs.declared.pages.Pagination.{Pagination}
use Rattle.pg_plan.specs.declared.states.State.{State}
use Rattle.pg_style.specs.Values.{StyleValue}
use Rattle.pg_table.specs.declared.table.Entry.{Entry}
use Rattle.pg_furthest.specs.Furthest.{Begins, IsBeginning, IsFurthest, StandsAt, StandsFurthest, page_behind}

-- what is read off the label at a place of a list
abbrev pub IsRead : {X : Type 0} → List (Entry State PageMove) → ℕ → (State → X) → X → Type 0
IsRead labels label read x = (e : Entry State PageMove) → slice_get labels label ≡ Some e → x ≡ read e.state

pub stands_at : (g : GalleyValue) (s : StyleValue) (labels : List (Entry State PageMove)) (label : ℕ) (plan : Pagination)
    (at : Place) (column page : ℕ) → label < length labels → StandsFurthest g s labels label →
    Begins g s labels label plan → IsRead labels label (λ (u : State). u.place) at →
    IsRead labels label (λ (u : State). u.column) column → page ≡ page_behind column (length plan.pages) →
    StandsAt g s (record { at = at; page = page; column = column })
stands_at g s labels label plan at column page within furthest begins place_is column_is page_is =
    let e = some_at labels label within in
    let b : IsBeginning g s e.0 plan = begins e.0 e.1 in
    record {
      furthest = subst (IsFurthest g s) (sym (place_is e.0 e.1)) (furthest e.0 e.1);
      plan = plan;
      prefix = b.prefix;
      ends = ap (λ (u : State). u.place) b.state ∙ sym (place_is e.0 e.1);
      column = column_is e.0 e.1 ∙ sym (ap (λ (u : State). u.column) b.state);
      page = page_is;
    }
