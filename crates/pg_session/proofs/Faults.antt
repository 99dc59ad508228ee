-- Faults of edits, one behind the other.
use Rattle.std.proofs.Common.{◌≡◌, sym, ap, subst, ◌∙◌, ℕ, ◌^◌, ◌<◌, ◌≤◌, List, Option, Some, None, Result, Ok, Err, arith}
use Rattle.std.specs.Prelude.{IsErrAnd, nat_lt}
use Rattle.pg_floats.specs.AreFloats.{MakesList, float_total, unknown_class}
use Rattle.pg_floats.specs.declared.fault.FloatFault.{FloatFault}
use Rattle.pg_floats.specs.declared.fault.FloatFault.TheVariants as float_fault
use Rattle.pg_lemmas.proofs.Bools.{by_bool, if_false, if_true}
use Rattle.pg_lemmas.proofs.Numbers.{less_of, less_true}
use Rattle.pg_list.specs.GalleyValue.{GalleyValue}
use Rattle.pg_list.specs.Places.{spliced}
use Rattle.pg_list.specs.declared.blocks.Block.{Block}
use Rattle.pg_list.specs.declared.galley.Edit.{Edit}
use Rattle.pg_style.specs.Values.{StyleValue}
use Rattle.pg_session.specs.Edits.{Refuses, class_fault, count_fault, edit_fault, first_fault, floats_fault, splice_fault}
use Rattle.pg_edits.specs.declared.fault.EditFault.{EditFault}
use Rattle.pg_edits.specs.declared.fault.EditFault.TheVariants.{Range, Limit, Class, Floats, Memory}

-- ---- of floats

count_left : (blocks : List Block) (style : StyleValue) → unknown_class blocks style ≡ None →
    floats_fault blocks style ≡ count_fault (float_total blocks style)
count_left blocks style known =
    ap (λ (found : Option ℕ). first_fault (class_fault found) (count_fault (float_total blocks style))) known

pub few_floats : (blocks : List Block) (style : StyleValue) → unknown_class blocks style ≡ None →
    float_total blocks style ≤ 2 ^ 12 → floats_fault blocks style ≡ None
few_floats blocks style known few = count_left blocks style known
    ∙ if_false (nat_lt (2 ^ 12) (float_total blocks style)) (Some (Floats (float_total blocks style))) None
    (by_bool (nat_lt (2 ^ 12) (float_total blocks style))
    (λ e. absurd (let l = less_true (2 ^ 12) (float_total blocks style) e in omega (arith, l, few))) (λ e. e))

pub many_floats : (blocks : List Block) (style : StyleValue) (fault : FloatFault) (count : ℕ) →
    fault ≡ float_fault.Limit count → MakesList (Err fault) blocks style →
    floats_fault blocks style ≡ Some (Floats count)
many_floats blocks style fault count is made =
    by (subst (λ (x : FloatFault). MakesList (Err x) blocks style) is made)
  where
    by : (unknown_class blocks style ≡ None) × (count ≡ float_total blocks style) × (2 ^ 12 < count) →
        floats_fault blocks style ≡ Some (Floats count)
    by (known, counted, many) = count_left blocks style known ∙ (ap count_fault (sym counted)
        ∙ if_true (nat_lt (2 ^ 12) count) (Some (Floats count)) None (less_of (2 ^ 12) count many))

-- ---- of an edit

first_of : (T : Type 0) (fault : EditFault) (cause later : Option EditFault) → Refuses {T = T} (Err fault) cause →
    Refuses {T = T} (Err fault) (first_fault cause later)
first_of T (Range at gone len) cause later h = ap (λ (x : Option EditFault). first_fault x later) h
first_of T (Limit count) cause later h = ap (λ (x : Option EditFault). first_fault x later) h
first_of T (Class number) cause later h = ap (λ (x : Option EditFault). first_fault x later) h
first_of T (Floats count) cause later h = ap (λ (x : Option EditFault). first_fault x later) h
first_of T Memory cause later h = tt

-- a refusal, handed on
pub handed_on : (T : Type 0) {U : Type 0} (r : Result U EditFault) (fault : EditFault) (cause : Option EditFault) →
    IsErrAnd r (λ (x : EditFault). x ≡ fault) → Refuses {T = T} (Err fault) cause → Refuses r cause
handed_on T (Ok u) fault cause h e = absurd h
handed_on T {U} (Err x) fault cause h e =
    subst (λ (y : EditFault). Refuses {T = U} (Err y) cause) (sym h) (of_any fault e)
  where
    of_any : (fault : EditFault) → Refuses {T = T} (Err fault) cause → Refuses {T = U} (Err fault) cause
    of_any (Range at gone len) h = h
    of_any (Limit count) h = h
    of_any (Class number) h = h
    of_any (Floats count) h = h
    of_any Memory h = tt

module _ (g : GalleyValue) (s : StyleValue) (edit : Edit) where
  -- a fault of the splice is one of the edit
  pub earlier_fault : (T : Type 0) {U : Type 0} (r : Result U EditFault) (fault : EditFault) →
      IsErrAnd r (λ (x : EditFault). x ≡ fault) → Refuses {T = T} (Err fault) (splice_fault g edit) →
      Refuses r (edit_fault g s edit)
  earlier_fault T r fault h e = handed_on T r fault (edit_fault g s edit) h
      (first_of T fault (splice_fault g edit) (floats_fault (spliced g.blocks edit) s) e)

  -- where the splice has none, the fault of the floats is that of the edit
  pub later_fault : {T : Type 0} (r : Result T EditFault) → splice_fault g edit ≡ None →
      Refuses r (floats_fault (spliced g.blocks edit) s) → Refuses r (edit_fault g s edit)
  later_fault r there h = subst (Refuses r)
      (sym (ap (λ (x : Option EditFault). first_fault x (floats_fault (spliced g.blocks edit) s)) there)) h
