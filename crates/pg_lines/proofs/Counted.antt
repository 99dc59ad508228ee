-- What filled tables tell, in the words of the calls.
use Rattle.std.proofs.Common.{◌≡◌, refl, sym, ap, ◌∙◌, subst, ℕ, ◌+◌, ◌^◌, ◌≤◌, ◌<◌, List, length, arith, true, false, Some}
use Rattle.std.specs.Prelude.{◌&&◌, ◌==◌, get_or, nat_lt, slice_get, Contains}
use Rattle.std.proofs.lemmas.Option.{get_or_from_slice_get, slice_get-get_or}
use Rattle.pg_lemmas.proofs.Bools.{both, both_of, by_bool, not_both}
use Rattle.pg_lemmas.proofs.Numbers.{eq_refl, less_of, less_true, not_less}
use Rattle.pg_table.specs.Label.{IsBestOf, IsTable, RunOf}
use Rattle.pg_table.specs.declared.table.Entry.{Entry}
use Rattle.pg_table.proofs.Lists.{at_contains, contains_at}
use Rattle.pg_hlist.specs.declared.item.HItem.{HItem}
use Rattle.pg_hlist.specs.Items.{IsPara}
use Rattle.law_lines.specs.declared.rule.LineRule.{LineRule}
use Rattle.law_lines.specs.Ways.{IsLeastWay, NoWay, demerits, is_some_line, is_way, keeps_lines, start_of}
use Rattle.law_lines.proofs.Listed.{lines_few}
use Rattle.law_lines.proofs.Tests.{eq_true}
use Rattle.law_lines.specs.declared.state.LineState.{LineState}
use Rattle.law_lines.specs.BestSpace.{IsBestCount, best_meaning}
use Rattle.law_lines.specs.LineSpace.{IsLow, is_done, is_same_state, line_meaning, line_state}
use Rattle.law_lines.proofs.SpaceLaws.{same_itself, same_state}
use Rattle.law_lines.proofs.BestCount.{tells_best_count}
use Rattle.law_lines.proofs.Tells.{tells_ways}
use Rattle.pg_lines.specs.Found.{IsBestNumber, IsLabelAt, NoLabelAt}

-- a legal way has no more lines than the paragraph has items
pub way_short : (rule : LineRule) (para : List HItem) (way : List ℕ) → is_way rule para way ≡ true →
    length way ≤ length para
way_short rule para way h =
    let one = both_of (is_some_line way) (keeps_lines rule para way && (start_of way == length para)) h in
    let two = both_of (keeps_lines rule para way) (start_of way == length para) one.1 in
    let few = lines_few rule para way two.0 in
    let end = eq_true (start_of way) (length para) two.1 in
    omega (arith, few, end)

pub best_told : (rule : LineRule) (para : List HItem) → IsPara para → (es : List (Entry ℕ ℕ)) →
    IsTable (best_meaning rule para) es → (i : ℕ) (b : IsBestOf (best_meaning rule para) es es i) (way : List ℕ) →
    RunOf es b.entry way → IsBestCount rule para way
best_told rule para p es t i b way run = (tells_best_count rule para p es t).best i b way run

module _ (rule : LineRule) (para : List HItem) (low : ℕ → ℕ) (most : ℕ) (p : IsPara para) (is_low : IsLow rule para low)
    (es : List (Entry LineState ℕ)) (t : IsTable (line_meaning rule para low most) es) where
  pub way_told : (n i : ℕ) → 0 < n → (l : IsLabelAt es (length para) n i) (way : List ℕ) → RunOf es l.entry way →
      IsLeastWay rule para n way × (l.entry.cost ≡ demerits rule para way)
  way_told n i some l way run =
      let done : is_done para l.entry.state ≡ true = subst (λ (s : LineState). is_done para s ≡ true) (sym l.state)
      (both (length para == length para) (nat_lt 0 n) (eq_refl (length para)) (less_of 0 n some)) in
      let told = (tells_ways rule para low most p is_low es t).least l.entry way (contains_at es i l.entry l.is) done run in
      (subst (λ (m : ℕ). IsLeastWay rule para m way) (ap (λ (s : LineState). s.lines) l.state) told.least, told.cost)

  pub no_way_told : (n : ℕ) → n ≤ most → NoLabelAt es (length para) n → NoWay rule para n
  no_way_told n few none = (tells_ways rule para low most p is_low es t).none n few
      (λ e c same. let at = at_contains es e c in none at.0 e at.1 same)

-- ---- labels of a state

pub label_here : (es : List (Entry LineState ℕ)) (i place lines : ℕ) (d : Entry LineState ℕ) → i < length es →
    is_same_state (get_or es i d).state (line_state place lines) ≡ true → IsLabelAt es place lines i
label_here es i place lines d h same = record {
  entry = get_or es i d;
  is = slice_get-get_or es i d h;
  state = same_state (get_or es i d).state (line_state place lines) same;
}

pub no_label_here : (es : List (Entry LineState ℕ)) (i place lines : ℕ) (d e : Entry LineState ℕ) →
    is_same_state (get_or es i d).state (line_state place lines) ≡ false → slice_get es i ≡ Some e →
    e.state ≡ line_state place lines → ⊥
no_label_here es i place lines d e other at same =
    let here : get_or es i d ≡ e = get_or_from_slice_get es i e d at in
    not_both (is_same_state e.state (line_state place lines))
    (subst (λ (s : LineState). is_same_state e.state s ≡ true) same (same_itself e.state))
    (subst (λ (x : Entry LineState ℕ). is_same_state x.state (line_state place lines) ≡ false) here other)

pub none_further : (es : List (Entry LineState ℕ)) (index place lines : ℕ) (d : Entry LineState ℕ) →
    ((i : ℕ) (e : Entry LineState ℕ) → i < index → slice_get es i ≡ Some e → e.state ≡ line_state place lines → ⊥) →
    is_same_state (get_or es index d).state (line_state place lines) ≡ false →
    (i : ℕ) (e : Entry LineState ℕ) → i < index + 1 → slice_get es i ≡ Some e → e.state ≡ line_state place lines → ⊥
none_further es index place lines d before other i e h at same = by_bool (nat_lt i index)
    (λ t. before i e (less_true i index t) at same)
    (λ f. no_label_here es index place lines d e other
    (subst (λ (j : ℕ). slice_get es j ≡ Some e) (let l = not_less i index f in omega (arith, h, l)) at) same)
