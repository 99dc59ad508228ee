-- The numbers by kept sums and kept notes are those of the rules.
use Rattle.std.proofs.Common.{◌≡◌, refl, arith, sym, ap, ◌∙◌, subst, ℕ, zero, suc, ◌+◌, ◌-◌, List, take, Bool, false, Option, Some, ℤ, pos, ◌+ℤ◌, ◌-ℤ◌, ◌*ℤ◌}
use borrow.Author.Tests.{ne_eqb}
use Rattle.std.specs.Prelude.{◌==◌, ◌&&◌, if◌then◌else◌, unwrap_or}
use Rattle.pg_list.specs.Break.{break_penalty, is_spent}
use Rattle.pg_list.specs.declared.item.Order.TheVariants.{Finite}
use Rattle.pg_list.specs.Totals.{stretch, shrink}
use Rattle.pg_list.specs.Whole.{square}
use Rattle.pg_lemmas.proofs.Bools.{if_false}
use Rattle.pg_style.specs.Ranges.{IsStyle}
use Rattle.pg_style.specs.Values.{AreaRuleValue, StyleValue}
use Rattle.pg_style.specs.declared.style.Gap.{Gap}
use Rattle.pg_style.specs.declared.style.Give.{Give}
use Rattle.pg_notes.specs.AreNotes.{AreNotes, AreNoteSums}
use Rattle.pg_notes.specs.NotesValue.{NotesValue, heights, skips_by}
use Rattle.pg_notes.specs.declared.sums.NoteSum.{NoteSum}
use Rattle.pg_notes.proofs.Kept.{heights_are, skips_are}
use Rattle.pg_notes.proofs.Sizes.{notes_trimmed, skips_trimmed}
use Rattle.pg_sums.specs.AreSums.{AreSums, AreTotals}
use Rattle.pg_sums.specs.SumsValue.{SumsValue}
use Rattle.pg_sums.proofs.Badness.{badness_is as kept_badness_is}
use Rattle.pg_sums.specs.declared.totals.Totals.{Totals}
use Rattle.pg_rules.specs.ColumnRules.{fitness_by, segment, text_badness, text_goal, text_shrink, text_stretch}
use Rattle.pg_rules.specs.Cost.{break_demerits, is_bonus, penalty_demerits}
use Rattle.pg_rules.specs.Floats.{area_give, gap_stretch, gap_shrink}
use Rattle.pg_rules.specs.Room.{ColumnContext, areas_give, give, items_of}
use Rattle.pg_column.specs.declared.cost.TextCost.{TextCost}
use Rattle.pg_column.specs.declared.cost.TextRoom.{TextRoom}
use Rattle.pg_column.specs.Numbers.{AreNumbers, badness_for, cost_by, cost_for, give_by, goal_by, text_room}

both_sums : (a a' b b' : ℤ) → a ≡ a' → b ≡ b' → (a +ℤ b) ≡ (a' +ℤ b')
both_sums a a' b b' p q = rw (p, q) refl

module _ (it : ColumnContext) (n : ℕ) (style : StyleValue) (same : it.document.style ≡ style) (is-style : IsStyle style)
    (t : Totals) (ns : List NoteSum) (space : TextRoom) (room-is : text_room it ≡ space)
    (totals : AreTotals it.document.style.topskip it.document.style.maxdepth (segment it n) t)
    (sums : AreNoteSums (take n (items_of it)) it.document.style.classes ns) where
  pub goal_is : goal_by style space ns ≡ text_goal it n
  goal_is = goal_same _ _ _ _ (ap (λ (r : TextRoom). r.size) room-is)
      (ap (λ (s : StyleValue). pos (heights s.classes ns)) (sym same)
      ∙ (heights_are (take n (items_of it)) it.document.style.classes ns
      (subst IsStyle (sym same) is-style).classes_in.each sums
      ∙ sym (notes_trimmed it.document.style (take n (items_of it)))))
    where
      goal_same : (a a' b b' : ℤ) → a ≡ a' → b' ≡ b → (a' -ℤ b') ≡ (a -ℤ b)
      goal_same a a' b b' p q = rw (p, q) refl

  -- what the gaps around the text give, by one part of them
  given : (part : Gap → ℤ) (a : ℤ) → a ≡ areas_give part it →
      (a +ℤ skips_by part style.classes ns) ≡ give part it (segment it n)
  given part a e = both_sums _ _ _ _ e (ap (λ (s : StyleValue). skips_by part s.classes ns) (sym same)
      ∙ (skips_are part (take n (items_of it)) it.document.style.classes ns sums
      ∙ sym (skips_trimmed part it.document.style (take n (items_of it)))))

  pub give_shrink_is : (give_by style space ns).shrink ≡ give gap_shrink it (segment it n)
  give_shrink_is = given gap_shrink space.give.shrink (ap (λ (r : TextRoom). r.give.shrink) (sym room-is))

  stretch_is : unwrap_or style.ragged (t.finite +ℤ (give_by style space ns).stretch) ≡ text_stretch it n
  stretch_is = ap (λ (s : StyleValue). unwrap_or s.ragged (t.finite +ℤ (give_by style space ns).stretch)) (sym same)
      ∙ ap (λ (z : ℤ). unwrap_or it.document.style.ragged z) (both_sums _ _ _ _ totals.finite_is
      (given gap_stretch space.give.stretch (ap (λ (r : TextRoom). r.give.stretch) (sym room-is))))

  shrink_is : (t.shrink +ℤ (give_by style space ns).shrink) ≡ text_shrink it n
  shrink_is = both_sums _ _ _ _ totals.shrink_is give_shrink_is

  pub badness_is : (spent : Bool) → spent ≡ is_spent (items_of it) n →
      badness_for style (goal_by style space ns) (give_by style space ns) t spent ≡ text_badness it n
  badness_is spent spent_is = kept_badness_is it.document.style.topskip it.document.style.maxdepth (segment it n) t totals
      _ _ _ _ _ _ _ _ spent_is goal_is stretch_is shrink_is

  module _ (spent : Bool) (spent_is : spent ≡ is_spent (items_of it) n) (penalty : ℤ)
      (penalty_is : break_penalty (items_of it) n ≡ Some penalty) where
    fit_same : (s s' : StyleValue) (t t' g g' : ℤ) (b b' : ℕ) → s' ≡ s → t ≡ t' → g ≡ g' → b ≡ b' →
        (if s.version == 1 then 2 else fitness_by t g b) ≡ (if s'.version == 1 then 2 else fitness_by t' g' b')
    fit_same s s' t t' g g' b b' o p q r = rw (o, p, q, r) refl

    price_same : (s s' : StyleValue) (b b' : ℕ) (o : Option ℤ) → s' ≡ s → b ≡ b' → o ≡ Some penalty →
        break_demerits s b penalty ≡ break_demerits s' b' (unwrap_or o (pos 0))
    price_same s s' b b' o p q r = rw (p, q, r) refl

    pub numbers_are : AreNumbers it n (cost_by style space t ns spent penalty)
    numbers_are = record {
      goal = goal_is;
      total = totals.total_is;
      badness = badness_is spent spent_is;
      fitness = fit_same _ _ _ _ _ _ _ _ same totals.total_is goal_is (badness_is spent spent_is);
      penalty = sym penalty_is;
      demerits = price_same _ _ _ _ _ same (badness_is spent spent_is) penalty_is;
    }

pub numbers_of : (it : ColumnContext) (n : ℕ) (style : StyleValue) → it.document.style ≡ style → IsStyle style →
    (s : SumsValue) (ns : NotesValue) (space : TextRoom) → text_room it ≡ space →
    AreSums style.topskip style.maxdepth (take n (items_of it)) s → AreNotes style (take n (items_of it)) ns →
    (spent : Bool) → spent ≡ is_spent (items_of it) n → (penalty : ℤ) →
    break_penalty (items_of it) n ≡ Some penalty → AreNumbers it n (cost_by style space s.totals ns.sums spent penalty)
numbers_of it n style same ok s ns space r sums notes spent e penalty f =
    numbers_are it n style same ok s.totals ns.sums space r
    (subst (λ (z : StyleValue). AreTotals z.topskip z.maxdepth (segment it n) s.totals) (sym same) sums.totals_are)
    (subst (λ (z : StyleValue). AreNoteSums (take n (items_of it)) z.classes ns.sums) (sym same) notes.sums_are)
    spent e penalty f

-- the numbers in a room, by its goal and what gaps give
pub cost_in : (style : StyleValue) (space : TextRoom) (t : Totals) (notes : List NoteSum) (spent : Bool) (penalty : ℤ)
    (goal : ℤ) (given : Give) (penalty' : ℤ) → goal ≡ goal_by style space notes → given ≡ give_by style space notes →
    penalty' ≡ penalty → cost_for style goal given t spent penalty' ≡ cost_by style space t notes spent penalty
cost_in style space t notes spent penalty goal given penalty' p q r = rw (p, q, r) refl

-- the fitness from version 2 on
pub fit_in : (version : ℕ) (total goal : ℤ) (badness : ℕ) (total' goal' : ℤ) → (version ≡ 1 → ⊥) → total' ≡ total →
    goal' ≡ goal → fitness_by total' goal' badness ≡ (if version == 1 then 2 else fitness_by total goal badness)
fit_in version total goal badness total' goal' later p q =
    rw (p, q) (sym (if_false (version == 1) 2 (fitness_by total goal badness) (ne_eqb version 1 later)))

-- the demerits where no bonus forgives
pub plain_demerits : (style : StyleValue) (badness : ℕ) (penalty line more : ℤ) →
    ((style.version == 3) && is_bonus penalty) ≡ false → line ≡ square (pos (style.line + badness)) →
    more ≡ penalty_demerits penalty → (line +ℤ more) ≡ break_demerits style badness penalty
plain_demerits style badness penalty line more plain l m =
    both_sums _ _ _ _ l m ∙ sym (if_false ((style.version == 3) && is_bonus penalty) _ _ plain)

-- what some floats give, by the parts of both gaps
pub some_give : (part : Gap → ℤ) (rule : AreaRuleValue) (sep gap : ℤ) (floats : ℕ) → part rule.sep ≡ sep →
    part rule.gap ≡ gap → (floats ≡ 0 → ⊥) → ((sep *ℤ pos (floats - 1)) +ℤ gap) ≡ area_give part rule floats
some_give part rule sep gap zero p q e = absurd (e refl)
some_give part rule sep gap (suc n) p q e =
    let less : suc n - 1 ≡ n = omega arith in
    ap (λ (m : ℕ). (sep *ℤ pos m) +ℤ gap) less ∙ rw (p, q) refl

-- the numbers one by one
pub cost_is : (style : StyleValue) (goal : ℤ) (given : Give) (t : Totals) (spent : Bool) (penalty : ℤ) (g size : ℤ)
    (b f : ℕ) (p d : ℤ) → g ≡ goal → size ≡ t.total → b ≡ badness_for style g given t spent →
    f ≡ (if style.version == 1 then 2 else fitness_by size g b) → p ≡ penalty → d ≡ break_demerits style b p →
    ◌≡◌ {A = TextCost} (record { goal = g; total = size; badness = b; fitness = f; penalty = p; demerits = d })
    (cost_for style goal given t spent penalty)
cost_is style goal given t spent penalty g size b f p d h1 h2 h3 h4 h5 h6 = rw (h6, h4, h3, h5, h2, h1) refl
