-- The verdict on a column behind others, from those on its parts.
use Rattle.std.proofs.Common.{◌≡◌, refl, sym, ap, ◌∙◌, ℕ, suc, ◌+◌, arith, List, [], ◌∷◌, ◌++◌, drop, length, Bool, true, false, Option, Some, None}
use Rattle.std.specs.Prelude.{◌&&◌, nat_lt, if◌then◌else◌, Result, Ok, Err}
use Rattle.std.specs.List.{AllByRecursion}
use Rattle.std.specs.Option.{option_or}
use Rattle.pg_list.specs.Shapes.{IsBlock}
use Rattle.pg_plan.specs.declared.pages.PageMove.{PageMove}
use Rattle.pg_rules.specs.ColumnRules.{is_well_formed, is_tolerable, passes_breaks, has_room, has_counts, keeps_note_limits, keeps_looseness}
use Rattle.pg_rules.specs.Floats.{floats}
use Rattle.pg_rules.specs.History.{context, next_column, next_run, placed_of}
use Rattle.pg_rules.specs.Legal.{deals_floats, has_callouts, has_run, has_wide_counts, is_chained, is_near, keeps_barriers, unless}
use Rattle.pg_rules.specs.Room.{Document}
use Rattle.pg_column.specs.Judged.{text_fault}
use Rattle.pg_lemmas.proofs.Numbers.{less_of, less_true}
use Rattle.pg_judge.specs.Judged.{JudgesColumn}
use Rattle.pg_judge.specs.Moves.{JudgesMost, JudgesMove, decided, least_rule, with_barriers}
use Rattle.pg_judge.specs.Verdict.{first_false, most_tests, tests_on}
use Rattle.pg_judge.specs.declared.judged.ColumnCost.{ColumnCost}
use Rattle.pg_judge.specs.declared.moves.MoveCost.{MoveCost}
use Rattle.pg_floats.proofs.Capped.{AreFew}
use Rattle.pg_judge.proofs.Deals.{AreAdded}
use Rattle.pg_judge.proofs.LeastRules.{added_rule, least_is}

first_test : (b : Bool) (tests : List Bool) → b ≡ true → first_false 2 (b ∷ tests) ≡ first_false 2 (true ∷ tests)
first_test b tests e = ap (λ (x : Bool). first_false 2 (x ∷ tests)) e

rules_are : {a b c d : Option ℕ} {r s : Bool} → a ≡ c → b ≡ d → r ≡ s → least_rule a b r ≡ least_rule c d s
rules_are {a} {b} {c} {d} {r} {s} e f g =
    ap (λ (o : Option ℕ). least_rule o b r) e ∙ (ap (λ (o : Option ℕ). least_rule c o r) f ∙ ap (least_rule c d) g)

module _ (doc : Document) (all : AllByRecursion IsBlock doc.blocks) (few : AreFew (floats doc.blocks doc.style))
    (m : PageMove) (ms : List PageMove) (chained : is_chained doc m ms ≡ true) where
  abbrev added_fault : Option ℕ
  added_fault = added_rule (has_counts (context doc m ms) && has_wide_counts doc (next_column doc.style ms) m)
      (deals_floats doc (placed_of doc.style ms) m (context doc m ms)) (has_callouts doc (placed_of doc.style ms) m)
      (is_near doc m ms)

  least : first_false 2 (most_tests doc m ms)
      ≡ least_rule (text_fault (context doc m ms)) added_fault (has_run doc.style (next_run doc.style ms) m)
  least = first_test (is_chained doc m ms) (drop 1 (most_tests doc m ms)) chained ∙ sym (least_is (is_well_formed (context doc m ms)) (is_tolerable (context doc m ms))
      (passes_breaks (context doc m ms)) (has_room (context doc m ms))
      (has_counts (context doc m ms) && has_wide_counts doc (next_column doc.style ms) m)
      (deals_floats doc (placed_of doc.style ms) m (context doc m ms)) (has_callouts doc (placed_of doc.style ms) m)
      (is_near doc m ms) (keeps_note_limits (context doc m ms)) (has_run doc.style (next_run doc.style ms) m)
      (keeps_looseness (context doc m ms)))

  -- the least rule where the verdicts are these
  least_with : (fault other : Option ℕ) (run : Bool) → text_fault (context doc m ms) ≡ fault → added_fault ≡ other →
      run ≡ has_run doc.style (next_run doc.style ms) m →
      first_false 2 (most_tests doc m ms) ≡ least_rule fault other run
  least_with fault other run a b r = least ∙ rules_are a b (sym r)

  pub move_is : (own : Result ColumnCost ℕ) (added : Result ℕ ℕ) (run : Bool) → JudgesColumn (context doc m ms) own →
      AreAdded doc all few m ms added → run ≡ has_run doc.style (next_run doc.style ms) m →
      JudgesMost doc m ms (decided own added run)
  move_is (Ok own) (Ok price) true a b r = (least_with None None true a.0 b.0 r, a.1, b.1)
  move_is (Ok own) (Ok price) false a b r = least_with None None false a.0 b.0 r
  move_is (Ok own) (Err rule) run a b r = least_with None (Some rule) run a.0 b r
  move_is (Err rule) (Err other) run a b r =
      by (nat_lt rule 7) (least_with (Some rule) (Some other) run a b r)
    where
      by : (t : Bool) → first_false 2 (most_tests doc m ms) ≡ (if t then Some rule else Some other) →
          JudgesMost doc m ms (if t then Err rule else Err other)
      by true e = e
      by false e = e
  move_is (Err rule) (Ok price) run a b r =
      by (nat_lt rule 7) (nat_lt rule 12) run (wider rule) (least_with (Some rule) None run a b.0 r)
    where
      wider : (rule : ℕ) → nat_lt rule 7 ≡ true → nat_lt rule 12 ≡ true
      wider rule e = less_of rule 12 (let h = less_true rule 7 e in omega (arith, h))

      by : (s t u : Bool) → (s ≡ true → t ≡ true) → first_false 2 (most_tests doc m ms)
          ≡ (if s then Some rule else (if t then Some rule else option_or (unless u 12) (Some rule))) →
          JudgesMost doc m ms (if t then Err rule else (if u then Err rule else Err 12))
      by true true u h e = e
      by true false u h e = let k : false ≡ true = h refl in absurd cc
      by false true u h e = e
      by false false true h e = e
      by false false false h e = e

-- ---- with the last rule

-- one more test behind others
last_test : (rule : ℕ) (tests : List Bool) (b : Bool) → first_false rule (tests ++ b ∷ [])
    ≡ option_or (first_false rule tests) (unless b (rule + length tests))
last_test rule [] true = refl
last_test rule [] false = ap Some (omega arith)
last_test rule (true ∷ tests) b =
    let e : rule + 1 + length tests ≡ rule + suc (length tests) = omega arith in
    last_test (rule + 1) tests b ∙ ap (λ (n : ℕ). option_or (first_false (rule + 1) tests) (unless b n)) e
last_test rule (false ∷ tests) b = refl

pub with_last : (doc : Document) (m : PageMove) (ms : List PageMove) (most : Result MoveCost ℕ) (keeps : Bool) →
    JudgesMost doc m ms most → keeps ≡ keeps_barriers doc (placed_of doc.style ms) m →
    JudgesMove doc m ms (with_barriers most keeps)
with_last doc m ms most keeps h e = by most keeps h
    (last_test 2 (most_tests doc m ms) (keeps_barriers doc (placed_of doc.style ms) m)
    ∙ ap (λ (b : Bool). option_or (first_false 2 (most_tests doc m ms)) (unless b 14)) (sym e))
  where
    by : (most : Result MoveCost ℕ) (keeps : Bool) → JudgesMost doc m ms most →
        first_false 2 (tests_on doc m ms) ≡ option_or (first_false 2 (most_tests doc m ms)) (unless keeps 14) →
        JudgesMove doc m ms (with_barriers most keeps)
    by (Ok it) true h f = (f ∙ ap (λ (o : Option ℕ). option_or o None) h.0, h.1, h.2)
    by (Ok it) false h f = f ∙ ap (λ (o : Option ℕ). option_or o (Some 14)) h.0
    by (Err rule) keeps h f = f ∙ ap (λ (o : Option ℕ). option_or o (unless keeps 14)) h
