-- The least rule of all, from the least of each column.
use Rattle.std.proofs.Common.{◌≡◌, refl, sym, ap, ◌∙◌, ℕ, ◌+◌, ◌≤◌, arith, List, [], ◌∷◌, length, Bool, true, false, Option, Some, None}
use Rattle.std.specs.Prelude.{◌&&◌, nat_lt, reverse, if◌then◌else◌}
use Rattle.std.specs.Option.{option_or}
use Rattle.std.proofs.lemmas.Bool.Decides.{nat_tests}
use Rattle.pg_list.specs.GalleyValue.{GalleyValue}
use Rattle.pg_plan.specs.declared.pages.PageMove.{PageMove}
use Rattle.pg_plan.specs.declared.pages.Pagination.{Pagination}
use Rattle.pg_plan.specs.Order.{columns}
use Rattle.pg_style.specs.Values.{StyleValue}
use Rattle.pg_rules.specs.ColumnRules.{is_well_formed, is_tolerable, passes_breaks, has_room, has_counts, keeps_note_limits, keeps_looseness}
use Rattle.pg_rules.specs.History.{next_column, next_run, placed_of, context}
use Rattle.pg_rules.specs.Legal.{breach, deals_floats, document, ends_spent, faults, first_at_fault, first_breach, has_callouts, has_dealt_all, has_run, has_wide_counts, is_chained, is_near, keeps_barriers, misfilled, unless}
use Rattle.pg_rules.specs.Room.{Document}
use Rattle.pg_judge.specs.Verdict.{behind_pages, broken_at_end, broken_by, first_false, lesser, tests_at_end, tests_on}

-- ---- one list of columns with one list of tests

-- the column found so far, or this one where the test fails
joined : List (Option ℕ) → List Bool → ℕ → List (Option ℕ)
joined [] tests n = []
joined (fault ∷ faults) [] n = fault ∷ faults
joined (fault ∷ faults) (test ∷ tests) n = option_or fault (unless test n) ∷ joined faults tests n

-- whatever is found from a rule on is no lesser rule
abbrev pub IsFrom : ℕ → Option (ℕ × ℕ) → Type 0
IsFrom rule None = Unit {0}
IsFrom rule (Some (found, column)) = rule ≤ found

pub is_from : (rule : ℕ) (faults : List (Option ℕ)) → IsFrom rule (first_breach rule faults)
is_from rule [] = tt
is_from rule (Some n ∷ faults) = omega arith
is_from rule (None ∷ faults) = less (first_breach (rule + 1) faults) (is_from (rule + 1) faults)
  where
    less : (o : Option (ℕ × ℕ)) → IsFrom (rule + 1) o → IsFrom rule o
    less None h = tt
    less (Some (found, column)) h = omega (arith, h)

abbrev pub IsTestFrom : ℕ → Option ℕ → Type 0
IsTestFrom rule None = Unit {0}
IsTestFrom rule (Some found) = rule ≤ found

pub is_test_from : (rule : ℕ) (tests : List Bool) → IsTestFrom rule (first_false rule tests)
is_test_from rule [] = tt
is_test_from rule (false ∷ tests) = omega arith
is_test_from rule (true ∷ tests) = less (first_false (rule + 1) tests) (is_test_from (rule + 1) tests)
  where
    less : (o : Option ℕ) → IsTestFrom (rule + 1) o → IsTestFrom rule o
    less None h = tt
    less (Some found) h = omega (arith, h)

is_joined : (rule : ℕ) (faults : List (Option ℕ)) (tests : List Bool) (n : ℕ) → length faults ≡ length tests →
    first_breach rule (joined faults tests n) ≡ lesser (first_breach rule faults) (first_false rule tests) n
unfolding joined
is_joined rule [] [] n e = refl
is_joined rule [] (test ∷ tests) n e = absurd (omega (arith, e))
is_joined rule (fault ∷ faults) [] n e = absurd (omega (arith, e))
is_joined rule (None ∷ faults) (true ∷ tests) n e = is_joined (rule + 1) faults tests n (omega (arith, e))
is_joined rule (None ∷ faults) (false ∷ tests) n e =
    new (first_breach (rule + 1) faults) (is_from (rule + 1) faults)
  where
    new : (o : Option (ℕ × ℕ)) → IsFrom (rule + 1) o → Some (rule, n) ≡ lesser o (Some rule) n
    new None h = refl
    new (Some (found, column)) h =
        let t : nat_lt rule found ≡ true = less rule found h in
        ap (λ (b : Bool). if b then Some (rule, n) else Some (found, column)) (sym t)
      where
        less : (a b : ℕ) → a + 1 ≤ b → nat_lt a b ≡ true
        less a b h = grind (arith, nat_tests)
is_joined rule (Some column ∷ faults) (true ∷ tests) n e =
    old (first_false (rule + 1) tests) (is_test_from (rule + 1) tests)
  where
    old : (o : Option ℕ) → IsTestFrom (rule + 1) o → Some (rule, column) ≡ lesser (Some (rule, column)) o n
    old None h = refl
    old (Some found) h =
        let t : nat_lt found rule ≡ false = not_less found rule h in
        ap (λ (b : Bool). if b then Some (found, n) else Some (rule, column)) (sym t)
      where
        not_less : (a b : ℕ) → b + 1 ≤ a → nat_lt a b ≡ false
        not_less a b h = grind (arith, nat_tests)
is_joined rule (Some column ∷ faults) (false ∷ tests) n e =
    let t : nat_lt rule rule ≡ false = same rule in
    ap (λ (b : Bool). if b then Some (rule, n) else Some (rule, column)) (sym t)
  where
    same : (a : ℕ) → nat_lt a a ≡ false
    same a = grind (arith, nat_tests)

-- ---- all columns

-- the columns at which rules 2 to 14 are broken first
faults_of : Document → List PageMove → List (Option ℕ)
faults_of doc ms =
    first_at_fault (is_chained doc) ms
    ∷ first_at_fault (λ m ms. is_well_formed (context doc m ms)) ms
    ∷ first_at_fault (λ m ms. is_tolerable (context doc m ms)) ms
    ∷ first_at_fault (λ m ms. passes_breaks (context doc m ms)) ms
    ∷ first_at_fault (λ m ms. has_room (context doc m ms)) ms
    ∷ first_at_fault (λ m ms. has_counts (context doc m ms) && has_wide_counts doc (next_column doc.style ms) m) ms
    ∷ first_at_fault (λ m ms. deals_floats doc (placed_of doc.style ms) m (context doc m ms)) ms
    ∷ first_at_fault (λ m ms. has_callouts doc (placed_of doc.style ms) m) ms
    ∷ first_at_fault (is_near doc) ms
    ∷ first_at_fault (λ m ms. keeps_note_limits (context doc m ms)) ms
    ∷ first_at_fault (λ m ms. has_run doc.style (next_run doc.style ms) m) ms
    ∷ first_at_fault (λ m ms. keeps_looseness (context doc m ms)) ms
    ∷ first_at_fault (λ m ms. keeps_barriers doc (placed_of doc.style ms) m) ms
    ∷ []

at_once : (doc : Document) (m : PageMove) (ms : List PageMove) → first_breach 2 (faults_of doc (m ∷ ms))
    ≡ first_breach 2 (joined (faults_of doc ms) (tests_on doc m ms) (length ms + 1))
unfolding faults_of joined
at_once doc m ms = refl

thirteen : (doc : Document) (ms : List PageMove) → length (faults_of doc ms) ≡ 13
unfolding faults_of
thirteen doc ms = refl

broken_is : (doc : Document) (ms : List PageMove) → first_breach 2 (faults_of doc ms) ≡ broken_by doc ms
unfolding faults_of
broken_is doc [] = refl
broken_is doc (m ∷ ms) = at_once doc m ms
    ∙ (is_joined 2 (faults_of doc ms) (tests_on doc m ms) (length ms + 1) (thirteen doc ms)
    ∙ ap (λ (o : Option (ℕ × ℕ)). lesser o (first_false 2 (tests_on doc m ms)) (length ms + 1)) (broken_is doc ms))

-- ---- with the end

or_none : (o : Option ℕ) → option_or o None ≡ o
or_none None = refl
or_none (Some n) = refl

ended : (a b c d e f g h i j k l m end left : Option ℕ) →
    (option_or a end ∷ b ∷ c ∷ d ∷ e ∷ f ∷ option_or g left ∷ h ∷ i ∷ j ∷ k ∷ l ∷ m ∷ [])
    ≡ (option_or a end ∷ option_or b None ∷ option_or c None ∷ option_or d None ∷ option_or e None ∷ option_or f None
    ∷ option_or g left ∷ option_or h None ∷ option_or i None ∷ option_or j None ∷ option_or k None ∷ option_or l None
    ∷ option_or m None ∷ [])
ended a b c d e f g h i j k l m end left = rw (
  or_none b,
  or_none c,
  or_none d,
  or_none e,
  or_none f,
  or_none h,
  or_none i,
  or_none j,
  or_none k,
  or_none l,
  or_none m,
) refl

-- the columns at which rules 2 to 14 are broken first, with what stands behind the last
faults_at_end : Document → List PageMove → List (Option ℕ)
faults_at_end doc ms = joined (faults_of doc ms) (tests_at_end doc ms) (length ms)

behind : (o : Option ℕ) (faults : List (Option ℕ)) → first_breach 1 (o ∷ faults) ≡ behind_pages o (first_breach 2 faults)
behind None faults = refl
behind (Some n) faults = refl

split : (doc : Document) (plan : Pagination) → faults doc plan
    ≡ misfilled doc.style.columns (reverse plan.pages) ∷ faults_at_end doc (columns plan)
unfolding faults_at_end faults_of joined
split doc plan = ap (λ (xs : List (Option ℕ)). misfilled doc.style.columns (reverse plan.pages) ∷ xs)
    (ended (first_at_fault (is_chained doc) (columns plan))
    (first_at_fault (λ m ms. is_well_formed (context doc m ms)) (columns plan))
    (first_at_fault (λ m ms. is_tolerable (context doc m ms)) (columns plan))
    (first_at_fault (λ m ms. passes_breaks (context doc m ms)) (columns plan))
    (first_at_fault (λ m ms. has_room (context doc m ms)) (columns plan))
    (first_at_fault (λ m ms. has_counts (context doc m ms) && has_wide_counts doc (next_column doc.style ms) m)
    (columns plan))
    (first_at_fault (λ m ms. deals_floats doc (placed_of doc.style ms) m (context doc m ms)) (columns plan))
    (first_at_fault (λ m ms. has_callouts doc (placed_of doc.style ms) m) (columns plan))
    (first_at_fault (is_near doc) (columns plan))
    (first_at_fault (λ m ms. keeps_note_limits (context doc m ms)) (columns plan))
    (first_at_fault (λ m ms. has_run doc.style (next_run doc.style ms) m) (columns plan))
    (first_at_fault (λ m ms. keeps_looseness (context doc m ms)) (columns plan))
    (first_at_fault (λ m ms. keeps_barriers doc (placed_of doc.style ms) m) (columns plan))
    (unless (ends_spent doc (columns plan)) (length (columns plan)))
    (unless (has_dealt_all doc (placed_of doc.style (columns plan))) (length (columns plan))))

pub breach_is : (galley : GalleyValue) (style : StyleValue) (plan : Pagination) →
    breach galley style plan ≡ behind_pages (misfilled style.columns (reverse plan.pages))
    (broken_at_end (document galley style) (columns plan))
unfolding breach faults_at_end
breach_is galley style plan =
    let doc : Document = document galley style in
    ap (first_breach 1) (split doc plan)
    ∙ (behind (misfilled style.columns (reverse plan.pages)) (faults_at_end doc (columns plan))
    ∙ ap (behind_pages (misfilled style.columns (reverse plan.pages)))
    (is_joined 2 (faults_of doc (columns plan)) (tests_at_end doc (columns plan)) (length (columns plan))
    (thirteen doc (columns plan))
    ∙ ap (λ (o : Option (ℕ × ℕ)). lesser o (first_false 2 (tests_at_end doc (columns plan))) (length (columns plan)))
    (broken_is doc (columns plan))))

-- no rule below the second is found
pub broken_from : (doc : Document) (ms : List PageMove) → IsFrom 2 (broken_by doc ms)
broken_from doc [] = tt
broken_from doc (m ∷ ms) =
    by (broken_by doc ms) (first_false 2 (tests_on doc m ms)) (broken_from doc ms) (is_test_from 2 (tests_on doc m ms))
  where
    pick : (b : Bool) (rule found column n : ℕ) → 2 ≤ found → 2 ≤ rule →
        IsFrom 2 (if b then Some (rule, n) else Some (found, column))
    pick true rule found column n h k = k
    pick false rule found column n h k = h

    by : (o : Option (ℕ × ℕ)) (r : Option ℕ) → IsFrom 2 o → IsTestFrom 2 r → IsFrom 2 (lesser o r (length ms + 1))
    by None None h k = tt
    by None (Some rule) h k = k
    by (Some (found, column)) None h k = h
    by (Some (found, column)) (Some rule) h k =
        pick (nat_lt rule found) rule found column (length ms + 1) h k

-- the second stays the least
pub second_stays : (column : ℕ) (r : Option ℕ) (n : ℕ) → IsTestFrom 2 r → lesser (Some (2, column)) r n ≡ Some (2, column)
second_stays column None n h = refl
second_stays column (Some rule) n h =
    let t : nat_lt rule 2 ≡ false = not_less rule h in
    ap (λ (b : Bool). if b then Some (rule, n) else Some (2, column)) t
  where
    not_less : (a : ℕ) → 2 ≤ a → nat_lt a 2 ≡ false
    not_less a h = grind (arith, nat_tests)

-- and comes in the place of any other
pub second_comes : (o : Option (ℕ × ℕ)) (n : ℕ) → IsFrom 2 o → ((column : ℕ) → o ≡ Some (2, column) → ⊥) →
    Some (2, n) ≡ lesser o (Some 2) n
second_comes None n h f = refl
second_comes (Some (found, column)) n h f =
    let t : nat_lt 2 found ≡ true = less found h (λ e. f column (ap (λ (k : ℕ). Some (k, column)) e)) in
    ap (λ (b : Bool). if b then Some (2, n) else Some (found, column)) (sym t)
  where
    less : (a : ℕ) → 2 ≤ a → (a ≡ 2 → ⊥) → nat_lt 2 a ≡ true
    less a h f = grind (arith, nat_tests)
