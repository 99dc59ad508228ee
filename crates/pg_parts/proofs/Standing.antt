-- Columns that stand behind one another keep every rule on one column.
use Rattle.std.proofs.Common.{◌≡◌, refl, sym, ap, ◌∙◌, subst, ◌+◌, ◌<◌, List, [], ◌∷◌, ◌++◌, length, take, drop, get_or, true, false, Bool, ℕ, pos}
use Rattle.std.specs.Prelude.{◌==◌, ◌&&◌, Option, Some, None, Result, Ok, Err, if◌then◌else◌, option_map, reverse, is_some}
use Rattle.std.specs.Option.{option_map_or}
use Rattle.std.proofs.lemmas.List.{reverse-append, take-append-drop}
use Rattle.pg_lemmas.proofs.Bools.{both}
use Rattle.pg_lemmas.proofs.Lists.{one_more}
use Rattle.pg_list.specs.Flat.{fronts, is_same_place}
use Rattle.pg_plan.specs.declared.pages.PageMove.{PageMove}
use Rattle.pg_column.specs.Judged.{Judges, text_fault}
use Rattle.pg_column.specs.declared.cost.TextCost.{TextCost}
use Rattle.pg_judge.specs.Judged.{own_fitness}
use Rattle.pg_judge.specs.Moves.{JudgesMove}
use Rattle.pg_judge.specs.Progress.{IsProgress}
use Rattle.pg_judge.specs.Verdict.{broken_by, first_false, lesser, tests_on}
use Rattle.pg_judge.specs.declared.moves.MoveCost.{MoveCost}
use Rattle.pg_judge.specs.declared.progress.Progress.{Progress}
use Rattle.pg_judge.proofs.Columns.{some_size}
use Rattle.pg_judge.proofs.Step.{no_pair}
use Rattle.pg_rules.specs.ColumnRules.{column_variants, does_fit, has_counts, has_room, is_tolerable, is_well_formed, keeps_looseness, keeps_note_limits, passes_breaks, text_fitness}
use Rattle.pg_rules.specs.Follow.{KeepsColumnRules}
use Rattle.pg_rules.specs.History.{column_fitness, context, next_column, place_of}
use Rattle.pg_rules.specs.Legal.{has_wide_counts, is_chained}
use Rattle.pg_rules.specs.Room.{ColumnContext, Document, flat_items_of, is_text, size_of}
use Rattle.law_columns.proofs.Beginnings.{stand_behind}
use Rattle.law_columns.proofs.Faults.{none_or, none_unless}
use Rattle.law_columns.specs.Stands.{Stand, StandsAfter}
use Rattle.pg_parts.specs.Parts.{float_part}
use Rattle.pg_parts.specs.Priced.{HasNumbers, price_in}

-- ---- the columns before one

pub one_before : (moves : List PageMove) (i : ℕ) (m : PageMove) → i < length moves → m ≡ get_or moves i m →
    reverse (take (i + 1) moves) ≡ m ∷ reverse (take i moves)
one_before moves i m within is = ap reverse (one_more moves i m within is) ∙ reverse-append (take i moves) (m ∷ [])

-- the columns up to one stand behind one another
pub stand_at : (doc : Document) (moves : List PageMove) (i : ℕ) (m : PageMove) → i < length moves → m ≡ get_or moves i m →
    Stand doc (reverse moves) → Stand doc (m ∷ reverse (take i moves))
stand_at doc moves i m within is stand =
    stand_behind doc (reverse (drop (i + 1) moves)) (m ∷ reverse (take i moves)) (subst (Stand doc) cut stand)
  where
    cut : reverse moves ≡ reverse (drop (i + 1) moves) ++ (m ∷ reverse (take i moves))
    cut = ap reverse (sym (take-append-drop (i + 1) moves))
        ∙ (reverse-append (take (i + 1) moves) (drop (i + 1) moves)
        ∙ ap (λ (xs : List PageMove). reverse (drop (i + 1) moves) ++ xs) (one_before moves i m within is))

-- ---- no rule is broken

passed : (n : ℕ) (test : Bool) (tests : List Bool) → test ≡ true → first_false (n + 1) tests ≡ None →
    first_false n (test ∷ tests) ≡ None
passed n true tests is rest = rest
passed n false tests is rest = absurd cc

pub chained : (doc : Document) (m : PageMove) (ms : List PageMove) → StandsAfter doc m ms → is_chained doc m ms ≡ true
chained doc m ms it = both (is_same_place m.column.from (place_of ms)) (does_fit (context doc m ms)) it.starts
    it.stands.rules.fits

pub keeps_all : (doc : Document) (m : PageMove) (ms : List PageMove) → StandsAfter doc m ms →
    first_false 2 (tests_on doc m ms) ≡ None
keeps_all doc m ms it =
    let rules = it.stands.rules in
    passed 2 _ _ (chained doc m ms it) (passed 3 _ _ rules.well_formed (passed 4 _ _ rules.tolerable
    (passed 5 _ _ rules.passes (passed 6 _ _ rules.room
    (passed 7 _ _ (both (has_counts (context doc m ms)) (has_wide_counts doc (next_column doc.style ms) m) rules.counts
    it.stands.wide) (passed 8 _ _ it.stands.deals (passed 9 _ _ it.stands.callouts (passed 10 _ _ it.near
    (passed 11 _ _ rules.note_limits (passed 12 _ _ it.stands.takes_run (passed 13 _ _ rules.looseness
    (passed 14 _ _ it.stands.barriers refl))))))))))))

pub keeps_text : (it : ColumnContext) → KeepsColumnRules it → text_fault it ≡ None
keeps_text it rules =
    none_or _ _ (none_unless (is_well_formed it) 3 rules.well_formed)
    (none_or _ _ (none_unless (is_tolerable it) 4 rules.tolerable)
    (none_or _ _ (none_unless (passes_breaks it) 5 rules.passes)
    (none_or _ _ (none_unless (has_room it) 6 rules.room)
    (none_or _ _ (none_unless (keeps_note_limits it) 11 rules.note_limits)
    (none_unless (keeps_looseness it) 13 rules.looseness)))))

unbroken : (doc : Document) (ms : List PageMove) → Stand doc ms → broken_by doc ms ≡ None
unbroken doc [] stand = refl
unbroken doc (m ∷ ms) (here, stand) =
    ap (λ (o : Option (ℕ × ℕ)). lesser o (first_false 2 (tests_on doc m ms)) (length ms + 1)) (unbroken doc ms stand)
    ∙ ap (λ (o : Option ℕ). lesser None o (length ms + 1)) (keeps_all doc m ms here)

-- nothing is broken so far
pub none_broken : (doc : Document) (ms : List PageMove) (it : Progress) → IsProgress doc ms it → Stand doc ms →
    it.broken ≡ None
none_broken doc ms it prog stand = no_pair it.broken (prog.broken ∙ unbroken doc ms stand)

-- ---- what a column pays

-- a rule is broken or none is
pub none_or_some : (o : Option ℕ) (rule : ℕ) → o ≡ None → o ≡ Some rule → ⊥
none_or_some None rule e f = cc
none_or_some (Some other) rule e f = cc

pub price_is : (doc : Document) (m : PageMove) (ms : List PageMove) (verdict : Result MoveCost ℕ) →
    JudgesMove doc m ms verdict → first_false 2 (tests_on doc m ms) ≡ None → pos (price_in verdict) ≡ float_part doc m ms
price_is doc m ms (Ok it) judged kept = judged.2
price_is doc m ms (Err rule) judged kept = absurd (none_or_some (first_false 2 (tests_on doc m ms)) rule kept judged)

pub is_some_text : (it : ColumnContext) (told : Option TextCost) → HasNumbers it told → is_some told ≡ is_text it
is_some_text it None none = sym none
is_some_text it (Some numbers) (is, rest) = sym is

pub own_is : (it : ColumnContext) (told : Option TextCost) → HasNumbers it told →
    option_map (λ (numbers : TextCost). numbers.fitness) told ≡ own_fitness it
own_is it None none = sym (ap (λ (t : Bool). if t then Some (column_fitness it) else None) none)
own_is it (Some numbers) (is, (n, (size, are))) =
    ap Some (are.fitness ∙ ap (λ (o : Option ℕ). option_map_or (text_fitness it) o 2) (sym size))
    ∙ sym (ap (λ (t : Bool). if t then Some (column_fitness it) else None) is)

-- the numbers of a text that fits
pub has_numbers : (it : ColumnContext) (numbers : TextCost) → is_text it ≡ true → does_fit it ≡ true →
    Judges it (Ok numbers) → HasNumbers it (Some numbers)
has_numbers it numbers text fits judged =
    let size = some_size (λ (n : ℕ). (fronts (flat_items_of it) n == length it.column.picks)
    && (length (column_variants it) == length it.column.picks)) (size_of it) fits in
    (text, (size.0, (size.1, judged.1 size.0 size.1)))
