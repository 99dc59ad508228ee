-- Counts that deal out no float.
use Rattle.std.proofs.Common.{◌≡◌, refl, sym, ap, ◌∙◌, ℕ, ◌+◌, ◌≤◌, List, [], ◌∷◌, ◌++◌, length, map, take, Bool, false, pos, ℤ, arith}
use Rattle.std.specs.Prelude.{drop, nat_lt, Result, Ok, Err, IfOk}
use Rattle.pg_style.specs.Values.{AreaRuleValue, StyleValue}
use Rattle.pg_style.specs.declared.style.Gap.{Gap}
use Rattle.pg_lemmas.proofs.Numbers.{not_less}
use Rattle.pg_rules.specs.Floats.{area_give, area_height, dealt_from, entry, float_numbers, floats, plus_counts, slots, total_count}
use Rattle.pg_rules.specs.Room.{Document}
use Rattle.pg_layouts.proofs.Areas.{entry_few}
use Rattle.pg_sources.proofs.CalledFew.{entries_are}
use Rattle.law_moves.specs.Steps.{area_of, give_of}

-- no more than none
pub none_in : (counts : List ℕ) (b : Bool) → b ≡ nat_lt 0 (total_count counts) → b ≡ false → total_count counts ≡ 0
none_in counts b e f =
    let l : total_count counts ≤ 0 = not_less 0 (total_count counts) (sym e ∙ f) in omega (arith, l)

-- added to others they change none
pub plus_none : (style : StyleValue) (a b : List ℕ) → length a ≡ length (float_numbers style) → total_count b ≡ 0 →
    plus_counts style a b ≡ a
plus_none style a b long none = same (slots style) ∙ entries_are a (length (float_numbers style)) long
  where
    same : (xs : List ℕ) → map (λ (slot : ℕ). entry a slot + entry b slot) xs ≡ map (λ (slot : ℕ). entry a slot) xs
    same [] = refl
    same (slot ∷ xs) =
        let few : entry b slot ≤ total_count b = entry_few b slot in
        let here : entry a slot + entry b slot ≡ entry a slot = omega (arith, few, none) in
        ap (λ (n : ℕ). n ∷ map (λ (s : ℕ). entry a s + entry b s) xs) here
        ∙ ap (λ (ns : List ℕ). entry a slot ∷ ns) (same xs)

-- counts that are others have as many entries
pub on_long : {E : Type 0} (r : Result (List ℕ) E) (n : ℕ) (a : List ℕ) → length a ≡ n → IfOk r (λ counts. counts ≡ a) →
    IfOk r (λ counts. length counts ≡ n)
on_long (Err e) n a long h = tt
on_long (Ok counts) n a long h = ap (λ (it : List ℕ). length it) h ∙ long

dealt_none : {X : Type 0} (slot : ℕ) (all : List (List X)) (before counts : List ℕ) → total_count counts ≡ 0 →
    dealt_from slot all before counts ≡ []
dealt_none slot [] before counts none = refl
dealt_none slot (own ∷ all) before counts none =
    let few : entry counts slot ≤ total_count counts = entry_few counts slot in
    let here : entry counts slot ≡ 0 = omega (arith, few, none) in
    ap (λ (n : ℕ). take n (drop (entry before slot) own) ++ dealt_from (slot + 1) all before counts)
    here ∙ dealt_none (slot + 1) all before counts none

-- an area with none has no height
pub area_none : (doc : Document) (rule : AreaRuleValue) (before counts : List ℕ) → total_count counts ≡ 0 →
    pos 0 ≡ area_of doc rule before counts
area_none doc rule before counts none =
    sym (ap (area_height rule) (dealt_none 0 (floats doc.blocks doc.style) before counts none))

-- and its gaps give nothing
pub give_none : (part : Gap → ℤ) (doc : Document) (rule : AreaRuleValue) (before counts : List ℕ) →
    total_count counts ≡ 0 → pos 0 ≡ give_of part doc rule before counts
give_none part doc rule before counts none =
    sym (ap (λ (sizes : List ℤ). area_give part rule (length sizes))
    (dealt_none 0 (floats doc.blocks doc.style) before counts none))
