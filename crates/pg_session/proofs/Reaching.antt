-- How many labels a solution opens.
use Rattle.std.proofs.Common.{◌≡◌, refl, sym, ap, ◌∙◌, ℕ, ◌+◌, inl, inr, List, [], ◌∷◌, map, Bool, arith}
use Rattle.std.specs.Prelude.{cond, nat_le}
use Rattle.std.specs.List.{count_by}
use Rattle.std.specs.List.Sorted.{IsPermutation}
use Rattle.std.proofs.lemmas.List.Sorted.{sum_by-IsPermutation}
use Rattle.std.proofs.lemmas.List.Sums.{sum_by-cons}
use Rattle.pg_list.specs.GalleyValue.{GalleyValue}
use Rattle.pg_plan.specs.declared.pages.PageMove.{PageMove}
use Rattle.pg_plan.specs.declared.states.Label.{Label}
use Rattle.pg_plan.specs.declared.states.State.{State}
use Rattle.pg_style.specs.Values.{StyleValue}
use Rattle.pg_rules.specs.Legal.{document}
use Rattle.law_places.proofs.Members.{among_contains}
use Rattle.law_places.proofs.Among.{Among}
use Rattle.law_space.specs.SpaceLaws.{label_of}
use Rattle.law_space.specs.PageSpace.{page_meaning}
use Rattle.pg_table.specs.Label.{IsTable}
use Rattle.pg_table.specs.Searching.{count_reaching}
use Rattle.pg_table.specs.declared.table.Entry.{Entry}
use Rattle.pg_session.specs.Sessions.{label_reach, labels_reaching}

-- two tests that answer alike count as many
count_map : {X Y : Type 0} (p : X → Bool) (q : Y → Bool) (f : X → Y) (xs : List X) →
    ((x : X) → Among x xs → p x ≡ q (f x)) → count_by p xs ≡ count_by q (map f xs)
count_map p q f [] same = refl
count_map p q f (x ∷ xs) same =
    let first : ◌≡◌ {A = ℕ} (cond (p x) 1 0) (cond (q (f x)) 1 0) =
    ap (λ (b : Bool). cond {A = ℕ} b 1 0) (same x (inl refl)) in
    let rest : count_by p xs ≡ count_by q (map f xs) = count_map p q f xs (λ y among. same y (inr among)) in
    let left : count_by p (x ∷ xs) ≡ cond (p x) 1 0 + count_by p xs = sum_by-cons (λ y. cond (p y) 1 0) x xs in
    let right : count_by q (f x ∷ map f xs) ≡ cond (q (f x)) 1 0 + count_by q (map f xs) =
    sum_by-cons (λ y. cond (q y) 1 0) (f x) (map f xs) in
    omega (arith, first, rest, left, right)

-- the entries that reach a block are as many as the labels that do
pub reaching_same : (g : GalleyValue) (s : StyleValue) (t : ℕ) (es : List (Entry State PageMove))
    (labels : List Label) → IsTable (page_meaning (document g s)) es → IsPermutation (map label_of es) labels →
    count_reaching t es ≡ labels_reaching t g s labels
reaching_same g s t es labels table moved =
    count_map (λ (e : Entry State PageMove). nat_le t e.reach)
    (λ (label : Label). nat_le t (label_reach g s label)) label_of es
    (λ e among. ap (λ (n : ℕ). nat_le t n) (table.reaches e (among_contains es e among)))
    ∙ sym (sum_by-IsPermutation (λ (label : Label). cond (nat_le t (label_reach g s label)) 1 0)
    (map label_of es) labels moved)
