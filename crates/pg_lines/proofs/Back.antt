-- A walk from the end of a list.
use Rattle.std.proofs.Common.{◌≡◌, refl, sym, ap, ◌∙◌, subst, ℕ, zero, suc, ◌+◌, ◌-◌, ◌*◌, ◌^◌, ◌≤◌, ◌<◌, arith, List, [], ◌∷◌, length, take}
use Rattle.std.specs.Prelude.{drop, get_or, nat_abs, ℤ, ◌+ℤ◌}
use Rattle.std.specs.List.{AllByRecursion}
use Rattle.std.proofs.lemmas.Int.{ints}
use Rattle.std.proofs.lemmas.List.{drop_more, get_or-take, length-take-le}
use Rattle.pg_list.specs.Whole.{whole_sum_by}
use Rattle.pg_hlist.specs.declared.item.HItem.{HItem}
use Rattle.pg_hlist.specs.declared.item.HItem.TheVariants.{BoxItem, Glue, Kern, Penalty}
use Rattle.pg_hlist.specs.Items.{IsInRange, width_of}

-- what a walk from the end has passed, with one item more
pub one_back : {X : Type 0} (line rest : List X) (last : X) → rest ≡ take (length rest) line → length rest ≤ length line →
    1 ≤ length rest → last ≡ get_or rest (length rest - 1) last →
    drop (length rest - 1) line ≡ last ∷ drop (length rest) line
one_back {X} line rest last front within some is =
    let n = length rest - 1 in
    let there : get_or rest n last ≡ get_or line n last =
    ap (λ (xs : List X). get_or xs n last) front ∙ get_or-take (length rest) line n last (omega (arith, some)) in
    drop_more line n last (omega (arith, within, some))
    ∙ ap (λ (x : X). x ∷ drop (n + 1) line) (sym there ∙ sym is)
    ∙ ap (λ (k : ℕ). last ∷ drop k line) (omega (arith, some))

take_front : {X : Type 0} (i m : ℕ) (xs : List X) → i ≤ m → take i (take m xs) ≡ take i xs
take_front zero m xs h = refl
take_front (suc i) zero xs h = absurd (omega (arith, h))
take_front (suc i) (suc m) [] h = refl
take_front {X} (suc i) (suc m) (x ∷ xs) h =
    ap (λ (ys : List X). x ∷ ys) (take_front i m xs (omega (arith, h)))

pub front_back : {X : Type 0} (line rest : List X) → rest ≡ take (length rest) line →
    take (length rest - 1) rest ≡ take (length (take (length rest - 1) rest)) line
front_back {X} line rest front =
    let n = length rest - 1 in
    let long : length (take n rest) ≡ n = length-take-le n rest (omega arith) in
    ap (take n) front ∙ take_front n (length rest) line (omega arith)
    ∙ ap (λ (k : ℕ). take k line) (sym long)
