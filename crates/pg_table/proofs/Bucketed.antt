-- A list whose last element stands apart, with one of its elements removed.
use Rattle.std.proofs.Common.{◌≡◌, ℕ, append-nil, ◌+◌, ◌-◌, ◌<◌, ◌≤◌, List, [], ◌∷◌, ◌++◌, length, get_or, set, take, refl, sym, ◌∙◌, ap, subst, arith, length-append, Option, Some, None}
use Rattle.std.proofs.Math.Seq.{take-append_seam}
use Rattle.std.proofs.lemmas.List.{set-append_right}
use Rattle.std.specs.Prelude.{IfNone, slice_get}
use Rattle.std.specs.List.{swap_remove}
use Rattle.std.specs.Option.{option_to_list}
use Rattle.pg_table.proofs.Lists.{swap_remove_last}

-- the last of a list is removed
swap_remove_end : {X : Type 0} (xs : List X) (x d : X) → swap_remove (xs ++ x ∷ []) (length xs) d ≡ xs
swap_remove_end {X} xs x d =
    let n : length (xs ++ x ∷ []) ≡ length xs + 1 = length-append xs (x ∷ []) in
    let m : length (xs ++ x ∷ []) - 1 ≡ length xs = omega arith in
    let last = get_or (xs ++ x ∷ []) (length (xs ++ x ∷ []) - 1) d in
    let put : set (xs ++ x ∷ []) (length xs) last ≡ xs ++ set (x ∷ []) (length xs - length xs) last =
    set-append_right xs (x ∷ []) (length xs) (length xs) last refl (omega arith) in
    ap (λ k. take k (set (xs ++ x ∷ []) (length xs) last)) m ∙ (ap (take (length xs)) put ∙
    take-append_seam xs (set (x ∷ []) (length xs - length xs) last))

module _ {X : Type 0} (xs items : List X) (o : Option X) (i : ℕ) (view : xs ++ option_to_list o ≡ items)
    (within : i < length items) where
  -- the one apart is put in its place
  pub put_in : (x : X) → o ≡ Some x → i < length xs → (d : X) → set xs i x ≡ swap_remove items i d
  put_in x some l d =
      let is : xs ++ x ∷ [] ≡ items = ap (λ z. xs ++ option_to_list z) (sym some) ∙ view in
      sym (swap_remove_last xs i x d l) ∙ ap (λ z. swap_remove z i d) is

  -- it is the one apart
  pub let_go : (x : X) → o ≡ Some x → length xs ≤ i → (d : X) → xs ≡ swap_remove items i d
  let_go x some l d =
      let is : xs ++ x ∷ [] ≡ items = ap (λ z. xs ++ option_to_list z) (sym some) ∙ view in
      let n : length (xs ++ x ∷ []) ≡ length xs + 1 = length-append xs (x ∷ []) in
      let m : length (xs ++ x ∷ []) ≡ length items = ap length is in
      let e : length xs ≡ i = omega arith in
      sym (swap_remove_end xs x d) ∙ (ap (λ z. swap_remove z (length xs) d) is ∙
      ap (λ k. swap_remove items k d) e)

  pub not_none : o ≡ None → IfNone o (xs ≡ []) → ⊥
  not_none none h =
      let e : xs ≡ [] = subst (λ z. IfNone z (xs ≡ [])) none h in
      let is : xs ++ option_to_list None ≡ items = ap (λ z. xs ++ option_to_list z) (sym none) ∙ view in
      let n : length (xs ++ []) ≡ length xs + 0 = length-append xs [] in
      let m : length (xs ++ []) ≡ length items = ap length is in
      let z : length xs ≡ 0 = ap length e in
      omega arith

  -- it is the only one
  pub alone : (p : Option X) → o ≡ p → xs ≡ [] → (d : X) → xs ++ [] ≡ swap_remove items i d
  alone None none z d = absurd (not_none none (subst (λ q. IfNone q (xs ≡ [])) (sym none) z))
  alone (Some x) some z d =
      let l : length xs ≡ 0 = ap length z in
      ap (λ ys. ys ++ []) z ∙ (sym z ∙ let_go x some (omega arith) d)

-- the place behind the others is that of the one apart
pub get_apart : {X : Type 0} (xs : List X) (o : Option X) → slice_get (xs ++ option_to_list o) (length xs) ≡ o
get_apart [] None = refl
get_apart [] (Some x) = refl
get_apart (y ∷ ys) o = get_apart ys o

-- the place behind the others is that of the one apart, where the list is given
pub get_at_end : {X : Type 0} (xs items : List X) (o : Option X) (i : ℕ) → xs ++ option_to_list o ≡ items
    → i ≡ length xs → o ≡ slice_get items i
get_at_end xs items o i view end =
    sym (get_apart xs o) ∙ (ap (λ zs. slice_get zs (length xs)) view ∙ ap (λ k. slice_get items k) (sym end))

-- one that stands alone leaves nothing
pub none_left : {X : Type 0} (xs items : List X) (o p q : Option X) → xs ++ option_to_list o ≡ items → p ≡ None
    → q ≡ o → items ≡ (xs ++ option_to_list p) ++ option_to_list q
none_left xs items o p q view gone taken =
    subst (λ z. items ≡ (xs ++ option_to_list z) ++ option_to_list q) (sym gone)
    (subst (λ z. items ≡ (xs ++ []) ++ option_to_list z) (sym taken)
    (sym view ∙ ap (λ ys. ys ++ option_to_list o) (sym (append-nil xs))))

-- the last of the others takes its place
pub next_stands : {X : Type 0} (xs ys items : List X) (o p q r : Option X) → xs ++ option_to_list o ≡ items
    → xs ≡ ys ++ option_to_list p → r ≡ p → q ≡ o → items ≡ (ys ++ option_to_list r) ++ option_to_list q
next_stands xs ys items o p q r view e put taken =
    subst (λ z. items ≡ (ys ++ option_to_list z) ++ option_to_list q) (sym put)
    (subst (λ z. items ≡ (ys ++ option_to_list p) ++ option_to_list z) (sym taken)
    (sym view ∙ ap (λ zs. zs ++ option_to_list o) e))

-- where none stands apart there is none
pub none_apart : {X : Type 0} (xs items : List X) (o q : Option X) → xs ++ option_to_list o ≡ items
    → IfNone o (xs ≡ []) → q ≡ o → IfNone q (items ≡ [])
none_apart {X} xs items o q view none taken = subst (λ z. IfNone z (items ≡ [])) (sym taken) (of o view none)
  where
    of : (o : Option X) → xs ++ option_to_list o ≡ items → IfNone o (xs ≡ []) → IfNone o (items ≡ [])
    of None view none = sym view ∙ ap (λ ys. ys ++ []) none
    of (Some x) view none = tt
