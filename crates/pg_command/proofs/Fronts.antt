-- What several writes in a row append.
use Rattle.std.proofs.Common.{◌≡◌, ◌∙◌, ◌+◌, ℕ, min, ap, sym, arith, List, [], ◌++◌, length, append_assoc, append-nil}
use Rattle.std.proofs.Common.{take}
use Rattle.std.specs.Prelude.{Option, Some, None, Result, Ok, Err, OnErr}
use Rattle.std.proofs.Math.Seq.{take-append-add}
use Rattle.std.proofs.lemmas.List.{take_min, take-append-le}
use Rattle.std.specs.Io.KnownBytes.{Appends}
use Rattle.pg_outside.specs.Outside.{AppendsFront}

pub appends_both : (old mid new : Option (List ℕ)) (a b : List ℕ) → Appends old mid a → Appends mid new b
    → Appends old new (a ++ b)
appends_both None mid new a b first second = tt
appends_both (Some xs) None new a b first second = absurd first
appends_both (Some xs) (Some ys) None a b first second = absurd second
appends_both (Some xs) (Some ys) (Some zs) a b first second = second ∙ ap (λ (l : List ℕ). l ++ b) first ∙
    append_assoc xs a b

take_front : (n : ℕ) (a b : List ℕ) → take (min n (length a)) (a ++ b) ≡ take n a
take_front n a b = take-append-le (min n (length a)) a b (omega arith) ∙ take_min n a

pub front_of_more : (old new : Option (List ℕ)) (a b : List ℕ) → AppendsFront old new a
    → AppendsFront old new (a ++ b)
front_of_more None new a b (n, front) = (n, tt)
front_of_more (Some xs) None a b (n, front) = (n, front)
front_of_more (Some xs) (Some ys) a b (n, front) = (
  min n (length a),
  front ∙ ap (λ (l : List ℕ). xs ++ l)
      (sym (take_front n a b)),
)

take_past : (n : ℕ) (a b : List ℕ) → take (length a + n) (a ++ b) ≡ a ++ take n b
take_past n a b = take-append-add a b n

pub front_after : (old mid new : Option (List ℕ)) (a b : List ℕ) → Appends old mid a → AppendsFront mid new b
    → AppendsFront old new (a ++ b)
front_after None mid new a b first (n, front) = (n, tt)
front_after (Some xs) None new a b first (n, front) = absurd first
front_after (Some xs) (Some ys) None a b first (n, front) = absurd front
front_after (Some xs) (Some ys) (Some zs) a b first (n, front) = (
  length a + n,
  front ∙ ap (λ (l : List ℕ). l ++ take n b) first ∙ append_assoc xs a (take n b) ∙ ap
      (λ (l : List ℕ). xs ++ l) (sym (take_past n a b)),
)

pub on_err : {T E P : Type 0} → (r : Result T E) → P → OnErr r P
on_err (Ok x) p = tt
on_err (Err e) p = p
