-- The rest of a list, behind those in front that pass a test.
use Rattle.std.proofs.Common.{◌≡◌, refl, sym, ap, subst, arith, suc, ◌+◌, ◌≤◌, Bool, true, false, List, [], ◌∷◌, ◌++◌, length, drop, take-append-drop}
use Rattle.std.specs.Prelude.{take_while}
use Rattle.std.specs.List.{prefix_len}
use Rattle.pg_lemmas.proofs.Bools.{by_bool}

module _ {A : Type 0} (test : A → Bool) where
  abbrev pub behind : List A → List A
  behind list = drop (prefix_len test list) list

  pub behind_more : (x : A) (list : List A) → test x ≡ true → behind (x ∷ list) ≡ behind list
  behind_more x list so =
      let next : 1 + prefix_len test list ≡ suc (prefix_len test list) = omega arith in
      rw (so, next) refl

  pub behind_none : (x : A) (list : List A) → test x ≡ false → behind (x ∷ list) ≡ x ∷ list
  behind_none x list other = rw other refl

  pub behind_shorter : (list : List A) → length (behind list) ≤ length list
  behind_shorter [] = omega arith
  behind_shorter (x ∷ list) = by_bool (test x)
      (λ so. (let same = ap length (behind_more x list so) in let less = behind_shorter list in omega (arith, same, less)))
      (λ other. (let same = ap length (behind_none x list other) in omega (arith, same)))

  -- the first fails the test, if there is one
  abbrev pub BeginsBehind : List A → Type 0
  BeginsBehind [] = Unit {0}
  BeginsBehind (x ∷ list) = test x ≡ false

  pub behind_begins : (list : List A) → BeginsBehind (behind list)
  behind_begins [] = tt
  behind_begins (x ∷ list) = by_bool (test x)
      (λ so. subst (λ (l : List A). BeginsBehind l) (sym (behind_more x list so)) (behind_begins list))
      (λ other. subst (λ (l : List A). BeginsBehind l) (sym (behind_none x list other)) other)

  -- both parts together
  pub front_behind : (list : List A) → take_while test list ++ behind list ≡ list
  front_behind list = take-append-drop (prefix_len test list) list
