-- A whole look, break by break, and what it comes to.
use Rattle.std.proofs.Common.{◌≡◌, ◌∙◌, sym, ap, arith, ℕ, suc, ◌+◌, ◌-◌, ◌≤◌, List, length, length-take, Option, Some, None}
use Rattle.std.specs.Prelude.{unwrap_or, slice_get}
use Rattle.pg_lemmas.proofs.Bools.{by_bool}
use Rattle.pg_lemmas.proofs.Lists.{some_at}
use Rattle.pg_lemmas.proofs.Numbers.{less_true, not_less}
use Rattle.std.specs.Prelude.{nat_lt}
use Rattle.pg_list.specs.declared.item.Item.{Item}
use Rattle.pg_style.specs.Values.{StyleValue}
use Rattle.pg_greedy.specs.Ahead.{look, taken}
use Rattle.pg_greedy.specs.Looking.{AreRead, IsLook, counted}
use Rattle.pg_greedy.specs.declared.look.Candidate.{Candidate}
use Rattle.pg_greedy.specs.declared.look.Looked.TheVariants.{GoesOn, Ends}
use Rattle.pg_greedy.specs.declared.read.Read.{Read}

-- where nothing stands at an offset, the list has ended
pub ended : {X : Type 0} (xs : List X) (k : ℕ) → slice_get xs k ≡ None → length xs ≤ k
ended {X = X} xs k e = by_bool (nat_lt k (length xs))
    (λ t. let it = some_at xs k (less_true k (length xs) t) in absurd (clash it.0 it.1))
    (λ f. not_less k (length xs) f)
  where
    clash : (x : X) → slice_get xs k ≡ Some x → ⊥
    clash x some = absurd (let both : None ≡ Some x = sym e ∙ some in cc)

module _ (style : StyleValue) (items : List Item) where
  pub read_counts : (read : Read) → AreRead style items read →
      (read.sums.count ≡ read.count) × (read.notes.count ≡ read.count)
  read_counts read r =
      let long = length-take read.count items in
      let within = r.within in
      let sums = r.sums.count_is in
      let notes = r.notes.count_is in
      (omega (arith, long, within, sums), omega (arith, long, within, notes))

  abbrev whole : Option ℕ
  whole = look style items 0 (length items + 1) None

  -- the look comes to what it comes to from here on
  abbrev pub Looks : ℕ → Option Candidate → Type 0
  Looks k best = (n : ℕ) → k + n ≡ length items → whole ≡ look style items k (suc n) (counted best)

  pub looks_first : Looks 0 None
  looks_first n e = let s : length items + 1 ≡ suc n = omega (arith, e) in ap (λ k. look style items 0 k None) s

  pub looks_next : (k : ℕ) (best kept : Option Candidate) → Looks k best → IsLook style items k best (GoesOn kept) →
      Looks (k + 1) kept
  looks_next k best kept looks step n e =
      let s : k + suc n ≡ length items = omega (arith, e) in looks (suc n) s ∙ step.1 (suc n)

  taken_is : (count : ℕ) → whole ≡ Some count → count ≡ taken style items
  taken_is count e = sym (ap (λ (o : Option ℕ). unwrap_or o (length items)) e)

  pub ends_taken : (k : ℕ) (best : Option Candidate) (count : ℕ) → Looks k best → k ≤ length items →
      IsLook style items k best (Ends count) → count ≡ taken style items
  ends_taken k best count looks within ends =
      let s : k + (length items - k) ≡ length items = omega (arith, within) in
      taken_is count (looks (length items - k) s ∙ ends (length items - k))

  at_end : (k : ℕ) (best kept : Option Candidate) → Looks k best → k ≡ length items →
      IsLook style items k best (GoesOn kept) → whole ≡ counted kept
  at_end k best kept looks last step = let s : k + 0 ≡ length items = omega (arith, last) in looks 0 s ∙ step.1 0

  pub found_taken : (k : ℕ) (best : Option Candidate) (kept : Candidate) → Looks k best → k ≡ length items →
      IsLook style items k best (GoesOn (Some kept)) → kept.count ≡ taken style items
  found_taken k best kept looks last step = taken_is kept.count (at_end k best (Some kept) looks last step)

  pub none_taken : (k : ℕ) (best : Option Candidate) → Looks k best → k ≡ length items →
      IsLook style items k best (GoesOn None) → k ≡ taken style items
  none_taken k best looks last step =
      last ∙ sym (ap (λ (o : Option ℕ). unwrap_or o (length items)) (at_end k best None looks last step))
