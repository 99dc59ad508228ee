-- Galleys that agree below a block, cut at the last block that they share.
use Rattle.std.proofs.Common.{◌≡◌, refl, sym, ap, subst, ◌∙◌, ℕ, zero, suc, ◌+◌, ◌≤◌, ◌<◌, List, [], ◌∷◌, ◌++◌, length, length-append, take, drop, Bool, true, false, arith}
use Rattle.std.specs.Prelude.{◌||◌, if◌then◌else◌, nat_lt}
use Rattle.std.specs.List.{AllByRecursion, list_any}
use Rattle.std.proofs.lemmas.List.{length-take, take-append-le, take-take}
use Rattle.pg_list.specs.Places.{has_box, spliced, tail}
use Rattle.pg_list.specs.Shapes.{IsBlock}
use Rattle.pg_list.specs.declared.blocks.Block.{Block}
use Rattle.pg_list.specs.declared.galley.Edit.{Edit}
use Rattle.pg_rules.specs.Reach.{AgreeBelow, touched}
use Rattle.pg_lemmas.proofs.Bools.{or_right}
use Rattle.pg_lemmas.proofs.Numbers.{less_true}
use Rattle.law_edits.proofs.Behind.{GoesOn}

-- ---- tails

tail_within : (xs : List Block) → tail xs ≤ length xs
tail_within [] = omega arith
tail_within (x ∷ xs) = by (nat_lt 0 (tail xs)) (has_box x) (tail_within xs)
  where
    by : (b c : Bool) → tail xs ≤ length xs →
        (if b then tail xs + 1 else (if c then 1 else 0)) ≤ suc (length xs)
    by true c h = omega arith
    by false true h = omega arith
    by false false h = omega arith

tail_some : (xs : List Block) → 0 < tail xs → list_any has_box xs ≡ true
tail_some [] h = absurd (omega arith)
tail_some (x ∷ xs) h = by (nat_lt 0 (tail xs)) refl (has_box x) h (λ k. tail_some xs k)
  where
    by : (b : Bool) → b ≡ nat_lt 0 (tail xs) → (c : Bool) → 0 < (if b then tail xs + 1 else (if c then 1 else 0)) →
        (0 < tail xs → list_any has_box xs ≡ true) → (c || list_any has_box xs) ≡ true
    by true e c h later = or_right c (list_any has_box xs) (later (less_true _ _ (sym e)))
    by false e true h later = refl
    by false e false h later = absurd (omega arith)

-- where the tail is longer than the front, a box stands behind the front
tail_boxed : (front xs : List Block) → length front < tail (front ++ xs) → list_any has_box xs ≡ true
tail_boxed [] xs h = tail_some xs h
tail_boxed (x ∷ front) xs h = tail_boxed front xs (by (nat_lt 0 (tail (front ++ xs))) (has_box x) h)
  where
    by : (b c : Bool) → suc (length front) < (if b then tail (front ++ xs) + 1 else (if c then 1 else 0)) →
        length front < tail (front ++ xs)
    by true c h = omega arith
    by false true h = absurd (omega arith)
    by false false h = absurd (omega arith)

-- ---- galleys that agree, cut at the last block that they share

-- a front, one block more, and what each galley has behind it
pub record SharedFront (n : ℕ) (a b : List Block) : Type 0 where
  pub front : List Block
  pub last : Block
  pub rest : List Block
  pub other : List Block
  pub long : length front ≡ n
  pub is : a ≡ front ++ last ∷ rest
  pub other_is : b ≡ front ++ last ∷ other

shared : (n : ℕ) (a b : List Block) → n < length a → n < length b → take (suc n) a ≡ take (suc n) b → SharedFront n a b
shared n [] b h k e = absurd (omega arith)
shared n (x ∷ a) [] h k e = absurd (omega arith)
shared zero (x ∷ a) (y ∷ b) h k e = let s : x ≡ y = cc in
    record { front = []; last = x; rest = a; other = b; long = refl; is = refl; other_is = ap (λ z. z ∷ b) (sym s) }
shared (suc n) (x ∷ a) (y ∷ b) h k e = longer x y a b n (first x y (take (suc n) a) (take (suc n) b) e)
    (shared n a b (omega arith) (omega arith) (others x y (take (suc n) a) (take (suc n) b) e))
  where
    first : (x y : Block) (xs ys : List Block) → x ∷ xs ≡ y ∷ ys → x ≡ y
    first x y xs ys e = cc

    others : (x y : Block) (xs ys : List Block) → x ∷ xs ≡ y ∷ ys → xs ≡ ys
    others x y xs ys e = cc

    longer : (x y : Block) (a b : List Block) (n : ℕ) → x ≡ y → SharedFront n a b → SharedFront (suc n) (x ∷ a) (y ∷ b)
    longer x y a b n s r = record {
      front = x ∷ r.front;
      last = r.last;
      rest = r.rest;
      other = r.other;
      long = ap suc r.long;
      is = ap (λ zs. x ∷ zs) r.is;
      other_is = ap (λ z. z ∷ b) (sym s) ∙ ap (λ zs. x ∷ zs) r.other_is;
    }

goes_on : (blocks front rest : List Block) (next : Block) → blocks ≡ front ++ next ∷ rest →
    AllByRecursion IsBlock blocks → length front < tail blocks → GoesOn front next rest
goes_on blocks front rest next is each h = record {
  each = subst (AllByRecursion IsBlock) is each;
  boxed = tail_boxed front (next ∷ rest) (subst (λ (xs : List Block). length front < tail xs) is h);
}

-- the galleys are cut there, and go on with a box
pub record AreCut (n : ℕ) (a b : List Block) : Type 0 where
  pub shared : SharedFront n a b
  pub first_on : GoesOn shared.front shared.last shared.rest
  pub second_on : GoesOn shared.front shared.last shared.other

pub are_cut : (n : ℕ) (a b : List Block) → AllByRecursion IsBlock a → AllByRecursion IsBlock b →
    AgreeBelow (suc n) a b → AreCut n a b
are_cut n a b each others g =
    let p : suc n ≤ tail a = g.first_tail in
    let q : suc n ≤ tail b = g.second_tail in
    let s : SharedFront n a b =
    shared n a b (omega (arith, p, tail_within a)) (omega (arith, q, tail_within b)) g.same in
    record {
      shared = s;
      first_on = goes_on a s.front s.rest s.last s.is each (omega (arith, p, s.long));
      second_on = goes_on b s.front s.other s.last s.other_is others (omega (arith, q, s.long));
    }

-- ---- agreement and edits

-- below a smaller block too
pub agree_less : (t u : ℕ) (a b : List Block) → u ≤ t → AgreeBelow t a b → AgreeBelow u a b
agree_less t u a b h g =
    let p : t ≤ tail a = g.first_tail in
    let q : t ≤ tail b = g.second_tail in
    record {
      same = sym (take-take u t a h) ∙ (ap (take u) g.same ∙ take-take u t b h);
      first_tail = omega (arith, h, p);
      second_tail = omega (arith, h, q);
    }

pub agree_back : (t : ℕ) (a b : List Block) → AgreeBelow t a b → AgreeBelow t b a
agree_back t a b g = record { same = sym g.same; first_tail = g.second_tail; second_tail = g.first_tail }

pub agree_on : (t : ℕ) (a b c : List Block) → AgreeBelow t a b → AgreeBelow t b c → AgreeBelow t a c
agree_on t a b c g h = record { same = g.same ∙ h.same; first_tail = g.first_tail; second_tail = h.second_tail }

-- an edit changes nothing below what it touches
pub agree_edited : (blocks : List Block) (edit : Edit) → AgreeBelow (touched blocks edit) blocks (spliced blocks edit)
agree_edited blocks edit = at (touched blocks edit) refl
  where
    kept : (t : ℕ) (xs ys zs : List Block) → t ≤ length xs → take t (xs ++ ys ++ zs) ≡ take t xs
    kept t xs ys zs h = take-append-le t (xs ++ ys) zs (omega (arith, h, length-append xs ys))
        ∙ take-append-le t xs ys h

    at : (t : ℕ) → t ≡ touched blocks edit → AgreeBelow t blocks (spliced blocks edit)
    at t e =
        let n : t ≤ edit.at = omega (arith, e) in
        let p : t ≤ tail blocks = omega (arith, e) in
        let q : t ≤ tail (spliced blocks edit) = omega (arith, e) in
        let k : t ≤ length (take edit.at blocks) =
        omega (arith, n, p, length-take edit.at blocks, tail_within blocks) in
        record {
          same = sym (take-take t edit.at blocks n) ∙ sym (kept t (take edit.at blocks) edit.fresh
              (drop (edit.at + edit.gone) blocks) k);
          first_tail = p;
          second_tail = q;
        }
