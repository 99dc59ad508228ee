-- The fewest lines to the end, place by place from the end back.
use Rattle.std.proofs.Common.{◌≡◌, refl, sym, ap, ◌∙◌, subst, ℕ, zero, suc, ◌+◌, ◌-◌, ◌≤◌, ◌<◌, inl, inr, List, [], ◌∷◌, ◌++◌, length, length-append, take, arith, true}
use Rattle.std.specs.Prelude.{◌⊎◌, drop, get_or, nat_lt, Contains}
use Rattle.std.specs.List.{slice_index}
use Rattle.std.proofs.lemmas.List.{get_or_append_left, take_all}
use Rattle.std.proofs.Math.Seq.{get_or-append_seam}
use Rattle.pg_lemmas.proofs.Bools.{by_bool}
use Rattle.pg_lemmas.proofs.Numbers.{less_true, not_less}
use Rattle.pg_hlist.specs.declared.item.HItem.{HItem}
use Rattle.law_lines.specs.declared.rule.LineRule.{LineRule}
use Rattle.law_lines.specs.Lines.{is_line}
use Rattle.law_lines.proofs.LineFacts.{line_rises, line_within}
use Rattle.law_lines.specs.LineSpace.{IsLow}
use Rattle.pg_lines.specs.declared.ends.LineEnd.{LineEnd}
use Rattle.pg_lines.specs.Ends.{ends_from}
use Rattle.pg_lines.specs.Moves.{low_by}
use Rattle.pg_lines.proofs.Moves.{on_end, the_end}
use Rattle.law_places.proofs.Among.{Among}
use Rattle.law_places.proofs.Members.{among_contains}

-- a member of a list that is cut behind its first
pub among_front : {X : Type 0} (xs : List X) (d e : X) → 1 ≤ length xs → Among e xs →
    (get_or xs 0 d ≡ e) ⊎ Among e (take (length xs - 1) (drop 1 xs))
among_front [] d e some a = absurd a
among_front (y ∷ ys) d e some (inl p) = inl p
among_front (y ∷ ys) d e some (inr a) =
    inr (subst (Among e) (sym (take_all (length (y ∷ ys) - 1) ys (omega arith))) a)

-- where the places from one on are told
pub record IsTold (rule : LineRule) (para : List HItem) (low : List ℕ) (place : ℕ) : Type 0 where
  pub long : length low + place ≡ length para + 1
  pub within : place ≤ length para
  pub end : low_by (length para) low (length para) ≡ 0
  pub falls : (a k : ℕ) → place ≤ a → is_line rule para a k ≡ true →
      low_by (length para) low a ≤ low_by (length para) low k + 1

module _ (rule : LineRule) (para : List HItem) where
  pub told_end : (low : List ℕ) → low ≡ 0 ∷ [] → IsTold rule para low (length para)
  told_end low is = subst (λ (xs : List ℕ). IsTold rule para xs (length para)) (sym is) (record {
    long = omega arith;
    within = omega arith;
    end = first (length para - length para) (omega arith);
    falls = λ a k h stands. absurd (let r = line_rises rule para a k stands in
        let w = line_within rule para a k stands in omega (arith, h, r, w));
  })
    where
      first : (i : ℕ) → i ≡ 0 → slice_index (0 ∷ []) i ≡ 0
      first i e = ap (slice_index (0 ∷ [])) e

  pub told_more : (low new : List ℕ) (place fewest : ℕ) → IsTold rule para low place → 0 < place →
      new ≡ low ++ fewest ∷ [] →
      ((e : LineEnd) → Contains (ends_from rule para (place - 1)) e → fewest ≤ low_by (length para) low e.place + 1) →
      IsTold rule para new (place - 1)
  told_more low new place fewest told some push least =
      subst (λ (xs : List ℕ). IsTold rule para xs (place - 1)) (sym push) (record {
        long = (let l = length-append low (fewest ∷ []) in let o = told.long in omega (arith, l, o, some));
        within = (let w = told.within in omega (arith, w));
        end = kept (length para) told.within ∙ told.end;
        falls = λ a k h stands. by_bool (nat_lt a place)
            (λ e. here a k h (less_true a place e) stands)
            (λ e. there a k (not_less a place e) stands);
      })
    where
      kept : (i : ℕ) → place ≤ i → low_by (length para) (low ++ fewest ∷ []) i ≡ low_by (length para) low i
      kept i h = get_or_append_left low (fewest ∷ []) 0 (length para - i)
          (let l = told.long in let w = told.within in omega (arith, h, l, w))

      there : (a k : ℕ) → place ≤ a → is_line rule para a k ≡ true →
          low_by (length para) (low ++ fewest ∷ []) a ≤ low_by (length para) (low ++ fewest ∷ []) k + 1
      there a k h stands =
          let r = line_rises rule para a k stands in
          let ka = kept a h in
          let kk = kept k (omega (arith, h, r)) in
          let f = told.falls a k h stands in
          omega (arith, ka, kk, f)

      new_at : (i j : ℕ) → i ≡ length low → slice_index (low ++ fewest ∷ []) i ≡ fewest
      new_at i j e = ap (slice_index (low ++ fewest ∷ [])) e ∙ get_or-append_seam low fewest [] 0

      here : (a k : ℕ) → place - 1 ≤ a → a < place → is_line rule para a k ≡ true →
          low_by (length para) (low ++ fewest ∷ []) a ≤ low_by (length para) (low ++ fewest ∷ []) k + 1
      here a k h l stands =
          let at : a ≡ place - 1 = omega (arith, h, l) in
          let r = line_rises rule para a k stands in
          let w = line_within rule para a k stands in
          let kk = kept k (omega (arith, h, l, r)) in
          let new_is : low_by (length para) (low ++ fewest ∷ []) a ≡ fewest =
          new_at (length para - a) 0 (let o = told.long in let i = told.within in omega (arith, o, i, h, l)) in
          let among = on_end rule para a 0 (length para + 1) k (omega arith) (omega (arith, w)) stands in
          let f = least (the_end rule para a k) (subst (λ (b : ℕ). Contains (ends_from rule para b) (the_end rule para a k)) at
          (among_contains (ends_from rule para a) (the_end rule para a k) among)) in
          omega (arith, new_is, kk, f)

  pub all_told : (low : List ℕ) (place : ℕ) → IsTold rule para low place → place ≤ 0 →
      IsLow rule para (low_by (length para) low)
  all_told low place told none = record {
    end = told.end;
    falls = λ a k stands. told.falls a k (omega (arith, none)) stands;
  }
