-- The listing lists all legal ways, and finds the least of each number of lines and the best.
use Rattle.std.proofs.Common.{◌≡◌, refl, sym, ap, subst, ℕ, zero, suc, ◌+◌, ◌≤◌, ◌<◌, inl, inr, List, [], ◌∷◌, length, Bool, true, false, Option, Some, None, arith}
use Rattle.std.specs.Prelude.{◌&&◌, ◌==◌, if◌then◌else◌}
use Rattle.std.specs.List.{filter, range_with_len}
use Rattle.pg_hlist.specs.declared.item.HItem.{HItem}
use Rattle.law_lines.specs.declared.rule.LineRule.{LineRule}
use Rattle.law_lines.specs.Lines.{is_line}
use Rattle.law_lines.specs.Ways.{start_of, keeps_lines, is_some_line, is_way, demerits, IsLeastOf}
use Rattle.law_lines.specs.Listing.{longer_by, kept_ways, ends_at, ways, is_before, better_of, first_of, least_way}
use Rattle.pg_lemmas.proofs.Bools.{both, both_of}
use Rattle.law_lines.proofs.LineFacts.{line_rises, line_within}
use Rattle.law_lines.proofs.Members.{flat_from, map_from}
use Rattle.law_lines.proofs.Order.{NoLater, before_no_later, not_before_no_later, no_later_itself, no_later_chain}
use Rattle.law_places.proofs.Among.{Among}
use Rattle.law_places.proofs.Members.{in_map, in_filter, of_filter, in_flat, in_range}

module _ (rule : LineRule) (para : List HItem) where
  -- ---- ways whose lines may stand

  pub kept_listed : (way : List ℕ) → keeps_lines rule para way ≡ true → Among way (kept_ways rule para (length way))
  kept_listed [] h = inl refl
  kept_listed (k ∷ way) h =
      let t = both_of (keeps_lines rule para way) (is_line rule para (start_of way) k) h in
      let w : k ≤ length para = line_within rule para (start_of way) k t.1 in
      in_flat (longer_by rule para) (kept_ways rule para (length way)) way (k ∷ way) (kept_listed way t.0)
      (in_map (λ (j : ℕ). j ∷ way) (filter (is_line rule para (start_of way)) (range_with_len 0 (length para + 1))) k
      (in_filter (is_line rule para (start_of way)) (range_with_len 0 (length para + 1)) k
      (in_range 0 (length para + 1) k (omega arith) (omega arith)) t.1))

  pub record IsKept (n : ℕ) (way : List ℕ) : Type 0 where
    pub keeps : keeps_lines rule para way ≡ true
    pub lines : length way ≡ n

  pub listed_kept : (n : ℕ) (way : List ℕ) → Among way (kept_ways rule para n) → IsKept n way
  listed_kept zero way (inl e) = subst (IsKept 0) e (record { keeps = refl; lines = refl })
  listed_kept zero way (inr a) = absurd a
  listed_kept (suc n) way a =
      let r = flat_from (longer_by rule para) (kept_ways rule para n) way a in
      let s = map_from (λ (j : ℕ). j ∷ r.0)
      (filter (is_line rule para (start_of r.0)) (range_with_len 0 (length para + 1))) way r.1.1 in
      more r.0 s.0 (listed_kept n r.0 r.1.0)
      (of_filter (is_line rule para (start_of r.0)) (range_with_len 0 (length para + 1)) s.0 s.1.0).1 s.1.1
    where
      more : (before : List ℕ) (k : ℕ) → IsKept n before → is_line rule para (start_of before) k ≡ true →
          k ∷ before ≡ way → IsKept (suc n) way
      more before k b h e = subst (IsKept (suc n)) e (record {
        keeps = both (keeps_lines rule para before) (is_line rule para (start_of before) k) b.keeps h;
        lines = (let l : length before ≡ n = b.lines in ap suc l);
      })

  -- no more lines than items
  pub lines_few : (way : List ℕ) → keeps_lines rule para way ≡ true → length way ≤ start_of way
  lines_few [] h = omega arith
  lines_few (k ∷ way) h =
      let t = both_of (keeps_lines rule para way) (is_line rule para (start_of way) k) h in
      let l : length way ≤ start_of way = lines_few way t.0 in
      let r : start_of way < k = line_rises rule para (start_of way) k t.1 in
      omega arith

  -- ---- legal ways

  some_of : (way : List ℕ) → 0 < length way → is_some_line way ≡ true
  some_of [] h = absurd (omega arith)
  some_of (k ∷ way) h = refl

  pub way_listed : (way : List ℕ) → is_way rule para way ≡ true → Among way (ways rule para (length way))
  way_listed [] h = absurd cc
  way_listed (k ∷ way) h =
      let t = both_of (keeps_lines rule para (k ∷ way)) (start_of (k ∷ way) == length para) h in
      in_filter (ends_at (length para)) (kept_ways rule para (length (k ∷ way))) (k ∷ way)
      (kept_listed (k ∷ way) t.0) t.1

  pub record IsLegal (n : ℕ) (way : List ℕ) : Type 0 where
    pub legal : is_way rule para way ≡ true
    pub lines : length way ≡ n

  pub listed_way : (n : ℕ) (way : List ℕ) → Among way (ways rule para n) → IsLegal n way
  listed_way zero way a = absurd a
  listed_way (suc n) way a =
      let r = of_filter (ends_at (length para)) (kept_ways rule para (suc n)) way a in
      let k : IsKept (suc n) way = listed_kept (suc n) way r.0 in
      let l : length way ≡ suc n = k.lines in
      record {
        legal = both (is_some_line way) (keeps_lines rule para way && (start_of way == length para))
            (some_of way (omega arith))
            (both (keeps_lines rule para way) (start_of way == length para) k.keeps r.1);
        lines = k.lines;
      }

  -- ---- the first of a list of ways

  abbrev IsFirst : List (List ℕ) → Option (List ℕ) → Type 0
  IsFirst ws None = ws ≡ []
  IsFirst ws (Some way) = Among way ws × ((other : List ℕ) → Among other ws → NoLater rule para way other)

  first_is : (ws : List (List ℕ)) → IsFirst ws (first_of rule para ws)
  first_is [] = refl
  first_is (way ∷ ws) = by (first_of rule para ws) (first_is ws)
    where
      alone : (other : List ℕ) → ws ≡ [] → Among other (way ∷ ws) → NoLater rule para way other
      alone other e (inl p) = subst (NoLater rule para way) p (no_later_itself (demerits rule para way) way)
      alone other e (inr a) = absurd (subst (Among other) e a)

      pick : (b : Bool) (best : List ℕ) → b ≡ is_before rule para best way → IsFirst ws (Some best) →
          IsFirst (way ∷ ws) (Some (if b then best else way))
      pick true best e f = (inr f.0, all)
        where
          all : (other : List ℕ) → Among other (way ∷ ws) → NoLater rule para best other
          all other (inl p) = subst (NoLater rule para best) p (before_no_later rule para best way (sym e))
          all other (inr a) = f.1 other a
      pick false best e f = (inl refl, all)
        where
          all : (other : List ℕ) → Among other (way ∷ ws) → NoLater rule para way other
          all other (inl p) = subst (NoLater rule para way) p (no_later_itself (demerits rule para way) way)
          all other (inr a) = no_later_chain (demerits rule para way) (demerits rule para best)
              (demerits rule para other) way best other (not_before_no_later rule para way best (sym e)) (f.1 other a)

      by : (o : Option (List ℕ)) → IsFirst ws o → IsFirst (way ∷ ws) (Some (better_of rule para way o))
      by None e = (inl refl, λ other a. alone other e a)
      by (Some best) f = pick (is_before rule para best way) best refl f

  -- the least way of each number of lines
  pub least_is : (n : ℕ) → IsLeastOf rule para n (least_way rule para n)
  least_is n = by (least_way rule para n) (first_is (ways rule para n))
    where
      at : (other : List ℕ) → is_way rule para other ≡ true → length other ≡ n → Among other (ways rule para n)
      at other h e = subst (λ (j : ℕ). Among other (ways rule para j)) e (way_listed other h)

      by : (o : Option (List ℕ)) → IsFirst (ways rule para n) o → IsLeastOf rule para n o
      by None e = λ other h l. absurd (subst (Among other) e (at other h l))
      by (Some way) f =
          let k : IsLegal n way = listed_way n way f.0 in
          record { legal = k.legal; lines = k.lines; least = λ other h l. f.1 other (at other h l) }
