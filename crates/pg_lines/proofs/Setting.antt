-- A way is set as its lines are from the first on.
use Rattle.std.proofs.Common.{◌≡◌, refl, sym, ap, ◌∙◌, subst, ℕ, suc, ◌+◌, ◌-◌, ◌<◌, ◌≤◌, List, [], ◌∷◌, ◌++◌, length, append_assoc, Bool, true, false, arith}
use Rattle.std.specs.Prelude.{reverse, take, get_or, nat_lt, ◌==◌}
use Rattle.std.proofs.lemmas.List.{length-reverse, reverse-append}
use Rattle.pg_lemmas.proofs.Bools.{both_ways, if_false, if_true}
use Rattle.pg_lemmas.proofs.Lists.{reverse_cons}
use Rattle.pg_lemmas.proofs.Numbers.{eq_yes, less_of, more_than_one}
use Rattle.pg_list.specs.declared.item.Item.{Item}
use Rattle.pg_hlist.specs.declared.item.HItem.{HItem}
use Rattle.law_lines.specs.declared.rule.LineRule.{LineRule}
use Rattle.law_lines.specs.Boxes.{line_box}
use Rattle.law_lines.specs.Lines.{line_items}
use Rattle.law_lines.specs.Ways.{start_of}
use Rattle.law_lines.specs.Variants.{between, between_item, lines_of_way, set_lines, way_items}
use Rattle.law_lines.proofs.Tests.{eq_true}
use Rattle.pg_lines.specs.Set.{gap, set_ends, set_line}

-- the lines that end at these places, the first of which starts here
abbrev lines_from : List HItem → ℕ → List ℕ → List (List HItem)
lines_from para start [] = []
lines_from para start (k ∷ ks) = line_items para start k ∷ lines_from para k ks

-- where the line behind these starts
abbrev end_of : ℕ → List ℕ → ℕ
end_of start [] = start
end_of start (k ∷ ks) = end_of k ks

end_behind : (start : ℕ) (ks : List ℕ) (k : ℕ) → end_of start (ks ++ k ∷ []) ≡ k
end_behind start [] k = refl
end_behind start (j ∷ ks) k = end_behind j ks k

line_behind : (para : List HItem) (start : ℕ) (ks : List ℕ) (k : ℕ) →
    lines_from para start (ks ++ k ∷ []) ≡ lines_from para start ks ++ line_items para (end_of start ks) k ∷ []
line_behind para start [] k = refl
line_behind para start (j ∷ ks) k =
    ap (λ (ls : List (List HItem)). line_items para start j ∷ ls) (line_behind para j ks k)

starts_at : (way : List ℕ) → end_of 0 (reverse way) ≡ start_of way
starts_at [] = refl
starts_at (k ∷ way) = ap (end_of 0) (reverse_cons k way) ∙ end_behind 0 (reverse way) k

front_first : (para : List HItem) (way : List ℕ) → lines_of_way para way ≡ lines_from para 0 (reverse way)
front_first para [] = refl
front_first para (k ∷ way) =
    ap (λ (ls : List (List HItem)). ls ++ line_items para (start_of way) k ∷ []) (front_first para way)
    ∙ (ap (λ (a : ℕ). lines_from para 0 (reverse way) ++ line_items para a k ∷ []) (sym (starts_at way))
    ∙ (sym (line_behind para 0 (reverse way) k) ∙ ap (lines_from para 0) (sym (reverse_cons k way))))

same_test : (a b c d : ℕ) → (a ≡ b → c ≡ d) → (c ≡ d → a ≡ b) → (a == b) ≡ (c == d)
same_test a b c d f g = both_ways (a == b) (c == d) (λ t. eq_yes c d (f (eq_true a b t)))
    (λ t. eq_yes a b (g (eq_true c d t)))

module _ (rule : LineRule) (para : List HItem) where
  set_more : (line : List HItem) (is_first : Bool) (n : ℕ) → set_line rule line is_first (suc n)
      ≡ line_box rule line ∷ between_item (gap is_first (suc n == 1)) ∷ []
  set_more line is_first n = ap (λ (items : List Item). line_box rule line ∷ items)
      (if_true (nat_lt 0 (suc n)) (between_item (gap is_first (suc n == 1)) ∷ []) [] (less_of 0 (suc n) (omega arith)))

  set_one : (line : List HItem) (is_first : Bool) → set_line rule line is_first 0 ≡ line_box rule line ∷ []
  set_one line is_first = ap (λ (items : List Item). line_box rule line ∷ items)
      (if_false (nat_lt 0 0) (between_item (gap is_first (0 == 1)) ∷ []) [] refl)

  set_same : (count j : ℕ) (is_first : Bool) (start : ℕ) (ks : List ℕ) → 1 ≤ j → count + 1 ≡ j + length ks →
      is_first ≡ (j == 1) → set_ends rule para is_first start ks ≡ set_lines rule count j (lines_from para start ks)
  set_same count j is_first start [] h e f = refl
  set_same count j is_first start (k ∷ []) h e f =
      ap (λ (items : List Item). items ++ []) (set_one (line_items para start k) is_first)
  set_same count j is_first start (k ∷ m ∷ ks) h e f =
      ap (λ (items : List Item). items ++ set_ends rule para false k (m ∷ ks))
      (set_more (line_items para start k) is_first (length ks))
      ∙ (ap (λ (items : List Item). line_box rule (line_items para start k)
      ∷ between_item (gap is_first (suc (length ks) == 1)) ∷ items)
      (set_same count (j + 1) false k (m ∷ ks) (omega (arith, h)) (omega (arith, e)) (sym (more_than_one j h)))
      ∙ ap (λ (penalty : ℕ). line_box rule (line_items para start k) ∷ between_item penalty
      ∷ set_lines rule count (j + 1) (lines_from para k (m ∷ ks))) cost)
    where
      cost : gap is_first (suc (length ks) == 1) ≡ between j count
      cost = ap (λ (b : Bool). gap b (suc (length ks) == 1)) f
          ∙ ap (gap (j == 1)) (same_test (suc (length ks)) 1 (j + 1) count
          (λ t. omega (arith, e, t)) (λ t. omega (arith, e, t)))

  pub way_is_set : (way : List ℕ) → set_ends rule para true 0 (reverse way) ≡ way_items rule para way
  way_is_set way =
      let l = length-reverse way in
      set_same (length way) 1 true 0 (reverse way) (omega arith) (omega (arith, l)) refl
      ∙ ap (set_lines rule (length way) 1) (sym (front_first para way))

  last_back : (xs : List ℕ) (d : ℕ) → 0 < length xs →
      take (length xs - 1) xs ++ get_or xs (length xs - 1) d ∷ [] ≡ xs
  last_back [] d h = absurd (omega (arith, h))
  last_back (x ∷ []) d h = refl
  last_back (x ∷ y ∷ xs) d h =
      let e : length (x ∷ y ∷ xs) - 1 ≡ suc (length (y ∷ xs) - 1) = omega arith in
      subst (λ (n : ℕ). take n (x ∷ y ∷ xs) ++ get_or (x ∷ y ∷ xs) n d ∷ [] ≡ x ∷ y ∷ xs) (sym e)
      (ap (λ (ys : List ℕ). x ∷ ys) (last_back (y ∷ xs) d (omega arith)))

  -- the last is the first of the reverse
  last_first : (xs : List ℕ) (d : ℕ) → 0 < length xs →
      reverse xs ≡ get_or xs (length xs - 1) d ∷ reverse (take (length xs - 1) xs)
  last_first xs d h = ap reverse (sym (last_back xs d h))
      ∙ reverse-append (take (length xs - 1) xs) (get_or xs (length xs - 1) d ∷ [])

  -- one line more
  further : (is_first : Bool) (start k : ℕ) (out next whole : List Item) (line : List HItem) (before rest : List ℕ) →
      reverse rest ≡ k ∷ reverse before → line ≡ line_items para start k →
      next ≡ out ++ set_line rule line is_first (length before) →
      out ++ set_ends rule para is_first start (reverse rest) ≡ whole →
      next ++ set_ends rule para false k (reverse before) ≡ whole
  further is_first start k out next whole line before rest r l n w =
      ap (λ (xs : List Item). xs ++ set_ends rule para false k (reverse before))
      (n ∙ (ap (λ (ls : List HItem). out ++ set_line rule ls is_first (length before)) l
      ∙ ap (λ (m : ℕ). out ++ set_line rule (line_items para start k) is_first m) (sym (length-reverse before))))
      ∙ (append_assoc out (set_line rule (line_items para start k) is_first (length (reverse before)))
      (set_ends rule para false k (reverse before))
      ∙ (ap (λ (ks : List ℕ). out ++ set_ends rule para is_first start ks) (sym r) ∙ w))

  -- the same, taken from the back
  pub set_further : (is_first : Bool) (start d : ℕ) (out next whole : List Item) (line : List HItem) (rest : List ℕ) →
      0 < length rest → line ≡ line_items para start (get_or rest (length rest - 1) d) →
      next ≡ out ++ set_line rule line is_first (length (take (length rest - 1) rest)) →
      out ++ set_ends rule para is_first start (reverse rest) ≡ whole →
      next ++ set_ends rule para false (get_or rest (length rest - 1) d) (reverse (take (length rest - 1) rest)) ≡ whole
  set_further is_first start d out next whole line rest h =
      further is_first start (get_or rest (length rest - 1) d) out next whole line (take (length rest - 1) rest) rest
      (last_first rest d h)
