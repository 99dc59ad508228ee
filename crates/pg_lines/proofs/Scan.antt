-- The lines from a place, found by one walk along the items behind it.
use Rattle.std.proofs.Common.{◌≡◌, refl, sym, ap, ◌∙◌, subst, ℕ, zero, suc, ◌+◌, ◌-◌, ◌^◌, ◌≤◌, ◌<◌, List, [], ◌∷◌, ◌++◌, length, length-append, take, append-nil, arith, inl, inr, Bool, true, false, Option, Some, None}
use Rattle.std.specs.Prelude.{◌&&◌, ◌||◌, not, nat_le, nat_lt, if◌then◌else◌, drop, get_or, slice_get, is_some, ℤ, pos, ◌+ℤ◌, ◌-ℤ◌, ◌≤ℤ◌, ◌<ℤ◌, int_le, int_lt}
use Rattle.std.specs.List.{AllByRecursion, list_all, list_any, range_with_len}
use Rattle.std.specs.Option.{option_map_or}
use Rattle.std.proofs.lemmas.Int.{ints}
use Rattle.std.proofs.lemmas.List.{append_assoc, drop-append-le, drop-take, drop_more, get_or-take, length-take-le, take_more}
use Rattle.std.proofs.lemmas.List.Folds.{list_any-append}
use Rattle.std.proofs.lemmas.Option.{slice_get-get_or}
use Rattle.std.proofs.Math.Seq.{take-add}
use Rattle.pg_list.specs.Shapes.{is_box}
use Rattle.pg_list.specs.Badness.{is_over}
use Rattle.pg_list.specs.Totals.{shrink, shrink_of}
use Rattle.pg_list.specs.Whole.{square, whole_sum_by}
use Rattle.pg_lemmas.proofs.Bools.{both, both_of, by_bool, if_false, or_cases}
use Rattle.pg_lemmas.proofs.Lists.{all_drop, all_take, drop_past}
use Rattle.pg_lemmas.proofs.Numbers.{less_true, not_less}
use Rattle.pg_hlist.specs.declared.item.HItem.{HItem}
use Rattle.pg_hlist.specs.declared.item.HItem.TheVariants.{BoxItem}
use Rattle.pg_hlist.specs.Items.{IsInRange, IsPara, as_item, as_items, width_of}
use Rattle.law_lines.specs.declared.rule.LineRule.{LineRule}
use Rattle.law_lines.specs.Lines.{from_box, holds_box, is_forced_at, is_line, line_badness, line_demerits, line_is_over, line_items, line_total, passes_forced, penalty_at}
use Rattle.law_lines.proofs.Scanning.{begins_with_first, over_by_bounds, stops_when_forced}
use Rattle.law_lines.proofs.LineFacts.{line_within}
use Rattle.pg_lines.specs.declared.ahead.Fall.{Fall}
use Rattle.pg_lines.specs.declared.ends.LineEnd.{LineEnd}
use Rattle.pg_lines.specs.declared.sums.LineSums.{LineSums}
use Rattle.pg_lines.specs.Ahead.{fall_of, least_front, stays_over, tight_width}
use Rattle.pg_lines.specs.Ends.{end_at, end_by, ends_from, ends_on}
use Rattle.pg_lines.specs.Near.{is_hbox, passes_at}
use Rattle.pg_lines.specs.Sums.{AreSmall, sums_badness, sums_of, sums_with}
use Rattle.pg_lines.proofs.FallLaws.{least_below}
use Rattle.pg_lines.proofs.SumsLaws.{sums_push, sums_small}
use Rattle.law_places.proofs.Among.{sum_append}
use Rattle.law_places.proofs.Tests.{less_int, le_int}
use Rattle.pg_rules.specs.Cost.{penalty_demerits}

-- ---- pieces of a paragraph

-- the items from a up to the place behind k
pub one_further : (para : List HItem) (a k : ℕ) (x : HItem) → a ≤ k → k < length para → x ≡ get_or para k x →
    drop a (take (k + 1) para) ≡ drop a (take k para) ++ x ∷ []
one_further para a k x low high is =
    ap (drop a) (take_more para k x high) ∙ drop-append-le a (take k para) (get_or para k x ∷ [])
    (let l = length-take-le k para (omega (arith, high)) in omega (arith, l, low))
    ∙ ap (λ (y : HItem). drop a (take k para) ++ y ∷ []) (sym is)

-- where no box stands up to k, and none at k
pub no_box_more : (para : List HItem) (a k : ℕ) (x : HItem) → a ≤ k → k < length para → x ≡ get_or para k x →
    holds_box (drop a (take k para)) ≡ false → is_hbox x ≡ false → holds_box (drop a (take (k + 1) para)) ≡ false
no_box_more para a k x low high is none other =
    ap holds_box (one_further para a k x low high is) ∙ list_any-append _ (drop a (take k para)) (x ∷ [])
    ∙ neither (holds_box (drop a (take k para))) (is_hbox x) none other
  where
    neither : (s t : Bool) → s ≡ false → t ≡ false → (s || (t || false)) ≡ false
    neither true t e f = absurd cc
    neither false true e f = absurd cc
    neither false false e f = refl

-- the items from a up to k + j, cut at k
pub cut_at : (para : List HItem) (a k j : ℕ) → a ≤ k → k ≤ length para →
    drop a (take (k + j) para) ≡ drop a (take k para) ++ take j (drop k para)
cut_at para a k j low high =
    ap (drop a) (take-add k j para) ∙ drop-append-le a (take k para) (take j (drop k para))
    (let l = length-take-le k para high in omega (arith, l, low))

few_taken : (n k : ℕ) (xs : List HItem) → length xs ≤ n → length (take k xs) ≤ n
few_taken n zero xs h = omega arith
few_taken n (suc k) [] h = h
few_taken zero (suc k) (x ∷ xs) h = absurd (omega (arith, h))
few_taken (suc n) (suc k) (x ∷ xs) h = let r = few_taken n k xs (omega (arith, h)) in omega (arith, r)

few_dropped : (n k : ℕ) (xs : List HItem) → length xs ≤ n → length (drop k xs) ≤ n
few_dropped n zero xs h = h
few_dropped n (suc k) [] h = omega arith
few_dropped n (suc k) (x ∷ xs) h = few_dropped n k xs (omega (arith, h))

pub small_between : (para : List HItem) (a k : ℕ) → IsPara para → AreSmall (sums_of (drop a (take k para)))
small_between para a k p = sums_small (drop a (take k para))
    (all_drop IsInRange a (take k para) (all_take IsInRange k para p.ranges))
    (few_dropped (2 ^ 11) a (take k para) (few_taken (2 ^ 11) k para p.few))

pub range_at : (items : List HItem) (k : ℕ) (x : HItem) → AllByRecursion IsInRange items → k < length items →
    x ≡ get_or items k x → IsInRange x
range_at [] k x all h is = absurd (omega (arith, h))
range_at (y ∷ items) zero x all h is = subst IsInRange (sym is) all.0
range_at (y ∷ items) (suc k) x all h is = range_at items k x all.1 (omega (arith, h)) is

-- one item more is added
pub sums_more : (para : List HItem) (b k : ℕ) (x : HItem) (old new : LineSums) → b ≤ k → k < length para →
    x ≡ get_or para k x → old ≡ sums_of (drop b (take k para)) → new ≡ sums_with old x →
    new ≡ sums_of (drop b (take (k + 1) para))
sums_more para b k x old new low high is was step =
    step ∙ ap (λ (s : LineSums). sums_with s x) was ∙ sym (sums_push (drop b (take k para)) x)
    ∙ ap sums_of (sym (one_further para b k x low high is))

pub small_next : (para : List HItem) (b k : ℕ) (x : HItem) (old new : LineSums) → IsPara para → b ≤ k →
    k < length para → x ≡ get_or para k x → old ≡ sums_of (drop b (take k para)) → new ≡ sums_with old x → AreSmall new
small_next para b k x old new p low high is was step =
    subst AreSmall (sym (sums_more para b k x old new low high is was step)) (small_between para b (k + 1) p)

pub no_sums : (para : List HItem) (b : ℕ) → b ≤ length para → sums_of [] ≡ sums_of (drop b (take b para))
no_sums para b h = ap sums_of (sym (nothing b (take b para) (length-take-le b para h)))
  where
    nothing : (n : ℕ) (xs : List HItem) → length xs ≡ n → drop n xs ≡ []
    nothing zero [] e = refl
    nothing zero (x ∷ xs) e = absurd (omega (arith, e))
    nothing (suc n) [] e = refl
    nothing (suc n) (x ∷ xs) e = nothing n xs (omega (arith, e))

-- ---- the end of one line

piece : (penalty : Option ℤ) (holds over good forced passes : Bool) (base : ℤ) (k : ℕ) → holds ≡ true → passes ≡ true →
    ◌≡◌ {A = List LineEnd} (option_map_or (λ (p : ℤ). if not over && (good || forced)
    then record { place = k; demerits = base +ℤ penalty_demerits p } ∷ [] else []) penalty [])
    (if is_some penalty && (holds && (not over && ((good || forced) && passes)))
    then record { place = k; demerits = base +ℤ option_map_or penalty_demerits penalty (pos 0) } ∷ [] else [])
piece None holds over good forced passes base k h q = refl
piece (Some p) false over good forced passes base k h q = absurd cc
piece (Some p) true over good forced false base k h q = absurd cc
piece (Some p) true true good forced true base k h q = refl
piece (Some p) true false true forced true base k h q = refl
piece (Some p) true false false true true base k h q = refl
piece (Some p) true false false false true base k h q = refl

-- ---- behind a stop

module _ (rule : LineRule) (para : List HItem) (a : ℕ) where
  false_of : (t : Bool) → (t ≡ true → ⊥) → t ≡ false
  false_of true f = absurd (f refl)
  false_of false f = refl

  holds_of : (k : ℕ) → is_line rule para a k ≡ true → holds_box (drop a (take k para)) ≡ true
  holds_of k stands = (both_of (holds_box (drop a (take k para))) _ (both_of (is_some (penalty_at para k)) _ stands).1).0

  over_of : (k : ℕ) → is_line rule para a k ≡ true → line_is_over rule (line_items para a k) ≡ true → ⊥
  over_of k stands over =
      let two = both_of (holds_box (drop a (take k para))) _ (both_of (is_some (penalty_at para k)) _ stands).1 in
      let three = both_of (not (line_is_over rule (line_items para a k))) _ two.1 in
      clash (line_is_over rule (line_items para a k)) over three.0
    where
      clash : (t : Bool) → t ≡ true → not t ≡ true → ⊥
      clash true e f = absurd cc
      clash false e f = absurd cc

  pub none_on : (k m : ℕ) → ((i : ℕ) → k ≤ i → is_line rule para a i ≡ false) → ends_on rule para a k m ≡ []
  none_on k zero f = refl
  none_on k (suc m) f =
      ap (λ (es : List LineEnd). es ++ ends_on rule para a (suc k) m)
      (if_false (is_line rule para a k) _ _ (f k (omega arith)))
      ∙ none_on (suc k) m (λ i h. f i (omega (arith, h)))

  skip_on : (k j m n l : ℕ) → n ≡ j + m → l ≡ k + j → ((i : ℕ) → k ≤ i → i < l → is_line rule para a i ≡ false) →
      ends_on rule para a k n ≡ ends_on rule para a l m
  skip_on k zero m n l p q f =
      let same : n ≡ m = omega (arith, p) in
      let at : k ≡ l = omega (arith, q) in
      ap (ends_on rule para a k) same ∙ ap (λ (o : ℕ). ends_on rule para a o m) at
  skip_on k (suc j) m zero l p q f = absurd (omega (arith, p))
  skip_on k (suc j) m (suc n) l p q f =
      ap (λ (es : List LineEnd). es ++ ends_on rule para a (suc k) n)
      (if_false (is_line rule para a k) _ _ (f k (omega arith) (omega (arith, q))))
      ∙ skip_on (suc k) j m n l (omega (arith, p)) (omega (arith, q)) (λ i h r. f i (omega (arith, h)) r)

  -- ---- the first box

  -- the first box from a on, or the end
  pub record IsFirst (b : ℕ) : Type 0 where
    pub low : a ≤ b
    pub high : b ≤ length para
    pub none : holds_box (drop a (take b para)) ≡ false
    pub some : b < length para → passes_at is_hbox para b ≡ true

  module _ (b : ℕ) (first : IsFirst b) where
    no_box : (k : ℕ) → k ≤ b → holds_box (drop a (take k para)) ≡ false
    no_box k h = by_bool (nat_lt k a) (λ e. before (less_true k a e)) (λ e. behind (not_less k a e))
      where
        before : k < a → holds_box (drop a (take k para)) ≡ false
        before l =
            let few = length-take-le k para (let q = first.high in omega (arith, h, q)) in
            ap holds_box (drop_past a (take k para) (omega (arith, few, l)))

        front : (s t whole : Bool) → whole ≡ (s || t) → whole ≡ false → s ≡ false
        front true t whole e f = absurd cc
        front false t whole e f = refl

        behind : a ≤ k → holds_box (drop a (take k para)) ≡ false
        behind l =
            let high = first.high in
            let whole : drop a (take b para) ≡ drop a (take k para) ++ take (b - k) (drop k para) =
            subst (λ (n : ℕ). drop a (take n para) ≡ drop a (take k para) ++ take (b - k) (drop k para))
            (omega (arith, h)) (cut_at para a k (b - k) l (omega (arith, h, high))) in
            front (holds_box (drop a (take k para))) (holds_box (take (b - k) (drop k para)))
            (holds_box (drop a (take b para)))
            (ap holds_box whole ∙ list_any-append _ (drop a (take k para)) (take (b - k) (drop k para))) first.none

    box_there : (d : HItem) → b < length para → is_hbox (get_or para b d) ≡ true
    box_there d h = by (slice_get para b) (slice_get-get_or para b d h) (first.some h)
      where
        by : (o : Option HItem) → o ≡ Some (get_or para b d) → option_map_or is_hbox o false ≡ true →
            is_hbox (get_or para b d) ≡ true
        by None e f = absurd cc
        by (Some x) e f = subst (λ (o : Option HItem). option_map_or is_hbox o false ≡ true) e f

    -- behind the first box a line begins with it
    line_from : (k : ℕ) → b < k → k ≤ length para →
        (line_items para a k ≡ drop b (take k para)) × (holds_box (drop a (take k para)) ≡ true)
    line_from k h high = (from_front, has_one)
      where
        d : HItem
        d = BoxItem (pos 0) (pos 0) (pos 0) []

        long : length (take k para) ≡ k
        long = length-take-le k para high

        x : HItem
        x = get_or para b d

        behind : List HItem
        behind = drop (b + 1) (take k para)

        box : is_hbox x ≡ true
        box = box_there d (omega (arith, h, high))

        rest : drop b (take k para) ≡ x ∷ behind
        rest = drop_more (take k para) b d (omega (arith, long, h))
            ∙ ap (λ (y : HItem). y ∷ behind) (get_or-take k para b d h)

        pieces : drop a (take k para) ≡ drop a (take b para) ++ x ∷ behind
        pieces =
            let low = first.low in
            let cut : drop a (take k para) ≡ drop a (take b para) ++ take (k - b) (drop b para) =
            subst (λ (n : ℕ). drop a (take n para) ≡ drop a (take b para) ++ take (k - b) (drop b para))
            (omega (arith, h)) (cut_at para a b (k - b) low (omega (arith, h, high))) in
            let same : drop b (take k para) ≡ take (k - b) (drop b para) =
            subst (λ (n : ℕ). drop b (take n para) ≡ take (k - b) (drop b para)) (omega (arith, h))
            (drop-take b (k - b) para) in
            cut ∙ ap (λ (xs : List HItem). drop a (take b para) ++ xs) (sym same ∙ rest)

        from_front : line_items para a k ≡ drop b (take k para)
        from_front = ap from_box pieces ∙ begins_with_first (drop a (take b para)) x behind first.none box ∙ sym rest

        has_one : holds_box (drop a (take k para)) ≡ true
        has_one = ap holds_box pieces ∙ list_any-append _ (drop a (take b para)) (x ∷ behind)
            ∙ some (holds_box (drop a (take b para))) (is_hbox x) (holds_box behind) box
          where
            some : (s t u : Bool) → t ≡ true → (s || (t || u)) ≡ true
            some true t u e = refl
            some false true u e = refl
            some false false u e = absurd cc

    -- no line ends up to the first box
    none_before : (i : ℕ) → i ≤ b → is_line rule para a i ≡ false
    none_before i h = false_of (is_line rule para a i) (λ stands. clash (holds_box (drop a (take i para)))
        (holds_of i stands) (no_box i h))
      where
        clash : (t : Bool) → t ≡ true → t ≡ false → ⊥
        clash true e f = absurd cc
        clash false e f = absurd cc

    pub at_first : ends_from rule para a ≡ ends_on rule para a (b + 1) (length para - b)
    at_first =
        let high = first.high in
        skip_on 0 (b + 1) (length para - b) (length para + 1) (b + 1) (omega (arith, high)) (omega arith)
        (λ i h l. none_before i (omega (arith, l)))

    -- ---- one place further

    Unforced : ℕ → Type 0
    Unforced k = (j : ℕ) → b < j → j ≤ k → is_forced_at para j ≡ false

    all_of : (p : ℕ → Bool) (k m : ℕ) → ((j : ℕ) → k ≤ j → j < k + m → p j ≡ true) →
        list_all p (range_with_len k m) ≡ true
    all_of p k zero f = refl
    all_of p k (suc m) f = both (p k) (list_all p (range_with_len (k + 1) m)) (f k (omega arith) (omega arith))
        (all_of p (k + 1) m (λ j h l. f j (omega (arith, h)) (omega (arith, l))))

    passes : (k : ℕ) → ((j : ℕ) → b < j → j < k → is_forced_at para j ≡ false) → passes_forced para a k ≡ true
    passes k f = all_of (λ (j : ℕ). not (is_forced_at para j && holds_box (drop a (take j para)))) (a + 1)
        (k - (a + 1)) (λ j h l. by_bool (nat_lt b j)
        (λ e. unforced (is_forced_at para j) (holds_box (drop a (take j para))) (f j (less_true b j e) (omega (arith, h, l))))
        (λ e. boxless (is_forced_at para j) (holds_box (drop a (take j para))) (no_box j (not_less b j e))))
      where
        unforced : (s t : Bool) → s ≡ false → not (s && t) ≡ true
        unforced true t e = absurd cc
        unforced false t e = refl

        boxless : (s t : Bool) → t ≡ false → not (s && t) ≡ true
        boxless true true e = absurd cc
        boxless true false e = refl
        boxless false t e = refl

    end_is : (k : ℕ) (sums : LineSums) (forced : Bool) → b < k → k ≤ length para →
        ((j : ℕ) → b < j → j < k → is_forced_at para j ≡ false) → sums ≡ sums_of (drop b (take k para)) →
        forced ≡ is_forced_at para k → end_by rule para sums k forced ≡ end_at rule para a k
    end_is k sums forced h high f are is =
        let line = line_from k h high in
        ap (λ (s : LineSums). end_by rule para s k forced) (are ∙ ap sums_of (sym line.0))
        ∙ ap (end_by rule para (sums_of (line_items para a k)) k) is
        ∙ piece (penalty_at para k) (holds_box (drop a (take k para))) (line_is_over rule (line_items para a k))
        (nat_le (line_badness rule (line_items para a k)) rule.tolerance) (is_forced_at para k) (passes_forced para a k)
        (square (pos (10 + line_badness rule (line_items para a k)))) k line.1 (passes k f)

    -- ---- where it stops

    pub behind_forced : (k : ℕ) → b < k → k ≤ length para → is_forced_at para k ≡ true →
        (i : ℕ) → k + 1 ≤ i → is_line rule para a i ≡ false
    behind_forced k h high forced i l =
        let low = first.low in
        false_of (is_line rule para a i) (λ stands. stops_when_forced rule para a k i (omega (arith, h, low))
        (omega (arith, l)) forced (line_from k h high).1 stands)

    tight_sum : (xs : List HItem) →
        whole_sum_by tight_width xs ≡ whole_sum_by width_of xs -ℤ whole_sum_by shrink_of (as_items xs)
    tight_sum [] = refl
    tight_sum (x ∷ xs) = up (width_of x) (shrink_of (as_item x)) (whole_sum_by width_of xs)
        (whole_sum_by shrink_of (as_items xs)) (whole_sum_by tight_width xs) (tight_sum xs)
      where
        up : (w s a b t : ℤ) → t ≡ a -ℤ b → (w -ℤ s) +ℤ t ≡ (w +ℤ a) -ℤ (s +ℤ b)
        up w s a b t e = omega (arith, ints, e)

    shrink_append : (xs ys : List HItem) →
        whole_sum_by shrink_of (as_items (xs ++ ys))
        ≡ whole_sum_by shrink_of (as_items xs) +ℤ whole_sum_by shrink_of (as_items ys)
    shrink_append [] ys = zero_sum (whole_sum_by shrink_of (as_items ys))
      where
        zero_sum : (z : ℤ) → z ≡ pos 0 +ℤ z
        zero_sum z = omega (arith, ints)
    shrink_append (x ∷ xs) ys = ap (λ (z : ℤ). shrink_of (as_item x) +ℤ z) (shrink_append xs ys)
        ∙ group (shrink_of (as_item x)) (whole_sum_by shrink_of (as_items xs)) (whole_sum_by shrink_of (as_items ys))
      where
        group : (a b c : ℤ) → a +ℤ (b +ℤ c) ≡ (a +ℤ b) +ℤ c
        group a b c = omega (arith, ints)

    -- sums that stay over, and what is added to them
    over_still : (width total shrink fall tight more less : ℤ) →
        (int_le width (total +ℤ fall) && int_lt width ((total -ℤ shrink) +ℤ tight)) ≡ true →
        fall ≤ℤ more → tight ≤ℤ (more -ℤ less) → is_over (total +ℤ more) (shrink +ℤ less) width ≡ true
    over_still width total shrink fall tight more less stays f t =
        let two = both_of (int_le width (total +ℤ fall)) (int_lt width ((total -ℤ shrink) +ℤ tight)) stays in
        let low : width ≤ℤ (total +ℤ fall) = le_int width (total +ℤ fall) two.0 in
        let high : width <ℤ ((total -ℤ shrink) +ℤ tight) = less_int width ((total -ℤ shrink) +ℤ tight) two.1 in
        over_by_bounds (total +ℤ more) (shrink +ℤ less) width (omega (arith, ints, low, f)) (omega (arith, ints, high, t))

    pub behind_over : (k : ℕ) (sums : LineSums) → b < k → k ≤ length para → sums ≡ sums_of (drop b (take k para)) →
        stays_over rule.width sums (fall_of (drop k para)) ≡ true → (i : ℕ) → k + 1 ≤ i →
        is_line rule para a i ≡ false
    behind_over k sums h high are stays i l = by_bool (nat_lt (length para) i) far near
      where
        far : nat_lt (length para) i ≡ true → is_line rule para a i ≡ false
        far e = false_of (is_line rule para a i) (λ stands. let w = line_within rule para a i stands in
            let n = less_true (length para) i e in absurd (omega (arith, w, n)))

        more : List HItem
        more = take (i - k) (drop k para)

        near : nat_lt (length para) i ≡ false → is_line rule para a i ≡ false
        near e =
            let within : i ≤ length para = not_less (length para) i e in
            let line = line_from i (omega (arith, h, l)) within in
            let cut : drop b (take i para) ≡ drop b (take k para) ++ more =
            subst (λ (n : ℕ). drop b (take n para) ≡ drop b (take k para) ++ more) (omega (arith, l))
            (cut_at para b k (i - k) (omega (arith, h)) high) in
            let items : line_items para a i ≡ drop b (take k para) ++ more = line.0 ∙ cut in
            let stays_here : stays_over rule.width (sums_of (drop b (take k para))) (fall_of (drop k para)) ≡ true =
            subst (λ (s : LineSums). stays_over rule.width s (fall_of (drop k para)) ≡ true) are stays in
            let over = over_still rule.width (whole_sum_by width_of (drop b (take k para)))
            (whole_sum_by shrink_of (as_items (drop b (take k para)))) (least_front width_of (drop k para))
            (least_front tight_width (drop k para)) (whole_sum_by width_of more)
            (whole_sum_by shrink_of (as_items more)) stays_here (least_below width_of (drop k para) (i - k))
            (subst (λ (z : ℤ). least_front tight_width (drop k para) ≤ℤ z) (tight_sum more)
            (least_below tight_width (drop k para) (i - k))) in
            let all_over : line_is_over rule (line_items para a i) ≡ true =
            ap (line_is_over rule) items
            ∙ ap (λ (z : ℤ). is_over z (whole_sum_by shrink_of (as_items (drop b (take k para) ++ more))) rule.width)
            (sum_append width_of (drop b (take k para)) more)
            ∙ ap (λ (z : ℤ). is_over (whole_sum_by width_of (drop b (take k para)) +ℤ whole_sum_by width_of more) z rule.width)
            (shrink_append (drop b (take k para)) more) ∙ over in
            false_of (is_line rule para a i) (λ stands. over_of i stands all_over)

-- ---- the walk

-- the walk has come to a place, and behind it no more than these ends are left to be found
pub record IsScanned (rule : LineRule) (para : List HItem) (a b place : ℕ) (sums : LineSums) (found : List LineEnd) : Type 0 where
  pub sums_are : sums ≡ sums_of (drop b (take place para))
  pub unforced : (j : ℕ) → b < j → j ≤ place → is_forced_at para j ≡ false
  pub left : ends_from rule para a ≡ found ++ ends_on rule para a (place + 1) (length para - place)

module _ (rule : LineRule) (para : List HItem) (a b : ℕ) (first : IsFirst rule para a b) where
  pub scan_begins : IsScanned rule para a b b (sums_of []) []
  scan_begins = record {
    sums_are = no_sums para b first.high;
    unforced = λ j h l. absurd (omega (arith, h, l));
    left = at_first rule para a b first;
  }

  -- the end at the next place is taken in
  taken : (place : ℕ) (x : HItem) (old new : LineSums) (forced : Bool) (found more : List LineEnd) → b ≤ place →
      place < length para → x ≡ get_or para place x → IsScanned rule para a b place old found →
      new ≡ sums_with old x → forced ≡ is_forced_at para (place + 1) →
      more ≡ found ++ end_by rule para new (place + 1) forced →
      (new ≡ sums_of (drop b (take (place + 1) para)))
      × (ends_from rule para a ≡ more ++ ends_on rule para a (place + 1 + 1) (length para - (place + 1)))
  taken place x old new forced found more low high is scan step f push =
      let sums = sums_more para b place x old new low high is scan.sums_are step in
      let one = end_is rule para a b first (place + 1) new forced (omega (arith, low)) (omega (arith, high))
      (λ j h l. scan.unforced j h (omega (arith, l))) sums f in
      let open_up : ends_on rule para a (place + 1) (length para - place)
      ≡ end_at rule para a (place + 1) ++ ends_on rule para a (place + 1 + 1) (length para - (place + 1)) =
      next (place + 1) (length para - place) (length para - (place + 1)) (omega (arith, high)) in (
        sums,
        scan.left ∙ ap (λ (es : List LineEnd). found ++ es) open_up
            ∙ sym (append_assoc found (end_at rule para a (place + 1)) _)
            ∙ ap (λ (es : List LineEnd). (found ++ es) ++ ends_on rule para a (place + 1 + 1) (length para - (place + 1))) (sym one)
            ∙ ap (λ (es : List LineEnd). es ++ ends_on rule para a (place + 1 + 1) (length para - (place + 1))) (sym push),
      )
    where
      next : (k n m : ℕ) → n ≡ suc m → ends_on rule para a k n ≡ end_at rule para a k ++ ends_on rule para a (k + 1) m
      next k n m e = ap (ends_on rule para a k) e
          ∙ ap (λ (j : ℕ). end_at rule para a k ++ ends_on rule para a j m) (omega arith)

  pub scan_goes : (place : ℕ) (x : HItem) (old new : LineSums) (forced : Bool) (found more : List LineEnd) → b ≤ place →
      place < length para → x ≡ get_or para place x → IsScanned rule para a b place old found →
      new ≡ sums_with old x → forced ≡ is_forced_at para (place + 1) →
      more ≡ found ++ end_by rule para new (place + 1) forced → forced ≡ false →
      IsScanned rule para a b (place + 1) new more
  scan_goes place x old new forced found more low high is scan step f push free =
      let two = taken place x old new forced found more low high is scan step f push in
      record {
        sums_are = two.0;
        unforced = λ j h l. by_bool (nat_lt place j)
            (λ e. let n = less_true place j e in
            subst (λ (i : ℕ). is_forced_at para i ≡ false) (omega (arith, l, n)) (sym f ∙ free))
            (λ e. scan.unforced j h (not_less place j e));
        left = two.1;
      }

  -- no end is left behind a place from which no line ends further on
  nothing_left : (place : ℕ) (found : List LineEnd) →
      ends_from rule para a ≡ found ++ ends_on rule para a (place + 1) (length para - place) →
      ((i : ℕ) → place + 1 ≤ i → is_line rule para a i ≡ false) → found ≡ ends_from rule para a
  nothing_left place found left none =
      sym (left ∙ ap (λ (es : List LineEnd). found ++ es)
      (none_on rule para a (place + 1) (length para - place) none) ∙ append-nil found)

  pub scan_stops : (place : ℕ) (x : HItem) (old new : LineSums) (forced stays : Bool) (found more : List LineEnd) →
      b ≤ place → place < length para → x ≡ get_or para place x → IsScanned rule para a b place old found →
      new ≡ sums_with old x → forced ≡ is_forced_at para (place + 1) →
      more ≡ found ++ end_by rule para new (place + 1) forced →
      stays ≡ stays_over rule.width new (fall_of (drop (place + 1) para)) → (forced || stays) ≡ true →
      more ≡ ends_from rule para a
  scan_stops place x old new forced stays found more low high is scan step f push s stop =
      let two = taken place x old new forced found more low high is scan step f push in
      nothing_left (place + 1) more two.1 (elim (or_cases forced stays stop) [
        | inl e ↦ behind_forced rule para a b first (place + 1) (omega (arith, low)) (omega (arith, high)) (sym f ∙ e)
        | inr e ↦ behind_over rule para a b first (place + 1) new (omega (arith, low)) (omega (arith, high)) two.0
            (sym s ∙ e)
      ])

  pub scan_ends : (place : ℕ) (sums : LineSums) (found : List LineEnd) → length para ≤ place →
      IsScanned rule para a b place sums found → found ≡ ends_from rule para a
  scan_ends place sums found end scan =
      let none : length para - place ≡ 0 = omega (arith, end) in
      sym (scan.left ∙ ap (λ (n : ℕ). found ++ ends_on rule para a (place + 1) n) none ∙ append-nil found)
