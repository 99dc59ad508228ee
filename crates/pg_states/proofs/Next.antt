-- One more class behind those before it.
use Rattle.std.proofs.Common.{◌≡◌, ap, ◌∙◌, sym, ℕ, ◌+◌, ◌-◌, ◌^◌, ◌≤◌, List, [], ◌∷◌, ◌++◌, take, drop, length, true, arith}
use Rattle.std.specs.Prelude.{ℤ, pos, ◌+ℤ◌}
use Rattle.std.specs.List.{flat_map, range_with_len}
use Rattle.std.proofs.lemmas.Grind.{flat_map-append}
use Rattle.std.proofs.lemmas.Int.{ints}
use Rattle.std.proofs.lemmas.List.{append-nil}
use Rattle.pg_list.specs.Whole.{whole_sum_by}
use Rattle.pg_style.specs.Values.{StyleValue}
use Rattle.pg_rules.specs.Floats.{distance_table, entry}
use Rattle.pg_floats.proofs.Ranges.{next_all, next_range}
use Rattle.pg_states.specs.Lines.{are_young, later, left_in, paid_by, price_in, young_in}
use Rattle.pg_states.specs.Settling.{AreSettled}
use Rattle.law_places.proofs.Among.{sum_append}

flat_more : {Y : Type 0} (f : ℕ → List Y) (mid new : List Y) (n : ℕ) → mid ≡ flat_map f (range_with_len 0 n) →
    new ≡ mid ++ f n → new ≡ flat_map f (range_with_len 0 (n + 1))
flat_more f mid new n a b =
    b ∙ (ap (λ ys. ys ++ f n) a
    ∙ (ap (λ ys. flat_map f (range_with_len 0 n) ++ ys) (sym (append-nil (f n)))
    ∙ (sym (flat_map-append f (range_with_len 0 n) (n ∷ []))
    ∙ ap (flat_map f) (sym (next_range n)))))

sum_more : (f : ℕ → ℤ) (mid new n : ℕ) (price : ℕ) → pos mid ≡ whole_sum_by f (range_with_len 0 n) →
    pos price ≡ f n → new ≡ mid + price → pos new ≡ whole_sum_by f (range_with_len 0 (n + 1))
sum_more f mid new n price a b e =
    sums mid new price (whole_sum_by f (range_with_len 0 n)) (f n) a b e
    ∙ (sym (sum_append f (range_with_len 0 n) (n ∷ [])) ∙ ap (whole_sum_by f) (sym (next_range n)))
  where
    sums : (mid new price : ℕ) (s p : ℤ) → pos mid ≡ s → pos price ≡ p → new ≡ mid + price →
        pos new ≡ s +ℤ (p +ℤ pos 0)
    sums mid new price s p a b e = omega (arith, ints, a, b, e)

-- a class of which this is the line, this the table, and of which so many are placed
module _ (style : StyleValue) (line : ℕ → List ℕ) (placed after : List ℕ) (pages slot : ℕ) (own table : List ℕ)
    (taken : ℕ) (l : line slot ≡ own) (t : table ≡ distance_table style slot)
    (k : taken ≡ entry after slot - entry placed slot) where
  rest : drop taken own ≡ drop (entry after slot - entry placed slot) (line slot)
  rest = ap (λ (n : ℕ). drop n own) k ∙ ap (drop (entry after slot - entry placed slot)) (sym l)

  first : take taken own ≡ take (entry after slot - entry placed slot) (line slot)
  first = ap (λ (n : ℕ). take n own) k ∙ ap (take (entry after slot - entry placed slot)) (sym l)

  pub own_young : are_young (length table) pages (drop taken own) ≡ young_in style line placed after pages slot
  own_young = ap (λ (xs : List ℕ). are_young (length xs) pages (drop taken own)) t
      ∙ ap (are_young (length (distance_table style slot)) pages) rest

  pub next_settled : (old new : List ℕ) (sum price total : ℕ) →
      AreSettled style line placed after pages slot old sum →
      true ≡ are_young (length table) pages (drop taken own) → new ≡ old ++ later pages (drop taken own) →
      pos price ≡ paid_by table (take taken own) → price ≤ 2 ^ 48 → total ≡ sum + price →
      AreSettled style line placed after pages (slot + 1) new total
  next_settled old new sum price total s young left paid few e = record {
    young = next_all (young_in style line placed after pages) slot s.young (sym (young ∙ own_young));
    left = flat_more (left_in line placed after pages) old new slot s.left
        (left ∙ ap (λ (xs : List ℕ). old ++ later pages xs) rest);
    paid = sum_more (price_in style line placed after) sum total slot price s.paid
        (paid ∙ (ap (λ (xs : List ℕ). paid_by xs (take taken own)) t
        ∙ ap (paid_by (distance_table style slot)) first)) e;
    small = (let small = s.small in omega (arith, small, few, e));
  }
