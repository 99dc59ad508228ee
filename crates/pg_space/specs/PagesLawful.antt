-- The laws of pages under the derived equality of keys.
use Rattle.std.proofs.Common.{◌≡◌, ◌∙◌, refl, sym, ap, ℕ, Bool, true, false, List, [], ◌∷◌, Option, Some, None, nat_eq}
use Rattle.std.specs.Prelude.{ℤ, ◌&&◌}
use Rattle.std.specs.Cmp.Lexicographic.{pointwise}
use Rattle.std.specs.Option.{option_eq}
use Rattle.std.specs.Ordering.{int_eq}
use Rattle.pg_list.specs.GalleyValue.{GalleyValue}
use Rattle.pg_plan.specs.declared.states.PageKey.{PageKey}
use Rattle.pg_plan.specs.contracts.states.SidePartialEq.TheImpl as side_impl
use Rattle.pg_plan.specs.declared.states.Side.{Side}
use Rattle.pg_plan.specs.declared.states.Side.TheVariants.{L, R, S}
use Rattle.pg_style.specs.Values.{StyleValue}
use Rattle.pg_rules.specs.Legal.{document}
use Rattle.pg_rules.specs.NoWorse.{is_same_key, is_same_side, is_same_number, is_same_whole, are_same_counts}
use Rattle.pg_rules.specs.Ranges.{AreInRange}
use Rattle.pg_table.specs.Space.{Lawful, Meaning}
use Rattle.law_space.specs.PageSpace.{page_meaning}
use Rattle.law_space.proofs.SpaceContracts.{best_lawful}

-- an equality that answers as another has its laws
relawful : {S M K : Type 0} (eq other : K → K → Bool) (sp : Meaning S M K) →
    ((a b : K) → other a b ≡ eq a b) → Lawful eq sp → Lawful other sp
relawful eq other sp same law = record {
  own_start = law.own_start;
  own_next = law.own_next;
  determined = law.determined;
  rises = law.rises;
  rank_fits = law.rank_fits;
  reflexive = law.reflexive;
  transitive = law.transitive;
  one_key = λ u v ou ov p. same (sp.key u) (sp.key v) ∙ law.one_key u v ou ov p;
  one_rank = λ u v ou ov p. law.one_rank u v ou ov (sym (same (sp.key u) (sp.key v)) ∙ p);
  one_block = λ u v ou ov p. law.one_block u v ou ov (sym (same (sp.key u) (sp.key v)) ∙ p);
  simulates = law.simulates;
  done = law.done;
  order_equal = law.order_equal;
  order_total = law.order_total;
  onward = law.onward;
  reach_own = law.reach_own;
  reach_next = law.reach_next;
  small_move = law.small_move;
  small_run = law.small_run;
  few_moves = law.few_moves;
}

same_numbers : (a b : Option ℕ) → option_eq nat_eq a b ≡ is_same_number a b
same_numbers None None = refl
same_numbers None (Some b) = refl
same_numbers (Some a) None = refl
same_numbers (Some a) (Some b) = refl

same_wholes : (a b : Option ℤ) → option_eq int_eq a b ≡ is_same_whole a b
same_wholes None None = refl
same_wholes None (Some b) = refl
same_wholes (Some a) None = refl
same_wholes (Some a) (Some b) = refl

same_counts : (xs ys : List ℕ) → pointwise nat_eq xs ys ≡ are_same_counts xs ys
same_counts [] [] = refl
same_counts [] (y ∷ ys) = refl
same_counts (x ∷ xs) [] = refl
same_counts (x ∷ xs) (y ∷ ys) = ap (λ (b : Bool). nat_eq x y && b) (same_counts xs ys)

-- the derived test of sides
abbrev pub side_test : Side → Side → Bool
side_test = side_impl.ghosts.eq

same_sides : (a b : Side) → side_test a b ≡ is_same_side a b
same_sides L L = refl
same_sides L R = refl
same_sides L S = refl
same_sides R L = refl
same_sides R R = refl
same_sides R S = refl
same_sides S L = refl
same_sides S R = refl
same_sides S S = refl

-- the derived test of keys, field by field
abbrev pub key_test : PageKey → PageKey → Bool
key_test a b =
    (nat_eq a.place.block b.place.block
    && (nat_eq a.place.variant b.place.variant && nat_eq a.place.index b.place.index))
    && (nat_eq a.column b.column
    && (side_test a.side b.side
    && (option_eq nat_eq a.run b.run
    && (option_eq int_eq a.wide b.wide
    && (option_eq nat_eq a.fitness b.fitness && pointwise nat_eq a.placed b.placed)))))

left_first : (a b c : Bool) → (a && (b && c)) ≡ ((a && b) && c)
left_first true b c = refl
left_first false b c = refl

all_same : (a b c d e f g h i e' f' g' h' i' : Bool) → e ≡ e' → f ≡ f' → g ≡ g' → h ≡ h' → i ≡ i' →
    ((a && (b && c)) && (d && (e && (f && (g && (h && i))))))
    ≡ (((a && b) && c) && (d && (e' && (f' && (g' && (h' && i'))))))
all_same a b c d e f g h i e' f' g' h' i' p q r s t = let k = left_first a b c in cc

key_tests : (a b : PageKey) → key_test a b ≡ is_same_key a b
key_tests a b = all_same
    (nat_eq a.place.block b.place.block) (nat_eq a.place.variant b.place.variant)
    (nat_eq a.place.index b.place.index) (nat_eq a.column b.column) (side_test a.side b.side)
    (option_eq nat_eq a.run b.run) (option_eq int_eq a.wide b.wide) (option_eq nat_eq a.fitness b.fitness)
    (pointwise nat_eq a.placed b.placed) (is_same_side a.side b.side) (is_same_number a.run b.run)
    (is_same_whole a.wide b.wide) (is_same_number a.fitness b.fitness) (are_same_counts a.placed b.placed)
    (same_sides a.side b.side) (same_numbers a.run b.run) (same_wholes a.wide b.wide) (same_numbers a.fitness b.fitness)
    (same_counts a.placed b.placed)

pub pages_lawful : (galley : GalleyValue) (style : StyleValue) → AreInRange galley style →
    Lawful key_test (page_meaning (document galley style))
pages_lawful galley style range = relawful is_same_key key_test (page_meaning (document galley style)) key_tests
    (best_lawful galley style range)
