-- The order among columns is total, and equal only for equal columns; the order among paginations is total.
use Rattle.std.proofs.Common.{◌≡◌, refl, sym, ap, ◌∙◌, ℕ, List, [], ◌∷◌}
use Rattle.std.specs.Prelude.{reverse}
use Rattle.std.specs.Ordering.{nat_cmp, ordering_then}
use Rattle.std.specs.declared.cmp.Ordering.TheVariants.{Equal}
use Rattle.std.specs.Cmp.{IsTotalOrder}
use Rattle.std.specs.Cmp.Lexicographic.{slice_cmp, lists_total}
use Rattle.std.proofs.lemmas.Cmp.{then_total, nat_cmp_total, nat_list_cmp_total, on_total}
use Rattle.std.proofs.lemmas.List.{reverse-reverse}
use Rattle.pg_list.specs.declared.galley.Place.{Place}
use Rattle.pg_plan.specs.declared.pages.PageMove.{PageMove}
use Rattle.pg_plan.specs.Order.{columns, plan_cmp, place_cmp, counts_cmp, picks_cmp, column_cmp}
use Rattle.pg_lemmas.proofs.Orders.{then_equal, nat_equal}

pub place_total : IsTotalOrder place_cmp
place_total = then_total {R = λ (a b : Place). nat_cmp a.block b.block} (on_total (λ (a : Place). a.block) nat_cmp_total) (then_total {R = λ (a b : Place). nat_cmp a.variant b.variant} (on_total (λ (a : Place). a.variant) nat_cmp_total) (on_total (λ (a : Place). a.index) nat_cmp_total))

pub columns_total : IsTotalOrder column_cmp
columns_total =
    then_total (on_total (λ (a : PageMove). a.column.to) place_total)
    (then_total (on_total (λ (a : PageMove). a.column.from) place_total)
    (then_total (on_total (λ (a : PageMove). a.run) nat_cmp_total)
    (then_total (on_total (λ (a : PageMove). a.wide) nat_list_cmp_total)
    (then_total (on_total (λ (a : PageMove). a.column.bottom) nat_list_cmp_total)
    (then_total (on_total (λ (a : PageMove). a.column.top) nat_list_cmp_total)
    (on_total (λ (a : PageMove). reverse a.column.picks) nat_list_cmp_total))))))

pub list_equal : (xs ys : List ℕ) → slice_cmp nat_cmp xs ys ≡ Equal → xs ≡ ys
list_equal [] [] e = refl
list_equal [] (y ∷ ys) e = absurd cc
list_equal (x ∷ xs) [] e = absurd cc
list_equal (x ∷ xs) (y ∷ ys) e = let t = then_equal (nat_cmp x y) (slice_cmp nat_cmp xs ys) e in let p : x ≡ y = nat_equal x y t.0 in let q : xs ≡ ys = list_equal xs ys t.1 in cc

pub place_equal : (a b : Place) → place_cmp a b ≡ Equal → a ≡ b
place_equal a b e =
    let t = then_equal (nat_cmp a.block b.block) (ordering_then (nat_cmp a.variant b.variant) (nat_cmp a.index b.index)) e in
    let s = then_equal (nat_cmp a.variant b.variant) (nat_cmp a.index b.index) t.1 in
    make a.block a.variant a.index b.block b.variant b.index (nat_equal a.block b.block t.0) (nat_equal a.variant b.variant s.0) (nat_equal a.index b.index s.1)
  where
    make : (b v i b' v' i' : ℕ) → b ≡ b' → v ≡ v' → i ≡ i' → ◌≡◌ {A = Place} (record { block = b; variant = v; index = i }) (record { block = b'; variant = v'; index = i' })
    make b v i b' v' i' p q r = cc

pub picks_equal : (a b : List ℕ) → picks_cmp a b ≡ Equal → a ≡ b
picks_equal a b e = sym (reverse-reverse a) ∙ (ap reverse (list_equal (reverse a) (reverse b) e) ∙ reverse-reverse b)

same_column : (f t f' t' : Place) (a b p a' b' p' : List ℕ) (r r' : ℕ) (doc doc' : List ℕ) → f ≡ f' → t ≡ t' → a ≡ a' → b ≡ b' → p ≡ p' → r ≡ r' → doc ≡ doc' →
    ◌≡◌ {A = PageMove} (record { column = record { from = f; to = t; top = a; bottom = b; picks = p }; run = r; wide = doc }) (record { column = record { from = f'; to = t'; top = a'; bottom = b'; picks = p' }; run = r'; wide = doc' })
same_column f t f' t' a b p a' b' p' r r' doc doc' h1 h2 h3 h4 h5 h6 h7 = cc

pub column_equal : (m n : PageMove) → column_cmp m n ≡ Equal → m ≡ n
column_equal m n e =
    let t1 = then_equal (place_cmp m.column.to n.column.to) _ e in
    let t2 = then_equal (place_cmp m.column.from n.column.from) _ t1.1 in
    let t3 = then_equal (nat_cmp m.run n.run) _ t2.1 in
    let t4 = then_equal (counts_cmp m.wide n.wide) _ t3.1 in
    let t5 = then_equal (counts_cmp m.column.bottom n.column.bottom) _ t4.1 in
    let t6 = then_equal (counts_cmp m.column.top n.column.top) (picks_cmp m.column.picks n.column.picks) t5.1 in
    same_column m.column.from m.column.to n.column.from n.column.to m.column.top m.column.bottom m.column.picks n.column.top n.column.bottom n.column.picks m.run n.run m.wide n.wide
    (place_equal _ _ t2.0) (place_equal _ _ t1.0) (list_equal _ _ t6.0) (list_equal _ _ t5.0) (picks_equal _ _ t6.1) (nat_equal _ _ t3.0) (list_equal _ _ t4.0)

pub plans_total : IsTotalOrder plan_cmp
plans_total = on_total columns (lists_total columns_total)
