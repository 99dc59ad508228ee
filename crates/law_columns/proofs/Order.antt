-- The order of columns is total, and equal only for equal columns.
use Rattle.std.proofs.Common.{◌≡◌, ◌∙◌, ℕ, ◌<◌, List, [], ◌∷◌}
use Rattle.std.specs.Prelude.{reverse}
use Rattle.std.specs.Ordering.{nat_cmp}
use Rattle.std.specs.Cmp.{IsTotalOrder}
use Rattle.std.proofs.lemmas.Cmp.{then_total, nat_cmp_total, nat_list_cmp_total, on_total}
use Rattle.pg_list.specs.declared.galley.Place.{Place}
use Rattle.pg_plan.specs.declared.pages.PageMove.{PageMove}
use Rattle.pg_plan.specs.Order.{place_cmp, column_cmp}

pub place_total : IsTotalOrder place_cmp
place_total = then_total {R = λ (a b : Place). nat_cmp a.block b.block}
    (on_total (λ (a : Place). a.block) nat_cmp_total)
    (then_total {R = λ (a b : Place). nat_cmp a.variant b.variant}
    (on_total (λ (a : Place). a.variant) nat_cmp_total) (on_total (λ (a : Place). a.index) nat_cmp_total))

pub columns_total : IsTotalOrder column_cmp
columns_total =
    then_total (on_total (λ (a : PageMove). a.column.to) place_total)
    (then_total (on_total (λ (a : PageMove). a.column.from) place_total)
    (then_total (on_total (λ (a : PageMove). a.run) nat_cmp_total)
    (then_total (on_total (λ (a : PageMove). a.wide) nat_list_cmp_total)
    (then_total (on_total (λ (a : PageMove). a.column.bottom) nat_list_cmp_total)
    (then_total (on_total (λ (a : PageMove). a.column.top) nat_list_cmp_total)
    (on_total (λ (a : PageMove). reverse a.column.picks) nat_list_cmp_total))))))

same_column : (f t f' t' : Place) (a b p a' b' p' : List ℕ) (r r' : ℕ) (doc doc' : List ℕ) → f ≡ f' → t ≡ t' →
    a ≡ a' → b ≡ b' → p ≡ p' → r ≡ r' → doc ≡ doc' →
    ◌≡◌ {A = PageMove} (record {
      column = record { from = f; to = t; top = a; bottom = b; picks = p };
      run =
          r;
      wide = doc;
    }) (record {
      column = record { from = f'; to = t'; top = a'; bottom = b'; picks = p' };
      run = r';
      wide = doc';
    })
same_column f t f' t' a b p a' b' p' r r' doc doc' h1 h2 h3 h4 h5 h6 h7 = cc
