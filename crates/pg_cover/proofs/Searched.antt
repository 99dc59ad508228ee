-- Labels looked at one after another.
use Rattle.std.proofs.Common.{◌≡◌, refl, subst, ◌∙◌, ℕ, ◌+◌, ◌<◌, List, length, Some, None, arith}
use Rattle.std.specs.Prelude.{slice_get, slice_index_or}
use Rattle.std.specs.Ordering.{nat_cmp}
use Rattle.std.proofs.lemmas.Cmp.{by_ranked, ranked}
use Rattle.std.proofs.lemmas.Option.{get_or_from_slice_get, slice_get_read}
use Rattle.pg_list.specs.declared.galley.Place.{Place}
use Rattle.pg_plan.specs.declared.pages.PageMove.{PageMove}
use Rattle.pg_plan.specs.declared.states.Label.{Label}
use Rattle.pg_plan.specs.declared.states.State.{State}
use Rattle.pg_table.specs.Space.{Meaning}
use Rattle.pg_cover.specs.Covered.{IsFirstOpen, IsOpenOf, NoneOpenBefore}

module _ {K : Type 0} (sp : Meaning State PageMove K) (labels : List Label) where
  pub first_at : (index : ℕ) (x : Label) (to : Place) → index < length labels → x ≡ slice_index_or labels index x →
      IsOpenOf sp labels x (Some to) → NoneOpenBefore sp labels index → IsFirstOpen sp labels index to
  first_at index x to within is o before = record {
    label = x;
    at = slice_get_read labels (length labels) index x refl within is;
    is_open = o;
    before = before;
  }

  pub none_open_more : (n : ℕ) (x : Label) → x ≡ slice_index_or labels n x → IsOpenOf sp labels x None →
      NoneOpenBefore sp labels n → NoneOpenBefore sp labels (n + 1)
  none_open_more n x is o before i label less at =
      by_ranked (i < n) (i ≡ n) (n < i) (nat_cmp i n) (ranked i n (nat_cmp i n) refl)
      (λ _ h. before i label h at)
      (λ _ h. subst (λ (l : Label). IsOpenOf sp labels l None)
      (is ∙ get_or_from_slice_get labels n label x (subst (λ (k : ℕ). slice_get labels k ≡ Some label) h at)) o)
      (λ _ h. absurd (omega arith))
