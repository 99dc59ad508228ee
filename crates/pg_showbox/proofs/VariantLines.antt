-- What the marker of a variant says, case by case.
use Rattle.std.proofs.Common.{◌≡◌, ◌∙◌, sym, ap, refl, ℕ, List, true, false, Some, None}
use Rattle.std.specs.Prelude.{Result, Ok, Err, IsErrAnd, ℤ, pos, neg_ℤ, nat_abs, codes}
use Rattle.std.specs.Str.{bytes_eq}
use Rattle.pg_scan.specs.Parts.{after}
use Rattle.pg_showbox.specs.Parts.{◌>>=◌, whole_at}
use Rattle.pg_showbox.specs.ParsedLine.{variant_at}
use Rattle.pg_showbox.specs.declared.kinds.ListKind.{ListKind}
use Rattle.pg_showbox.specs.declared.kinds.ListKind.TheVariants.{ChoiceShape}
use Rattle.pg_showbox.specs.declared.parsed.ParsedLine.{ParsedLine}
use Rattle.pg_showbox.specs.declared.parsed.ParsedLine.TheVariants.{VariantMark}

module _ (bytes : List ℕ) where
  pub no_looseness : (kind : ListKind) → whole_at (neg_ℤ (pos 100)) (pos 100) bytes ≡ Err kind
      → variant_at bytes ≡ Err kind
  unfolding variant_at
  no_looseness kind e = rw e refl

  module _ (looseness : ℤ) (rest : List ℕ)
      (is : whole_at (neg_ℤ (pos 100)) (pos 100) bytes ≡ Ok (looseness, rest)) where
    pub no_space : after (codes " ") rest ≡ None → variant_at bytes ≡ Err ChoiceShape
    unfolding variant_at
    no_space none = rw (is, none) refl

    module _ (space : List ℕ) (there : after (codes " ") rest ≡ Some space) where
      pub no_demerits : (kind : ListKind) → whole_at (pos 0) (pos 100000000) space ≡ Err kind
          → variant_at bytes ≡ Err kind
      unfolding variant_at
      no_demerits kind e = rw (is, there, e) refl

      pub not_closed : (demerits : ℤ) (end : List ℕ) → whole_at (pos 0) (pos 100000000) space ≡ Ok (demerits, end)
          → bytes_eq end (codes "}") ≡ false → variant_at bytes ≡ Err ChoiceShape
      unfolding variant_at
      not_closed demerits end e other = rw (is, there, e, other) refl

      pub says_variant : (demerits : ℤ) (end : List ℕ) → whole_at (pos 0) (pos 100000000) space ≡ Ok (demerits, end)
          → bytes_eq end (codes "}") ≡ true → variant_at bytes ≡ Ok (VariantMark looseness (nat_abs demerits))
      unfolding variant_at
      says_variant demerits end e same = rw (is, there, e, same) refl
