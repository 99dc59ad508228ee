-- Known numbers and their texts.
use Rattle.std.proofs.Common.{◌≡◌, refl, pos, negsuc, [], ◌∷◌}
use Rattle.pg_scaled.specs.declared.read.Front.TheVariants.{Value, NotNumber, TooLarge}
use Rattle.std.specs.Fmt.{digits}
use Rattle.pg_scaled.specs.Scaled.{scaled_text, scaled_value, fraction_digits}

least_prints : scaled_text (pos 1) ≡ 48 ∷ 46 ∷ 48 ∷ 48 ∷ 48 ∷ 48 ∷ 50 ∷ []
unfolding fraction_digits digits
least_prints = refl

least_reads : scaled_value (48 ∷ 46 ∷ 48 ∷ 48 ∷ 48 ∷ 48 ∷ 50 ∷ []) ≡ Value (pos 1) 7
least_reads = refl

below_one_prints : scaled_text (pos 65535) ≡ 48 ∷ 46 ∷ 57 ∷ 57 ∷ 57 ∷ 57 ∷ 56 ∷ []
unfolding fraction_digits digits
below_one_prints = refl

below_one_reads : scaled_value (48 ∷ 46 ∷ 57 ∷ 57 ∷ 57 ∷ 57 ∷ 56 ∷ []) ≡ Value (pos 65535) 7
below_one_reads = refl

greatest_prints : scaled_text (pos 1073741823) ≡ 49 ∷ 54 ∷ 51 ∷ 56 ∷ 51 ∷ 46 ∷ 57 ∷ 57 ∷ 57 ∷ 57 ∷ 56 ∷ []
unfolding fraction_digits digits
greatest_prints = refl

greatest_reads : scaled_value (49 ∷ 54 ∷ 51 ∷ 56 ∷ 51 ∷ 46 ∷ 57 ∷ 57 ∷ 57 ∷ 57 ∷ 56 ∷ []) ≡ Value (pos 1073741823) 11
greatest_reads = refl

least_negative_prints : scaled_text (negsuc 0) ≡ 45 ∷ 48 ∷ 46 ∷ 48 ∷ 48 ∷ 48 ∷ 48 ∷ 50 ∷ []
unfolding fraction_digits digits
least_negative_prints = refl

least_negative_reads : scaled_value (45 ∷ 48 ∷ 46 ∷ 48 ∷ 48 ∷ 48 ∷ 48 ∷ 50 ∷ []) ≡ Value (negsuc 0) 8
least_negative_reads = refl

zero_point_prints : scaled_text (pos 0) ≡ 48 ∷ 46 ∷ 48 ∷ []
unfolding fraction_digits digits
zero_point_prints = refl

zero_point_reads : scaled_value (48 ∷ 46 ∷ 48 ∷ []) ≡ Value (pos 0) 3
zero_point_reads = refl

five_and_a_half_prints : scaled_text (pos 360448) ≡ 53 ∷ 46 ∷ 53 ∷ []
unfolding fraction_digits digits
five_and_a_half_prints = refl

five_and_a_half_reads : scaled_value (53 ∷ 46 ∷ 53 ∷ []) ≡ Value (pos 360448) 3
five_and_a_half_reads = refl

too_large : scaled_value (49 ∷ 54 ∷ 51 ∷ 56 ∷ 52 ∷ 46 ∷ 48 ∷ []) ≡ TooLarge 7
too_large = refl

no_whole_digit : scaled_value (46 ∷ 53 ∷ []) ≡ NotNumber
no_whole_digit = refl

-- TeX reads 0.1 as 6554 units, and a front alone counts
front_counts : scaled_value (48 ∷ 46 ∷ 49 ∷ 112 ∷ 116 ∷ []) ≡ Value (pos 6554) 3
front_counts = refl
