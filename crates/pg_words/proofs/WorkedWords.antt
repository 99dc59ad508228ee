-- Words, computed: each is read in one spelling alone.
use Rattle.std.proofs.Common.{◌≡◌, refl, pos, [], ◌∷◌, Some, None}
use Rattle.std.specs.Prelude.{◌^◌, ◌-◌, codes, negsuc}
use Rattle.std.specs.Fmt.{digits}
use Rattle.pg_list.specs.Places.{place}
use Rattle.pg_plan.specs.declared.states.Side.TheVariants.{R}
use Rattle.pg_scaled.specs.Scaled.{fraction_digits}
use Rattle.pg_scan.specs.Parts.{parts_of}
use Rattle.pg_words.specs.InOrder.{words_of, place_at}
use Rattle.pg_words.specs.Read.{numeral, number_below, whole_word, negative_word, positive_word, size_behind, size_word, value_word, scaled_word, numbers_word, option_word, side_word, column_word}

-- ---- numbers

zero : number_below 256 (codes "0") ≡ Some 0
unfolding number_below numeral
zero = refl

greatest : number_below 256 (codes "255") ≡ Some 255
unfolding number_below numeral
greatest = refl

too_great : number_below 256 (codes "256") ≡ None
unfolding number_below numeral
too_great = refl

zero_in_front : number_below 256 (codes "03") ≡ None
unfolding number_below numeral
zero_in_front = refl

two_zeros : number_below 256 (codes "00") ≡ None
unfolding number_below numeral
two_zeros = refl

empty : number_below 256 [] ≡ None
unfolding number_below numeral
empty = refl

plus : number_below 256 (codes "+1") ≡ None
unfolding number_below numeral
plus = refl

letter : number_below 256 (codes "1x") ≡ None
unfolding number_below numeral
letter = refl

-- ---- whole numbers

below_zero : whole_word (codes "-7") ≡ Some (negsuc 6)
unfolding whole_word negative_word positive_word numeral
below_zero = refl

minus_zero : whole_word (codes "-0") ≡ None
unfolding whole_word negative_word positive_word numeral
minus_zero = refl

minus_alone : whole_word (codes "-") ≡ None
unfolding whole_word negative_word positive_word numeral
minus_alone = refl

two_minuses : whole_word (codes "--1") ≡ None
unfolding whole_word negative_word positive_word numeral
two_minuses = refl

most : whole_word (codes "170141183460469231731687303715884105727") ≡ Some (pos (2 ^ 127 - 1))
unfolding whole_word negative_word positive_word numeral
most = refl

one_more : whole_word (codes "170141183460469231731687303715884105728") ≡ None
unfolding whole_word negative_word positive_word numeral
one_more = refl

least : whole_word (codes "-170141183460469231731687303715884105728") ≡ Some (negsuc (2 ^ 127 - 1))
unfolding whole_word negative_word positive_word numeral
least = refl

one_less : whole_word (codes "-170141183460469231731687303715884105729") ≡ None
unfolding whole_word negative_word positive_word numeral
one_less = refl

-- ---- scaled numbers

points : scaled_word (codes "345.0") ≡ Some (pos 22609920)
unfolding scaled_word value_word size_word size_behind digits fraction_digits
points = refl

one_unit_less : scaled_word (codes "-0.00002") ≡ Some (negsuc 0)
unfolding scaled_word value_word size_word size_behind digits fraction_digits
one_unit_less = refl

more_digits : scaled_word (codes "345.00") ≡ None
unfolding scaled_word value_word size_word size_behind digits fraction_digits
more_digits = refl

other_digits : scaled_word (codes "0.00001") ≡ None
unfolding scaled_word value_word size_word size_behind digits fraction_digits
other_digits = refl

no_fraction : scaled_word (codes "345.") ≡ None
unfolding scaled_word value_word size_word size_behind digits fraction_digits
no_fraction = refl

no_point : scaled_word (codes "345") ≡ None
unfolding scaled_word value_word size_word size_behind digits fraction_digits
no_point = refl

minus_nothing : scaled_word (codes "-0.0") ≡ None
unfolding scaled_word value_word size_word size_behind digits fraction_digits
minus_nothing = refl

zero_points : scaled_word (codes "0345.0") ≡ None
unfolding scaled_word value_word size_word size_behind digits fraction_digits
zero_points = refl

-- 2^44 points are 2^60 units
largest : scaled_word (codes "17592186044416.0") ≡ Some (pos (2 ^ 60))
unfolding scaled_word value_word size_word size_behind digits fraction_digits
largest = refl

too_large : scaled_word (codes "17592186044416.00002") ≡ None
unfolding scaled_word value_word size_word size_behind digits fraction_digits
too_large = refl

-- ---- lists, letters, places

none : numbers_word 256 (codes "-") ≡ Some []
unfolding numbers_word
none = refl

three : numbers_word 256 (codes "1,0,255") ≡ Some (1 ∷ 0 ∷ 255 ∷ [])
unfolding numbers_word number_below numeral parts_of
three = refl

one_too_great : numbers_word 256 (codes "1,256") ≡ None
unfolding numbers_word number_below numeral parts_of
one_too_great = refl

comma_at_the_end : numbers_word 256 (codes "1,") ≡ None
unfolding numbers_word number_below numeral parts_of
comma_at_the_end = refl

nothing : numbers_word 256 [] ≡ None
unfolding numbers_word number_below numeral parts_of
nothing = refl

absent : option_word (number_below 4) (codes "-") ≡ Some None
absent = refl

present : option_word (number_below 4) (codes "3") ≡ Some (Some 3)
unfolding number_below numeral
present = refl

right : side_word (codes "R") ≡ Some R
unfolding side_word
right = refl

small_letter : side_word (codes "r") ≡ None
unfolding side_word
small_letter = refl

third_column : column_word (codes "3") ≡ None
unfolding column_word
third_column = refl

a_place : place_at (words_of (codes "5 1 0 top")) ≡ Some (place 5 1 0, codes "top" ∷ [])
unfolding place_at number_below numeral parts_of
a_place = refl

two_blanks : place_at (words_of (codes "5 1  0")) ≡ None
unfolding place_at number_below numeral parts_of
two_blanks = refl

blank_at_the_end : words_of (codes "labels 3 ") ≡ codes "labels" ∷ codes "3" ∷ [] ∷ []
unfolding parts_of
blank_at_the_end = refl
