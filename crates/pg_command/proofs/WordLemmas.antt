-- Options in front of the names, and numbers in range.
use Rattle.std.proofs.Common.{◌≡◌, ◌≤◌, ◌<◌, ◌-◌, ℕ, arith, List, [], ◌∷◌, refl, length, get_or, take, drop, true}
use Rattle.std.proofs.Common.{false, Bool, subst, sym}
use Rattle.std.specs.Prelude.{Option, Some, None, map, IfSome, if◌then◌else◌, nat_le, ◌&&◌, ◌==◌}
use Rattle.std.proofs.lemmas.Bool.Decides.{nat_tests}
use Rattle.std.proofs.lemmas.List.{length-map, take_rest}
use Rattle.std.specs.Str.Parse.{digits_value}
use Rattle.pg_scaled.specs.Digits.{digit_count}
use Rattle.pg_scan.specs.Parts.{is_word_length, word_number}
use Rattle.pg_command.specs.declared.options.OptionName.{OptionName}
use Rattle.pg_command.specs.declared.options.Options.{Options}
use Rattle.pg_command.specs.Words.{is_labels, option_named, with_labels, with_option, options_in}

-- the first two words, and those behind them
pub two_words : {X : Type 0} (f : X → List ℕ) (xs : List X) (x y : X) → 2 ≤ length xs → x ≡ get_or xs 0 x
    → y ≡ get_or xs 1 y
    → map f xs ≡ f x ∷ f y ∷ map f (take (length xs - 2) (drop 2 xs))
two_words f [] x y two first second = absurd (omega arith)
two_words f (a ∷ []) x y two first second = absurd (omega arith)
two_words f (a ∷ b ∷ cs) x y two first second =
    rw (take_rest (a ∷ b ∷ cs) 2, first, second) refl

pub few_words : {X : Type 0} (f : X → List ℕ) (options : Options) (xs : List X) → length xs < 2
    → options_in options (map f xs) ≡ Some (options, map f xs)
unfolding options_in
few_words f options [] few = refl
few_words f options (a ∷ []) few = refl
few_words f options (a ∷ b ∷ cs) few = absurd (omega arith)

-- the first word, and those behind it
pub one_word : {X : Type 0} (f : X → List ℕ) (xs : List X) (x : X) → 1 ≤ length xs → x ≡ get_or xs 0 x
    → map f xs ≡ f x ∷ map f (take (length xs - 1) (drop 1 xs))
one_word f [] x one first = absurd (omega arith)
one_word f (a ∷ bs) x one first = rw (take_rest (a ∷ bs) 1, first) refl

-- behind the first of two words a word is left
pub some_left : {X : Type 0} (f : X → List ℕ) (xs : List X) → 2 ≤ length xs
    → 1 ≤ length (map f (take (length xs - 1) (drop 1 xs)))
some_left f [] two = absurd (omega arith)
some_left f (a ∷ bs) two = rw (take_rest (a ∷ bs) 1, length-map bs f) (omega (arith, two))

pub no_option : (options : Options) (word value : List ℕ) (words : List (List ℕ)) → is_labels word ≡ false
    → option_named word ≡ None
    → options_in options (word ∷ value ∷ words) ≡ Some (options, word ∷ value ∷ words)
unfolding options_in
no_option options word value words none test = rw (none, test) refl

pub an_option : (options : Options) (word value : List ℕ) (words : List (List ℕ)) (name : OptionName) (more : Options)
    → is_labels word ≡ false → option_named word ≡ Some name
    → with_option options name value ≡ Some more → options_in options (word ∷ value ∷ words) ≡ options_in more words
unfolding options_in
an_option options word value words name more none test with = rw (none, test, with) refl

pub bad_option : (options : Options) (word value : List ℕ) (words : List (List ℕ)) (name : OptionName)
    → is_labels word ≡ false → option_named word ≡ Some name
    → with_option options name value ≡ None → options_in options (word ∷ value ∷ words) ≡ None
unfolding options_in
bad_option options word value words name none test with = rw (none, test, with) refl

-- the option for labels stands in front of more words
pub labels_more : (options : Options) (word : List ℕ) (words : List (List ℕ)) (more : Options) → 1 ≤ length words
    → is_labels word ≡ true → with_labels options ≡ Some more
    → options_in options (word ∷ words) ≡ options_in more words
unfolding options_in
labels_more options word [] more some test with = absurd (omega (arith, some))
labels_more options word (value ∷ words) more some test with = rw (test, with) refl

-- it stands there a second time
pub labels_twice : (options : Options) (word : List ℕ) (words : List (List ℕ)) → 1 ≤ length words
    → is_labels word ≡ true → with_labels options ≡ None → options_in options (word ∷ words) ≡ None
unfolding options_in
labels_twice options word [] some test with = absurd (omega (arith, some))
labels_twice options word (value ∷ words) some test with = rw (test, with) refl

-- a number that is taken is in range
pub in_range : (low high : ℕ) (word : List ℕ) →
    IfSome (word_number low high word) (λ (n : ℕ). (low ≤ n) × (n ≤ high))
unfolding word_number
in_range low high word = by (digit_count word == length word && is_word_length (length word)) (digits_value 10 word)
  where
    taken : (b : Bool) (n : ℕ) → (b ≡ true → (low ≤ n) × (n ≤ high)) →
        IfSome (if b then Some n else None) (λ (m : ℕ). (low ≤ m) × (m ≤ high))
    taken true n h = h refl
    taken false n h = tt

    by : (b : Bool) (n : ℕ) →
        IfSome (if b then (if nat_le low n && nat_le n high then Some n else None) else None)
        (λ (m : ℕ). (low ≤ m) × (m ≤ high))
    by true n = taken (nat_le low n && nat_le n high) n
        (λ e. (grind (arith, nat_tests, e), grind (arith, nat_tests, e)))
    by false n = tt

-- the number that is taken
pub number_taken : (low high : ℕ) (word : List ℕ) (n : ℕ) → Some n ≡ word_number low high word →
    (low ≤ n) × (n ≤ high)
number_taken low high word n is =
    subst (λ (o : Option ℕ). IfSome o (λ (m : ℕ). (low ≤ m) × (m ≤ high))) (sym is) (in_range low high word)

-- a number that is not above the greatest
pub none_above : (high : ℕ) (o : Option ℕ) (low : ℕ) → IfSome o (λ (n : ℕ). (low ≤ n) × (n ≤ high)) →
    IfSome o (λ (n : ℕ). n ≤ high)
none_above high None low h = tt
none_above high (Some n) low h = h.1
