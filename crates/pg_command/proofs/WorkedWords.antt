-- The words of commands, computed.
use Rattle.std.proofs.Common.{◌≡◌, refl, [], ◌∷◌, true, false}
use Rattle.std.specs.Prelude.{codes, Some, None}
use Rattle.pg_scan.specs.Parts.{word_number}
use Rattle.pg_command.specs.Words.{check, command_of, compare, fold, heads, make, named, options_in, run}

most_paragraphs : command_of (codes "make" ∷ codes "0000002000" ∷ []) ≡ Some (make 2000)
unfolding word_number options_in
most_paragraphs = refl

too_many_paragraphs : command_of (codes "make" ∷ codes "2001" ∷ []) ≡ None
unfolding word_number options_in
too_many_paragraphs = refl

too_many_digits : command_of (codes "make" ∷ codes "00000000001" ∷ []) ≡ None
unfolding word_number options_in
too_many_digits = refl

a_width : command_of (codes "make" ∷ codes "--wrap" ∷ codes "79" ∷ codes "1" ∷ []) ≡ None
unfolding word_number options_in
a_width = refl

no_labels_asked : command_of (codes "run" ∷ codes "s" ∷ codes "g" ∷ [])
    ≡ Some (run (named (codes "s")) (codes "g") false None)
unfolding options_in
no_labels_asked = refl

labels_before_a_width : command_of (codes "run" ∷ codes "--labels" ∷ codes "--wrap" ∷ codes "79" ∷ codes "s"
    ∷ codes "g" ∷ []) ≡ Some (run (named (codes "s")) (codes "g") true (Some 79))
unfolding word_number options_in
labels_before_a_width = refl

labels_behind_a_width : command_of (codes "run" ∷ codes "--wrap" ∷ codes "79" ∷ codes "--labels" ∷ codes "s"
    ∷ codes "g" ∷ []) ≡ Some (run (named (codes "s")) (codes "g") true (Some 79))
unfolding word_number options_in
labels_behind_a_width = refl

labels_asked_twice : command_of (codes "run" ∷ codes "--labels" ∷ codes "--labels" ∷ codes "s" ∷ codes "g" ∷ [])
    ≡ None
unfolding options_in
labels_asked_twice = refl

labels_behind_the_names : command_of (codes "run" ∷ codes "s" ∷ codes "g" ∷ codes "--labels" ∷ []) ≡ None
unfolding options_in
labels_behind_the_names = refl

labels_for_a_width : command_of (codes "run" ∷ codes "--wrap" ∷ codes "--labels" ∷ codes "s" ∷ codes "g" ∷ []) ≡ None
unfolding word_number options_in
labels_for_a_width = refl

labels_of_a_show : command_of (codes "show" ∷ codes "--labels" ∷ codes "g" ∷ []) ≡ None
unfolding options_in
labels_of_a_show = refl

labels_of_a_make : command_of (codes "make" ∷ codes "--labels" ∷ codes "1" ∷ []) ≡ None
unfolding options_in
labels_of_a_make = refl

a_check : command_of (codes "check" ∷ codes "s" ∷ codes "g" ∷ codes "o" ∷ [])
    ≡ Some (check (codes "s") (codes "g") (codes "o") None)
unfolding options_in
a_check = refl

a_check_with_a_width : command_of (codes "check" ∷ codes "--wrap" ∷ codes "79" ∷ codes "s" ∷ codes "g" ∷ codes "o"
    ∷ []) ≡ Some (check (codes "s") (codes "g") (codes "o") (Some 79))
unfolding word_number options_in
a_check_with_a_width = refl

labels_of_a_check : command_of (codes "check" ∷ codes "--labels" ∷ codes "s" ∷ codes "g" ∷ codes "o" ∷ []) ≡ None
unfolding options_in
labels_of_a_check = refl

a_height_of_a_check : command_of (codes "check" ∷ codes "--height" ∷ codes "58.0" ∷ codes "g" ∷ codes "o" ∷ [])
    ≡ None
unfolding options_in
a_height_of_a_check = refl

two_files_of_a_check : command_of (codes "check" ∷ codes "s" ∷ codes "g" ∷ []) ≡ None
unfolding options_in
two_files_of_a_check = refl

some_heads : command_of (codes "heads" ∷ codes "--wrap" ∷ codes "79" ∷ codes "s" ∷ codes "g" ∷ [])
    ≡ Some (heads (codes "s") (codes "g") (Some 79))
unfolding word_number options_in
some_heads = refl

labels_of_heads : command_of (codes "heads" ∷ codes "--labels" ∷ codes "s" ∷ codes "g" ∷ []) ≡ None
unfolding options_in
labels_of_heads = refl

a_fold_of_heads : command_of (codes "heads" ∷ codes "--nest" ∷ codes "1" ∷ codes "s" ∷ codes "g" ∷ []) ≡ None
unfolding word_number options_in
a_fold_of_heads = refl

a_comparison : command_of (codes "compare" ∷ codes "s" ∷ codes "g" ∷ [])
    ≡ Some (compare (codes "s") (codes "g") None)
unfolding options_in
a_comparison = refl

some_sheets : command_of (codes "fold" ∷ codes "--nest" ∷ codes "16" ∷ codes "--folds" ∷ codes "4" ∷ codes "s"
    ∷ codes "g" ∷ []) ≡ Some (fold (codes "s") (codes "g") 4 16 None)
unfolding word_number options_in
some_sheets = refl

too_many_folds : command_of (codes "fold" ∷ codes "--nest" ∷ codes "1" ∷ codes "--folds" ∷ codes "5" ∷ codes "s"
    ∷ codes "g" ∷ []) ≡ None
unfolding word_number options_in
too_many_folds = refl

no_nest : command_of (codes "fold" ∷ codes "--folds" ∷ codes "4" ∷ codes "s" ∷ codes "g" ∷ []) ≡ None
unfolding word_number options_in
no_nest = refl

nests_twice : command_of (codes "fold" ∷ codes "--nest" ∷ codes "1" ∷ codes "--nest" ∷ codes "1" ∷ codes "s"
    ∷ codes "g" ∷ []) ≡ None
unfolding word_number options_in
nests_twice = refl

a_fold_of_lines : command_of (codes "fold" ∷ codes "--nest" ∷ codes "1" ∷ codes "--folds" ∷ codes "1"
    ∷ codes "--around" ∷ codes "1" ∷ codes "s" ∷ codes "g" ∷ []) ≡ None
unfolding word_number options_in
a_fold_of_lines = refl

no_width_of_lines : command_of (codes "lines" ∷ codes "--tolerance" ∷ codes "1" ∷ codes "--around" ∷ codes "1"
    ∷ codes "f" ∷ []) ≡ None
unfolding word_number options_in
no_width_of_lines = refl

lines_too_bad : command_of (codes "lines" ∷ codes "--tolerance" ∷ codes "10001" ∷ codes "f" ∷ []) ≡ None
unfolding word_number options_in
lines_too_bad = refl
