use Rattle.std.proofs.Common.{◌≡◌, ◌^◌, ◌++◌, List, ℕ}
use Rattle.std.specs.Option.{option_map}
use Rattle.pg_scan.specs.Parts.{parts_of}
use Rattle.pg_words.specs.EntriesLeft.{entries_left, size_left}
use Rattle.pg_words.specs.Read.{all_words, number_below}
use Rattle.pg_words.proofs.lists.read_picks.Given as goal

abbrev pub invariant-loop-rest : goal.invariant-loop-rest
invariant-loop-rest l = all_words (number_below (2 ^ 32)) (parts_of 44 l.fn.word)
    ≡ option_map (λ (xs : List ℕ). l.picks ++ xs)
    (all_words (number_below (2 ^ 32)) (entries_left (option_map (λ t. t.now) l.rest)))

abbrev pub decreases-loop-rest : goal.decreases-loop-rest
decreases-loop-rest l = size_left (option_map (λ t. t.now) l.rest)
