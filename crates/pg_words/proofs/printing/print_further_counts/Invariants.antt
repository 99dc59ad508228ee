use Rattle.std.proofs.Common.{◌≡◌, ◌++◌, take}
use Rattle.pg_scaled.specs.Scaled.{Grows}
use Rattle.pg_words.specs.Written.{further_text}
use Rattle.pg_words.proofs.printing.print_further_counts.Given as goal

abbrev pub invariant-loop-count : goal.invariant-loop-count
invariant-loop-count l = record {
  text : l.out.items ≡ l.fn.out.items ++ further_text (take l.count-index l.counts);
  grows : Grows l.fn.out.items l.out.items;
}
