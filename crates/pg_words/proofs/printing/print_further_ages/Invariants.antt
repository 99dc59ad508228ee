use Rattle.std.proofs.Common.{◌≡◌, ◌++◌, take}
use Rattle.pg_scaled.specs.Scaled.{Grows}
use Rattle.pg_words.specs.Written.{further_text}
use Rattle.pg_words.proofs.printing.print_further_ages.Given as goal

abbrev pub invariant-loop-age : goal.invariant-loop-age
invariant-loop-age l = record {
  text : l.out.items ≡ l.fn.out.items ++ further_text (take l.age-index l.ages);
  grows : Grows l.fn.out.items l.out.items;
}
