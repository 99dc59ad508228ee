use Rattle.std.proofs.Common.{◌≡◌, ◌++◌, take}
use Rattle.pg_scaled.specs.Scaled.{Grows}
use Rattle.pg_words.specs.Written.{further_text}
use Rattle.pg_words.proofs.printing.print_further_picks.Given as goal

abbrev pub invariant-loop-pick : goal.invariant-loop-pick
invariant-loop-pick l = record {
  text : l.out.items ≡ l.fn.out.items ++ further_text (take l.pick-index l.picks);
  grows : Grows l.fn.out.items l.out.items;
}
