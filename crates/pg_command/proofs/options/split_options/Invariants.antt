use Rattle.std.proofs.Common.{◌≡◌, map, length}
use Rattle.std.specs.String.{string_bytes}
use Rattle.pg_command.specs.Words.{no_options, options_in, AreOptions}
use Rattle.pg_command.proofs.options.split_options.Given as goal

abbrev pub invariant-options : goal.invariant-options
invariant-options l = record {
  said : options_in no_options (map string_bytes l.words) ≡ options_in l.options (map string_bytes l.rest);
  in_range : AreOptions l.options;
}

abbrev pub decreases-options : goal.decreases-options
decreases-options l = length l.rest
