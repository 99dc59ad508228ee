use Rattle.std.proofs.Common.{ap, rules}
use Rattle.pg_small.specs.Seen.{ages_kept}
use Rattle.pg_small.proofs.FewAges.{no_greater, same_length}
use Rattle.pg_small.proofs.rest.Rest.has_surely_no_older.Goals as goal

pub returns-then-own-its-clause-long : goal.returns-then-own-its-clause-long
returns-then-own-its-clause-long c = λ yes.
    same_length c.in-Few-Few.own.waiting c.in-Few-Few.its.waiting c.in-Few-Few.own.ages c.in-Few-Few.its.ages _ _
    (search rules) (ap ages_kept c.in-Few-Few.is-0) (ap ages_kept c.in-Few-Few.is-1) c.are_no_greater.ensures.six

pub returns-then-own-its-clause-young : goal.returns-then-own-its-clause-young
returns-then-own-its-clause-young c = λ yes.
    no_greater c.in-Few-Few.own.waiting c.in-Few-Few.its.waiting c.in-Few-Few.own.ages c.in-Few-Few.its.ages _ _
    (search rules) (ap ages_kept c.in-Few-Few.is-0) (ap ages_kept c.in-Few-Few.is-1) c.are_no_greater.ensures.six
    (c.are_no_greater.ensures.each yes)
