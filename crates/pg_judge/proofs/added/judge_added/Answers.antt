use Rattle.std.proofs.Common.{sym, ◌∙◌}
use Rattle.pg_judge.specs.Bases.{doc_of, move_of}
use Rattle.pg_judge.proofs.Adding.{breaks_called, breaks_counts, breaks_dealt, breaks_distance, calls_are, counts_are, pays_price, price_is}
use Rattle.pg_judge.proofs.added.judge_added.Goals as goal

pub has_wide_counts-has_wide-requires-clause-slots : goal.has_wide_counts-has_wide-requires-clause-slots
has_wide_counts-has_wide-requires-clause-slots c = c.requires.kept.slots

pub has_wide_counts-has_wide-requires-clause-few : goal.has_wide_counts-has_wide-requires-clause-few
has_wide_counts-has_wide-requires-clause-few c = c.requires.kept.few

pub are_called-requires : goal.are_called-requires
are_called-requires c = c.requires.list

pub float_demerits-requires-clause-list : goal.float_demerits-requires-clause-list
float_demerits-requires-clause-list c = c.requires.list

pub float_demerits-requires-clause-few : goal.float_demerits-requires-clause-few
float_demerits-requires-clause-few c = c.requires.kept.few

pub returns-then-not-has_own-has_wide : goal.returns-then-not-has_own-has_wide
returns-then-not-has_own-has_wide c =
    let doc = doc_of c.args.basis.now in
    let it = c.args.progress.now in
    let m = move_of c.args.step.now in
    let counts = counts_are doc.style it m c.args.seat.now _ _ _ c.have_counts-has_own.ensures c.as_slice.ensures
    c.has_wide_counts-has_wide.ensures in
    breaks_counts doc it m c.args.seat.now c.args.counted.now
    (counts ∙ c.if-not-has_own-has_wide.true)

pub returns-then-not-has_dealt : goal.returns-then-not-has_dealt
returns-then-not-has_dealt c =
    let doc = doc_of c.args.basis.now in
    let it = c.args.progress.now in
    let m = move_of c.args.step.now in
    let counts = counts_are doc.style it m c.args.seat.now _ _ _ c.have_counts-has_own.ensures c.as_slice.ensures
    c.has_wide_counts-has_wide.ensures in
    let dealt = sym (c.has_dealt.ensures doc.blocks c.requires.list.floats) in
    breaks_dealt doc it m c.args.seat.now c.args.counted.now
    (counts ∙ c.if-not-has_own-has_wide.false) (dealt ∙ c.if-not-has_dealt.true)

pub returns-then-not-are_called : goal.returns-then-not-are_called
returns-then-not-are_called c =
    let doc = doc_of c.args.basis.now in
    let it = c.args.progress.now in
    let m = move_of c.args.step.now in
    let counts = counts_are doc.style it m c.args.seat.now _ _ _ c.have_counts-has_own.ensures c.as_slice.ensures
    c.has_wide_counts-has_wide.ensures in
    let dealt = sym (c.has_dealt.ensures doc.blocks c.requires.list.floats) in
    let called = calls_are doc it m c.args.counted.now c.as_slice-before.result.now c.as_slice-after.result.now _
    c.as_slice-before.ensures c.as_slice-after.ensures c.are_called.ensures in
    breaks_called doc it m c.args.seat.now c.args.counted.now
    (counts ∙ c.if-not-has_own-has_wide.false) (dealt ∙ c.if-not-has_dealt.false) (called ∙ c.if-not-are_called.true)

pub returns-in-Some : goal.returns-in-Some
returns-in-Some c =
    let doc = doc_of c.args.basis.now in
    let it = c.args.progress.now in
    let m = move_of c.args.step.now in
    let counts = counts_are doc.style it m c.args.seat.now _ _ _ c.have_counts-has_own.ensures c.as_slice.ensures
    c.has_wide_counts-has_wide.ensures in
    let dealt = sym (c.has_dealt.ensures doc.blocks c.requires.list.floats) in
    let called = calls_are doc it m c.args.counted.now c.as_slice-before.result.now c.as_slice-after.result.now _
    c.as_slice-before.ensures c.as_slice-after.ensures c.are_called.ensures in
    let price = price_is doc it c.args.counted.now c.as_slice-2.result.now c.as_slice-before.result.now
    c.as_slice-after.result.now _ c.as_slice-2.ensures.value c.as_slice-before.ensures c.as_slice-after.ensures
    c.float_demerits.ensures.price in
    pays_price doc it m c.args.seat.now c.args.counted.now c.in-Some.price
    (counts ∙ c.if-not-has_own-has_wide.false) (dealt ∙ c.if-not-has_dealt.false) (called ∙ c.if-not-are_called.false)
    (price ∙ c.in-Some.is)

pub returns-in-None : goal.returns-in-None
returns-in-None c =
    let doc = doc_of c.args.basis.now in
    let it = c.args.progress.now in
    let m = move_of c.args.step.now in
    let counts = counts_are doc.style it m c.args.seat.now _ _ _ c.have_counts-has_own.ensures c.as_slice.ensures
    c.has_wide_counts-has_wide.ensures in
    let dealt = sym (c.has_dealt.ensures doc.blocks c.requires.list.floats) in
    let called = calls_are doc it m c.args.counted.now c.as_slice-before.result.now c.as_slice-after.result.now _
    c.as_slice-before.ensures c.as_slice-after.ensures c.are_called.ensures in
    let price = price_is doc it c.args.counted.now c.as_slice-2.result.now c.as_slice-before.result.now
    c.as_slice-after.result.now _ c.as_slice-2.ensures.value c.as_slice-before.ensures c.as_slice-after.ensures
    c.float_demerits.ensures.price in
    breaks_distance doc it m c.args.seat.now c.args.counted.now
    (counts ∙ c.if-not-has_own-has_wide.false) (dealt ∙ c.if-not-has_dealt.false) (called ∙ c.if-not-are_called.false)
    (price ∙ c.in-None.is)
