use Rattle.std.proofs.Common.{◌≡◌, ◌∙◌, sym, refl, arith, length, vec_len, eqb-true}
use Rattle.std.proofs.lemmas.Option.{slice_get_read}
use Rattle.pg_table.proofs.Seats.{turn_added, turn_kept}
use Rattle.pg_table.proofs.pending.add_turn.Goals as goal

pub returns-in_ok-push-clause-turns : goal.returns-in_ok-push-clause-turns
returns-in_ok-push-clause-turns g c =
    let buckets = c.args.pending.now.buckets in
    let long : vec_len buckets ≡ length buckets.items = omega (arith, buckets.ok.0) in
    turn_added (g.S.Space.meaning c.args.space.now) c.args.state.now c.args.place buckets.items _ _ c.index.result.now
    (record { block = c.block.result; rank = c.rank.result; place = c.args.place })
    (slice_get_read buckets.items (vec_len buckets) c.args.place c.index.result.now long c.requires.within
    c.index.ensures)
    (eqb-true (length c.index.result.now.items) 0 (sym c.is_empty.ensures ∙ c.if-is_empty.true))
    c.block.ensures c.rank.ensures refl c.in_ok-push.ensures.permutation

pub returns-else-is_empty-clause-turns : goal.returns-else-is_empty-clause-turns
returns-else-is_empty-clause-turns g c =
    let buckets = c.args.pending.now.buckets in
    let long : vec_len buckets ≡ length buckets.items = omega (arith, buckets.ok.0) in
    turn_kept (g.S.Space.meaning c.args.space.now) c.args.state.now c.args.place buckets.items _ c.index.result.now
    (slice_get_read buckets.items (vec_len buckets) c.args.place c.index.result.now long c.requires.within
    c.index.ensures)
    (sym c.is_empty.ensures ∙ c.if-is_empty.false)
