use Rattle.std.proofs.Common.{◌≡◌, ◌∙◌, ap}
use Rattle.std.specs.Prelude.{◌&&◌}
use Rattle.law_moves.specs.Listed.{calls_all, flushes_all, may_begin}
use Rattle.pg_sources.specs.Document.{doc_of}
use Rattle.pg_sources.specs.declared.calls.Before.{Before}
use Rattle.pg_states.specs.declared.settling.Known.{Known}
use Rattle.pg_states.proofs.Both.{missed, passed}
use Rattle.pg_states.proofs.settling.may_end.Goals as goal

pub returns-then-known : goal.returns-then-known
returns-then-known c = λ u to k e.
    let doc = doc_of c.args.sources.now in
    let after = c.args.after.now in
    let flushes : c.flushes_all.result ≡ flushes_all doc to.block after =
    c.flushes_all.ensures to.block (c.as_slice-then-known.ensures ∙ ap (λ (it : Before). it.flushed) e) in
    passed c.calls_all.result (calls_all doc to after) (may_begin doc u && flushes_all doc to.block after)
    (c.calls_all.ensures to (c.as_slice.ensures ∙ ap (λ (it : Before). it.called) e)) c.if-calls_all.true
    c.flushes_all.result
    (passed c.args.known.now.may_begin (may_begin doc u) (flushes_all doc to.block after)
    (ap (λ (it : Known). it.may_begin) k) c.if-known.true c.flushes_all.result flushes)

pub returns-else-known : goal.returns-else-known
returns-else-known c = λ u to k e.
    let doc = doc_of c.args.sources.now in
    let after = c.args.after.now in
    passed c.calls_all.result (calls_all doc to after) (may_begin doc u && flushes_all doc to.block after)
    (c.calls_all.ensures to (c.as_slice.ensures ∙ ap (λ (it : Before). it.called) e)) c.if-calls_all.true
    c.args.known.now.may_begin
    (missed c.args.known.now.may_begin (may_begin doc u) (flushes_all doc to.block after)
    (ap (λ (it : Known). it.may_begin) k) c.if-known.false)

pub returns-else-calls_all : goal.returns-else-calls_all
returns-else-calls_all c = λ u to k e.
    let doc = doc_of c.args.sources.now in
    let after = c.args.after.now in
    missed c.calls_all.result (calls_all doc to after) (may_begin doc u && flushes_all doc to.block after)
    (c.calls_all.ensures to (c.as_slice.ensures ∙ ap (λ (it : Before). it.called) e)) c.if-calls_all.false
