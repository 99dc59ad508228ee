use Rattle.std.proofs.Common.{ap, subst, sym, List}
use Rattle.std.specs.Prelude.{MatchOption, slice_get}
use Rattle.pg_sources.specs.Document.{doc_of}
use Rattle.pg_rooms.specs.KeptLaid.{AreStays, AreStaysOf, DoesServe}
use Rattle.pg_rooms.specs.Laid.{HasSoMany}
use Rattle.pg_rooms.specs.declared.kept_laid.KeptLaid.{KeptLaid}
use Rattle.pg_rooms.proofs.Serving.{found, on_kept, on_there, stays_laid, stays_serve}
use Rattle.std.proofs.lemmas.Result.{IfOk-from_err}
use Rattle.pg_rooms.proofs.kept_laid.Layouts.find_stays.Goals as goal

pub returns-in-Some-clause-laid : goal.returns-in-Some-clause-laid
returns-in-Some-clause-laid c =
    let doc = doc_of c.args.sources.now in
    let u = c.args.state.now in
    let there = subst (λ (kept : List KeptLaid).
    MatchOption (slice_get kept c.in-Some.at) ⊥ (λ (it : KeptLaid). DoesServe it u c.args.ceiling.now))
    c.as_slice.ensures.value c.in-Some.ensures in
    found (AreStays doc) (AreStaysOf doc u c.args.ceiling.now) c.args.self.now.stays.items c.in-Some.at u c.args.ceiling.now
    (stays_serve doc u c.args.ceiling.now) there c.requires.kept.stays

pub lay_floats-requires-clause-ceiling : goal.lay_floats-requires-clause-ceiling
lay_floats-requires-clause-ceiling c =
    subst (HasSoMany (doc_of c.args.sources.now)) (sym c.as_slice-2.ensures) c.requires.ceiling

pub returns-clause-laid : goal.returns-clause-laid
returns-clause-laid c = on_there (AreStaysOf (doc_of c.args.sources.now) c.args.state.now c.args.ceiling.now)
    c.keep.result c.keep.new.kept.items c.in_ok-it.it
    (stays_laid (doc_of c.args.sources.now) c.args.state.now c.as_slice-2.result.now
    c.args.ceiling.now c.in_ok-laid.laid.items c.in_ok-it.it c.as_slice-2.ensures
    (ap (λ (it : KeptLaid). it.state) c.in_ok-it.ensures) (ap (λ (it : KeptLaid). it.ceiling) c.in_ok-it.ensures)
    (ap (λ (it : KeptLaid). it.laid.items) c.in_ok-it.ensures) c.in_ok-laid.ensures.small
    c.in_ok-laid.ensures.laid).0 c.keep.ensures.at

pub returns-clause-kept : goal.returns-clause-kept
returns-clause-kept c = on_kept (AreStays (doc_of c.args.sources.now)) _ c.keep.result c.args.self.now.stays.items
    c.keep.new.kept.items c.in_ok-it.it
    (stays_laid (doc_of c.args.sources.now) c.args.state.now c.as_slice-2.result.now
    c.args.ceiling.now c.in_ok-laid.laid.items c.in_ok-it.it c.as_slice-2.ensures
    (ap (λ (it : KeptLaid). it.state) c.in_ok-it.ensures) (ap (λ (it : KeptLaid). it.ceiling) c.in_ok-it.ensures)
    (ap (λ (it : KeptLaid). it.laid.items) c.in_ok-it.ensures) c.in_ok-laid.ensures.small
    c.in_ok-laid.ensures.laid).1 c.requires.kept.stays
    (λ all. record { texts = c.requires.kept.texts; stays = all }) c.keep.ensures.kept

pub returns-in-Some-clause-kept : goal.returns-in-Some-clause-kept
returns-in-Some-clause-kept c = c.requires.kept

pub lay_floats-requires-clause-own : goal.lay_floats-requires-clause-own
lay_floats-requires-clause-own c = c.requires.own

pub returns-in_err-laid-clause-laid : goal.returns-in_err-laid-clause-laid
returns-in_err-laid-clause-laid c = IfOk-from_err c.from_residual.result _ c.from_residual.ensures.0

pub returns-in_err-laid-clause-kept : goal.returns-in_err-laid-clause-kept
returns-in_err-laid-clause-kept c = IfOk-from_err c.from_residual.result _ c.from_residual.ensures.0

pub returns-in_err-it-clause-laid : goal.returns-in_err-it-clause-laid
returns-in_err-it-clause-laid c = IfOk-from_err c.from_residual-in_err-it.result _ c.from_residual-in_err-it.ensures.0

pub returns-in_err-it-clause-kept : goal.returns-in_err-it-clause-kept
returns-in_err-it-clause-kept c = IfOk-from_err c.from_residual-in_err-it.result _ c.from_residual-in_err-it.ensures.0
