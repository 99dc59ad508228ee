use Rattle.std.proofs.Common.{ap, subst, sym, List}
use Rattle.std.specs.Prelude.{MatchOption, slice_get}
use Rattle.pg_sources.specs.Document.{doc_of}
use Rattle.pg_rooms.specs.KeptLaid.{AreTexts, AreTextsOf, DoesServe}
use Rattle.pg_rooms.specs.Laid.{HasSoMany}
use Rattle.pg_rooms.specs.declared.kept_laid.KeptLaid.{KeptLaid}
use Rattle.pg_rooms.proofs.Serving.{found, on_kept, on_there, texts_laid, texts_serve}
use Rattle.std.proofs.lemmas.Result.{IfOk-from_err}
use Rattle.pg_rooms.proofs.kept_laid.Layouts.find_texts.Goals as goal

pub returns-in-Some-clause-laid : goal.returns-in-Some-clause-laid
returns-in-Some-clause-laid c =
    let doc = doc_of c.args.sources.now in
    let u = c.args.state.now in
    let there = subst (λ (kept : List KeptLaid).
    MatchOption (slice_get kept c.in-Some.at) ⊥ (λ (it : KeptLaid). DoesServe it u c.args.ceiling.now))
    c.as_slice.ensures.value c.in-Some.ensures in
    found (AreTexts doc) (AreTextsOf doc u c.args.ceiling.now) c.args.self.now.texts.items c.in-Some.at u c.args.ceiling.now
    (texts_serve doc u c.args.ceiling.now) there c.requires.kept.texts

pub lay_texts-requires-clause-ceiling : goal.lay_texts-requires-clause-ceiling
lay_texts-requires-clause-ceiling c =
    subst (HasSoMany (doc_of c.args.sources.now)) (sym c.as_slice-2.ensures) c.requires.ceiling

pub returns-clause-laid : goal.returns-clause-laid
returns-clause-laid c = on_there (AreTextsOf (doc_of c.args.sources.now) c.args.state.now c.args.ceiling.now)
    c.keep.result c.keep.new.kept.items c.in_ok-it.it
    (texts_laid (doc_of c.args.sources.now) c.args.state.now c.as_slice-2.result.now
    c.args.ceiling.now c.in_ok-laid.laid.items c.in_ok-it.it c.as_slice-2.ensures
    (ap (λ (it : KeptLaid). it.state) c.in_ok-it.ensures) (ap (λ (it : KeptLaid). it.ceiling) c.in_ok-it.ensures)
    (ap (λ (it : KeptLaid). it.laid.items) c.in_ok-it.ensures) c.in_ok-laid.ensures.small
    c.in_ok-laid.ensures.laid c.in_ok-laid.ensures.low).0 c.keep.ensures.at

pub returns-clause-kept : goal.returns-clause-kept
returns-clause-kept c = on_kept (AreTexts (doc_of c.args.sources.now)) _ c.keep.result c.args.self.now.texts.items
    c.keep.new.kept.items c.in_ok-it.it
    (texts_laid (doc_of c.args.sources.now) c.args.state.now c.as_slice-2.result.now
    c.args.ceiling.now c.in_ok-laid.laid.items c.in_ok-it.it c.as_slice-2.ensures
    (ap (λ (it : KeptLaid). it.state) c.in_ok-it.ensures) (ap (λ (it : KeptLaid). it.ceiling) c.in_ok-it.ensures)
    (ap (λ (it : KeptLaid). it.laid.items) c.in_ok-it.ensures) c.in_ok-laid.ensures.small
    c.in_ok-laid.ensures.laid c.in_ok-laid.ensures.low).1 c.requires.kept.texts
    (λ all. record { texts = all; stays = c.requires.kept.stays }) c.keep.ensures.kept

pub returns-in-Some-clause-kept : goal.returns-in-Some-clause-kept
returns-in-Some-clause-kept c = c.requires.kept

pub lay_texts-requires-clause-own : goal.lay_texts-requires-clause-own
lay_texts-requires-clause-own c = c.requires.own

pub returns-in_err-laid-clause-laid : goal.returns-in_err-laid-clause-laid
returns-in_err-laid-clause-laid c = IfOk-from_err c.from_residual.result _ c.from_residual.ensures.0

pub returns-in_err-laid-clause-kept : goal.returns-in_err-laid-clause-kept
returns-in_err-laid-clause-kept c = IfOk-from_err c.from_residual.result _ c.from_residual.ensures.0

pub returns-in_err-it-clause-laid : goal.returns-in_err-it-clause-laid
returns-in_err-it-clause-laid c = IfOk-from_err c.from_residual-in_err-it.result _ c.from_residual-in_err-it.ensures.0

pub returns-in_err-it-clause-kept : goal.returns-in_err-it-clause-kept
returns-in_err-it-clause-kept c = IfOk-from_err c.from_residual-in_err-it.result _ c.from_residual-in_err-it.ensures.0
