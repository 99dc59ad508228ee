use Rattle.std.proofs.Common.{◌≡◌, ◌∙◌, ap, sym, subst, length, List, [], Some, Option, IfSome, arith, ℕ, inl, inr}
use Rattle.std.specs.List.{AllByRecursion}
use Rattle.pg_list.specs.Shapes.{IsBlock}
use Rattle.pg_list.proofs.Sizes.{blocks_le}
use Rattle.std.proofs.lemmas.Bool.{eqb-true}
use Rattle.pg_lemmas.proofs.Lists.{no_items}
use Rattle.pg_column.specs.Passed.{nothing}
use Rattle.pg_hops.specs.View.{view}
use Rattle.pg_hops.specs.declared.state.State.{State}
use Rattle.pg_candidates.specs.View.{passed_of}
use Rattle.law_walk.specs.Candidates.{AreCandidates, Candidate}
use Rattle.law_walk.specs.Walk.{first_front, first_items, past_stretch, variants_at}
use Rattle.pg_walk.specs.Collected.{Collects}
use Rattle.pg_walk.proofs.First.{labels_do}
use Rattle.pg_walk.specs.Contexts.{doc_of}
use Rattle.pg_walk.proofs.walking.collect_behind.Goals as goal

pub walk_is_a_space-requires-clause-few : goal.walk_is_a_space-requires-clause-few
walk_is_a_space-requires-clause-few c =
    let all = subst (AllByRecursion IsBlock) c.blocks-2.ensures.blocks c.as_slice.ensures.shape in
    let long = blocks_le c.args.context.now.galley.now.blocks all in
    let limit = c.blocks-2.ensures.limit in
    omega (arith, long, limit)

pub returns-then-is_empty-clause-found : goal.returns-then-is_empty-clause-found
returns-then-is_empty-clause-found c =
    let doc = doc_of c.args.context.now in
    let front : c.in-Some.start.block ≡ first_front doc.blocks c.args.from =
    subst (λ (o : Option State). IfSome o (λ s. s.block ≡ first_front doc.blocks c.args.from)) c.in-Some.is
    c.requires.start.front in
    let empty : length c.variants_at.result.now ≡ 0 = eqb-true _ _ (sym c.is_empty.ensures ∙ c.if-is_empty.true) in
    let none : variants_at doc.blocks c.in-Some.start.block ≡ [] =
    sym c.variants_at.ensures.variants ∙ no_items c.variants_at.result.now empty in
    subst (AreCandidates doc c.args.from c.args.context.now.top) (sym c.requires.ends)
    (c.walk_is_a_space.ensures.stretch c.args.from c.args.context.now.top c.requires.place
    (inr (subst (λ (b : ℕ). variants_at doc.blocks b ≡ []) front none)))

pub returns-clause-found : goal.returns-clause-found
returns-clause-found c =
    let doc = doc_of c.args.context.now in
    let front : c.in-Some.start.block ≡ first_front doc.blocks c.args.from =
    subst (λ (o : Option State). IfSome o (λ s. s.block ≡ first_front doc.blocks c.args.from)) c.in-Some.is
    c.requires.start.front in
    let past : Some (view c.in-Some.start.passed)
    ≡ past_stretch doc c.args.context.now.top nothing (first_items doc.blocks c.args.from) =
    ap passed_of (sym c.in-Some.is) ∙ c.requires.start.past in
    labels_do doc c.args.context.now.top c.walk_is_a_space.ensures.labels c.args.from c.requires.place c.in-Some.start
    c.collect.new.found front past
    (subst (λ (xs : List Candidate). Collects doc c.args.context.now.top c.in-Some.start xs c.collect.new.found) c.requires.ends
    c.in_ok-collect.ensures)

pub returns-in_default-clause-told : goal.returns-in_default-clause-told
returns-in_default-clause-told c = c.requires.told (inl (ap passed_of c.in_default.is))

pub returns-then-is_empty-clause-told : goal.returns-then-is_empty-clause-told
returns-then-is_empty-clause-told c =
    let doc = doc_of c.args.context.now in
    let front : c.in-Some.start.block ≡ first_front doc.blocks c.args.from =
    subst (λ (o : Option State). IfSome o (λ s. s.block ≡ first_front doc.blocks c.args.from)) c.in-Some.is
    c.requires.start.front in
    let empty : length c.variants_at.result.now ≡ 0 = eqb-true _ _ (sym c.is_empty.ensures ∙ c.if-is_empty.true) in
    let none : variants_at doc.blocks c.in-Some.start.block ≡ [] =
    sym c.variants_at.ensures.variants ∙ no_items c.variants_at.result.now empty in
    c.requires.told (inr (subst (λ (b : ℕ). variants_at doc.blocks b ≡ []) front none))
