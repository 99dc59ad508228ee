use Rattle.std.proofs.Common.{rules, arith, ◌≡◌, ◌∙◌, sym, ◌<◌, length, ℕ}
use Rattle.pg_rules.specs.Floats.{distance_table}
use Rattle.pg_sources.specs.Document.{doc_of}
use Rattle.pg_states.specs.Parts.{waits_in}
use Rattle.pg_states.proofs.Young.{too_old, young_end, young_enough, young_start}
use Rattle.pg_states.proofs.ages.are_young.Goals as goal

pub slots-init : goal.slots-init
slots-init c = (
  young_start (λ (slot : ℕ). length (distance_table (doc_of c.args.sources.now).style slot))
      (waits_in (doc_of c.args.sources.now) c.args.state.now) c.slots-left.result _ c.as_slice-rest.result.now _
      c.slots-left.ensures.value c.as_slice-rest.ensures,
  omega (arith, c.slots-left.ensures.few),
)

pub returns-then-not-are_within : goal.returns-then-not-are_within
returns-then-not-are_within c =
    let more : 0 < c.slots.left = search rules in
    sym (sym c.slots.invariant.0
    ∙ too_old (λ (slot : ℕ). length (distance_table (doc_of c.args.sources.now).style slot))
    (waits_in (doc_of c.args.sources.now) c.args.state.now) c.slots.slot c.slots.left c.count_waiting-count.result
    c.slots.rest.now c.front.result.now c.are_within.result more c.count_waiting-count.ensures.value c.front.ensures
    c.are_within.ensures c.if-not-are_within.true)

pub slots-preserved : goal.slots-preserved
slots-preserved c =
    let more : 0 < c.slots.left = search rules in (
      young_enough (λ (slot : ℕ). length (distance_table (doc_of c.args.sources.now).style slot))
          (waits_in (doc_of c.args.sources.now) c.args.state.now) c.slots.slot c.slots.left c.count_waiting-count.result
          c.slots.rest.now c.front.result.now c.are_within.result more c.count_waiting-count.ensures.value c.front.ensures
          c.are_within.ensures c.behind-rest.result.now c.behind-rest.ensures c.if-not-are_within.false ∙ c.slots.invariant.0,
      omega (arith, more, c.slots.invariant.1),
    )

pub returns : goal.returns
returns c =
    let none : c.slots.left ≡ 0 = search rules in
    sym (young_end (λ (slot : ℕ). length (distance_table (doc_of c.args.sources.now).style slot))
    (waits_in (doc_of c.args.sources.now) c.args.state.now) c.slots.slot c.slots.left c.slots.rest.now none)
    ∙ c.slots.invariant.0
