use Rattle.std.proofs.Common.{refl, ap, subst, ◌∙◌, ℕ, List, Option, ℤ, pos, Bool}
use Rattle.std.specs.Prelude.{if◌then◌else◌, ◌==◌}
use Rattle.pg_list.specs.Flat.{blocks_at, picked_variants}
use Rattle.pg_list.specs.Whole.{whole_sum_by}
use Rattle.pg_list.specs.declared.variants.Variant.{Variant}
use Rattle.pg_style.specs.Values.{StyleValue}
use Rattle.pg_judge.specs.Progress.{is_lost}
use Rattle.pg_judge.specs.Seats.{IsSeat, seated}
use Rattle.pg_judge.proofs.Step.{counted_is, fitness_is}
use Rattle.pg_rules.specs.Cost.{fitness_demerits, run_demerits}
use Rattle.pg_rules.specs.History.{context, placed_of, with_wide}
use Rattle.pg_rules.specs.Legal.{document}
use Rattle.pg_parts.proofs.Standing.{chained, is_some_text, keeps_all, keeps_text, none_broken, own_is, price_is}
use Rattle.pg_parts.proofs.pricing.price_of_next.Goals as goal

pub returns : goal.returns
returns c = λ ms prog stand.
    let galley = c.args.galley.now in
    let style = c.args.style.now in
    let it = c.args.progress.now in
    let m = c.args.step.now in
    let doc = document galley style in
    let none = none_broken doc ms it prog stand.1 in
    let going = prog.going (ap is_lost none) in
    let paid = going.paid none in
    let before = with_wide style (placed_of style ms) m in
    let counted = counted_is style (placed_of style ms) m it.slots it.placed c.in_ok-counted.counted c.requires.kept.slots
    going.placed c.in_ok-counted.ensures.before c.in_ok-counted.ensures.below c.in_ok-counted.ensures.after in
    let high = c.next_wide-height.ensures.value m ms refl going in
    let verdict = c.judge_move-verdict.ensures ms going high counted (chained doc m ms stand.0) in
    let seat = subst (λ (w : Option ℤ). IsSeat (seated galley style m.column m.run w before) c.seat_of-seat.result) high
    (c.seat_of-seat.ensures.seat before counted.before counted.below) in
    let text = c.numbers_of-text.ensures (context doc m ms) refl refl seat
    (keeps_text (context doc m ms) stand.0.stands.rules) in
    let told = c.numbers_of-text.result in
    record {
      page = going.page;
      column = going.column;
      from = refl;
      to = refl;
      text = text;
      line = ap (λ (x : StyleValue). x.line) c.style.view_is;
      empty = c.empty_price.ensures
          ∙ ap (λ (b : Bool). if b then 0 else style.float_column.demerits) (is_some_text (context doc m ms) told text);
      picks = c.pick_demerits.ensures.value
          ∙ ap (λ (picks : List ℕ). whole_sum_by (λ (variant : Variant). pos variant.demerits)
          (picked_variants (blocks_at galley.blocks m.column.from) picks)) c.as_slice.ensures;
      run = c.run_price.ensures ∙ ap (λ (n : ℕ). if n == 1 then run_demerits style m.run else pos 0) going.column;
      floats = ap pos c.price_of.ensures ∙ price_is doc m ms c.judge_move-verdict.result verdict (keeps_all doc m ms stand.0);
      fitness = ap pos c.fitness_price.ensures
          ∙ (fitness_is (context doc m ms) it.fitness _ (c.fitness_of.ensures ∙ own_is (context doc m ms) told text)
          ∙ ap (λ (o : Option ℕ). fitness_demerits o (context doc m ms)) paid.fitness);
    }
