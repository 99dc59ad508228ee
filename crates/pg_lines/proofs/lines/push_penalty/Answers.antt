use Rattle.std.proofs.Common.{◌≡◌, ◌++◌, ◌∷◌, [], ◌∙◌, ap, if◌then◌else◌, List, ℕ, Bool, true, sym}
use Rattle.pg_lemmas.proofs.Numbers.{less_of}
use Rattle.pg_list.specs.declared.item.Item.{Item}
use Rattle.law_lines.specs.Variants.{between_item}
use Rattle.pg_lines.proofs.lines.push_penalty.Goals as goal

follows : (b : Bool) (old new : List Item) (item : Item) (penalty gap : ℕ) → b ≡ true → item ≡ between_item penalty →
    penalty ≡ gap → new ≡ old ++ item ∷ [] → new ≡ old ++ (if b then between_item gap ∷ [] else [])
follows b old new item penalty gap more is e added =
    added ∙ ap (λ (it : Item). old ++ it ∷ []) (is ∙ ap between_item e)
    ∙ ap (λ (it : Bool). old ++ (if it then between_item gap ∷ [] else [])) (sym more)

pub returns-in_ok-push : goal.returns-in_ok-push
returns-in_ok-push c = follows _ c.args.out.now c.push.new.self c.in_ok-penalty_of.field-0 c.gap_penalty.result _
    (less_of 0 c.args.left c.if-left-gt0.true) c.in_ok-penalty_of.ensures.value c.gap_penalty.ensures.value c.in_ok-push.ensures.ok
