use Rattle.std.proofs.Common.{◌≡◌, ◌∙◌, sym, ap, ℕ, List, length, vec_len}
use Rattle.std.proofs.lemmas.Result.{IfOk-weaker}
use Rattle.pg_rules.specs.Floats.{dealt_from}
use Rattle.pg_style.specs.Values.{StyleValue}
use Rattle.pg_pages.specs.Printed.{lent}
use Rattle.pg_pages.proofs.Printed.{behind_long}
use Rattle.pg_pages.proofs.Shown.{hung_from}
use Rattle.pg_pages.proofs.column.top_gaps.Goals as goal

pub returns : goal.returns
returns c =
    let all : vec_len c.in_ok-dealt.dealt ≡ length c.in_ok-dealt.dealt.items = c.in_ok-dealt.dealt.ok.0 in
    let long = c.len.ensures ∙ all ∙ sym (behind_long c.in_ok-dealt.dealt.items) ∙ ap length c.in_ok-dealt.ensures
    ∙ ap (λ (counts : List ℕ). length (dealt_from 0 (lent c.args.placed.now.bodies.now) c.args.placed.now.before.now
    counts))
    c.as_slice.ensures in
    IfOk-weaker c.hung_gaps.result _ _ (λ gaps are. are
    ∙ hung_from c.args.style.now (lent c.args.placed.now.bodies.now) _ _
    c.len.result _
    (ap (λ (style : StyleValue). style.top) c.style.view_is) long) c.hung_gaps.ensures
