use Rattle.std.proofs.Common.{◌≡◌, ◌∙◌, ap, subst, sym, List, [], length}
use Rattle.std.proofs.lemmas.Bool.{eqb-true}
use Rattle.pg_lemmas.proofs.Lists.{no_items}
use Rattle.pg_style.specs.Values.{StyleValue}
use Rattle.pg_style.specs.declared.style.Class.{Class}
use Rattle.pg_hops.specs.View.{view}
use Rattle.pg_hops.proofs.Asking.{none_over}
use Rattle.pg_hops.proofs.passed.Passed.is_within_limits.Goals as goal

pub returns-then-is_empty : goal.returns-then-is_empty
returns-then-is_empty c =
    let style = c.args.style.now in
    let none : style.classes ≡ [] =
    subst (λ (cs : List Class). cs ≡ []) (c.as_slice.ensures.classes ∙ ap (λ (s : StyleValue). s.classes) c.style.view_is)
    (no_items c.as_slice.result.now (eqb-true (length c.as_slice.result.now) 0 (sym c.is_empty.ensures ∙ c.if-is_empty.true))) in
    none_over style (view c.args.self.now) none
