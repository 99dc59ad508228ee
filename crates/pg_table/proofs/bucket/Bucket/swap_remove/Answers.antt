use Rattle.std.proofs.Common.{◌≡◌, ◌++◌, refl, sym, ◌∙◌, ap, arith}
use Rattle.std.specs.Option.{option_to_list}
use Rattle.std.proofs.lemmas.Bool.{eqb-true}
use Rattle.pg_lemmas.proofs.Lists.{no_items}
use Rattle.pg_table.proofs.Bucketed.{alone, put_in, let_go, not_none}
use Rattle.pg_table.proofs.bucket.Bucket.swap_remove.Goals as goal
use Rattle.pg_table.proofs.bucket.Bucket.swap_remove.Goals.{Joined-self-pop, in-Some+then-index-len+in-Some-1, in-Some+then-index-len+in-None-1, in-Some+else-index-len+in-Some-1, in-Some+else-index-len+in-None-1, in_default}

viewed : (g : _) (c : Joined-self-pop g) →
    c.self.inside.others.items ++ option_to_list c.self.inside.last ≡ c.args.self.now.items
viewed g c = ap (λ v. v.items) c.self.view_is

pub returns : goal.returns
returns g c = λ d. sym c.pop.ensures.items ∙ elim c.match-take.branch [
  | in-Some+then-index-len+in-Some-1 w ↦ ap (λ v. v.others.items) w.self-inside-is ∙
      put_in _ _ _ _ (viewed g c) c.requires w.in-Some.last (sym w.in-Some.ensures.value)
      (omega (arith, w.if-index-len.true, w.len.ensures, c.self.inside.others.ok.0)) d
  | in-Some+then-index-len+in-None-1 w ↦ ap (λ v. v.others.items) w.self-inside-is ∙
      put_in _ _ _ _ (viewed g c) c.requires w.in-Some.last (sym w.in-Some.ensures.value)
      (omega (arith, w.if-index-len.true, w.len.ensures, c.self.inside.others.ok.0)) d
  | in-Some+else-index-len+in-Some-1 w ↦ ap (λ v. v.others.items) w.self-inside-is ∙
      let_go _ _ _ _ (viewed g c) c.requires w.in-Some.last (sym w.in-Some.ensures.value)
      (omega (arith, w.if-index-len.false, w.len.ensures, c.self.inside.others.ok.0)) d
  | in-Some+else-index-len+in-None-1 w ↦ ap (λ v. v.others.items) w.self-inside-is ∙
      let_go _ _ _ _ (viewed g c) c.requires w.in-Some.last (sym w.in-Some.ensures.value)
      (omega (arith, w.if-index-len.false, w.len.ensures, c.self.inside.others.ok.0)) d
  | in_default w ↦ absurd
      (not_none _ _ _ _ (viewed g c) c.requires (sym c.take.ensures.value ∙ w.in_default.is) c.self.invariant)
]

pub returns-then-is_empty : goal.returns-then-is_empty
returns-then-is_empty g c = λ d.
    let view : c.self.inside.others.items ++ option_to_list c.self.inside.last ≡ c.args.self.now.items =
    ap (λ v. v.items) c.self.view_is in
    let z = eqb-true _ 0 (sym c.is_empty.ensures ∙ c.if-is_empty.true) in
    alone _ _ _ _ view c.requires _ refl (no_items _ (omega (arith, z, c.self.inside.others.ok.0))) d
