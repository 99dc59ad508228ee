use Rattle.std.proofs.Common.{◌≡◌, rules, subst, true}
use Rattle.pg_states.specs.Marks.{is_marked}
use Rattle.pg_states.proofs.Told.{mark_more}
use Rattle.pg_states.proofs.marks.PageMarksMarkingSmallState.mark.Goals as goal

pub returns : goal.returns
returns c = λ v d h. mark_more c.args.self.now c.find_line.new.self c.args.state.now v d c.args.cost _
    (subst (λ m. is_marked c.find_line.new.self v d ≡ true → is_marked m v d ≡ true) c.self.view_is
    (c.in-Ok-find_line.ensures.kept v d)) c.in-Ok-find_line.ensures.line c.place-place.ensures c.fitness.ensures
    (search rules) (c.keep.ensures v d h)
