use Rattle.std.proofs.Common.{◌≡◌, ◌++◌, subst, sym, OnOk}
use Rattle.pg_layouts.specs.Behind.{areas_behind}
use Rattle.pg_layouts.specs.declared.kind.ColumnKind.{ColumnKind}
use Rattle.pg_layouts.proofs.runs.push_areas.Goals as goal

pub returns-in-Text : goal.returns-in-Text
returns-in-Text c = subst (λ (kind : ColumnKind). OnOk c.push_tops.result (c.push_tops.new.layouts.items
    ≡ c.args.layouts.now.items ++ areas_behind kind c.args.search.now.style.now c.args.before.now
    c.args.search.now.ceiling.now c.args.run c.args.wide.now)) (sym c.in-Text.is) c.push_tops.ensures

pub returns-in-Floats : goal.returns-in-Floats
returns-in-Floats c = subst (λ (kind : ColumnKind). OnOk c.push_floats.result (c.push_floats.new.layouts.items
    ≡ c.args.layouts.now.items ++ areas_behind kind c.args.search.now.style.now c.args.before.now
    c.args.search.now.ceiling.now c.args.run c.args.wide.now)) (sym c.in-Floats.is) c.push_floats.ensures
