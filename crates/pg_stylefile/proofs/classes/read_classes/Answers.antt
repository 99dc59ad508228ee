use Rattle.std.proofs.Common.{◌≡◌, ◌∙◌, ap, rules, ℕ, ◌+◌, Err}
use Rattle.toml.specs.View.{table_view}
use Rattle.pg_stylefile.specs.Faults.{fault_at}
use Rattle.pg_stylefile.specs.Values.{tables_in}
use Rattle.pg_stylefile.specs.Tables.{classes_of}
use Rattle.pg_stylefile.proofs.ClassLemmas.{class_read, class_refused}
use Rattle.pg_stylefile.proofs.classes.read_classes.Goals as goal

pub returns-in_err-add_class-clause-value : goal.returns-in_err-add_class-clause-value
returns-in_err-add_class-clause-value c =
    let fault =
    fault_at c.in_err-add_class.field-0.0.kind c.in_err-add_class.field-0.0.table_name c.in_err-add_class.field-0.0.key.now in
    let refused : classes_of c.args.version (tables_in c.args.tables.now.values.now) ≡ Err fault =
    class_refused c.args.version c.loop-position.position (tables_in c.args.tables.now.values.now)
    (table_view c.at.result.now) c.loop-position.classes fault _
    c.loop-position.invariant.same c.at.ensures c.in_err-add_class.ensures.value in
    search rules

pub loop-position-preserved : goal.loop-position-preserved
loop-position-preserved c = record {
  same = class_read c.args.version c.loop-position.position (tables_in c.args.tables.now.values.now)
      (table_view c.at.result.now) c.loop-position.classes c.add_class.new.classes _
      c.loop-position.invariant.same c.at.ensures c.in_ok-add_class.ensures.value;
  count = c.in_ok-add_class.ensures.count ∙ ap (λ (n : ℕ). n + 1) c.loop-position.invariant.count;
  rigid = λ old. c.in_ok-add_class.ensures.rigid old (c.loop-position.invariant.rigid old);
}
