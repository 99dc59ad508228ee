use Rattle.std.proofs.Common.{◌≡◌, refl, sym, ◌∙◌, ℕ, List, []}
use Rattle.std.proofs.lemmas.Bool.{eqb-true}
use Rattle.pg_sources.specs.Document.{doc_of}
use Rattle.pg_sources.specs.declared.calls.Before.{Before}
use Rattle.pg_rooms.proofs.Called.{no_before}
use Rattle.pg_rooms.proofs.Grouped.{group_of_all, no_groups}
use Rattle.pg_rooms.proofs.grouping.group_all.Goals as goal

-- nothing is called
no_floats : (called flushed : List ℕ) → called ≡ [] → flushed ≡ [] →
    ◌≡◌ {A = Before} (record { called = called; flushed = flushed }) no_before
no_floats called flushed p q = cc

pub returns : goal.returns
returns c = group_of_all (doc_of c.args.sources.now) c.args.none.items c.push.new.self.items c.args.ends.now _
    c.requires.classes (no_floats c.new.result c.new-2.result c.new.ensures c.new-2.ensures) refl c.requires.none
    c.in_ok-push.ensures.items

pub returns-then-is_empty : goal.returns-then-is_empty
returns-then-is_empty c = no_groups (doc_of c.args.sources.now) c.args.none.items c.args.ends.now
    c.requires.none (eqb-true _ _ (sym c.is_empty.ensures ∙ c.if-is_empty.true))
