use Rattle.std.proofs.Common.{◌≡◌, ◌∙◌, sym, subst, List, ◌∷◌, Bor, ℕ, String, Global, map}
use Rattle.std.specs.List.Sorted.{IsStrictlySortedBy}
use Rattle.std.specs.Map.{keys_of}
use Rattle.std.specs.Map.Iter.{deref}
use Rattle.std.specs.String.{string_cmp}
use Rattle.std.proofs.lemmas.Map.Iter.{rest_more}
use Rattle.toml.specs.View.{table_view}
use Rattle.pg_stylefile.specs.Names.{keys_in}
use Rattle.pg_stylefile.proofs.NameLemmas.{same_at_start, found_here, passed_on, sorted_after}
use Rattle.pg_stylefile.proofs.names.first_unnamed.Goals as goal

pub loop-key-init : goal.loop-key-init
loop-key-init c =
    let start : c.into_iter-key-iterator.result ≡ keys_of c.args.table.now.entries =
    c.into_iter-key-iterator.ensures.into_iter_gives ∙ c.keys-key-items.ensures.rest in
    record {
      next = tt;
      ends = tt;
      same = same_at_start (map {A = Bor (List ℕ)} {B = List ℕ} (λ name. name.now)
          c.args.names.now) c.args.table.now.entries c.into_iter-key-iterator.result start;
      sorted = subst (λ (keys : List (String Global)). IsStrictlySortedBy string_cmp keys)
          (sym start) c.keys-key-items.ensures.ordered;
    }

pub returns-then-not-has_name : goal.returns-then-not-has_name
returns-then-not-has_name c =
    found_here (map {A = Bor (List ℕ)} {B = List ℕ} (λ name. name.now) c.args.names.now)
    (keys_in (table_view c.args.table.now)) c.loop-key.key-iterator c.next.new.self c.in-Some.key.now
    c.as_str.result.now c.as_str-then-not-has_name.result.now c.has_name.result
    (rest_more (deref {X = String Global}) c.loop-key.key-iterator c.next.new.self c.next.result c.in-Some.key
    c.in-Some.is c.next.ensures.steps)
    c.loop-key.invariant.same c.loop-key.invariant.sorted c.has_name.ensures c.if-not-has_name.true
    c.as_str.ensures.value c.as_str-then-not-has_name.ensures.value

pub loop-key-preserved : goal.loop-key-preserved
loop-key-preserved c =
    let rest : c.loop-key.key-iterator ≡ c.in-Some.key.now ∷ c.next.new.self =
    rest_more (deref
    {X = String
    Global}) c.loop-key.key-iterator c.next.new.self c.next.result c.in-Some.key c.in-Some.is c.next.ensures.steps in
    record {
      next = tt;
      ends = tt;
      same = passed_on (map {A = Bor (List ℕ)} {B = List ℕ} (λ name. name.now) c.args.names.now)
          (keys_in (table_view c.args.table.now)) c.loop-key.key-iterator c.next.new.self c.in-Some.key.now
          c.as_str.result.now c.has_name.result rest c.loop-key.invariant.same c.has_name.ensures
          c.if-not-has_name.false c.as_str.ensures.value;
      sorted = sorted_after c.loop-key.key-iterator c.next.new.self c.in-Some.key.now rest c.loop-key.invariant.sorted;
    }
