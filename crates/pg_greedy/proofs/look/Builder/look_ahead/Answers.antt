use Rattle.std.proofs.Common.{◌≡◌, ◌-◌, ◌<◌, sym, subst, arith, length, Option, None, ℕ}
use Rattle.std.proofs.lemmas.Option.{slice_get_within}
use Rattle.pg_greedy.specs.Looking.{IsLook, items_from, style_of}
use Rattle.pg_greedy.specs.declared.look.Candidate.{Candidate}
use Rattle.pg_greedy.specs.declared.look.Looked.TheVariants.{GoesOn}
use Rattle.pg_greedy.proofs.Places.{read_within}
use Rattle.pg_greedy.proofs.Singles.{take_next}
use Rattle.pg_greedy.proofs.WholeLook.{Looks, ended, ends_taken, found_taken, looks_first, looks_next, none_taken}
use Rattle.pg_greedy.proofs.look.Builder.look_ahead.Goals as goal

pub items-init : goal.items-init
items-init c =
    let style = style_of c.args.self.now in
    let items = items_from c.args.self.now c.args.from in
    record {
      read = c.start-read.ensures.read items;
      priced = tt;
      looks = subst (λ (k : ℕ). Looks style items k None) (sym c.start-read.ensures.count) (looks_first style items);
    }

pub item-requires-clause-within : goal.item-requires-clause-within
item-requires-clause-within c =
    read_within c.args.self.now c.requires.builder c.args.from c.items.read c.requires.within c.items.invariant.read

pub look_at-requires-clause-within : goal.look_at-requires-clause-within
look_at-requires-clause-within c =
    read_within c.args.self.now c.requires.builder c.args.from c.items.read c.requires.within c.items.invariant.read

pub returns-in-Ends : goal.returns-in-Ends
returns-in-Ends c =
    ends_taken (style_of c.args.self.now) (items_from c.args.self.now c.args.from) c.items.read.count c.items.best
    c.in-Ends.count c.items.invariant.looks c.items.invariant.read.within c.in-Ends.ensures

pub add-requires-clause-few : goal.add-requires-clause-few
add-requires-clause-few c = c.in-Some.ensures.few

pub items-smaller : goal.items-smaller
items-smaller c =
    let items = items_from c.args.self.now c.args.from in
    let within = slice_get_within items c.items.read.count c.in-Some.item.now (sym c.in-Some.ensures.item) in
    let more = c.add.ensures.count in
    let less : length items - c.add.new.self.count < length items - c.items.read.count = omega (arith, within, more) in
    less

pub items-preserved : goal.items-preserved
items-preserved c =
    let style = style_of c.args.self.now in
    let items = items_from c.args.self.now c.args.from in
    record {
      read = c.add.ensures.read items c.items.invariant.read
          (take_next items c.items.read.count c.in-Some.item.now (sym c.in-Some.ensures.item));
      priced = c.in-GoesOn.ensures.0;
      looks = subst (λ (k : ℕ). Looks style items k c.in-GoesOn.kept) (sym c.add.ensures.count)
          (looks_next style items c.items.read.count c.items.best c.in-GoesOn.kept c.items.invariant.looks
          c.in-GoesOn.ensures);
    }

pub look_at-requires-2-clause-within : goal.look_at-requires-2-clause-within
look_at-requires-2-clause-within c =
    read_within c.args.self.now c.requires.builder c.args.from c.items.read c.requires.within c.items.invariant.read

pub returns-in-Ends-look_at : goal.returns-in-Ends-look_at
returns-in-Ends-look_at c =
    ends_taken (style_of c.args.self.now) (items_from c.args.self.now c.args.from) c.items.read.count c.items.best
    c.in-Ends-look_at.count c.items.invariant.looks c.items.invariant.read.within c.in-Ends-look_at.ensures

pub returns-in-GoesOn-Some : goal.returns-in-GoesOn-Some
returns-in-GoesOn-Some c =
    let items = items_from c.args.self.now c.args.from in
    let past = ended items c.items.read.count (sym c.in_default.ensures.item) in
    let within = c.items.invariant.read.within in
    let last : c.items.read.count ≡ length items = omega (arith, past, within) in
    found_taken (style_of c.args.self.now) items c.items.read.count c.items.best c.in-GoesOn-Some.kept
    c.items.invariant.looks last (subst (λ (o : Option Candidate).
    IsLook (style_of c.args.self.now) items c.items.read.count c.items.best (GoesOn o))
    c.in-GoesOn-Some.field-0-is c.in-GoesOn-Some.ensures)

pub returns-in-GoesOn-None : goal.returns-in-GoesOn-None
returns-in-GoesOn-None c =
    let items = items_from c.args.self.now c.args.from in
    let past = ended items c.items.read.count (sym c.in_default.ensures.item) in
    let within = c.items.invariant.read.within in
    let last : c.items.read.count ≡ length items = omega (arith, past, within) in
    none_taken (style_of c.args.self.now) items c.items.read.count c.items.best c.items.invariant.looks last
    (subst (λ (o : Option Candidate). IsLook (style_of c.args.self.now) items c.items.read.count c.items.best
    (GoesOn o))
    c.in-GoesOn-None.field-0-is c.in-GoesOn-None.ensures)
