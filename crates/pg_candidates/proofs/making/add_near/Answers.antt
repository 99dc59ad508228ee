use Rattle.std.proofs.Common.{List, ◌++◌, ◌∷◌, [], arith, length, map, sym, subst, ◌≤◌, Option, Some}
use Rattle.pg_rules.specs.Legal.{document}
use Rattle.pg_candidates.specs.Nears.{NearValue}
use Rattle.pg_candidates.specs.Seen.{AreSeen}
use Rattle.pg_candidates.specs.View.{candidate_of}
use Rattle.pg_candidates.specs.declared.until.First.{First}
use Rattle.pg_candidates.proofs.Needed.{found_at, missing_at, seen_behind, seen_first, seen_none}
use Rattle.pg_candidates.proofs.making.add_near.Goals as goal

pub returns-in_default : goal.returns-in_default
returns-in_default c = λ seen h.
    let past : length c.args.candidates.now ≤ c.args.at = grind (arith, c.in_default.ensures.lookup.0) in
    seen_none (document c.args.galley.now c.args.style.now) c.args.most.now.stretch
    (map candidate_of c.args.candidates.now) seen
    c.args.made.now.nears.items c.args.at c.args.made.now.first (missing_at c.args.candidates.now c.args.at past) h

pub returns-in-Some-first_beside : goal.returns-in-Some-first_beside
returns-in-Some-first_beside c = λ seen h.
    let doc = document c.args.galley.now c.args.style.now in
    let most = c.args.most.now.stretch in
    let ds = map candidate_of c.args.candidates.now in
    let it = c.in-Some.candidate.now in
    let same = c.in-Some-first_beside.same in
    subst (λ (o : Option First). AreSeen doc most ds (seen ++ c.args.at ∷ []) o c.push.new.self.items)
    (sym c.in-Some-first_beside.ensures.is)
    (subst (AreSeen doc most ds (seen ++ c.args.at ∷ []) (Some same))
    (sym {A = List NearValue} c.in_ok-push.ensures.items)
    (seen_behind doc most ds seen c.args.made.now.nears.items c.args.at c.args.made.now.first h c.near_behind.result
    c.near_behind.ensures.at (candidate_of it)
    (found_at c.args.candidates.now c.args.at it c.in-Some.ensures.lookup.0 c.in-Some.ensures.lookup.1) same
    c.in-Some-first_beside.ensures.is c.in-Some-first_beside.ensures.place (c.near_behind.ensures.near c.args.galley.now)
    (c.near_behind.ensures.until c.args.galley.now)))

pub returns : goal.returns
returns c = λ seen h.
    let doc = document c.args.galley.now c.args.style.now in
    let most = c.args.most.now.stretch in
    let ds = map candidate_of c.args.candidates.now in
    let it = c.in-Some.candidate.now in
    subst (AreSeen doc most ds (seen ++ c.args.at ∷ []) (Some c.first_of-near.result.0))
    (sym {A = List NearValue} c.in_ok-push-2.ensures.items)
    (seen_first doc most ds seen c.args.made.now.nears.items c.args.at c.args.made.now.first h c.first_of-near.result.1
    c.first_of-near.ensures.at (candidate_of it)
    (found_at c.args.candidates.now c.args.at it c.in-Some.ensures.lookup.0 c.in-Some.ensures.lookup.1)
    c.first_of-near.result.0 c.first_of-near.ensures.first c.first_of-near.ensures.kind c.first_of-near.ensures.worst
    c.first_of-near.ensures.near c.first_of-near.ensures.until)
