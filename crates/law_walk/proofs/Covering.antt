-- A candidate covers itself.
use Rattle.std.proofs.Common.{◌∙◌, refl, ap, List, ℤ, inr}
use Rattle.std.specs.Prelude.{reverse}
use Rattle.std.specs.Ordering.{is_gt}
use Rattle.std.proofs.lemmas.Cmp.{lists_total, nat_cmp_total, tied_itself}
use Rattle.pg_list.specs.declared.galley.Place.{Place}
use Rattle.pg_rules.specs.Room.{Document}
use Rattle.law_walk.specs.Best.{IsAmong}
use Rattle.law_walk.specs.Candidates.{AreCandidates, Candidate, Covers, CoversIn}
use Rattle.law_walk.proofs.BestLaws.{cheaper_chain}
use Rattle.law_walk.proofs.Bounds.{no_greater_itself, no_greater_chain}

pub covers_itself : (c : Candidate) → Covers c c
covers_itself c = record {
  to = refl;
  totals = refl;
  notes = refl;
  bound = no_greater_itself c.passed.bound;
  cheaper = inr (refl, ap is_gt (tied_itself (lists_total nat_cmp_total) (reverse c.picks)));
}

pub covers_chain : (a b c : Candidate) → Covers a b → Covers b c → Covers a c
covers_chain a b c p q = record {
  to = p.to ∙ q.to;
  totals = p.totals ∙ q.totals;
  notes = p.notes ∙ q.notes;
  bound = no_greater_chain a.passed.bound b.passed.bound c.passed.bound p.bound q.bound;
  cheaper = cheaper_chain a.pick_demerits b.pick_demerits c.pick_demerits a.picks b.picks c.picks p.cheaper q.cheaper;
}

-- fewer candidates that cover the others suffice too
pub fewer_suffice : (doc : Document) (from : Place) (top : ℤ) (cs fewer : List Candidate) →
    AreCandidates doc from top cs → ((c : Candidate) → IsAmong c fewer → IsAmong c cs) →
    ((c : Candidate) → IsAmong c cs → CoversIn fewer c) → AreCandidates doc from top fewer
fewer_suffice doc from top cs fewer cands among covers = record {
  sound = λ c m. cands.sound c (among c m);
  whole = λ c is usable.
      let v : CoversIn cs c = cands.whole c is usable in
      let w : CoversIn fewer v.candidate = covers v.candidate v.listed in
      record {
        candidate = w.candidate;
        listed = w.listed;
        covers = covers_chain w.candidate v.candidate c w.covers v.covers;
      };
}
