-- What is taken along a walk, one end after another.
use Rattle.std.proofs.Common.{◌≡◌, ap, ◌∙◌, subst, Bool, List, ◌++◌}
use Rattle.std.proofs.lemmas.List.{append_assoc}
use Rattle.pg_column.specs.Passed.{is_end_here}
use Rattle.pg_rules.specs.Room.{Document}
use Rattle.law_walk.specs.Candidates.{Candidate}
use Rattle.pg_candidates.specs.View.{ends_here}

module _ {X : Type 0} (Took : X → X → List Candidate → Type 0) where
  -- with these ends still to come all are taken
  abbrev pub Taking : X → X → List Candidate → List Candidate → Type 0
  Taking a b rest all = (ts : List Candidate) × (Took a b ts × (ts ++ rest ≡ all))

  module _ (both : (a b c : X) (xs ys : List Candidate) → Took a b xs → Took b c ys → Took a c (xs ++ ys))
      (a b c : X) (one rest all : List Candidate) (so_far : Taking a b rest all) (more : Took b c one) where
    pub taking_on : (left : List Candidate) → one ++ left ≡ rest → Taking a c left all
    taking_on left e = (
      so_far.0 ++ one,
      (
        both a b c so_far.0 one so_far.1.0 more,
        append_assoc so_far.0 one left ∙ (ap (λ (xs : List Candidate). so_far.0 ++ xs) e ∙ so_far.1.1),
      ),
    )

    pub all_taken : one ≡ rest → Took a c all
    all_taken e = subst (Took a c) (ap (λ (xs : List Candidate). so_far.0 ++ xs) e ∙ so_far.1.1)
        (both a b c so_far.0 one so_far.1.0 more)

-- an end that was handed on, if its place is a break behind a box, where it is this candidate
pub handed : {X : Type 0} (Took : X → X → List Candidate → Type 0) (doc : Document) (a b : X) (t : Bool)
    (e c : Candidate) → e ≡ c → (t ≡ is_end_here doc.blocks e.passed e.to → Took a b (ends_here doc e)) →
    t ≡ is_end_here doc.blocks c.passed c.to → Took a b (ends_here doc c)
handed Took doc a b t e c same read =
    subst (λ (it : Candidate). t ≡ is_end_here doc.blocks it.passed it.to → Took a b (ends_here doc it)) same read
