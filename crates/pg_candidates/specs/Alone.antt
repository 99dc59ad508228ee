-- Candidates along a stretch, each with what no room changes of it, as a walk hands them on.
use Rattle.std.specs.Prelude.{◌≡◌, ◌+◌, ℕ, List, [], ◌∷◌, ◌++◌, IfSome, ℤ}
use Rattle.std.proofs.Common.{refl, sym, subst, ◌∙◌, append-nil}
use Rattle.std.proofs.lemmas.List.{append_assoc}
use Rattle.pg_rules.specs.Legal.{document}
use Rattle.pg_rules.specs.Room.{Document}
use Rattle.pg_style.specs.Values.{StyleValue}
use Rattle.law_walk.specs.Candidates.{Candidate}
use Rattle.pg_candidates.specs.Nears.{IsHopelessFrom, IsNear, NearValue}
use Rattle.pg_candidates.specs.declared.all_rooms.AllRooms.{AllRooms}

-- what no room changes of the candidate at an index, the only one of its place
pub record IsNearAlone (doc : Document) (most : ℤ) (n : ℕ) (c : Candidate) (it : NearValue) : Type 0 where
  pub at : it.at ≡ n
  pub near : IsNear doc most c it
  pub until : IfSome it.until (IsHopelessFrom doc most c)

-- of each of these candidates, of which the first one has this index
abbrev pub AreNearAlone : Document → ℤ → ℕ → List Candidate → List NearValue → Type 0
AreNearAlone doc most n [] [] = Unit {0}
AreNearAlone doc most n [] (near ∷ nears) = ⊥
AreNearAlone doc most n (c ∷ cs) [] = ⊥
AreNearAlone doc most n (c ∷ cs) (near ∷ nears) =
    IsNearAlone doc most n c near × AreNearAlone doc most (n + 1) cs nears

-- that is so of these candidates, taken under a style
abbrev pub AreTaken : StyleValue → List Candidate → AllRooms → Type 0
AreTaken style cs it = AreNearAlone (document it.galley.now style) it.most.stretch 0 cs it.nears.items

-- for the same rooms, and where those before were taken of some candidates, these are of them and more
pub record TookAlone (style : StyleValue) (old new : AllRooms) (more : List Candidate) : Type 0 where
  pub galley : new.galley.now ≡ old.galley.now
  pub most : new.most ≡ old.most
  pub taken : (cs : List Candidate) → AreTaken style cs old → AreTaken style (cs ++ more) new

pub none_alone : (style : StyleValue) (a : AllRooms) → TookAlone style a a []
none_alone style a = record {
  galley = refl;
  most = refl;
  taken = λ cs taken. subst (λ (xs : List Candidate). AreTaken style xs a) (sym (append-nil cs)) taken;
}

pub both_alone : (style : StyleValue) (a b c : AllRooms) (xs ys : List Candidate) → TookAlone style a b xs →
    TookAlone style b c ys → TookAlone style a c (xs ++ ys)
both_alone style a b c xs ys p q = record {
  galley = q.galley ∙ p.galley;
  most = q.most ∙ p.most;
  taken = λ cs taken.
      subst (λ (zs : List Candidate). AreTaken style zs c) (append_assoc cs xs ys) (q.taken (cs ++ xs) (p.taken cs taken));
}
