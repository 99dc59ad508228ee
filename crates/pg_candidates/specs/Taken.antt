-- The ends that a walk hands on: to a list of candidates, and to the ends in one room.
use Rattle.std.specs.Prelude.{◌≡◌, List, [], ◌++◌, pos}
use Rattle.std.specs.List.{AllByRecursion}
use Rattle.std.proofs.Common.{refl, sym, subst, ap, ◌∙◌, append-nil}
use Rattle.std.proofs.lemmas.List.{append_assoc}
use Rattle.pg_rules.specs.Legal.{document}
use Rattle.pg_style.specs.Values.{StyleValue}
use Rattle.law_walk.specs.Best.{AreBest}
use Rattle.law_walk.specs.Candidates.{Candidate, text_ends}
use Rattle.pg_lemmas.proofs.Lists.{all_parts}
use Rattle.pg_candidates.specs.RoomEnds.{ends_of}
use Rattle.pg_candidates.specs.declared.one_room.OneRoom.{OneRoom}

-- ---- in a list

pub listed_none : (style : StyleValue) (a : List Candidate) → a ≡ a ++ []
listed_none style a = sym (append-nil a)

pub listed_both : (style : StyleValue) (a b c xs ys : List Candidate) → b ≡ a ++ xs → c ≡ b ++ ys → c ≡ a ++ (xs ++ ys)
listed_both style a b c xs ys p q = q ∙ (ap (λ (zs : List Candidate). zs ++ ys) p ∙ append_assoc a xs ys)

-- ---- in a room

-- without picks
abbrev pub IsPlain : Candidate → Type 0
IsPlain c = (c.picks ≡ []) × (c.pick_demerits ≡ pos 0)

-- the best ends of these candidates in the room, under a style
abbrev pub HasBest : StyleValue → OneRoom → List Candidate → Type 0
HasBest style it cs = AreBest (text_ends (document it.galley.now style) it.room cs) (ends_of [] it.ends.items)

-- in the same room, and where those before were the best of some candidates, these are with more of them
pub record TookIn (style : StyleValue) (old new : OneRoom) (more : List Candidate) : Type 0 where
  pub galley : new.galley.now ≡ old.galley.now
  pub room : new.room ≡ old.room
  pub best : AllByRecursion IsPlain more → (cs : List Candidate) → HasBest style old cs → HasBest style new (cs ++ more)

pub none_in : (style : StyleValue) (a : OneRoom) → TookIn style a a []
none_in style a = record {
  galley = refl;
  room = refl;
  best = λ plain cs best. subst (HasBest style a) (sym (append-nil cs)) best;
}

pub both_in : (style : StyleValue) (a b c : OneRoom) (xs ys : List Candidate) → TookIn style a b xs →
    TookIn style b c ys → TookIn style a c (xs ++ ys)
both_in style a b c xs ys p q = record {
  galley = q.galley ∙ p.galley;
  room = q.room ∙ p.room;
  best = λ plain cs best.
      let parts = all_parts IsPlain xs ys plain in
      subst (HasBest style c) (append_assoc cs xs ys) (q.best parts.1 (cs ++ xs) (p.best parts.0 cs best));
}
