-- The ends in a room of one candidate more.
use Rattle.std.proofs.Common.{◌≡◌, refl, sym, ap, subst, ℤ, ℕ, List, [], ◌∷◌, ◌++◌, map, append-nil, Bool, true, false}
use Rattle.std.specs.Prelude.{if◌then◌else◌, cond, filter}
use Rattle.pg_list.specs.declared.galley.Place.{Place}
use Rattle.pg_column.specs.declared.cost.TextCost.{TextCost}
use Rattle.pg_column.specs.declared.cost.TextRoom.{TextRoom}
use Rattle.pg_rules.specs.Room.{Document}
use Rattle.pg_column.specs.declared.end.End.{End}
use Rattle.law_walk.specs.Best.{AreBest, insert_end}
use Rattle.law_walk.specs.Candidates.{Candidate, end_in, keeps_text, text_ends}
use Rattle.law_walk.proofs.BestLaws.{best_push}

pub text_last : (doc : Document) (room : TextRoom) (cs : List Candidate) (c : Candidate) →
    text_ends doc room (cs ++ c ∷ [])
    ≡ text_ends doc room cs ++ (if keeps_text doc room c then end_in doc room c ∷ [] else [])
text_last doc room [] c = by (keeps_text doc room c)
  where
    by : (b : Bool) → map (end_in doc room) (cond b (c ∷ []) []) ≡ (if b then end_in doc room c ∷ [] else [])
    by true = refl
    by false = refl
text_last doc room (d ∷ cs) c = by (keeps_text doc room d) (text_last doc room cs c)
  where
    by : (b : Bool) → text_ends doc room (cs ++ c ∷ [])
        ≡ text_ends doc room cs ++ (if keeps_text doc room c then end_in doc room c ∷ [] else []) →
        map (end_in doc room) (cond b (d ∷ filter (keeps_text doc room) (cs ++ c ∷ []))
        (filter (keeps_text doc room) (cs ++ c ∷ [])))
        ≡ map (end_in doc room) (cond b (d ∷ filter (keeps_text doc room) cs) (filter (keeps_text doc room) cs))
        ++ (if keeps_text doc room c then end_in doc room c ∷ [] else [])
    by true e = ap (λ es. end_in doc room d ∷ es) e
    by false e = e

-- the best with one candidate more
pub keep_more : (doc : Document) (room : TextRoom) (cs : List Candidate) (c : Candidate) (bs : List End) →
    AreBest (text_ends doc room cs) bs → AreBest (text_ends doc room (cs ++ c ∷ []))
    (if keeps_text doc room c then insert_end (end_in doc room c) bs else bs)
keep_more doc room cs c bs r =
    subst (λ (es : List End). AreBest es (if keeps_text doc room c then insert_end (end_in doc room c) bs else bs))
    (sym (text_last doc room cs c)) (by (keeps_text doc room c))
  where
    by : (b : Bool) → AreBest (text_ends doc room cs ++ (if b then end_in doc room c ∷ [] else []))
        (if b then insert_end (end_in doc room c) bs else bs)
    by true = best_push (end_in doc room c) (text_ends doc room cs) bs r
    by false = subst (λ (es : List End). AreBest es bs) (sym (append-nil (text_ends doc room cs))) r

pub end_same : (at to : Place) (ms ns : List ℕ) (a b : TextCost) (y z : ℤ) → at ≡ to → ms ≡ ns → a ≡ b → y ≡ z →
    ◌≡◌ {A = End} (record { to = at; picks = ms; cost = a; pick_demerits = y })
    (record { to = to; picks = ns; cost = b; pick_demerits = z })
end_same at to ms ns a b y z t o p q = rw (t, o, p, q) refl
