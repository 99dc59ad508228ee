-- The candidates that are needed in a room suffice there.
use Rattle.std.proofs.Common.{◌≡◌, refl, sym, ap, ◌∙◌, subst, ℕ, zero, suc, ◌+◌, ◌≤◌, ◌<◌, ◌⊎◌, inl, inr, List, [], ◌∷◌, ◌++◌, append-nil, length, map, take, arith, Bool, true, false, Option, Some, None, IfSome, ℤ, ◌≤ℤ◌}
use Rattle.std.specs.Prelude.{if◌then◌else◌, get_or, nat_lt, option_map, slice_get, unwrap_or}
use Rattle.std.specs.Ordering.{ordering_reverse}
use Rattle.std.specs.declared.cmp.Ordering.TheVariants.{Equal}
use Rattle.std.proofs.lemmas.Cmp.{tied_itself}
use Rattle.std.proofs.lemmas.Grind.{flat_map-append}
use Rattle.std.proofs.lemmas.Int.{ints}
use Rattle.std.proofs.lemmas.List.{length-map}
use Rattle.std.proofs.lemmas.Option.{get_or_from_slice_get, same_Some, slice_get-get_or, slice_get-map, slice_get_past, slice_get_read, slice_get_within}
use Rattle.std.specs.List.{AllByRecursion}
use Rattle.pg_column.specs.declared.end.End.{End}
use Rattle.pg_lemmas.proofs.Bools.{by_bool, either_way, if_false, if_true, not_both}
use Rattle.pg_lemmas.proofs.Lists.{one_more}
use Rattle.pg_list.proofs.BodyLemmas.{all_push}
use Rattle.pg_rules.specs.Room.{Document}
use Rattle.law_walk.specs.Best.{AreBest, IsAmong, IsUnder, end_cmp}
use Rattle.law_walk.specs.Candidates.{Candidate, end_in, keeps_text, text_ends}
use Rattle.law_walk.proofs.BestLaws.{among_contains, contains_among, end_total, under_chain, under_itself}
use Rattle.law_walk.proofs.Complete.{among_left, among_right}
use Rattle.law_walk.proofs.Ends.{kept_listed, kept_of}
use Rattle.pg_column.specs.declared.cost.TextRoom.{TextRoom}
use Rattle.pg_candidates.specs.Nears.{IsWithin, AreNear, ArePicks, all_picks, IsHopelessFrom, IsNear, IsNearIn, IsServedFrom, IsWorst, NearValue, NearsValue, Suffice, is_needed, kind_at, needed_in, needed_of, one_at}
use Rattle.pg_candidates.specs.Seen.{AreSeen, AreServed, AreServedBefore, HasServer, IsLeading}
use Rattle.pg_candidates.specs.View.{candidate_of}
use Rattle.pg_candidates.specs.declared.candidate.Candidate.{Candidate as CandidateParts}
use Rattle.pg_candidates.specs.declared.until.First.{First}
use Rattle.pg_candidates.proofs.Ordered.{one_added}

-- ---- the best of those that suffice

pub best_of_some : (all some bs : List End) → Suffice all some → AreBest some bs → AreBest all bs
best_of_some all some bs s best = record {
  ascend = best.ascend;
  among = λ x a. s.among x (best.among x a);
  under = λ x y a b t.
      let w = s.there y b in
      let back : end_cmp y w.0 ≡ Equal = end_total.antisymm y w.0 ∙ ap ordering_reverse w.1.1.0 in
      under_chain x w.0 y (best.under x w.0 a w.1.0 (end_total.congr x y w.0 t ∙ back)) w.1.1.1;
  there = λ y b.
      let w = s.there y b in
      let v = best.there w.0 w.1.0 in
      (v.0, (v.1.0, end_total.congr v.0 w.0 y v.1.1 ∙ w.1.1.0));
}

-- ---- at an index

pub at_among : (cs : List Candidate) (i : ℕ) (c : Candidate) → slice_get cs i ≡ Some c → IsAmong c cs
at_among cs i c e = contains_among cs c (i, slice_get_within cs i c e, get_or_from_slice_get cs i c c e)

index_of : (cs : List Candidate) (c : Candidate) → IsAmong c cs →
    (i : ℕ) × ((i < length cs) × (slice_get cs i ≡ Some c))
index_of cs c a =
    let k = among_contains cs c a in
    (k.0, (k.1, slice_get-get_or cs k.0 c k.1 ∙ ap (λ (d : Candidate). Some d) k.2))

-- in a slice of what candidates are made of
pub found_at : (ps : List CandidateParts) (i : ℕ) (x : CandidateParts) → true ≡ nat_lt i (length ps) →
    x ≡ get_or ps i x → slice_get (map candidate_of ps) i ≡ Some (candidate_of x)
found_at ps i x less is =
    let within : i < length ps = grind (arith, less) in
    slice_get-map candidate_of ps i
    ∙ ap (option_map candidate_of) (slice_get_read ps (length ps) i x refl within is)

pub missing_at : (ps : List CandidateParts) (i : ℕ) → length ps ≤ i → slice_get (map candidate_of ps) i ≡ None
missing_at ps i le = slice_get-map candidate_of ps i ∙ ap (option_map candidate_of) (slice_get_past ps i le)

-- ---- what is needed

pub not_in_room : (room : ℤ) (cs : List Candidate) (near : NearValue) → is_needed room near.until ≡ false →
    needed_of room cs near ≡ []
not_in_room room cs near e = if_false (is_needed room near.until) (one_at (slice_get cs near.at)) [] e

pub in_room : (room : ℤ) (cs : List Candidate) (near : NearValue) (c : Candidate) →
    is_needed room near.until ≡ true → slice_get cs near.at ≡ Some c → needed_of room cs near ≡ c ∷ []
in_room room cs near c e there =
    if_true (is_needed room near.until) (one_at (slice_get cs near.at)) [] e ∙ ap one_at there

pub needed_more : (room : ℤ) (cs : List Candidate) (nears : List NearValue) (near : NearValue) →
    needed_in room cs (nears ++ near ∷ []) ≡ needed_in room cs nears ++ needed_of room cs near
needed_more room cs nears near = flat_map-append (needed_of room cs) nears (near ∷ [])
    ∙ ap (λ ds. needed_in room cs nears ++ ds) (append-nil (needed_of room cs near))

still_needed : (room : ℤ) (cs : List Candidate) (nears : List NearValue) (near : NearValue) (c : Candidate) →
    IsAmong c (needed_in room cs nears) → IsAmong c (needed_in room cs (nears ++ near ∷ []))
still_needed room cs nears near c a = subst (IsAmong c) (sym (needed_more room cs nears near)) (among_left c _ _ a)

last_needed : (room : ℤ) (cs : List Candidate) (nears : List NearValue) (near : NearValue) (c : Candidate) →
    slice_get cs near.at ≡ Some c → is_needed room near.until ≡ true →
    IsAmong c (needed_in room cs (nears ++ near ∷ []))
last_needed room cs nears near c there e =
    subst (IsAmong c) (sym (needed_more room cs nears near))
    (among_right c _ _ (subst (IsAmong c) (sym (in_room room cs near c e there)) (inl refl)))

one_listed : (room : ℤ) (cs : List Candidate) (near : NearValue) (rest : List Candidate) (c : Candidate) →
    IsAmong c (needed_of room cs near ++ rest) → IsAmong c cs ⊎ IsAmong c rest
one_listed room cs near rest c a = by (is_needed room near.until) (slice_get cs near.at) refl a
  where
    by : (b : Bool) (o : Option Candidate) → slice_get cs near.at ≡ o →
        IsAmong c ((if b then one_at o else []) ++ rest) → IsAmong c cs ⊎ IsAmong c rest
    by true (Some d) e (inl p) = inl (at_among cs near.at c (e ∙ ap (λ (x : Candidate). Some x) p))
    by true (Some d) e (inr a) = inr a
    by true None e a = inr a
    by false o e a = inr a

needed_listed : (room : ℤ) (cs : List Candidate) (nears : List NearValue) (c : Candidate) →
    IsAmong c (needed_in room cs nears) → IsAmong c cs
needed_listed room cs [] c a = absurd a
needed_listed room cs (near ∷ nears) c a = elim (one_listed room cs near (needed_in room cs nears) c a) [
  | inl p ↦ p
  | inr p ↦ needed_listed room cs nears c p
]

-- ---- one candidate more

out_of : {P : ℤ → Type 0} (room : ℤ) (o : Option ℤ) → IfSome o P → is_needed room o ≡ false →
    (from : ℤ) × ((from ≤ℤ room) × P from)
out_of room None p e = absurd cc
out_of room (Some from) p e = let le : from ≤ℤ room = grind (arith, ints, e) in (from, (le, p))

last_or : (is : List ℕ) (i j : ℕ) → IsAmong j (is ++ i ∷ []) → IsAmong j is ⊎ (i ≡ j)
last_or [] i j (inl p) = inr p
last_or [] i j (inr a) = absurd a
last_or (k ∷ is) i j (inl p) = inl (inl p)
last_or (k ∷ is) i j (inr a) = elim (last_or is i j a) [ inl p ↦ inl (inr p) | inr p ↦ inr p ]

module _ (doc : Document) (most : ℤ) (cs : List Candidate) (seen : List ℕ) (nears : List NearValue) (at : ℕ)
    (are : AreServed doc most cs seen nears) where
  -- one that is not there
  pub served_none : slice_get cs at ≡ None → AreServed doc most cs (seen ++ at ∷ []) nears
  served_none none = record {
    right = are.right;
    served = λ i c room gives a there keeps. elim (last_or seen at i a) [
      | inl p ↦ are.served i c room gives p there keeps
      | inr p ↦ absurd (no_one c (ap (slice_get cs) p ∙ there))
    ];
  }
    where
      no_one : (c : Candidate) → slice_get cs at ≡ Some c → ⊥
      no_one c e = let f : None ≡ Some c = sym none ∙ e in absurd cc

  module _ (near : NearValue) (at_is : near.at ≡ at) (c : Candidate) (there : slice_get cs at ≡ Some c)
      (is : IsNear doc most c near) where
    itself : (room : TextRoom) → keeps_text doc room c ≡ true → is_needed room.size near.until ≡ true →
        HasServer doc room (needed_in room.size cs (nears ++ near ∷ [])) c
    itself room keeps e = record {
      server = c;
      listed = last_needed room.size cs nears near c (ap (slice_get cs) at_is ∙ there) e;
      serves = record {
        keeps = keeps;
        tied = tied_itself end_total (end_in doc room c);
        under = under_itself (end_in doc room c);
      };
    }

    served_one : ((room : TextRoom) → IsWithin most room → keeps_text doc room c ≡ true →
        is_needed room.size near.until ≡ false → HasServer doc room (needed_in room.size cs nears) c) →
        AreServed doc most cs (seen ++ at ∷ []) (nears ++ near ∷ [])
    served_one other = record {
      right = all_push (IsNearIn doc most cs) nears near are.right (record {
        candidate = c;
        there = ap (slice_get cs) at_is ∙ there;
        is = is;
      });
      served = λ i d room gives a here keeps. elim (last_or seen at i a) [
        | inl p ↦ longer room d (are.served i d room gives p here keeps)
        | inr p ↦
            let e : c ≡ d = same_Some c d (sym there ∙ (ap (slice_get cs) p ∙ here)) in
            subst (HasServer doc room (needed_in room.size cs (nears ++ near ∷ []))) e
            (own room gives (ap (keeps_text doc room) e ∙ keeps))
      ];
    }
      where
        longer : (room : TextRoom) (d : Candidate) → HasServer doc room (needed_in room.size cs nears) d →
            HasServer doc room (needed_in room.size cs (nears ++ near ∷ [])) d
        longer room d h = record {
          server = h.server;
          listed = still_needed room.size cs nears near h.server h.listed;
          serves = h.serves;
        }

        own : (room : TextRoom) → IsWithin most room → keeps_text doc room c ≡ true →
            HasServer doc room (needed_in room.size cs (nears ++ near ∷ [])) c
        own room gives keeps = by_bool (is_needed room.size near.until) (itself room keeps)
            (λ f. longer room c (other room gives keeps f))

-- one that is not there
pub seen_none : (doc : Document) (most : ℤ) (cs : List Candidate) (seen : List ℕ) (nears : List NearValue) (at : ℕ)
    (first : Option First) → slice_get cs at ≡ None → AreSeen doc most cs seen first nears →
    AreSeen doc most cs (seen ++ at ∷ []) first nears
seen_none doc most cs seen nears at first none h = record {
  served = served_none doc most cs seen nears at h.served none;
  leading = h.leading;
}

module _ (doc : Document) (most : ℤ) (cs : List Candidate) (seen : List ℕ) (nears : List NearValue) (at : ℕ)
    (first : Option First) (h : AreSeen doc most cs seen first nears) (near : NearValue) (at_is : near.at ≡ at)
    (c : Candidate) (there : slice_get cs at ≡ Some c) where
  -- the first one of a place
  pub seen_first : (own : First) → own.at ≡ at → own.kind ≡ kind_at doc.blocks c.to →
      IfSome own.worst (IsWorst doc.style most c) → IsNear doc most c near → IfSome near.until (IsHopelessFrom doc most c) →
      AreSeen doc most cs (seen ++ at ∷ []) (Some own) (nears ++ near ∷ [])
  seen_first own own_at kind_is worst is until = record {
    served = served_one doc most cs seen nears at h.served near at_is c there is (λ room gives keeps f.
        absurd (hopeless room gives keeps f));
    leading = record {
      candidate = c;
      there = ap (slice_get cs) own_at ∙ there;
      kind = kind_is;
      worst = worst;
      needed = λ room gives keeps. by_bool (is_needed room.size near.until)
          (last_needed room.size cs nears near c (ap (slice_get cs) at_is ∙ there))
          (λ f. absurd (hopeless room gives keeps f));
    };
  }
    where
      hopeless : (room : TextRoom) → IsWithin most room → keeps_text doc room c ≡ true →
          is_needed room.size near.until ≡ false → ⊥
      hopeless room gives keeps f =
          let w = out_of room.size near.until until f in
          not_both (keeps_text doc room c) keeps (w.1.1 room gives w.1.0)

  -- one behind the first of its place
  pub seen_behind : (same : First) → first ≡ Some same →
      ((one : Candidate) → slice_get cs same.at ≡ Some one → one.to ≡ c.to) →
      (same.kind ≡ kind_at doc.blocks c.to → IsNear doc most c near) →
      ((one : Candidate) → slice_get cs same.at ≡ Some one → one.to ≡ c.to → same.kind ≡ kind_at doc.blocks c.to →
      IfSome same.worst (IsWorst doc.style most one) → IfSome near.until (IsServedFrom doc most one c)) →
      AreSeen doc most cs (seen ++ at ∷ []) (Some same) (nears ++ near ∷ [])
  seen_behind same e place is until = record {
    served = served_one doc most cs seen nears at h.served near at_is c there (is kind_is) (λ room gives keeps f.
        let w = out_of room.size near.until (until lead.candidate lead.there to kind_is lead.worst) f in
        let s = w.1.1 room gives w.1.0 keeps in
        record { server = lead.candidate; listed = lead.needed room gives s.keeps; serves = s });
    leading = record {
      candidate = lead.candidate;
      there = lead.there;
      kind = lead.kind;
      worst = lead.worst;
      needed = λ room gives keeps.
          still_needed room.size cs nears near lead.candidate (lead.needed room gives keeps);
    };
  }
    where
      lead : IsLeading doc most cs nears same
      lead = subst (λ (o : Option First). IfSome o (IsLeading doc most cs nears)) e h.leading

      to : lead.candidate.to ≡ c.to
      to = place lead.candidate lead.there

      kind_is : same.kind ≡ kind_at doc.blocks c.to
      kind_is = lead.kind ∙ ap (kind_at doc.blocks) to

-- ---- all of them

pub none_seen : (doc : Document) (most : ℤ) (cs : List Candidate) → AreSeen doc most cs [] None []
none_seen doc most cs = record {
  served = record { right = tt; served = λ i c room gives a there keeps. absurd a };
  leading = tt;
}

pub near_all : (doc : Document) (most : ℤ) (cs : List Candidate) (ps : List (List ℕ)) (order : List ℕ)
    (nears : List NearValue) → ArePicks cs ps → ((i : ℕ) → i < length cs → IsAmong i order) →
    AreServed doc most cs order nears → AreNear doc most cs (record { picks = ps; nears = nears })
near_all doc most cs ps order nears listed all are = record {
  picks = listed;
  right = are.right;
  suffice = λ room gives. record {
    among = λ x a.
        let k = kept_of doc room (keeps_text doc room) (needed_in room.size cs nears) x a in
        subst (λ (e : End). IsAmong e (text_ends doc room cs)) (sym k.is)
        (kept_listed doc room (keeps_text doc room) cs k.candidate
        (needed_listed room.size cs nears k.candidate k.listed) k.keeps);
    there = λ y a.
        let k = kept_of doc room (keeps_text doc room) cs y a in
        let at = index_of cs k.candidate k.listed in
        let h = are.served at.0 k.candidate room gives (all at.0 at.1.0) at.1.1 k.keeps in
        let it = end_in doc room h.server in (
          it,
          (
            kept_listed doc room (keeps_text doc room) (needed_in room.size cs nears) h.server h.listed h.serves.keeps,
            (
              subst (λ (e : End). end_cmp it e ≡ Equal) (sym k.is) h.serves.tied,
              subst (IsUnder it) (sym k.is) h.serves.under,
            ),
          ),
        );
  };
}

-- the best of those that are needed are the best of all
pub best_of_near : (doc : Document) (most : ℤ) (room : TextRoom) (cs : List Candidate) (it : NearsValue) (bs : List End) →
    AreNear doc most cs it → IsWithin most room →
    (ArePicks cs it.picks → AllByRecursion (IsNearIn doc most cs) it.nears →
    AreBest (text_ends doc room (needed_in room.size cs it.nears)) bs) → AreBest (text_ends doc room cs) bs
best_of_near doc most room cs it bs near within best =
    best_of_some (text_ends doc room cs) (text_ends doc room (needed_in room.size cs it.nears)) bs
    (near.suffice room within) (best near.picks near.right)

-- one after another, as they stand
pub none_served : (doc : Document) (most : ℤ) (cs : List Candidate) → AreServedBefore doc most cs 0 []
none_served doc most cs = record {
  seen = [];
  all = λ i less. absurd (omega (arith, less));
  are = record { right = tt; served = λ i c room gives a there keeps. absurd a };
}

seen_up_to : (seen : List ℕ) (n : ℕ) → ((i : ℕ) → i < n → IsAmong i seen) → (i : ℕ) → i < n + 1 →
    IsAmong i (seen ++ n ∷ [])
seen_up_to seen n all = one_added seen (seen ++ n ∷ []) n all (record {
  there = among_right n seen (n ∷ []) (inl refl);
  stay = λ k m. among_left k seen (n ∷ []) m;
})

module _ (doc : Document) (most : ℤ) (cs : List Candidate) (n : ℕ) (nears : List NearValue)
    (h : AreServedBefore doc most cs n nears) where
  pub served_missing : slice_get cs n ≡ None → AreServedBefore doc most cs (n + 1) nears
  served_missing none = record {
    seen = h.seen ++ n ∷ [];
    all = seen_up_to h.seen n h.all;
    are = served_none doc most cs h.seen nears n h.are none;
  }

  pub served_next : (near : NearValue) → near.at ≡ n → (c : Candidate) → slice_get cs n ≡ Some c →
      IsNear doc most c near → IfSome near.until (IsHopelessFrom doc most c) →
      AreServedBefore doc most cs (n + 1) (nears ++ near ∷ [])
  served_next near at_is c there is until =
      let own : First = record { at = n; kind = kind_at doc.blocks c.to; worst = None } in
      let seen = seen_first doc most cs h.seen nears n None (record { served = h.are; leading = tt }) near at_is c there own refl
      refl tt is until in
      record { seen = h.seen ++ n ∷ []; all = seen_up_to h.seen n h.all; are = seen.served }

-- the picks of candidates, one after another
are_picks : (cs : List Candidate) → ArePicks cs (all_picks cs)
are_picks cs i c e =
    ap (λ (o : Option (List ℕ)). unwrap_or o []) (slice_get-map (λ (d : Candidate). d.picks) cs i)
    ∙ ap (λ (o : Option Candidate). unwrap_or (option_map (λ (d : Candidate). d.picks) o) []) e

-- made of a slice that holds these
pub near_made : (doc : Document) (most : ℤ) (cs : List Candidate) (ps : List CandidateParts) (nears : List NearValue)
    (listed : List (List ℕ)) → map candidate_of ps ≡ cs → listed ≡ all_picks cs →
    AreServedBefore doc most (map candidate_of ps) (length ps) nears →
    AreNear doc most cs (record { picks = listed; nears = nears })
near_made doc most cs ps nears listed p all h =
    near_all doc most cs listed h.seen nears
    (subst (ArePicks cs) (sym all) (are_picks cs))
    (λ i less. h.all i (subst (λ (n : ℕ). i < n) (sym (ap length p) ∙ length-map ps candidate_of) less))
    (subst (λ (xs : List Candidate). AreServed doc most xs h.seen nears) p h.are)

-- one more of a list, whatever stands for what is not there
pub next_at : {X : Type 0} (xs : List X) (k : ℕ) (d : X) → k < length xs → take (k + 1) xs ≡ take k xs ++ get_or xs k d ∷ []
next_at xs k d h = one_more xs k (get_or xs k d) h
    (same_Some _ _ (sym (slice_get-get_or xs k d h) ∙ slice_get-get_or xs k (get_or xs k d) h))
