-- The ends in a room of candidates that suffice are the ends of the columns of text in that room.
use Rattle.std.proofs.Common.{◌≡◌, refl, sym, ap, ◌∙◌, subst, ℕ, inl, inr, List, [], ◌∷◌, map, arith, Bool, true, false, Option, Some, None, ℤ, pos, ◌+ℤ◌, ◌≤ℤ◌}
use Rattle.std.specs.Prelude.{◌&&◌, not, cond, int_le, filter, Contains}
use Rattle.std.specs.List.{AllByRecursion}
use Rattle.std.specs.Option.{option_map_or}
use Rattle.std.specs.declared.cmp.Ordering.TheVariants.{Equal}
use Rattle.std.proofs.lemmas.Int.{ints}
use Rattle.pg_list.specs.declared.galley.Place.{Place}
use Rattle.pg_list.specs.Shapes.{IsBlock}
use Rattle.pg_style.specs.Ranges.{IsStyle}
use Rattle.pg_lemmas.proofs.Bools.{both, if_true}
use Rattle.law_places.proofs.Tests.{int_le_of, le_int}
use Rattle.pg_rules.specs.BestPicks.{keeps_text, text_cost, with_picks}
use Rattle.pg_rules.specs.ColumnRules.{text_fitness}
use Rattle.pg_rules.specs.Cost.{column_demerits, pick_demerits, text_demerits}
use Rattle.pg_rules.specs.History.{column_fitness}
use Rattle.pg_rules.specs.Room.{ColumnContext, Document, is_text, room, size_of, tallest_room}
use Rattle.pg_column.specs.declared.end.End.{End}
use Rattle.pg_column.specs.Ends.{AreEnds, HasEnd, IsColumnIn, IsEndOf}
use Rattle.law_walk.specs.Best.{AreBest, IsAmong, IsCheaper, IsUnder, end_cmp, end_cost}
use Rattle.law_walk.specs.Candidates.{AreCandidates, Candidate, Covers, CoversIn, IsCandidate, cost_in, end_in, ends_in, has_text, is_usable, keeps_in, keeps_text as keeps_text_in, kept_ends, text_ends}
use Rattle.pg_column.specs.Passed.{Passed, fits, least_room}
use Rattle.law_walk.proofs.BestLaws.{among_contains, best_are, cheaper_chain, contains_among, ends_tied, in_order, tied_ends}
use Rattle.law_walk.proofs.Keeps.{HasCandidate, has_candidate, keeps_back, kept_parts, numbers_are, usable_is}
use Rattle.law_walk.proofs.Bounds.{fits_less}
use Rattle.pg_column.specs.Numbers.{AreNumbers, most_room, text_room}
use Rattle.pg_column.specs.declared.cost.TextRoom.{TextRoom}

-- ---- the ends of those that keep a test

pub record IsKept (doc : Document) (height : TextRoom) (test : Candidate → Bool) (cs : List Candidate) (end : End) : Type 0 where
  pub candidate : Candidate
  pub listed : IsAmong candidate cs
  pub keeps : test candidate ≡ true
  pub is : end ≡ end_in doc height candidate

pub kept_of : (doc : Document) (height : TextRoom) (test : Candidate → Bool) (cs : List Candidate) (end : End) →
    IsAmong end (map (end_in doc height) (filter test cs)) → IsKept doc height test cs end
kept_of doc height test [] end a = absurd a
kept_of doc height test (c ∷ cs) end a = by (test c) refl a (λ b. kept_of doc height test cs end b)
  where
    longer : IsKept doc height test cs end → IsKept doc height test (c ∷ cs) end
    longer k = record { candidate = k.candidate; listed = inr k.listed; keeps = k.keeps; is = k.is }

    by : (b : Bool) → test c ≡ b →
        IsAmong end (map (end_in doc height) (cond b (c ∷ filter test cs) (filter test cs))) →
        (IsAmong end (map (end_in doc height) (filter test cs)) → IsKept doc height test cs end) →
        IsKept doc height test (c ∷ cs) end
    by true e (inl p) more = record { candidate = c; listed = inl refl; keeps = e; is = sym p }
    by true e (inr p) more = longer (more p)
    by false e p more = longer (more p)

pub kept_listed : (doc : Document) (height : TextRoom) (test : Candidate → Bool) (cs : List Candidate) (c : Candidate) →
    IsAmong c cs → test c ≡ true → IsAmong (end_in doc height c) (map (end_in doc height) (filter test cs))
kept_listed doc height test [] c a k = absurd a
kept_listed doc height test (d ∷ cs) c (inl p) k = by (test d) (ap test p ∙ k)
  where
    by : (b : Bool) → b ≡ true →
        IsAmong (end_in doc height c) (map (end_in doc height) (cond b (d ∷ filter test cs) (filter test cs)))
    by true e = inl (ap (end_in doc height) p)
    by false e = absurd cc
kept_listed doc height test (d ∷ cs) c (inr a) k = by (test d) (kept_listed doc height test cs c a k)
  where
    by : (b : Bool) → IsAmong (end_in doc height c) (map (end_in doc height) (filter test cs)) →
        IsAmong (end_in doc height c) (map (end_in doc height) (cond b (d ∷ filter test cs) (filter test cs)))
    by true more = inr more
    by false more = more

-- ---- in a room that is not too low for a text, and in one that is

-- all ends that keep the rules on their text however low the room is
pub kept_all : (doc : Document) (room : TextRoom) → has_text doc.style room ≡ true → (cs : List Candidate) →
    kept_ends doc room cs ≡ text_ends doc room cs
kept_all doc room text [] = refl
kept_all doc room text (c ∷ cs) = by (keeps_text_in doc room c) (has_text doc.style room) text (kept_all doc room text cs)
  where
    by : (b t : Bool) → t ≡ true → kept_ends doc room cs ≡ text_ends doc room cs →
        map (end_in doc room) (cond (b && t) (c ∷ filter (keeps_in doc room) cs) (filter (keeps_in doc room) cs))
        ≡ map (end_in doc room) (cond b (c ∷ filter (keeps_text_in doc room) cs) (filter (keeps_text_in doc room) cs))
    by true true e more = ap (λ es. end_in doc room c ∷ es) more
    by true false e more = absurd cc
    by false t e more = more

-- none
pub kept_none : (doc : Document) (room : TextRoom) → has_text doc.style room ≡ false → (cs : List Candidate) →
    kept_ends doc room cs ≡ []
kept_none doc room low [] = refl
kept_none doc room low (c ∷ cs) = by (keeps_text_in doc room c) (has_text doc.style room) low (kept_none doc room low cs)
  where
    by : (b t : Bool) → t ≡ false → kept_ends doc room cs ≡ [] →
        map (end_in doc room) (cond (b && t) (c ∷ filter (keeps_in doc room) cs) (filter (keeps_in doc room) cs)) ≡ []
    by true true e none = absurd cc
    by true false e none = none
    by false t e none = none

-- ---- one that covers another does as well in each room

pub record DoesAsWell (doc : Document) (height : TextRoom) (a c : Candidate) : Type 0 where
  pub keeps : keeps_in doc height a ≡ true
  pub fitness : (cost_in doc height a).fitness ≡ (cost_in doc height c).fitness
  pub demerits : (cost_in doc height a).demerits ≡ (cost_in doc height c).demerits

pub does_as_well : (doc : Document) (height : TextRoom) (a c : Candidate) → Covers a c → keeps_in doc height c ≡ true →
    DoesAsWell doc height a c
does_as_well doc height a c v k =
    let parts = kept_parts doc height c k in record {
      keeps = both _ _ (both _ _ (rw (v.to, v.totals, v.notes) parts.tolerable)
          (fits_less a.passed.bound c.passed.bound (most_room height) v.bound parts.bound)) parts.text;
      fitness = rw (v.to, v.totals, v.notes) refl;
      demerits = rw (v.to, v.totals, v.notes) refl;
    }

cheaper_plus : (z c d : ℤ) (ms ns : List ℕ) → IsCheaper c ms d ns → IsCheaper (z +ℤ c) ms (z +ℤ d) ns
cheaper_plus z c d ms ns (inl p) = inl (omega (arith, ints, p))
cheaper_plus z c d ms ns (inr p) = inr (ap (λ (y : ℤ). z +ℤ y) p.0, p.1)

not_true : (b : Bool) → not (not b) ≡ true → b ≡ true
not_true true e = refl
not_true false e = absurd cc

pub fits_more : (o : Option ℤ) (height top : ℤ) → height ≤ℤ top → fits o height ≡ true → fits o top ≡ true
fits_more None height top h f = refl
fits_more (Some x) height top h f = let a = le_int x height f in int_le_of x top (omega (arith, ints, a, h))

-- ---- a column in its context

module _ (it : ColumnContext) (all : AllByRecursion IsBlock it.document.blocks) (is-style : IsStyle it.document.style)
    (text : is_text it ≡ true) (top : ℤ) (lower : tallest_room it ≤ℤ top) (cs : List Candidate)
    (cands : AreCandidates it.document it.column.from top cs) where
  abbrev pub listing : List End
  listing = kept_ends it.document (text_room it) cs

  -- an end as good as the column's
  pub record IsServed : Type 0 where
    pub candidate : Candidate
    pub listed : IsAmong (end_in it.document (text_room it) candidate) listing
    pub to : candidate.to ≡ it.column.to
    pub fitness : (cost_in it.document (text_room it) candidate).fitness ≡ column_fitness it
    pub cheaper : IsCheaper (end_cost (end_in it.document (text_room it) candidate)) candidate.picks (text_cost it)
        it.column.picks

  fitness_of : (n : ℕ) → size_of it ≡ Some n → column_fitness it ≡ text_fitness it n
  fitness_of n size = ap (λ (o : Option ℕ). option_map_or (text_fitness it) o 2) size

  demerits_of : (n : ℕ) → size_of it ≡ Some n → column_demerits it ≡ text_demerits it n
  demerits_of n size = if_true (is_text it) _ _ text
      ∙ ap (λ (o : Option ℕ). option_map_or (text_demerits it) o (pos 0)) size

  pub served : keeps_text it ≡ true → IsServed
  served k =
      let h : HasCandidate it = has_candidate it all is-style text k in
      let c : Candidate = record {
        to = it.column.to;
        picks = it.column.picks;
        passed = h.passed;
        pick_demerits = pick_demerits it;
      } in
      let parts = kept_parts it.document (text_room it) c h.keeps in
      let least : int_le (least_room it.document.style h.passed) (tallest_room it) ≡ true =
      not_true _ (ap not (sym (usable_is it all is-style h.named text h.size h.size_is h.passed h.kept)) ∙ parts.under) in
      let low = le_int (least_room it.document.style h.passed) (tallest_room it) least in
      let usable : is_usable it.document.style top h.passed ≡ true =
      both _ _ (fits_more h.passed.bound (tallest_room it) top lower parts.bound)
      (int_le_of (least_room it.document.style h.passed) top (omega (arith, ints, low, lower))) in
      let v : CoversIn cs c = cands.whole c h.is usable in
      let d : DoesAsWell it.document (text_room it) v.candidate c =
      does_as_well it.document (text_room it) v.candidate c v.covers h.keeps in
      let numbers : AreNumbers it h.size (cost_in it.document (text_room it) c) =
      numbers_are it all is-style h.named text h.size h.size_is h.passed h.kept h.is.ends in
      record {
        candidate = v.candidate;
        listed = kept_listed it.document (text_room it) (keeps_in it.document (text_room it)) cs v.candidate v.listed d.keeps;
        to = v.covers.to;
        fitness = d.fitness ∙ (numbers.fitness ∙ sym (fitness_of h.size h.size_is));
        cheaper = priced (cost_in it.document (text_room it) v.candidate).demerits
            v.candidate.pick_demerits (pick_demerits it) (column_demerits it) v.candidate.picks it.column.picks
            (d.demerits ∙ (numbers.demerits ∙ sym (demerits_of h.size h.size_is))) v.covers.cheaper;
      }
    where
      priced : (a x y z : ℤ) (ms ns : List ℕ) → a ≡ z → IsCheaper x ms y ns →
          IsCheaper (a +ℤ x) ms (z +ℤ y) ns
      priced a x y z ms ns p q = subst (λ (w : ℤ). IsCheaper (w +ℤ x) ms (z +ℤ y) ns) (sym p)
          (cheaper_plus z x y ms ns q)

  -- ---- whole

  pub has_end : (ends : List End) → AreBest listing ends → keeps_text it ≡ true → HasEnd ends it
  has_end ends b k =
      let s : IsServed = served k in
      let w = b.there (end_in it.document (text_room it) s.candidate) s.listed in
      let t = tied_ends w.0 (end_in it.document (text_room it) s.candidate) w.1.1 in
      record {
        end = w.0;
        listed = among_contains ends w.0 w.1.0;
        to = t.0 ∙ s.to;
        fitness = t.1 ∙ s.fitness;
      }

-- ---- sound

module _ (it : ColumnContext) (all : AllByRecursion IsBlock it.document.blocks) (is-style : IsStyle it.document.style)
    (text : is_text it ≡ true) (top : ℤ) (lower : tallest_room it ≤ℤ top) (cs : List Candidate)
    (cands : AreCandidates it.document it.column.from top cs) where
  abbrev pub all_kept : List End
  all_kept = kept_ends it.document (text_room it) cs

  same_candidate : (c : Candidate) → it.column.to ≡ c.to → it.column.picks ≡ c.picks →
      c ≡ record { to = it.column.to; picks = it.column.picks; passed = c.passed; pick_demerits = c.pick_demerits }
  same_candidate c p q = rw (p, q) refl

  end_of_kept : (c : Candidate) → c ≡ record {
    to = it.column.to;
    picks = it.column.picks;
    passed = c.passed;
    pick_demerits = c.pick_demerits;
  } → IsCandidate it.document it.column.from c → keeps_in it.document (text_room it) c ≡ true →
      ((y : End) → IsAmong y all_kept → end_cmp (end_in it.document (text_room it) c) y ≡ Equal →
      IsUnder (end_in it.document (text_room it) c) y) → IsEndOf it (end_in it.document (text_room it) c)
  end_of_kept c same is' k' under' =
      made c.passed c.pick_demerits (subst (IsCandidate it.document it.column.from) same is')
      (ap (keeps_in it.document (text_room it)) (sym same) ∙ k')
      (subst (λ (x : Candidate). (y : End) → IsAmong y all_kept →
      end_cmp (end_in it.document (text_room it) x) y ≡ Equal → IsUnder (end_in it.document (text_room it) x) y) same under')
      same
    where
      made : (p : Passed) (z : ℤ) →
          IsCandidate it.document it.column.from
          (record { to = it.column.to; picks = it.column.picks; passed = p; pick_demerits = z }) →
          keeps_in it.document (text_room it)
          (record { to = it.column.to; picks = it.column.picks; passed = p; pick_demerits = z }) ≡ true →
          ((y : End) → IsAmong y all_kept →
          end_cmp (end_in it.document (text_room it)
          (record { to = it.column.to; picks = it.column.picks; passed = p; pick_demerits = z })) y ≡ Equal →
          IsUnder (end_in it.document (text_room it)
          (record { to = it.column.to; picks = it.column.picks; passed = p; pick_demerits = z })) y) →
          c ≡ record { to = it.column.to; picks = it.column.picks; passed = p; pick_demerits = z } →
          IsEndOf it (end_in it.document (text_room it) c)
      made p z is k under e =
          let d : Candidate = record { to = it.column.to; picks = it.column.picks; passed = p; pick_demerits = z } in
          let numbers : AreNumbers it is.size (cost_in it.document (text_room it) d) =
          numbers_are it all is-style is.named text is.size is.leads p is.passes is.ends in
          let own : (cost_in it.document (text_room it) d).demerits ≡ column_demerits it =
          numbers.demerits ∙ sym (demerits_of it all is-style text top lower cs cands is.size is.leads) in
          let fit : column_fitness it ≡ (cost_in it.document (text_room it) d).fitness =
          fitness_of it all is-style text top lower cs cands is.size is.leads ∙ sym numbers.fitness in
          let cost : end_cost (end_in it.document (text_room it) d) ≡ text_cost it =
          ap (λ (x : ℤ). x +ℤ z) own ∙ ap (λ (x : ℤ). column_demerits it +ℤ x) is.demerits in
          subst (λ (x : Candidate). IsEndOf it (end_in it.document (text_room it) x)) (sym e) (record {
            keeps = keeps_back it all is-style text p z is k;
            least = record {
              least = λ picks text' kept same.
                  let s = served (with_picks it picks) all is-style text' top lower cs cands kept in
                  let tie = ends_tied (end_in it.document (text_room it) d) (end_in it.document (text_room it) s.candidate)
                  (sym s.to) (sym fit ∙ (sym same ∙ sym s.fitness)) in
                  let u = under (end_in it.document (text_room it) s.candidate) s.listed tie in
                  subst (λ (x : ℤ). IsCheaper x it.column.picks (text_cost (with_picks it picks)) picks) cost
                  (cheaper_chain _ _ _ it.column.picks s.candidate.picks picks u s.cheaper);
            };
            size = is.size;
            size_is = is.leads;
            numbers = numbers;
            pick_demerits = is.demerits;
          })

  pub sound_end : (ends : List End) → AreBest all_kept ends → (end : End) → Contains ends end → it.column.to ≡ end.to →
      it.column.picks ≡ end.picks → IsEndOf it end
  sound_end ends b end has to picks =
      let a : IsAmong end ends = contains_among ends end has in
      let k : IsKept it.document (text_room it) (keeps_in it.document (text_room it)) cs end =
      kept_of it.document (text_room it) (keeps_in it.document (text_room it)) cs end (b.among end a) in
      subst (IsEndOf it) (sym k.is)
      (end_of_kept k.candidate
      (same_candidate k.candidate (to ∙ ap (λ (e : End). e.to) k.is) (picks ∙ ap (λ (e : End). e.picks) k.is))
      (cands.sound k.candidate k.listed) k.keeps
      (λ y listed tie. b.under (end_in it.document (text_room it) k.candidate) y
      (subst (λ (e : End). IsAmong e ends) k.is a) listed tie))

-- ---- the ends

-- the best of the ends of candidates that suffice are the ends in a room
pub best_are_ends : (doc : Document) (from : Place) (top : ℤ) (height : TextRoom) (cs : List Candidate) (ends : List End) →
    AllByRecursion IsBlock doc.blocks → IsStyle doc.style → most_room height ≤ℤ top → AreCandidates doc from top cs →
    AreBest (kept_ends doc height cs) ends → AreEnds doc from height ends
best_are_ends doc from top height cs ends all is-style lower cands best = record {
  sound = λ end it has is to picks.
      let blocks : AllByRecursion IsBlock it.document.blocks =
      subst (λ (d : Document). AllByRecursion IsBlock d.blocks) (sym is.document) all in
      let styled : IsStyle it.document.style = subst (λ (d : Document). IsStyle d.style) (sym is.document) is-style in
      let low : tallest_room it ≤ℤ top = subst (λ (r : TextRoom). most_room r ≤ℤ top) (sym is.room_is) lower in
      sound_end it blocks styled is.text top low cs (own it is) ends (best_own it is) end has to picks;
  whole = λ it is kept.
      let blocks : AllByRecursion IsBlock it.document.blocks =
      subst (λ (d : Document). AllByRecursion IsBlock d.blocks) (sym is.document) all in
      let styled : IsStyle it.document.style = subst (λ (d : Document). IsStyle d.style) (sym is.document) is-style in
      let low : tallest_room it ≤ℤ top = subst (λ (r : TextRoom). most_room r ≤ℤ top) (sym is.room_is) lower in
      has_end it blocks styled is.text top low cs (own it is) ends (best_own it is) kept;
  order = in_order ends best.ascend;
}
  where
    own : (it : ColumnContext) → IsColumnIn doc from height it → AreCandidates it.document it.column.from top cs
    own it is = subst (λ (d : Document). AreCandidates d it.column.from top cs) (sym is.document)
        (subst (λ (p : Place). AreCandidates doc p top cs) (sym is.starts) cands)

    best_own : (it : ColumnContext) → IsColumnIn doc from height it → AreBest (kept_ends it.document (text_room it) cs) ends
    best_own it is = subst (λ (d : Document). AreBest (kept_ends d (text_room it) cs) ends) (sym is.document)
        (subst (λ (r : TextRoom). AreBest (kept_ends doc r cs) ends) (sym is.room_is) best)

pub candidates_give_ends : (doc : Document) (from : Place) (top : ℤ) (height : TextRoom) (cs : List Candidate) →
    AllByRecursion IsBlock doc.blocks → IsStyle doc.style → most_room height ≤ℤ top → AreCandidates doc from top cs →
    AreEnds doc from height (ends_in doc height cs)
unfolding ends_in
candidates_give_ends doc from top height cs all is-style lower cands =
    best_are_ends doc from top height cs (ends_in doc height cs) all is-style lower cands
    (best_are (kept_ends doc height cs))
