-- A column reads the one flat list of all picks.
use Rattle.std.proofs.Common.{◌≡◌, refl, sym, ap, subst, ◌∙◌, ℕ, zero, suc, ◌+◌, ◌-◌, ◌≤◌, ◌<◌, inl, inr, List, [], ◌∷◌, ◌++◌, append_assoc, map, length, length-append, length-drop, take, drop, Bool, Option, Some, arith}
use Rattle.std.specs.Prelude.{◌&&◌, ◌||◌, not, is_some, ℤ}
use Rattle.std.specs.List.{AllByRecursion, list_all, list_any, range_with_len}
use Rattle.std.specs.Option.{option_map_or}
use Rattle.std.proofs.Math.Seq.{drop-append_seam, drop-append-add}
use Rattle.std.proofs.lemmas.List.{append-nil, map-append, length-map, take-append-le, drop-append-le, length-take-le}
use Rattle.std.proofs.lemmas.Option.{slice_get_within}
use Rattle.pg_list.specs.GalleyValue.{GalleyValue}
use Rattle.pg_list.specs.Shapes.{IsBlock, is_box, is_discardable}
use Rattle.pg_list.specs.declared.galley.Place.{Place}
use Rattle.pg_list.specs.declared.item.Item.{Item}
use Rattle.pg_plan.specs.declared.pages.PageMove.{PageMove}
use Rattle.pg_style.specs.Values.{StyleValue}
use Rattle.pg_list.specs.Break.{break_penalty, follows_solid, has_at, is_forced, is_spent}
use Rattle.pg_list.specs.Flat.{FlatItem, blocks_at, flat, flat_items, flat_items_at, is_same_place, picked_variants}
use Rattle.pg_list.specs.Totals.{trimmed}
use Rattle.pg_rules.specs.History.{context, place_of}
use Rattle.pg_rules.specs.Legal.{document}
use Rattle.pg_rules.specs.ColumnRules.{does_fit}
use Rattle.pg_rules.specs.Room.{ColumnContext, Document, flat_items_of, items_of, size_of}
use Rattle.law_places.proofs.Alike.{Alike, alike_append, alike_itself, at_alike, break_alike, break_by_rest, break_of, forced_alike, forced_by_rest, forced_of, item_of, next_at, same_alike, spent_alike}
use Rattle.law_places.proofs.Among.{Among, all_same}
use Rattle.law_places.proofs.Splits.{StandsAt, stands_at}
use Rattle.pg_rules.specs.Ranges.{AreInRange}
use Rattle.law_columns.proofs.Waiting.{slot_below}
use Rattle.law_texts.specs.Texts.{Chained, ColumnsReadFlat, ReadsFlat, StandsInFlat, picks_of}
use Rattle.law_texts.proofs.Once.{Fits, chain_fits, column_items, column_splits, fits_of, passed, whole_splits}
use Rattle.pg_lemmas.proofs.Bools.{both_of}
use Rattle.pg_list.proofs.Places.{same_place}

-- ---- two lists with a common part

-- the first list says up to n what the second says behind an offset
record Reads (xs flat : List Item) (start n : ℕ) : Type 0 where
  long : n ≤ length xs
  text : (j : ℕ) → j ≤ n → take j xs ≡ take j (drop start flat)
  penalty : (j : ℕ) → 1 ≤ j → j ≤ n → break_penalty xs j ≡ break_penalty flat (start + j)
  forced : (j : ℕ) → j ≤ n → is_forced xs j ≡ is_forced flat (start + j)
  spent : (j : ℕ) → j ≤ n → is_spent xs j ≡ is_spent flat (start + j)

module _ (before t rest other : List Item) (alike : Alike rest other) where
  own_rest : (j : ℕ) → j ≤ length t → drop j (t ++ rest) ≡ drop j t ++ rest
  own_rest j h = drop-append-le j t rest h

  flat_rest : (j : ℕ) → j ≤ length t → drop (length before + j) (before ++ (t ++ other)) ≡ drop j t ++ other
  flat_rest j h = drop-append-add before (t ++ other) j ∙ drop-append-le j t other h

  own_long : (j : ℕ) → j ≤ length t → j ≤ length (t ++ rest)
  own_long j h = let e : length (t ++ rest) ≡ length t + length rest = length-append t rest in omega arith

  flat_long : (j : ℕ) → j ≤ length t → length before + j ≤ length (before ++ (t ++ other))
  flat_long j h = let e : length (before ++ (t ++ other)) ≡ length before + length (t ++ other) =
      length-append before (t ++ other) in let f : length (t ++ other) ≡ length t + length other =
      length-append t other in omega arith

  rests_alike : (j : ℕ) → Alike (drop j t ++ rest) (drop j t ++ other)
  rests_alike j = alike_append (drop j t) rest other alike

  head_same : (test : Item → Bool) (ts : List Item) → 0 < length ts →
      has_at test (ts ++ rest) 0 ≡ has_at test (ts ++ other) 0
  head_same test [] h = absurd (omega arith)
  head_same test (x ∷ ts) h = refl

  solid_same : (i : ℕ) → i < length t →
      follows_solid (t ++ rest) (suc i) ≡ follows_solid (before ++ (t ++ other)) (suc (length before + i))
  solid_same i h =
      let l : length (drop i t) ≡ length t - i = length-drop i t in
      next_at (λ item. not (is_discardable item)) i (t ++ rest) (drop i t ++ rest) (own_rest i (omega arith))
      ∙ (head_same (λ item. not (is_discardable item)) (drop i t) (omega arith)
      ∙ sym (next_at (λ item. not (is_discardable item)) (length before + i) (before ++ (t ++ other))
      (drop i t ++ other) (flat_rest i (omega arith))))

  same_break : (s s' : Bool) (xs ys zs ws : List Item) → s ≡ s' → xs ≡ zs → ys ≡ ws →
      break_of s zs ≡ break_of s ws → break_of s xs ≡ break_of s' ys
  same_break s s' xs ys zs ws p q r h =
      ap (break_of s) q ∙ (h ∙ (ap (break_of s) (sym r) ∙ ap (λ (b : Bool). break_of b ys) p))

  reads : Reads (t ++ rest) (before ++ (t ++ other)) (length before) (length t)
  reads = record {
    long = own_long (length t) (omega arith);
    text = λ j h. take-append-le j t rest h
        ∙ (sym (take-append-le j t other h) ∙ ap (take j) (sym (drop-append_seam before (t ++ other))));
    penalty = penalty;
    forced = λ j h. forced_by_rest (t ++ rest) j (own_long j h)
        ∙ (ap forced_of (own_rest j h) ∙ (forced_alike (drop j t ++ rest) (drop j t ++ other) (rests_alike j)
        ∙ (ap forced_of (sym (flat_rest j h))
        ∙ sym (forced_by_rest (before ++ (t ++ other)) (length before + j) (flat_long j h)))));
    spent = λ j h. ap (list_all is_discardable) (own_rest j h)
        ∙ (spent_alike (drop j t ++ rest) (drop j t ++ other) (rests_alike j) ∙ ap (list_all is_discardable)
        (sym (flat_rest j h)));
  }
    where
      penalty : (j : ℕ) → 1 ≤ j → j ≤ length t →
          break_penalty (t ++ rest) j ≡ break_penalty (before ++ (t ++ other)) (length before + j)
      penalty zero l h = absurd (omega arith)
      penalty (suc i) l h =
          let e : length before + suc i ≡ suc (length before + i) = omega arith in
          let s : follows_solid (t ++ rest) (suc i) ≡ follows_solid (before ++ (t ++ other))
          (length before + suc i) = solid_same i (omega arith)
          ∙ ap (follows_solid (before ++ (t ++ other))) (sym e) in
          break_by_rest (t ++ rest) (suc i) (own_long (suc i) h)
          ∙ (same_break (follows_solid (t ++ rest) (suc i))
          (follows_solid (before ++ (t ++ other)) (length before + suc i)) (drop (suc i) (t ++ rest))
          (drop (length before + suc i) (before ++ (t ++ other))) (drop (suc i) t ++ rest)
          (drop (suc i) t ++ other) s (own_rest (suc i) h) (flat_rest (suc i) h)
          (break_alike (follows_solid (t ++ rest) (suc i)) (drop (suc i) t ++ rest) (drop (suc i) t ++ other)
          (rests_alike (suc i)))
          ∙ sym (break_by_rest (before ++ (t ++ other)) (length before + suc i) (flat_long (suc i) h)))

reads_flat : (it : ColumnContext) (flat : List Item) (start n : ℕ) → size_of it ≡ Some n →
    Reads (items_of it) flat start n → ReadsFlat it flat start n
reads_flat it flat start n size r = record {
  size = size;
  text = r.text;
  penalty = r.penalty;
  forced = r.forced;
  spent = r.spent;
  segment = λ j h. ap trimmed (r.text j h);
  passes = λ over. all_same (λ (j : ℕ). not
      (is_some (break_penalty (items_of it) j) && list_any is_box (take j (items_of it)))
      || not (is_forced (items_of it) j || over j))
      (λ (j : ℕ). not (is_some (break_penalty flat (start + j)) && list_any is_box (take j (drop start flat)))
      || not (is_forced flat (start + j) || over j)) (range_with_len 1 (n - 1)) (each over);
}
  where
    same : (a a' : Option ℤ) (xs xs' : List Item) (f f' o : Bool) → a ≡ a' → xs ≡ xs' → f ≡ f' →
        (not (is_some a && list_any is_box xs) || not (f || o))
        ≡ (not (is_some a' && list_any is_box xs') || not (f' || o))
    same a a' xs xs' f f' o p q r = cc

    each : (over : ℕ → Bool) (j : ℕ) → Among j (range_with_len 1 (n - 1)) →
        (not (is_some (break_penalty (items_of it) j) && list_any is_box (take j (items_of it)))
        || not (is_forced (items_of it) j || over j))
        ≡ (not (is_some (break_penalty flat (start + j)) && list_any is_box (take j (drop start flat)))
        || not (is_forced flat (start + j) || over j))
    each over j a =
        let b = slot_below 1 (n - 1) j a in
        let l : 1 ≤ j = b.0 in
        let h : j < 1 + (n - 1) = b.1 in
        same (break_penalty (items_of it) j) (break_penalty flat (start + j)) (take j (items_of it))
        (take j (drop start flat)) (is_forced (items_of it) j) (is_forced flat (start + j)) (over j)
        (r.penalty j (omega arith) (omega arith)) (r.text j (omega arith)) (r.forced j (omega arith))

-- ---- the columns behind

pub picks_split : (ls ns : List PageMove) → picks_of (ls ++ ns) ≡ picks_of ns ++ picks_of ls
picks_split [] ns = sym (append-nil (picks_of ns))
picks_split (l ∷ ls) ns = ap (λ (xs : List ℕ). xs ++ l.column.picks) (picks_split ls ns)
    ∙ append_assoc (picks_of ns) (picks_of ls) l.column.picks

pub chained_tail : (doc : Document) (ls ns : List PageMove) → Chained doc (ls ++ ns) → Chained doc ns
chained_tail doc [] ns c = c
chained_tail doc (l ∷ ls) ns c = chained_tail doc ls ns c.1

module _ (doc : Document) (blocks : AllByRecursion IsBlock doc.blocks) where
  abbrev items_at : Place → List ℕ → List Item
  items_at at picks = map item_of (flat_items_at doc.blocks at picks)

  column_alike : (m : PageMove) (ms : List PageMove) (q : List ℕ) → Chained doc (m ∷ ms) →
      Alike (items_at m.column.to []) (items_at m.column.to q) →
      Alike (items_at (place_of ms) []) (items_at (place_of ms) (m.column.picks ++ q))
  column_alike m ms q c a = subst (λ (at : Place). Alike (items_at at []) (items_at at (m.column.picks ++ q)))
      from (by m.column.picks refl)
    where
      from : m.column.from ≡ place_of ms
      from = same_place m.column.from (place_of ms)
          (both_of (is_same_place m.column.from (place_of ms)) (does_fit (context doc m ms)) c.0).0

      by : (p : List ℕ) → p ≡ m.column.picks →
          Alike (items_at m.column.from []) (items_at m.column.from (m.column.picks ++ q))
      by [] e =
          let none : flat_items_at doc.blocks m.column.from []
          ≡ column_items (context doc m ms) ++ flat_items_at doc.blocks m.column.to [] =
          ap (λ (p : List ℕ). flat_items_at doc.blocks m.column.from (p ++ [])) e
          ∙ column_splits doc blocks m ms [] c in
          subst (λ (xs : List FlatItem). Alike (map item_of xs)
          (items_at m.column.from (m.column.picks ++ q))) (sym none)
          (subst (λ (ys : List FlatItem). Alike
          (map item_of (column_items (context doc m ms) ++ flat_items_at doc.blocks m.column.to []))
          (map item_of ys)) (sym (column_splits doc blocks m ms q c))
          (same_alike (column_items (context doc m ms)) (flat_items_at doc.blocks m.column.to [])
          (flat_items_at doc.blocks m.column.to q) a))
      by (y ∷ p) e =
          let f : Fits (context doc m ms) = fits_of (context doc m ms) (chain_fits doc blocks m ms c.0) in
          let named : length (picked_variants (blocks_at doc.blocks m.column.from) (y ∷ p)) ≡ suc (length p) =
          subst (λ (r : List ℕ). length (picked_variants (blocks_at doc.blocks m.column.from) r)
          ≡ length r) (sym e) f.named in
          subst (λ (r : List ℕ). Alike (items_at m.column.from []) (items_at m.column.from (r ++ q))) e
          (at_alike doc.blocks m.column.from y p (p ++ q) blocks named)

  behind_alike : (ls ns : List PageMove) (q : List ℕ) → Chained doc (ls ++ ns) →
      Alike (items_at (place_of (ls ++ ns)) []) (items_at (place_of (ls ++ ns)) q) →
      Alike (items_at (place_of ns) []) (items_at (place_of ns) (picks_of ls ++ q))
  behind_alike [] ns q c a = a
  behind_alike (l ∷ ls) ns q c a =
      subst (λ (r : List ℕ). Alike (items_at (place_of ns) []) (items_at (place_of ns) r))
      (sym (append_assoc (picks_of ls) l.column.picks q))
      (behind_alike ls ns (l.column.picks ++ q) c.1 (column_alike l (ls ++ ns) q c a))

  later_alike : (ls ns : List PageMove) → Chained doc (ls ++ ns) →
      Alike (items_at (place_of ns) []) (items_at (place_of ns) (picks_of ls))
  later_alike ls ns c = subst (λ (r : List ℕ). Alike (items_at (place_of ns) []) (items_at (place_of ns) r))
      (append-nil (picks_of ls)) (behind_alike ls ns [] c (alike_itself (items_at (place_of (ls ++ ns)) [])))

  -- ---- a column in the flat list

  column_long : (it : ColumnContext) (f : Fits it) → length (column_items it) ≡ f.size
  column_long it f = ap (λ (o : Option ℕ). length (option_map_or (λ (n : ℕ). take n (flat_items_of it)) o []))
      f.is ∙ length-take-le f.size (flat_items_of it)
      (within (stands_at it.document.blocks (flat_items_of it) it.column.to f.size f.is))
    where
      within : StandsAt it.document.blocks (flat_items_of it) f.size it.column.to →
          f.size ≤ length (flat_items_of it)
      within (inl (x, (at, is))) = let l : f.size < length (flat_items_of it) =
          slice_get_within (flat_items_of it) f.size x at in omega arith
      within (inr (e, t)) = omega arith

  module _ (behind : List PageMove) (m : PageMove) (ms : List PageMove) (c : Chained doc (behind ++ m ∷ ms))
    where
      here : Chained doc (m ∷ ms)
      here = chained_tail doc behind (m ∷ ms) c

      fits : Fits (context doc m ms)
      fits = fits_of (context doc m ms) (chain_fits doc blocks m ms here.0)

      -- the flat list before the column, of it and behind it
      whole : flat_items doc.blocks (picks_of (behind ++ m ∷ ms))
          ≡ passed doc ms ++ (column_items (context doc m ms) ++ flat_items_at doc.blocks m.column.to
          (picks_of behind))
      whole = ap (flat_items doc.blocks) (picks_split behind (m ∷ ms))
          ∙ (whole_splits doc blocks (m ∷ ms) (picks_of behind) here ∙ append_assoc (passed doc ms)
          (column_items (context doc m ms)) (flat_items_at doc.blocks m.column.to (picks_of behind)))

      own_items : items_of (context doc m ms) ≡ map item_of (column_items (context doc m ms)) ++ items_at
          m.column.to []
      own_items =
          ap (items_at m.column.from) (sym (append-nil m.column.picks))
          ∙ (ap (map item_of) (column_splits doc blocks m ms [] here)
          ∙ map-append item_of (column_items (context doc m ms)) (flat_items_at doc.blocks m.column.to []))

      flat_is : flat doc.blocks (picks_of (behind ++ m ∷ ms))
          ≡ map item_of (passed doc ms) ++ (map item_of (column_items (context doc m ms)) ++ items_at
          m.column.to (picks_of behind))
      flat_is =
          ap (map item_of) whole
          ∙ (map-append item_of (passed doc ms)
          (column_items (context doc m ms) ++ flat_items_at doc.blocks m.column.to (picks_of behind))
          ∙ ap (λ (xs : List Item). map item_of (passed doc ms) ++ xs)
          (map-append item_of (column_items (context doc m ms))
          (flat_items_at doc.blocks m.column.to (picks_of behind))))

      column_reads : Reads (items_of (context doc m ms)) (flat doc.blocks (picks_of (behind ++ m ∷ ms)))
          (length (passed doc ms)) fits.size
      column_reads =
          subst (λ (n : ℕ). Reads (items_of (context doc m ms)) (flat doc.blocks (picks_of (behind ++ m ∷ ms)))
          (length (passed doc ms)) n) (length-map (column_items (context doc m ms)) item_of
          ∙ column_long (context doc m ms) fits)
          (subst (λ (k : ℕ). Reads (items_of (context doc m ms)) (flat doc.blocks (picks_of (behind ++ m ∷ ms)))
          k (length (map item_of (column_items (context doc m ms))))) (length-map (passed doc ms) item_of)
          (subst (λ (ys : List Item). Reads (items_of (context doc m ms)) ys
          (length (map item_of (passed doc ms))) (length (map item_of (column_items (context doc m ms)))))
          (sym flat_is)
          (subst (λ (xs : List Item). Reads xs
          (map item_of (passed doc ms) ++ (map item_of (column_items (context doc m ms)) ++ items_at
          m.column.to (picks_of behind))) (length (map item_of (passed doc ms)))
          (length (map item_of (column_items (context doc m ms))))) (sym own_items)
          (reads (map item_of (passed doc ms)) (map item_of (column_items (context doc m ms)))
          (items_at m.column.to []) (items_at m.column.to (picks_of behind))
          (later_alike behind (m ∷ ms) c)))))

      starts : drop (length (passed doc ms)) (flat_items doc.blocks (picks_of (behind ++ m ∷ ms)))
          ≡ flat_items_at doc.blocks m.column.from (m.column.picks ++ picks_of behind)
      starts = ap (drop (length (passed doc ms))) whole
          ∙ (drop-append_seam (passed doc ms)
          (column_items (context doc m ms) ++ flat_items_at doc.blocks m.column.to (picks_of behind))
          ∙ sym (column_splits doc blocks m ms (picks_of behind) here))

      ends : drop (length (passed doc ms) + fits.size) (flat_items doc.blocks (picks_of (behind ++ m ∷ ms)))
          ≡ flat_items_at doc.blocks m.column.to (picks_of behind)
      ends =
          ap (drop (length (passed doc ms) + fits.size)) whole
          ∙ (drop-append-add (passed doc ms)
          (column_items (context doc m ms) ++ flat_items_at doc.blocks m.column.to (picks_of behind))
          fits.size
          ∙ (ap (λ (n : ℕ). drop n (column_items (context doc m ms) ++ flat_items_at doc.blocks m.column.to
          (picks_of behind))) (sym (column_long (context doc m ms) fits))
          ∙ drop-append_seam (column_items (context doc m ms))
          (flat_items_at doc.blocks m.column.to (picks_of behind))))

pub columns_read_flat : (g : GalleyValue) (s : StyleValue) → AreInRange g s → ColumnsReadFlat g s
columns_read_flat g s range plan behind m ms c e =
    subst (λ (ns : List PageMove). StandsInFlat g s behind m ms (picks_of ns)) (sym e)
    (inside (subst (Chained (document g s)) e c))
  where
    inside : Chained (document g s) (behind ++ m ∷ ms) →
        StandsInFlat g s behind m ms (picks_of (behind ++ m ∷ ms))
    inside d = record {
      start = length (passed (document g s) ms);
      n = (fits (document g s) range.blocks behind m ms d).size;
      starts = starts (document g s) range.blocks behind m ms d;
      ends = ends (document g s) range.blocks behind m ms d;
      reads = reads_flat (context (document g s) m ms) (flat g.blocks (picks_of (behind ++ m ∷ ms)))
          (length (passed (document g s) ms)) (fits (document g s) range.blocks behind m ms d).size
          (fits (document g s) range.blocks behind m ms d).is
          (column_reads (document g s) range.blocks behind m ms d);
    }
