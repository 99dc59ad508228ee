-- What a filled table tells of ways.
use Rattle.std.proofs.Common.{◌≡◌, refl, sym, ap, subst, ◌∙◌, ℕ, ◌+◌, ◌≤◌, ◌⊎◌, inl, inr, List, length, true, arith}
use Rattle.std.specs.Prelude.{ℤ, ◌<ℤ◌, Contains}
use Rattle.std.proofs.lemmas.Int.{ints}
use Rattle.pg_table.specs.Space.{Lawful, Reached, Run}
use Rattle.pg_table.specs.Label.{RunOf, IsTable, Covered}
use Rattle.pg_table.specs.declared.table.Entry.{Entry}
use Rattle.pg_table.proofs.Labels.{label_run, one_run}
use Rattle.pg_table.specs.Narrower.{IsNarrower}
use Rattle.std.specs.Ordering.{is_gt}
use Rattle.std.proofs.lemmas.Cmp.{nat_cmp_total, tied_itself}
use Rattle.pg_table.proofs.Top.{labels_differ}
use Rattle.pg_hlist.specs.declared.item.HItem.{HItem}
use Rattle.pg_hlist.specs.Items.{IsPara}
use Rattle.law_lines.specs.declared.rule.LineRule.{LineRule}
use Rattle.law_lines.specs.Ways.{start_of, is_way, demerits, IsBestWay, IsLeastWay, IsNoLater}
use Rattle.law_lines.proofs.Listed.{lines_few}
use Rattle.law_lines.specs.declared.state.LineState.{LineState}
use Rattle.law_lines.specs.LineSpace.{IsLow, NextLine, is_done, is_same_state, line_meaning, line_state}
use Rattle.law_lines.specs.LineSpaceLaws.{AreLines, IsCheapest, IsToldOf, TellsLeast, TellsWays}
use Rattle.law_lines.proofs.SpaceLaws.{lines_lawful, same_state}
use Rattle.law_lines.proofs.Ways.{IsWhole, whole_of, way_of, done_whole, end_done, length_some, lines_of_run, run_of_lines}

module _ (rule : LineRule) (para : List HItem) (low : ℕ → ℕ) (most : ℕ) (whole : IsPara para) (is_low : IsLow rule para low)
    (es : List (Entry LineState ℕ))
    (table : IsTable (line_meaning rule para low most) es) where
  law : Lawful is_same_state (line_meaning rule para low most)
  law = lines_lawful rule para low most whole

  narrower : IsNarrower (line_meaning rule para low most) (NextLine rule para low most)
  narrower = record {
    inside = λ u k v c f. f;
    instead = λ u k v c o f. record {
      move = k;
      cost = c;
      follow = f;
      undercuts = inr (refl, ap is_gt (tied_itself nat_cmp_total k));
    };
    same = λ u v k x y c d ou ov p f g. g;
  }

  run_at : (e : Entry LineState ℕ) (way : List ℕ) → Contains es e → RunOf es e way →
      Run (line_meaning rule para low most) way e.state e.cost
  run_at e way among of = label_run (line_meaning rule para low most) es e way (table.labels e among) of

  abbrev reached_by : List ℕ → Reached LineState ℕ
  reached_by way = record {
    moves = way;
    state = line_state (start_of way) (length way);
    cost = demerits rule para way;
  }

  -- a legal way of no more lines than the most is a run
  within : (way : List ℕ) → IsWhole rule para low most is_low way → length way ≤ most →
      length way + low (start_of way) ≤ most
  within way w f = let e : low (start_of way) ≡ 0 = ap low w.ends ∙ is_low.end in omega arith

  covered : (way : List ℕ) → IsWhole rule para low most is_low way → length way ≤ most →
      Covered (line_meaning rule para low most) es (reached_by way)
  covered way w f = table.covered (reached_by way) (run_of_lines rule para low most is_low way w.keeps (within way w f))

  -- the label that covers a way has its state
  covers_state : (way : List ℕ) (w : IsWhole rule para low most is_low way) (f : length way ≤ most) →
      (covered way w f).entry.state ≡ line_state (length para) (length way)
  covers_state way w f =
      same_state (covered way w f).entry.state (line_state (start_of way) (length way)) (covered way w f).better.no_worse
      ∙ ap (λ (i : ℕ). line_state i (length way)) w.ends

  -- a label undercuts each way that ends in its state
  undercuts : (e : Entry LineState ℕ) (way : List ℕ) → Contains es e → RunOf es e way → (other : List ℕ)
      (w : IsWhole rule para low most is_low other) → length other ≤ most → e.state ≡ line_state (length para) (length other) →
      IsNoLater e.cost way (demerits rule para other) other
  undercuts e way among of other w f same =
      let k : Covered (line_meaning rule para low most) es (reached_by other) = covered other w f in
      let s : e.state ≡ k.entry.state = same ∙ sym (covers_state other w f) in
      let one : e ≡ k.entry = labels_differ is_same_state (line_meaning rule para low most) law (NextLine rule para low most)
      narrower es table e k.entry among k.among s in
      let moves : way ≡ k.moves = one_run es k.entry way k.moves (subst (λ (x : Entry LineState ℕ). RunOf es x way)
      one of) k.run_of in
      subst (λ (c : ℤ). IsNoLater c way (demerits rule para other) other)
      (sym (ap (λ (x : Entry LineState ℕ). x.cost) one))
      (subst (λ (ms : List ℕ). IsNoLater k.entry.cost ms (demerits rule para other) other) (sym moves)
      k.better.undercuts)

  pub tells_least : (e : Entry LineState ℕ) (way : List ℕ) → Contains es e → is_done para e.state ≡ true →
      RunOf es e way → TellsLeast rule para e way
  tells_least e way among done of =
      let a : AreLines rule para low most way e.state e.cost = lines_of_run rule para low most is_low way e.state e.cost (run_at e way among of) in
      let w : IsWhole rule para low most is_low way = done_whole rule para low most is_low way e.state e.cost a done in
      let l : e.state.lines ≡ length way = ap (λ (s : LineState). s.lines) a.state in
      let s : e.state ≡ line_state (length para) (length way) =
      a.state ∙ ap (λ (i : ℕ). line_state i (length way)) w.ends in
      record {
        least = record {
          legal = way_of rule para low most is_low way w;
          lines = sym l;
          least = λ other h n. subst (λ (c : ℤ). IsNoLater c way (demerits rule para other) other) a.cost
              (undercuts e way among of other (whole_of rule para low most is_low other h)
              (let g : length way + low (start_of way) ≤ most =
              a.fits (length_some rule para low most is_low way w.some) in omega arith)
              (s ∙ ap (line_state (length para)) (sym (n ∙ l))));
        };
        cost = a.cost;
      }

  -- what is told of a legal way
  told : (way : List ℕ) → is_way rule para way ≡ true → length way ≤ most → IsToldOf para es (length way)
  told way h f = let w : IsWhole rule para low most is_low way = whole_of rule para low most is_low way h in record {
    entry = (covered way w f).entry;
    among = (covered way w f).among;
    state = covers_state way w f;
  }

  covered_done : (way : List ℕ) (w : IsWhole rule para low most is_low way) (f : length way ≤ most) →
      is_done para (covered way w f).entry.state ≡ true
  covered_done way w f = subst (λ (s : LineState). is_done para s ≡ true) (sym (covers_state way w f))
      (end_done rule para low most is_low (length way) w.some)

  few : (way : List ℕ) → IsWhole rule para low most is_low way → length para ≤ most → length way ≤ most
  few way w p = let l : length way ≤ start_of way = lines_few rule para way w.keeps in
      let e : start_of way ≡ length para = w.ends in omega arith

  pub tells_best : (e : Entry LineState ℕ) (way : List ℕ) → Contains es e → is_done para e.state ≡ true →
      RunOf es e way → length para ≤ most → IsCheapest para es e → IsBestWay rule para way
  tells_best e way among done of p cheapest =
      let t : TellsLeast rule para e way = tells_least e way among done of in
      let l : length way ≡ e.state.lines = t.least.lines in
      record {
        least = subst (λ (n : ℕ). IsLeastWay rule para n way) (sym l) t.least;
        best = λ other h. (let w : IsWhole rule para low most is_low other = whole_of rule para low most is_low other h in
            let f : length other ≤ most = few other w p in
            let k : Covered (line_meaning rule para low most) es (reached_by other) = covered other w f in
            let n : k.entry.state.lines ≡ length other = ap (λ (s : LineState). s.lines) (covers_state other w f) in
            chain e.cost k.entry.cost (demerits rule para other) (demerits rule para way) e.state.lines
            k.entry.state.lines (length way) (length other) k.moves other t.cost l n
            (cheapest k.entry k.among (covered_done other w f)) k.better.undercuts);
      }
    where
      chain : (c k d x : ℤ) (l m i j : ℕ) (ms ns : List ℕ) → c ≡ x → i ≡ l → m ≡ j →
          (c <ℤ k) ⊎ ((c ≡ k) × (l ≤ m)) → IsNoLater k ms d ns → (x <ℤ d) ⊎ ((x ≡ d) × (i ≤ j))
      chain c k d x l m i j ms ns e f g (inl p) (inl q) = inl (omega (arith, ints))
      chain c k d x l m i j ms ns e f g (inl p) (inr q) = inl (let r : k ≡ d = q.0 in omega (arith, ints))
      chain c k d x l m i j ms ns e f g (inr p) (inl q) = inl (let r : c ≡ k = p.0 in omega (arith, ints))
      chain c k d x l m i j ms ns e f g (inr p) (inr q) =
          inr (sym e ∙ (p.0 ∙ q.0), (let h : l ≤ m = p.1 in omega arith))

  pub tells_ways : TellsWays rule para low most es
  tells_ways = record {
    least = tells_least;
    all = told;
    none = λ n m gone way h l. (let f : length way ≤ most = omega arith in
        gone (told way h f).entry (told way h f).among ((told way h f).state ∙ ap (line_state (length para)) l));
    best = tells_best;
    cannot = λ p none way h. (let w : IsWhole rule para low most is_low way = whole_of rule para low most is_low way h in
        let f : length way ≤ most = few way w p in
        none.none (covered way w f).entry (covered way w f).among (covered_done way w f));
  }
