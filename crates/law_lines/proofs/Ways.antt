-- Runs and ways.
use Rattle.std.proofs.Common.{◌≡◌, refl, sym, ap, subst, ◌∙◌, ℕ, ◌+◌, ◌≤◌, ◌<◌, List, [], ◌∷◌, length, true, arith}
use Rattle.std.specs.Prelude.{◌&&◌, ◌==◌, nat_lt, ℤ, ◌+ℤ◌}
use Rattle.pg_table.specs.Space.{Run}
use Rattle.pg_hlist.specs.declared.item.HItem.{HItem}
use Rattle.law_lines.specs.declared.rule.LineRule.{LineRule}
use Rattle.law_lines.specs.Lines.{is_line, line_demerits}
use Rattle.law_lines.specs.Ways.{start_of, keeps_lines, is_some_line, is_way, demerits}
use Rattle.pg_lemmas.proofs.Bools.{both, both_of}
use Rattle.pg_lemmas.proofs.Numbers.{less_true, less_of, eq_yes}
use Rattle.law_lines.proofs.Tests.{eq_true}
use Rattle.law_lines.specs.declared.state.LineState.{LineState}
use Rattle.law_lines.specs.LineSpace.{IsLow, is_done, line_meaning, line_state}
use Rattle.law_lines.specs.LineSpaceLaws.{AreLines, RunsAreLines}

module _ (rule : LineRule) (para : List HItem) (low : ℕ → ℕ) (most : ℕ) (is_low : IsLow rule para low) where
  pub lines_of_run : (way : List ℕ) (v : LineState) (c : ℤ) → Run (line_meaning rule para low most) way v c →
      AreLines rule para low most way v c
  lines_of_run [] v c (e, z) = record { keeps = refl; state = e; cost = z; fits = λ h. absurd cc }
  lines_of_run (k ∷ way) v c (u, (n, d, (run, step, sum))) = more (lines_of_run way u n run)
    where
      more : AreLines rule para low most way u n → AreLines rule para low most (k ∷ way) v c
      more a =
          let i : u.index ≡ start_of way = ap (λ (s : LineState). s.index) a.state in
          let l : u.lines ≡ length way = ap (λ (s : LineState). s.lines) a.state in
          let m : u.lines + 1 ≡ length (k ∷ way) = omega arith in
          record {
            keeps = both (keeps_lines rule para way) (is_line rule para (start_of way) k) a.keeps
                (subst (λ (j : ℕ). is_line rule para j k ≡ true) i step.stands);
            state = step.to ∙ ap (line_state k) m;
            cost = sum ∙ costs n d (demerits rule para way) (line_demerits rule para (start_of way) k) a.cost
                (step.price ∙ ap (λ (j : ℕ). line_demerits rule para j k) i);
            fits = λ h. (let g : u.lines + 1 + low k ≤ most = step.fits in omega arith);
          }
        where
          costs : (n d x y : ℤ) → n ≡ x → d ≡ y → n +ℤ d ≡ x +ℤ y
          costs n d x y p q = cc

  pub run_of_lines : (way : List ℕ) → keeps_lines rule para way ≡ true → length way + low (start_of way) ≤ most →
      Run (line_meaning rule para low most) way (line_state (start_of way) (length way)) (demerits rule para way)
  run_of_lines [] h g = (refl, refl)
  run_of_lines (k ∷ way) h g =
      let t = both_of (keeps_lines rule para way) (is_line rule para (start_of way) k) h in
      let m : length way + 1 ≡ length (k ∷ way) = omega arith in
      let f : low (start_of way) ≤ low k + 1 = is_low.falls (start_of way) k t.1 in (
        line_state (start_of way) (length way),
        (
          demerits rule para way,
          line_demerits rule para (start_of way) k,
          (run_of_lines way t.0 (omega arith), record { stands = t.1; fits = omega arith; to = ap (line_state k) (sym m); price = refl }, refl),
        ),
      )

  pub runs_and_lines : RunsAreLines rule para low most
  runs_and_lines = record { lines = lines_of_run; runs = run_of_lines }

  -- ---- whole ways

  some_length : (way : List ℕ) → is_some_line way ≡ true → 0 < length way
  some_length [] e = absurd cc
  some_length (k ∷ way) e = omega arith

  pub length_some : (way : List ℕ) → 0 < length way → is_some_line way ≡ true
  length_some [] e = absurd (omega arith)
  length_some (k ∷ way) e = refl

  -- what a legal way is
  pub record IsWhole (way : List ℕ) : Type 0 where
    pub some : 0 < length way
    pub keeps : keeps_lines rule para way ≡ true
    pub ends : start_of way ≡ length para

  pub whole_of : (way : List ℕ) → is_way rule para way ≡ true → IsWhole way
  whole_of way h =
      let s = both_of (is_some_line way) (keeps_lines rule para way && (start_of way == length para)) h in
      let t = both_of (keeps_lines rule para way) (start_of way == length para) s.1 in
      record { some = some_length way s.0; keeps = t.0; ends = eq_true (start_of way) (length para) t.1 }

  pub way_of : (way : List ℕ) → IsWhole way → is_way rule para way ≡ true
  way_of way w = both (is_some_line way) (keeps_lines rule para way && (start_of way == length para))
      (length_some way w.some) (both (keeps_lines rule para way) (start_of way == length para) w.keeps
      (eq_yes (start_of way) (length para) w.ends))

  -- a run that ends done is a legal way, and a legal way is one
  pub done_whole : (way : List ℕ) (v : LineState) (c : ℤ) → AreLines rule para low most way v c → is_done para v ≡ true →
      IsWhole way
  done_whole way v c a d =
      let t = both_of (v.index == length para) (nat_lt 0 v.lines) d in
      let i : v.index ≡ start_of way = ap (λ (s : LineState). s.index) a.state in
      let l : v.lines ≡ length way = ap (λ (s : LineState). s.lines) a.state in
      let e : v.index ≡ length para = eq_true v.index (length para) t.0 in
      let p : 0 < v.lines = less_true 0 v.lines t.1 in
      record { some = omega arith; keeps = a.keeps; ends = sym i ∙ e }

  pub end_done : (n : ℕ) → 0 < n → is_done para (line_state (length para) n) ≡ true
  end_done n h = both (length para == length para) (nat_lt 0 n) (eq_yes (length para) (length para) refl) (less_of 0 n h)
