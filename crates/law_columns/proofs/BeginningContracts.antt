-- The laws in the form of their contracts.
use Rattle.std.proofs.Common.{◌≡◌, refl, sym, ap, subst, ◌∙◌, ◌≤◌, ◌⊎◌, inl, inr, List, [], ◌∷◌, None}
use Rattle.std.specs.Prelude.{reverse, ℤ, ◌+ℤ◌}
use Rattle.std.specs.Cmp.{IsTotalOrder}
use Rattle.std.specs.Cmp.Lexicographic.{slice_cmp}
use Rattle.std.specs.declared.cmp.Ordering.TheVariants.{Equal}
use Rattle.std.proofs.lemmas.Cmp.{lists_total, on_total}
use Rattle.pg_list.specs.GalleyValue.{GalleyValue}
use Rattle.pg_plan.specs.declared.pages.PageMove.{PageMove}
use Rattle.pg_plan.specs.declared.pages.Pagination.{Pagination}
use Rattle.pg_plan.specs.declared.states.State.{State}
use Rattle.pg_plan.specs.Order.{columns, column_cmp, plan_cmp}
use Rattle.pg_style.specs.Values.{StyleValue}
use Rattle.pg_rules.specs.Cost.{cost, cost_of}
use Rattle.pg_rules.specs.Follow.{Follow}
use Rattle.pg_rules.specs.Legal.{breach, document}
use Rattle.pg_rules.specs.States.{Prefix, prefix_breach, state_of, state_at}
use Rattle.law_columns.specs.BeginningLaws.{BeginningsFollow, FollowersArePushed, Follows, KeepsBeginningRules, KeepsRules, LegalAreDone, OrderTellsApart, PrefixesKeepRules, UnbrokenKeepRules}
use Rattle.law_columns.specs.Pages.{plan_of}
use Rattle.pg_rules.specs.Ranges.{AreInRange}
use Rattle.law_columns.specs.Stands.{IsBeginning}
use Rattle.law_columns.proofs.Beginnings.{Facts, beginning_before}
use Rattle.law_columns.proofs.Faults.{Sound, none_unless, of_sound, sound_of, unless_none}
use Rattle.law_columns.proofs.GalleyFacts.{facts_of}
use Rattle.law_columns.proofs.Order.{columns_total}
use Rattle.law_columns.proofs.PagesLaws.{plan_back}
use Rattle.law_columns.proofs.Prefixes.{IsPlanOfColumns, columns_begin, columns_plan, done_is_legal, legal_done, legal_prefix, plan_is, prefix_sound}
use Rattle.law_columns.proofs.Push.{column_pays, follows, stands}
use Rattle.law_columns.proofs.StyleFacts.{has_tables}
use Rattle.pg_lemmas.proofs.Orders.{then_equal}
use Rattle.pg_plan.proofs.OrderLaws.{column_equal}

module _ (g : GalleyValue) (s : StyleValue) (range : AreInRange g s) where
  pub facts : Facts (document g s)
  facts = facts_of (document g s) range.blocks (has_tables (document g s) range.style_in)

  pub some : 1 ≤ s.columns
  some = range.style_in.columns_from

  -- ---- a column more

  pub pushed : FollowersArePushed g s
  unfolding state_of cost
  pushed plan m v c prefix follow =
      let b : IsBeginning (document g s) (columns plan) = columns_begin g s facts some plan prefix in
      let t = stands (document g s) m (columns plan) v c (has_tables (document g s) range.style_in) b.waits
      follow in
      let p : IsPlanOfColumns g s facts some (m ∷ columns plan) =
      columns_plan g s facts some (m ∷ columns plan) (record { stand = (t.0, b.stand); waits = t.1.0 }) in
      record {
        longer = plan_of s (m ∷ columns plan);
        prefix = p.prefix;
        columns = p.columns_are;
        state = p.state ∙ sym t.1.1.0;
        cost = p.price ∙ ap (λ (z : ℤ). cost_of (document g s) (columns plan) +ℤ z) (sym t.1.1.1);
      }

  plan_parts : (p : Pagination) (ms : List PageMove) → columns p ≡ ms → Prefix g s p → plan_of s ms ≡ p
  plan_parts p ms e prefix = ap (plan_of s) (sym e) ∙ plan_is g s facts some p prefix

  pub beginnings_follow : BeginningsFollow g s
  unfolding state_of cost
  beginnings_follow longer prefix = by (columns longer) refl
    where
      by : (ms : List PageMove) → ms ≡ columns longer → (longer.pages ≡ []) ⊎ Follows g s longer
      by [] e = inl (ap (λ (p : Pagination). p.pages) (sym (plan_parts longer [] (sym e) prefix)))
      by (m ∷ ms) e =
          let b : IsBeginning (document g s) (m ∷ ms) =
          subst (IsBeginning (document g s)) (sym e) (columns_begin g s facts some longer prefix) in
          let p : IsPlanOfColumns g s facts some ms =
          columns_plan g s facts some ms (beginning_before (document g s) facts m ms b) in
          let f : Follow (document g s) (state_at (document g s) ms) m (state_at (document g s) (m ∷ ms))
          (column_pays (document g s) m ms) = follows (document g s) m ms b.stand.0 b.waits in
          inr (record {
            plan = plan_of s ms;
            prefix = p.prefix;
            last = m;
            pays = column_pays (document g s) m ms;
            columns = sym e ∙ ap (λ (ns : List PageMove). m ∷ ns) (sym p.columns_are);
            follow = subst (λ (u : State). Follow (document g s) u m
                (state_at (document g s) (columns longer)) (column_pays (document g s) m ms)) (sym p.state)
                (subst (λ (ns : List PageMove). Follow (document g s) (state_at (document g s) ms) m
                (state_at (document g s) ns) (column_pays (document g s) m ms)) e f);
            cost = ap (cost_of (document g s)) (sym e) ∙ ap (λ (z : ℤ). z +ℤ column_pays (document g s) m ms)
                (sym p.price);
          })

  -- ---- faults

  pub unbroken_keep_rules : UnbrokenKeepRules g s
  unfolding breach
  unbroken_keep_rules plan = (to, back)
    where
      to : breach g s plan ≡ None → KeepsRules g s plan
      to e =
          let a : Sound (document g s) (reverse plan.pages) (columns plan) _ _ =
          sound_of (document g s) (reverse plan.pages) (columns plan) _ _ e in
          record {
            filled = a.filled;
            stand = a.stand;
            spent = unless_none _ _ a.ended;
            dealt =
                unless_none _ _ a.dealt;
          }

      back : KeepsRules g s plan → breach g s plan ≡ None
      back k = of_sound (document g s) (reverse plan.pages) (columns plan) _ _
          (record {
            filled = k.filled;
            stand = k.stand;
            ended = none_unless _ _ k.spent;
            dealt =
                none_unless _ _ k.dealt;
          })

  pub prefixes_keep_rules : PrefixesKeepRules g s
  unfolding prefix_breach
  prefixes_keep_rules plan = (to, back)
    where
      to : Prefix g s plan → KeepsBeginningRules g s plan
      to p = let a : Sound (document g s) (reverse plan.pages) (columns plan) None None =
          prefix_sound g s facts some plan p in
          record { filled = a.filled; stand = a.stand; waits = p.can_wait }

      back : KeepsBeginningRules g s plan → Prefix g s plan
      back k = record {
        unbroken = of_sound (document g s) (reverse plan.pages) (columns plan) None None
            (record { filled = k.filled; stand = k.stand; ended = refl; dealt = refl });
        can_wait = k.waits;
      }

  pub legal_are_done : LegalAreDone g s
  legal_are_done plan = (
    λ l. (legal_prefix g s facts some plan l, legal_done g s facts some plan l),
    λ p. done_is_legal g s facts some plan p.0 p.1,
  )

-- ---- order

pub plans_total : IsTotalOrder plan_cmp
plans_total = on_total columns (lists_total columns_total)

lists_equal : (xs ys : List PageMove) → slice_cmp column_cmp xs ys ≡ Equal → xs ≡ ys
lists_equal [] [] e = refl
lists_equal [] (y ∷ ys) e = absurd cc
lists_equal (x ∷ xs) [] e = absurd cc
lists_equal (x ∷ xs) (y ∷ ys) e = let t = then_equal (column_cmp x y) (slice_cmp column_cmp xs ys) e in
    let p : x ≡ y = column_equal x y t.0 in let q : xs ≡ ys = lists_equal xs ys t.1 in cc

pub tells_apart : (s : StyleValue) → OrderTellsApart s
tells_apart s p q fp fq e =
    let same : columns p ≡ columns q = lists_equal (columns p) (columns q) e in
    sym (plan_back s p fp) ∙ (ap (plan_of s) same ∙ plan_back s q fq)
