-- The layouts are all with which a column may follow, each once.
use Rattle.std.proofs.Common.{◌≡◌, ◌≢◌, refl, sym, ap, subst, ◌∙◌, ℕ, ◌+◌, ◌<◌, inl, inr, List, [], ◌∷◌, length, Bool, true, false, Option, arith}
use Rattle.std.specs.Prelude.{◌==◌, if◌then◌else◌}
use Rattle.std.specs.List.{flat_map, range_with_len}
use Rattle.pg_plan.specs.declared.states.State.{State}
use Rattle.pg_style.specs.Values.{StyleValue}
use Rattle.pg_style.specs.declared.style.Area.{Area}
use Rattle.pg_rules.specs.Floats.{float_numbers, is_area_allowed, plus_counts, takes_bottom, takes_in_column, takes_top, takes_wide, total_count}
use Rattle.pg_rules.specs.Room.{Document}
use Rattle.law_columns.proofs.Waiting.{slot_below}
use Rattle.law_places.proofs.Among.{Among}
use Rattle.pg_lemmas.proofs.Bools.{by_bool, if_false, if_true}
use Rattle.pg_lemmas.proofs.Numbers.{eq_refl}
use Rattle.std.proofs.lemmas.Bool.{eqb-true}
use Rattle.pg_layouts.specs.declared.layout.Layout.{Layout}
use Rattle.pg_layouts.specs.Layouts.{area_lists, float_layouts, layout_of, limits, runs_of, takes_run, text_layouts, wides_of, with_bottoms, with_floats, with_tops, zeros}
use Rattle.law_places.proofs.Members.{below_in, in_filter, in_flat, in_map, of_filter, of_flat, of_map}
use Rattle.law_places.proofs.Pairs.{Pairs, pairs_filter, pairs_flat, pairs_map, pairs_weaker, range_apart}
use Rattle.pg_layouts.proofs.CountLists.{count_lists_apart}
use Rattle.pg_layouts.proofs.Areas.{Below, IsOfArea, in_area, of_area, slots_long, zeros_are, zeros_total, zeros_entry}

-- ---- runs

pub record IsRunFor (style : StyleValue) (must : Option ℕ) (run : ℕ) : Type 0 where
  pub within : run < length style.runs
  pub taken : takes_run must run ≡ true

of_runs : (style : StyleValue) (must : Option ℕ) (run : ℕ) → Among run (runs_of style must) →
    IsRunFor style must run
of_runs style must run a =
    let r = of_filter (takes_run must) (range_with_len 0 (length style.runs)) run a in
    let s = slot_below 0 (length style.runs) run r.0 in
    let p : run < 0 + length style.runs = s.1 in
    record { within = omega arith; taken = r.1 }

runs_apart : (style : StyleValue) (must : Option ℕ) → Pairs (λ (a b : ℕ). a < b) (runs_of style must)
runs_apart style must = pairs_filter (λ (a b : ℕ). a < b) (takes_run must) (range_with_len 0 (length style.runs))
    (range_apart 0 (length style.runs))

area_apart : (style : StyleValue) (takes : Area → Bool) (most : ℕ) (before ceiling : List ℕ) →
    Pairs (λ a b. a ≢ b) (area_lists style takes most before ceiling)
area_apart style takes most before ceiling = count_lists_apart most (limits style takes before ceiling)

-- ---- wide counts

pub record AreWide (doc : Document) (u : State) (ceiling wide : List ℕ) : Type 0 where
  pub long : length wide ≡ length (float_numbers doc.style)
  pub counts : (if u.column == 1 then is_area_allowed doc.style takes_wide doc.style.wide.count wide
      else total_count wide == 0) ≡ true
  pub below : Below doc.style u.placed wide ceiling

of_wides : (doc : Document) (u : State) (ceiling wide : List ℕ) → Among wide (wides_of doc u ceiling) →
    AreWide doc u ceiling wide
of_wides doc u ceiling wide a = by_bool (u.column == 1)
    (λ t. first t (of_area doc.style takes_wide doc.style.wide.count u.placed ceiling wide
    (subst (Among wide) (if_true (u.column == 1) _ _ t) a)))
    (λ f. second f (subst (Among wide) (if_false (u.column == 1) _ _ f) a))
  where
    first : (u.column == 1) ≡ true → IsOfArea doc.style takes_wide doc.style.wide.count u.placed ceiling wide →
        AreWide doc u ceiling wide
    first t o = record { long = o.long; counts = if_true (u.column == 1) _ _ t ∙ o.allowed; below = o.below }

    second : (u.column == 1) ≡ false → Among wide (zeros doc.style ∷ []) → AreWide doc u ceiling wide
    second f (inl e) = record {
      long = subst (λ (counts : List ℕ). length counts ≡ length (float_numbers doc.style)) e
          (slots_long doc.style (λ (slot : ℕ). 0));
      counts = if_false (u.column == 1) _ _ f
          ∙ subst (λ (counts : List ℕ). (total_count counts == 0) ≡ true) e
          (subst (λ (n : ℕ). (n == 0) ≡ true) (sym (zeros_total doc.style)) (eq_refl 0));
      below = subst (λ (counts : List ℕ). Below doc.style u.placed counts ceiling) e
          (λ slot h k. absurd (let z : _ ≡ 0 = zeros_entry doc.style slot h in omega (arith, z)));
    }
    second f (inr a) = absurd a

in_wides : (doc : Document) (u : State) (ceiling wide : List ℕ) → AreWide doc u ceiling wide →
    Among wide (wides_of doc u ceiling)
in_wides doc u ceiling wide w = by_bool (u.column == 1)
    (λ t. subst (Among wide) (sym (if_true (u.column == 1) _ _ t))
    (in_area doc.style takes_wide doc.style.wide.count u.placed ceiling wide
    (sym (if_true (u.column == 1) _ _ t) ∙ w.counts) w.below))
    (λ f. subst (Among wide) (sym (if_false (u.column == 1) _ _ f))
    (inl (sym (zeros_are doc.style wide w.long
    (eqb-true (total_count wide) 0 (sym (if_false (u.column == 1) _ _ f) ∙ w.counts))))))

wides_apart : (doc : Document) (u : State) (ceiling : List ℕ) → Pairs (λ a b. a ≢ b) (wides_of doc u ceiling)
wides_apart doc u ceiling = by (u.column == 1)
  where
    by : (b : Bool) → Pairs (λ a b. a ≢ b)
        (if b then area_lists doc.style takes_wide doc.style.wide.count u.placed ceiling else zeros doc.style ∷ [])
    by true = area_apart doc.style takes_wide doc.style.wide.count u.placed ceiling
    by false = (λ y a. absurd a, tt)

-- ---- layouts of text

pub record IsTextLayout (doc : Document) (u : State) (ceiling : List ℕ) (layout : Layout) : Type 0 where
  pub run : IsRunFor doc.style u.run layout.run
  pub wide : AreWide doc u ceiling layout.wide
  pub top : IsOfArea doc.style takes_top doc.style.top.count (plus_counts doc.style u.placed layout.wide) ceiling
      layout.top
  pub bottom : IsOfArea doc.style takes_bottom doc.style.bottom.count
      (plus_counts doc.style (plus_counts doc.style u.placed layout.wide) layout.top) ceiling layout.bottom

pub in_text_layouts : (doc : Document) (u : State) (ceiling : List ℕ) (layout : Layout) →
    IsTextLayout doc u ceiling layout → Among layout (text_layouts doc u ceiling)
in_text_layouts doc u ceiling layout l =
    in_flat _ (runs_of doc.style u.run) layout.run layout
    (in_filter (takes_run u.run) (range_with_len 0 (length doc.style.runs)) layout.run
    (below_in (length doc.style.runs) layout.run l.run.within) l.run.taken)
    (in_flat (with_tops doc.style u.placed ceiling layout.run) (wides_of doc u ceiling) layout.wide layout
    (in_wides doc u ceiling layout.wide l.wide)
    (in_flat (with_bottoms doc.style u.placed ceiling layout.run layout.wide) _ layout.top layout
    (in_area doc.style takes_top doc.style.top.count (plus_counts doc.style u.placed layout.wide) ceiling layout.top
    l.top.allowed l.top.below)
    (in_map (layout_of layout.run layout.wide layout.top) _ layout.bottom
    (in_area doc.style takes_bottom doc.style.bottom.count
    (plus_counts doc.style (plus_counts doc.style u.placed layout.wide) layout.top) ceiling layout.bottom
    l.bottom.allowed l.bottom.below))))

pub of_text_layouts : (doc : Document) (u : State) (ceiling : List ℕ) (layout : Layout) →
    Among layout (text_layouts doc u ceiling) → IsTextLayout doc u ceiling layout
of_text_layouts doc u ceiling layout a = of_flat _ (runs_of doc.style u.run) layout a
    (λ run b c. of_flat (with_tops doc.style u.placed ceiling run) (wides_of doc u ceiling) layout c
    (λ wide d e. of_flat (with_bottoms doc.style u.placed ceiling run wide) _ layout e
    (λ top f g. of_map (layout_of run wide top) _ layout g
    (λ bottom h i. subst (IsTextLayout doc u ceiling) i (record {
      run = of_runs doc.style u.run run b;
      wide = of_wides doc u ceiling wide d;
      top = of_area doc.style takes_top doc.style.top.count (plus_counts doc.style u.placed wide) ceiling top f;
      bottom = of_area doc.style takes_bottom doc.style.bottom.count
          (plus_counts doc.style (plus_counts doc.style u.placed wide) top) ceiling bottom h;
    })))))

-- the parts by which members of the lists within one another are told apart
bottoms_top : (style : StyleValue) (placed ceiling : List ℕ) (run : ℕ) (wide top : List ℕ) (layout : Layout) →
    Among layout (with_bottoms style placed ceiling run wide top) → layout.top ≡ top
bottoms_top style placed ceiling run wide top layout a = of_map (layout_of run wide top) _ layout a
    (λ bottom b e. ap (λ (l : Layout). l.top) (sym e))

tops_wide : (style : StyleValue) (placed ceiling : List ℕ) (run : ℕ) (wide : List ℕ) (layout : Layout) →
    Among layout (with_tops style placed ceiling run wide) → layout.wide ≡ wide
tops_wide style placed ceiling run wide layout a =
    of_flat (with_bottoms style placed ceiling run wide) _ layout a
    (λ top b c. of_map (layout_of run wide top) _ layout c (λ bottom d e. ap (λ (l : Layout). l.wide) (sym e)))

wides_run : (doc : Document) (u : State) (ceiling : List ℕ) (run : ℕ) (layout : Layout) →
    Among layout (flat_map (with_tops doc.style u.placed ceiling run) (wides_of doc u ceiling)) →
    layout.run ≡ run
wides_run doc u ceiling run layout a = of_flat (with_tops doc.style u.placed ceiling run) _ layout a
    (λ wide b c. of_flat (with_bottoms doc.style u.placed ceiling run wide) _ layout c
    (λ top d e. of_map (layout_of run wide top) _ layout e (λ bottom f g. ap (λ (l : Layout). l.run) (sym g))))

bottoms_apart : (style : StyleValue) (placed ceiling : List ℕ) (run : ℕ) (wide top : List ℕ) →
    Pairs (λ (a b : Layout). a ≢ b) (with_bottoms style placed ceiling run wide top)
bottoms_apart style placed ceiling run wide top =
    let lists : List (List ℕ) = area_lists style takes_bottom style.bottom.count
    (plus_counts style (plus_counts style placed wide) top) ceiling in
    pairs_map (λ (a b : Layout). a ≢ b) (layout_of run wide top) lists
    (pairs_weaker (λ (a b : List ℕ). a ≢ b)
    (λ (a b : List ℕ). layout_of run wide top a ≢ layout_of run wide top b) lists
    (λ x y b c h e. h (ap (λ (k : Layout). k.bottom) e))
    (area_apart style takes_bottom style.bottom.count (plus_counts style (plus_counts style placed wide) top) ceiling))

tops_apart : (style : StyleValue) (placed ceiling : List ℕ) (run : ℕ) (wide : List ℕ) →
    Pairs (λ (a b : Layout). a ≢ b) (with_tops style placed ceiling run wide)
tops_apart style placed ceiling run wide =
    pairs_flat (λ (a b : Layout). a ≢ b) (with_bottoms style placed ceiling run wide)
    (area_lists style takes_top style.top.count (plus_counts style placed wide) ceiling)
    (λ top a. bottoms_apart style placed ceiling run wide top)
    (pairs_weaker (λ (a b : List ℕ). a ≢ b) _
    (area_lists style takes_top style.top.count (plus_counts style placed wide) ceiling)
    (λ x y b c h l m d e f. h (sym (bottoms_top style placed ceiling run wide x l d)
    ∙ ap (λ (k : Layout). k.top) f ∙ bottoms_top style placed ceiling run wide y m e))
    (area_apart style takes_top style.top.count (plus_counts style placed wide) ceiling))

pub text_layouts_apart : (doc : Document) (u : State) (ceiling : List ℕ) →
    Pairs (λ (a b : Layout). a ≢ b) (text_layouts doc u ceiling)
text_layouts_apart doc u ceiling = pairs_flat (λ (a b : Layout). a ≢ b) _ (runs_of doc.style u.run)
    (λ run a. pairs_flat (λ (a b : Layout). a ≢ b) (with_tops doc.style u.placed ceiling run)
    (wides_of doc u ceiling) (λ wide b. tops_apart doc.style u.placed ceiling run wide)
    (pairs_weaker (λ (a b : List ℕ). a ≢ b) _ (wides_of doc u ceiling)
    (λ w x b c h l m d e f. h (sym (tops_wide doc.style u.placed ceiling run w l d)
    ∙ ap (λ (k : Layout). k.wide) f ∙ tops_wide doc.style u.placed ceiling run x m e))
    (wides_apart doc u ceiling)))
    (pairs_weaker (λ (a b : ℕ). a < b) _ (runs_of doc.style u.run)
    (λ r s b c h l m d e f. (let p : r ≡ s = sym (wides_run doc u ceiling r l d)
    ∙ ap (λ (k : Layout). k.run) f ∙ wides_run doc u ceiling s m e in omega arith))
    (runs_apart doc.style u.run))

-- ---- layouts without text

pub record IsFloatLayout (doc : Document) (u : State) (ceiling : List ℕ) (layout : Layout) : Type 0 where
  pub run : IsRunFor doc.style u.run layout.run
  pub wide : AreWide doc u ceiling layout.wide
  pub top : IsOfArea doc.style takes_in_column doc.style.float_column.count
      (plus_counts doc.style u.placed layout.wide) ceiling layout.top
  pub bottom : layout.bottom ≡ zeros doc.style

pub in_float_layouts : (doc : Document) (u : State) (ceiling : List ℕ) (layout : Layout) →
    IsFloatLayout doc u ceiling layout → Among layout (float_layouts doc u ceiling)
in_float_layouts doc u ceiling layout l =
    subst (λ (counts : List ℕ). Among (layout_of layout.run layout.wide layout.top counts)
    (float_layouts doc u ceiling)) (sym l.bottom)
    (in_flat _ (runs_of doc.style u.run) layout.run _
    (in_filter (takes_run u.run) (range_with_len 0 (length doc.style.runs)) layout.run
    (below_in (length doc.style.runs) layout.run l.run.within) l.run.taken)
    (in_flat (with_floats doc.style u.placed ceiling layout.run) (wides_of doc u ceiling) layout.wide _
    (in_wides doc u ceiling layout.wide l.wide)
    (in_map (λ (top : List ℕ). layout_of layout.run layout.wide top (zeros doc.style)) _ layout.top
    (in_area doc.style takes_in_column doc.style.float_column.count (plus_counts doc.style u.placed layout.wide)
    ceiling layout.top l.top.allowed l.top.below))))

pub of_float_layouts : (doc : Document) (u : State) (ceiling : List ℕ) (layout : Layout) →
    Among layout (float_layouts doc u ceiling) → IsFloatLayout doc u ceiling layout
of_float_layouts doc u ceiling layout a = of_flat _ (runs_of doc.style u.run) layout a
    (λ run b c. of_flat (with_floats doc.style u.placed ceiling run) (wides_of doc u ceiling) layout c
    (λ wide d e. of_map (λ (top : List ℕ). layout_of run wide top (zeros doc.style)) _ layout e
    (λ top h i. subst (IsFloatLayout doc u ceiling) i (record {
      run = of_runs doc.style u.run run b;
      wide = of_wides doc u ceiling wide d;
      top = of_area doc.style takes_in_column doc.style.float_column.count (plus_counts doc.style u.placed wide)
          ceiling top h;
      bottom = refl;
    }))))

floats_wide : (style : StyleValue) (placed ceiling : List ℕ) (run : ℕ) (wide : List ℕ) (layout : Layout) →
    Among layout (with_floats style placed ceiling run wide) → layout.wide ≡ wide
floats_wide style placed ceiling run wide layout a =
    of_map (λ (top : List ℕ). layout_of run wide top (zeros style)) _ layout a
    (λ top b e. ap (λ (l : Layout). l.wide) (sym e))

floats_run : (doc : Document) (u : State) (ceiling : List ℕ) (run : ℕ) (layout : Layout) →
    Among layout (flat_map (with_floats doc.style u.placed ceiling run) (wides_of doc u ceiling)) →
    layout.run ≡ run
floats_run doc u ceiling run layout a = of_flat (with_floats doc.style u.placed ceiling run) _ layout a
    (λ wide b c. of_map (λ (top : List ℕ). layout_of run wide top (zeros doc.style)) _ layout c
    (λ top f g. ap (λ (l : Layout). l.run) (sym g)))

pub float_layouts_apart : (doc : Document) (u : State) (ceiling : List ℕ) →
    Pairs (λ (a b : Layout). a ≢ b) (float_layouts doc u ceiling)
float_layouts_apart doc u ceiling = pairs_flat (λ (a b : Layout). a ≢ b) _ (runs_of doc.style u.run)
    (λ run a. pairs_flat (λ (a b : Layout). a ≢ b) (with_floats doc.style u.placed ceiling run)
    (wides_of doc u ceiling)
    (λ wide b. pairs_map (λ (a b : Layout). a ≢ b) (λ (top : List ℕ). layout_of run wide top (zeros doc.style)) _
    (pairs_weaker (λ (a b : List ℕ). a ≢ b) _ _
    (λ x y b c h e. h (ap (λ (k : Layout). k.top) e)) (area_apart doc.style takes_in_column doc.style.float_column.count
    (plus_counts doc.style u.placed wide) ceiling)))
    (pairs_weaker (λ (a b : List ℕ). a ≢ b) _ (wides_of doc u ceiling)
    (λ w x b c h l m d e f. h (sym (floats_wide doc.style u.placed ceiling run w l d)
    ∙ ap (λ (k : Layout). k.wide) f ∙ floats_wide doc.style u.placed ceiling run x m e))
    (wides_apart doc u ceiling)))
    (pairs_weaker (λ (a b : ℕ). a < b) _ (runs_of doc.style u.run)
    (λ r s b c h l m d e f. (let p : r ≡ s = sym (floats_run doc u ceiling r l d)
    ∙ ap (λ (k : Layout). k.run) f ∙ floats_run doc u ceiling s m e in omega arith))
    (runs_apart doc.style u.run))
