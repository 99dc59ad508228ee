-- What the code of layouts answers, in the words of its contracts.
use Rattle.std.proofs.Common.{◌≡◌, sym, ap, ◌∙◌, ℕ, List, [], ◌∷◌, ◌++◌, length}
use Rattle.std.specs.Prelude.{◌==◌, Result, Ok, Err, IfOk, IsErr, OnOk, replicate}
use Rattle.std.specs.List.{flat_map}
use Rattle.std.proofs.lemmas.Bool.{eqb-true}
use Rattle.pg_list.specs.declared.blocks.Block.{Block}
use Rattle.pg_plan.specs.declared.states.State.{State}
use Rattle.pg_style.specs.Values.{StyleValue}
use Rattle.pg_rules.specs.Floats.{float_numbers, takes_wide}
use Rattle.pg_lemmas.proofs.Bools.{by_bool, if_false, if_true}
use Rattle.pg_lemmas.proofs.Numbers.{eq_refl}
use Rattle.pg_layouts.specs.Behind.{bare, of_run}
use Rattle.pg_layouts.specs.Layouts.{area_lists, float_layouts, runs_of, text_layouts, wides_of, zeros}
use Rattle.pg_layouts.specs.declared.kind.ColumnKind.{ColumnKind}
use Rattle.pg_layouts.specs.declared.kind.ColumnKind.TheVariants.{Floats, Text}
use Rattle.pg_layouts.specs.declared.layout.Layout.{Layout}
use Rattle.pg_layouts.proofs.Fits.{zeros_made}

-- what holds at a success need not be shown at a failure
pub at_err : {T E : Type 0} (P : Type 0) (r : Result T E) → IsErr r → OnOk r P
at_err P (Ok x) h = absurd cc
at_err P (Err e) h = tt

-- in a first column the wide floats are those of the wide area
pub some_wide : {E : Type 0} (r : Result (List (List ℕ)) E) (style : StyleValue) (u : State) (ceiling : List ℕ)
    (most : ℕ) (placed : List ℕ) → u.column ≡ 1 → most ≡ style.wide.count → placed ≡ u.placed →
    IfOk r (λ lists. lists ≡ area_lists style takes_wide most placed ceiling) →
    IfOk r (λ wides. wides ≡ wides_of (bare style) u ceiling)
some_wide (Err e) style u ceiling most placed f m p h = tt
some_wide (Ok lists) style u ceiling most placed f m p h =
    h ∙ (ap (λ (n : ℕ). area_lists style takes_wide n placed ceiling) m
    ∙ (ap (λ (counts : List ℕ). area_lists style takes_wide style.wide.count counts ceiling) p
    ∙ sym (if_true (u.column == 1) (area_lists style takes_wide style.wide.count u.placed ceiling) (zeros style ∷ [])
    (ap (λ (n : ℕ). n == 1) f ∙ eq_refl 1))))

-- in a second column there are no wide floats
pub none_wide : (wides : List (List ℕ)) (style : StyleValue) (u : State) (ceiling : List ℕ) (slots : ℕ) →
    slots ≡ length (float_numbers style) → (u.column ≡ 1 → ⊥) → wides ≡ replicate slots 0 ∷ [] →
    wides ≡ wides_of (bare style) u ceiling
none_wide wides style u ceiling slots s f h =
    h ∙ (ap (λ (counts : List ℕ). counts ∷ []) (zeros_made style slots s)
    ∙ sym (if_false (u.column == 1) (area_lists style takes_wide style.wide.count u.placed ceiling) (zeros style ∷ [])
    (by_bool (u.column == 1) (λ t. absurd (f (eqb-true u.column 1 t))) (λ g. g))))

pub grown_from : (kind : ColumnKind) (style : StyleValue) (placed ceiling p : List ℕ) (wides w : List (List ℕ))
    (runs : List ℕ) (old new : List Layout) → old ≡ [] → p ≡ placed → w ≡ wides →
    new ≡ old ++ flat_map (of_run kind style p ceiling w) runs →
    new ≡ flat_map (of_run kind style placed ceiling wides) runs
grown_from kind style placed ceiling p wides w runs old new a b c h =
    h ∙ (ap (λ (layouts : List Layout). layouts ++ flat_map (of_run kind style p ceiling w) runs) a
    ∙ (ap (λ (counts : List ℕ). flat_map (of_run kind style counts ceiling w) runs) b
    ∙ ap (λ (lists : List (List ℕ)). flat_map (of_run kind style placed ceiling lists) runs) c))

pub on_text : {V E : Type 0} (items : V → List Layout) (r : Result V E) (style : StyleValue) (u : State)
    (ceiling : List ℕ) → IfOk r (λ layouts. items layouts
    ≡ flat_map (of_run Text style u.placed ceiling (wides_of (bare style) u ceiling)) (runs_of style u.run)) →
    IfOk r (λ layouts. (blocks : List Block) →
    items layouts ≡ text_layouts (record { blocks = blocks; style = style }) u ceiling)
on_text items (Err e) style u ceiling h = tt
on_text items (Ok layouts) style u ceiling h = λ blocks. h

pub on_floats : {V E : Type 0} (items : V → List Layout) (r : Result V E) (style : StyleValue) (u : State)
    (ceiling : List ℕ) → IfOk r (λ layouts. items layouts
    ≡ flat_map (of_run Floats style u.placed ceiling (wides_of (bare style) u ceiling)) (runs_of style u.run)) →
    IfOk r (λ layouts. (blocks : List Block) →
    items layouts ≡ float_layouts (record { blocks = blocks; style = style }) u ceiling)
on_floats items (Err e) style u ceiling h = tt
on_floats items (Ok layouts) style u ceiling h = λ blocks. h
