-- What is judged of one column, with text or without.
use Rattle.std.proofs.Common.{◌≡◌, refl, sym, ap, ◌∙◌, ℕ, ◌≤◌, arith, List, [], length, Bool, true, false, ℤ, pos, ◌+ℤ◌, ◌-ℤ◌, Option, Some, None}
use Rattle.std.specs.Prelude.{◌==◌, ◌&&◌, ◌||◌, not, nat_le, nat_lt, unsigned_abs, if◌then◌else◌, int_le, is_some, Ok}
use Rattle.std.specs.List.{list_all}
use Rattle.std.specs.Option.{option_map_or, option_or}
use Rattle.std.proofs.lemmas.Bool.{eqb-true}
use Rattle.pg_lemmas.proofs.Bools.{both_of, if_false, if_true}
use Rattle.pg_lemmas.proofs.Lists.{no_items}
use Rattle.pg_list.specs.GalleyValue.{GalleyValue}
use Rattle.pg_list.specs.declared.blocks.Block.{Block}
use Rattle.pg_list.specs.declared.variants.Variant.{Variant}
use Rattle.pg_list.specs.Flat.{blocks_at, fronts, is_same_place, picked_variants}
use Rattle.pg_list.proofs.Places.{picked_few}
use Rattle.pg_plan.specs.declared.pages.Column.{Column}
use Rattle.pg_style.specs.Values.{StyleValue}
use Rattle.pg_style.specs.declared.style.Give.{Give}
use Rattle.pg_rules.specs.ColumnRules.{column_variants, does_fit, has_room, is_tolerable, is_well_formed, keeps_looseness, keeps_note_limits, passes_breaks, text_fitness}
use Rattle.pg_rules.specs.Cost.{text_demerits}
use Rattle.pg_rules.specs.Floats.{float_count, float_numbers}
use Rattle.pg_rules.specs.History.{column_fitness}
use Rattle.pg_rules.specs.Legal.{document, unless}
use Rattle.pg_rules.specs.Room.{ColumnContext, Document, flat_items_of, is_text, room, size_of}
use Rattle.pg_column.specs.Fits.{does_fit_from}
use Rattle.pg_column.specs.Judged.{Judges, text_fault}
use Rattle.pg_column.specs.Numbers.{text_room}
use Rattle.pg_column.specs.declared.cost.TextCost.{TextCost}
use Rattle.pg_column.specs.declared.cost.TextRoom.{TextRoom}
use Rattle.pg_floats.specs.Counts.{count_in}
use Rattle.pg_judge.specs.Judged.{JudgesColumn}
use Rattle.pg_judge.specs.Seats.{IsSeat}
use Rattle.pg_judge.specs.declared.seat.Seat.{Seat}

pub fits_is : (galley : GalleyValue) (style : StyleValue) (column : Column) (it : ColumnContext) →
    it.document ≡ document galley style → it.column ≡ column →
    does_fit_from galley.blocks column.from column.picks column.to ≡ does_fit it
fits_is galley style column it d c =
    sym (ap (λ (doc : Document). does_fit_from doc.blocks it.column.from it.column.picks it.column.to) d
    ∙ ap (λ (x : Column). does_fit_from galley.blocks x.from x.picks x.to) c)

pub text_is : (column : Column) (it : ColumnContext) → it.column ≡ column → (b : Bool) →
    is_same_place column.from column.to ≡ b → is_text it ≡ not b
text_is column it c b e = ap (λ (x : Column). not (is_same_place x.from x.to)) c ∙ ap not e

pub room_is : (it : ColumnContext) (seat : Seat) → IsSeat it seat →
    room it ≡ ((seat.full -ℤ seat.wide) -ℤ seat.top) -ℤ seat.bottom
room_is it seat is = sym (left is.full is.wide is.top is.bottom)
  where
    left : {a b c d e f g h : ℤ} → a ≡ e → b ≡ f → c ≡ g → d ≡ h → ((a -ℤ b) -ℤ c) -ℤ d ≡ ((e -ℤ f) -ℤ g) -ℤ h
    left p q r s = rw (p, q, r, s) refl

-- the room of its text
pub whole_room_is : (it : ColumnContext) (seat : Seat) (held : TextRoom) → IsSeat it seat →
    held.size ≡ ((seat.full -ℤ seat.wide) -ℤ seat.top) -ℤ seat.bottom → held.give ≡ seat.give →
    text_room it ≡ held
whole_room_is it seat held is s g =
    same _ _ _ _ _ _ (room_is it seat is ∙ sym s) (sym is.stretch ∙ ap (λ (give : Give). give.stretch) (sym g))
    (sym is.shrink ∙ ap (λ (give : Give). give.shrink) (sym g))
  where
    same : (s s' x x' y y' : ℤ) → s ≡ s' → x ≡ x' → y ≡ y' →
        ◌≡◌ {A = TextRoom} (record { size = s; give = record { stretch = x; shrink = y } })
        (record { size = s'; give = record { stretch = x'; shrink = y' } })
    same s s' x x' y y' p q r = cc

pub some_size : (test : ℕ → Bool) (o : Option ℕ) → option_map_or test o false ≡ true → (n : ℕ) × (o ≡ Some n)
some_size test None e = absurd cc
some_size test (Some n) e = (n, refl)

-- ---- with text

pub text_cost_is : (it : ColumnContext) (numbers : TextCost) → is_text it ≡ true → does_fit it ≡ true →
    Judges it (Ok numbers) → JudgesColumn it (Ok (record { demerits = numbers.demerits; fitness = Some numbers.fitness }))
text_cost_is it numbers t f j =
    let size = some_size (λ (n : ℕ). (fronts (flat_items_of it) n == length it.column.picks)
    && (length (column_variants it) == length it.column.picks)) (size_of it) f in
    let are = j.1 size.0 size.1 in (
      j.0,
      record {
        demerits = are.demerits ∙ (ap (λ (o : Option ℕ). option_map_or (text_demerits it) o (pos 0)) (sym size.1)
            ∙ sym (if_true (is_text it) (option_map_or (text_demerits it) (size_of it) (pos 0))
            (pos it.document.style.float_column.demerits) t));
        fitness = ap Some (are.fitness ∙ ap (λ (o : Option ℕ). option_map_or (text_fitness it) o 2) (sym size.1))
            ∙ sym (if_true (is_text it) (Some (column_fitness it)) None t);
      },
    )

-- ---- without text

pub count_is : (style other : StyleValue) (slots : ℕ) (xs ys : List ℕ) → slots ≡ length (float_numbers style) →
    other ≡ style → ys ≡ xs → count_in slots xs ≡ float_count other ys
count_is style other slots xs ys s o e =
    ap (λ (n : ℕ). count_in n xs) s
    ∙ (ap (λ (it : StyleValue). count_in (length (float_numbers it)) xs) (sym o)
    ∙ ap (count_in (length (float_numbers other))) (sym e))

pub formed_is : (it : ColumnContext) (top bottom : ℕ) (wide : Bool) → is_text it ≡ false →
    top ≡ float_count it.document.style it.column.top → bottom ≡ float_count it.document.style it.column.bottom →
    wide ≡ is_some it.wide → ((length it.column.picks == 0)
    && ((nat_lt 0 top && (bottom == 0)) || ((top == 0) && (bottom == 0) && wide))) ≡ is_well_formed it
formed_is it top bottom wide f t b w =
    shape (length it.column.picks == 0) t b w ∙ sym (if_false (is_text it) _ _ f)
  where
    shape : (none : Bool) {a b c d : ℕ} {e f : Bool} → a ≡ c → b ≡ d → e ≡ f →
        (none && ((nat_lt 0 a && (b == 0)) || ((a == 0) && (b == 0) && e)))
        ≡ (none && ((nat_lt 0 c && (d == 0)) || ((c == 0) && (d == 0) && f)))
    shape none p q r = rw (p, q, r) refl

pub column_is : (it : ColumnContext) (seat : Seat) (top : ℕ) → IsSeat it seat → is_text it ≡ false →
    top ≡ float_count it.document.style it.column.top →
    int_le ((seat.wide +ℤ seat.top) -ℤ (if top == 0 then it.document.style.wide.gap.size else it.document.style.top.gap.size))
    seat.full ≡ has_room it
column_is it seat top is f t =
    fits it.document.style.wide.gap.size it.document.style.top.gap.size t is.wide is.top is.full
    ∙ sym (if_false (is_text it) _ _ f)
  where
    fits : (g h : ℤ) {m n : ℕ} {a b c d e f : ℤ} → m ≡ n → a ≡ d → b ≡ e → c ≡ f →
        int_le ((a +ℤ b) -ℤ (if m == 0 then g else h)) c ≡ int_le ((d +ℤ e) -ℤ (if n == 0 then g else h)) f
    fits g h p q r s = rw (p, q, r, s) refl

free : (b test : Bool) → b ≡ false → (not b || test) ≡ true
free b test e = rw e refl

loose : (it : ColumnContext) → length it.column.picks ≡ 0 → keeps_looseness it ≡ true
loose it e = ap (λ (vs : List Variant). list_all (λ (variant : Variant). nat_le (unsigned_abs variant.looseness) it.document.style.max_looseness) vs)
    (ap (picked_variants (blocks_at it.document.blocks it.column.from)) (no_items it.column.picks e)
    ∙ none (blocks_at it.document.blocks it.column.from))
  where
    none : (blocks : List Block) → picked_variants blocks [] ≡ []
    none blocks = no_items (picked_variants blocks []) (zero_is (length (picked_variants blocks [])) (picked_few blocks []))
      where
        zero_is : (n : ℕ) → n ≤ 0 → n ≡ 0
        zero_is n h = omega (arith, h)

-- the least rule that a column without text breaks
pub floats_fault : (it : ColumnContext) → is_text it ≡ false →
    text_fault it ≡ option_or (unless (is_well_formed it) 3) (unless (has_room it) 6)
floats_fault it f = by (is_well_formed it) (is_tolerable it) (passes_breaks it) (has_room it) (keeps_note_limits it)
    (keeps_looseness it) (free (is_text it) _ f) (free (is_text it) _ f) (free (is_text it) _ f)
    (λ t. loose it (eqb-true (length it.column.picks) 0
    (both_of (length it.column.picks == 0) _ (sym (if_false (is_text it) _ _ f) ∙ t)).0))
  where
    two : (a b c : Bool) → (a ≡ true → c ≡ true) →
        option_or (unless a 3) (option_or (unless true 4) (option_or (unless true 5)
        (option_or (unless b 6) (option_or (unless true 11) (unless c 13)))))
        ≡ option_or (unless a 3) (unless b 6)
    two false b c h = refl
    two true false c h = refl
    two true true true h = refl
    two true true false h = let k : false ≡ true = h refl in absurd cc

    by : (a b c d e g : Bool) → b ≡ true → c ≡ true → e ≡ true → (a ≡ true → g ≡ true) →
        option_or (unless a 3) (option_or (unless b 4) (option_or (unless c 5)
        (option_or (unless d 6) (option_or (unless e 11) (unless g 13)))))
        ≡ option_or (unless a 3) (unless d 6)
    by a b c d e g p q r h = rw (p, q, r) (two a d g h)

both_rules : {a b c d : Bool} → a ≡ c → b ≡ d →
    option_or (unless a 3) (unless b 6) ≡ option_or (unless c 3) (unless d 6)
both_rules e f = rw (e, f) refl

-- ---- the same from the parts of a column and its seat

module _ (style : StyleValue) (column : Column) (seat : Seat) (slots top : ℕ) (tops : List ℕ)
    (many : slots ≡ length (float_numbers style)) (tops_are : tops ≡ column.top) (top_is : top ≡ count_in slots tops)
    (empty : is_same_place column.from column.to ≡ true) (it : ColumnContext) (same : it.document.style ≡ style)
    (own : it.column ≡ column) (is : IsSeat it seat) where
  no_text : is_text it ≡ false
  no_text = text_is column it own true empty

  top_count : top ≡ float_count it.document.style it.column.top
  top_count = top_is ∙ count_is style it.document.style slots tops it.column.top many same
      (ap (λ (x : Column). x.top) own ∙ sym tops_are)

  pub is_formed_is : (bottom : ℕ) (picks bottoms : List ℕ) → picks ≡ column.picks → bottoms ≡ column.bottom →
      bottom ≡ count_in slots bottoms → (formed : Bool) → formed ≡ ((length picks == 0)
      && ((nat_lt 0 top && (bottom == 0)) || ((top == 0) && (bottom == 0) && seat.has_wide))) →
      formed ≡ is_well_formed it
  is_formed_is bottom picks bottoms p b n formed e =
      e ∙ (ap (λ (xs : List ℕ). (length xs == 0)
      && ((nat_lt 0 top && (bottom == 0)) || ((top == 0) && (bottom == 0) && seat.has_wide)))
      (p ∙ sym (ap (λ (x : Column). x.picks) own))
      ∙ formed_is it top bottom seat.has_wide no_text top_count
      (n ∙ count_is style it.document.style slots bottoms it.column.bottom many same
      (ap (λ (x : Column). x.bottom) own ∙ sym b)) is.has_wide)

  pub is_column_is : (fits : Bool) → fits ≡ int_le ((seat.wide +ℤ seat.top)
      -ℤ (if top == 0 then style.wide.gap.size else style.top.gap.size)) seat.full → fits ≡ has_room it
  is_column_is fits e =
      e ∙ (ap (λ (s : StyleValue). int_le ((seat.wide +ℤ seat.top)
      -ℤ (if top == 0 then s.wide.gap.size else s.top.gap.size)) seat.full) (sym same)
      ∙ column_is it seat top is no_text top_count)

  pub breaks_shape : is_well_formed it ≡ false → text_fault it ≡ Some 3
  breaks_shape e = floats_fault it no_text ∙ ap (λ (b : Bool). option_or (unless b 3) (unless (has_room it) 6)) e

  pub breaks_room : is_well_formed it ≡ true → has_room it ≡ false → text_fault it ≡ Some 6
  breaks_room e f = floats_fault it no_text ∙ both_rules e f

  pub breaks_none : is_well_formed it ≡ true → has_room it ≡ true →
      JudgesColumn it (Ok (record { demerits = pos style.float_column.demerits; fitness = None }))
  breaks_none e f = (
    floats_fault it no_text ∙ both_rules e f,
    record {
      demerits = ap (λ (s : StyleValue). pos s.float_column.demerits) (sym same)
          ∙ sym (if_false (is_text it) (option_map_or (text_demerits it) (size_of it) (pos 0)) _ no_text);
      fitness = sym (if_false (is_text it) (Some (column_fitness it)) None no_text);
    },
  )
