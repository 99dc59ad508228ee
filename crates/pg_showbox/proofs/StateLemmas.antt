-- What each step keeps.
use Rattle.std.proofs.Common.{◌≡◌, ◌∙◌, ◌≤◌, ◌<◌, ◌+◌, ℕ, ap, sym, arith, List, [], ◌∷◌, ◌++◌, refl, length, true, false, subst, inl, inr, length-append}
use Rattle.std.specs.Prelude.{Result, Ok, Err, Bool, Option, Some, None, ℤ, nat_lt, nat_abs, if◌then◌else◌}
use Rattle.std.proofs.lemmas.Bool.{cases_Bool}
use Rattle.std.proofs.lemmas.Bool.Decides.{nat_tests}
use Rattle.std.proofs.lemmas.List.Sums.{sum_by-cons, sum_by_push}
use Rattle.pg_list.specs.Barrier.{barrier_body}
use Rattle.pg_list.specs.declared.item.Item.{Item}
use Rattle.pg_list.specs.declared.item.Item.TheVariants.{Carry}
use Rattle.pg_list.specs.declared.variants.Variant.{Variant}
use Rattle.pg_list.specs.declared.blocks.Block.{Block}
use Rattle.pg_list.specs.declared.blocks.Block.TheVariants as block
use Rattle.pg_list.specs.Counts.{item_count, item_limit, block_size}
use Rattle.pg_list.specs.Bodies.{extended, extended_blocks, block_with_line}
use Rattle.pg_list.specs.Shapes.{is_shaped, fits_first}
use Rattle.pg_showbox.specs.declared.kinds.ListKind.{ListKind}
use Rattle.pg_showbox.specs.declared.kinds.ListKind.TheVariants.{NoListing, BadLine, UnknownNode, BadNumber, OutOfRange, Truncated, InfiniteShrink, RunningSize, NegativeSize, ChoiceShape, ChoiceInserts, Limit, Memory}
use Rattle.pg_showbox.specs.declared.state.ReaderState.{ReaderState}
use Rattle.pg_showbox.specs.declared.state.Within.{Within}
use Rattle.pg_showbox.specs.declared.state.Within.TheVariants.{Outside, Listing, InChoice, InVariant}
use Rattle.std.specs.Prelude.{IfSome, OnOk}
use Rattle.pg_scaled.specs.Ranges.{IsScaled}
use Rattle.pg_showbox.specs.declared.parsed.ParsedLine.{ParsedLine}
use Rattle.pg_showbox.specs.declared.parsed.ParsedLine.TheVariants as said
use Rattle.pg_showbox.specs.ParsedLine.{IsParsedInRange}
use Rattle.pg_showbox.specs.Parts.{◌>>=◌}
use Rattle.pg_scan.specs.Parts.{past}
use Rattle.pg_showbox.specs.Nodes.{node_item}
use Rattle.std.specs.Prelude.{codes}
use Rattle.pg_showbox.specs.State.{Steps, Counted, Sound, placed, placed_barrier, placed_block, placed_item, longer_last, last_extended, closed, ended, begun_listing, begun_choice, begun_variant, next_variant, whole_choice, ended_choice, or_first, step}

-- of any state: a step that fails
pub steps_err : {S : Type 0} (kind : ListKind) (said : Result S ListKind) (new : S) → said ≡ Err kind
    → Steps (Err kind) said new
steps_err NoListing said new e = e
steps_err BadLine said new e = e
steps_err UnknownNode said new e = e
steps_err BadNumber said new e = e
steps_err OutOfRange said new e = e
steps_err Truncated said new e = e
steps_err InfiniteShrink said new e = e
steps_err RunningSize said new e = e
steps_err NegativeSize said new e = e
steps_err ChoiceShape said new e = e
steps_err ChoiceInserts said new e = e
steps_err Limit said new e = e
steps_err Memory said new e = tt

extended_length : (line : List ℕ) (items : List Item) → length (extended line items) ≡ length items
extended_length line [] = refl
extended_length line (item ∷ []) = refl
extended_length line (item ∷ next ∷ items) = let more = extended_length line (next ∷ items) in omega arith

same_size : (line : List ℕ) (b : Block) → block_size (block_with_line line b) ≡ block_size b
same_size line (block.One item) = refl
same_size line (block.Choice variants) = refl

extended_count : (line : List ℕ) (blocks : List Block) → item_count (extended_blocks line blocks) ≡ item_count blocks
extended_count line [] = refl
extended_count line (b ∷ []) = ap (λ (n : ℕ). 0 + n) (same_size line b)
extended_count line (b ∷ next ∷ blocks) =
    sum_by-cons block_size b (extended_blocks line (next ∷ blocks))
    ∙ ap (λ (n : ℕ). block_size b + n) (extended_count line (next ∷ blocks))
    ∙ sym (sum_by-cons block_size b (next ∷ blocks))

abbrev pub choose : Bool → ReaderState → ListKind → Result ReaderState ListKind
choose b x kind = if b then Ok x else Err kind

pub if_ok : (b : Bool) (x t : ReaderState) (kind : ListKind) → choose b x kind ≡ Ok t → (b ≡ true) × (x ≡ t)
if_ok true x t kind e = (refl, cc)
if_ok false x t kind e = absurd (cc)

pub bind_ok : (r : Result ReaderState ListKind) (f : ReaderState → Result ReaderState ListKind) (t : ReaderState) → (r >>= f) ≡ Ok t
    → (x : ReaderState) × (r ≡ Ok x) × (f x ≡ Ok t)
bind_ok (Ok x) f t e = (x, refl, e)
bind_ok (Err kind) f t e = absurd (cc)

placed_block_sound : (s t : ReaderState) (item : Item) → Sound s → placed_block s item ≡ Ok t → Sound t
unfolding placed_block
placed_block_sound s t item h e =
    let p = if_ok (nat_lt s.count item_limit)
    (record s { blocks = s.blocks ++ block.One item ∷ []; has_item = true; count = s.count + 1 }) t Limit e in
    let few : s.count < item_limit = grind (arith, nat_tests, p.0) in
    subst Sound p.1 (record {
      counted = record {
        total = omega (arith, sum_by_push block_size s.blocks (block.One item), h.counted.total);
        few = omega arith;
        width = h.counted.width;
      };
      within = h.within;
    })

placed_item_sound : (s t : ReaderState) (item : Item) → Sound s → placed_item s item ≡ Ok t → Sound t
unfolding placed_item
placed_item_sound s t item h e =
    let p = if_ok (nat_lt s.count item_limit)
    (record s { items = s.items ++ item ∷ []; has_item = true; count = s.count + 1 }) t Limit e in
    let few : s.count < item_limit = grind (arith, nat_tests, p.0) in
    subst Sound p.1 (record {
      counted = record {
        total = omega (arith, length-append s.items (item ∷ []), h.counted.total);
        few = omega arith;
        width = h.counted.width;
      };
      within = h.within;
    })

placed_sound : (s t : ReaderState) (within : Within) (item : Item) → Sound s → placed s within item ≡ Ok t → Sound t
unfolding placed
placed_sound s t Outside item h e = absurd (cc)
placed_sound s t Listing item h e = placed_block_sound s t item h e
placed_sound s t InChoice item h e = absurd (cc)
placed_sound s t (InVariant l d) item h e = placed_item_sound s t item h e

barrier_sound : (s t : ReaderState) (within : Within) → Sound s → placed_barrier s within ≡ Ok t → Sound t
unfolding placed_barrier
barrier_sound s t Outside h e = absurd (cc)
barrier_sound s t Listing h e = placed_block_sound s t (Carry barrier_body) h e
barrier_sound s t InChoice h e = absurd (cc)
barrier_sound s t (InVariant l d) h e = absurd (cc)

blocks_longer : (s : ReaderState) (line : List ℕ) → Sound s → Sound (record s { blocks = extended_blocks line s.blocks })
blocks_longer s line h = record {
  counted = record {
    total = omega (arith, extended_count line s.blocks, h.counted.total);
    few = h.counted.few;
    width = h.counted.width;
  };
  within = h.within;
}

last_sound : (s : ReaderState) (within : Within) (line : List ℕ) → Sound s → Sound (last_extended s within line)
last_sound s Outside line h = blocks_longer s line h
last_sound s Listing line h = blocks_longer s line h
last_sound s InChoice line h = blocks_longer s line h
last_sound s (InVariant l d) line h = record {
  counted = record {
    total = omega (arith, extended_length line s.items, h.counted.total);
    few = h.counted.few;
    width = h.counted.width;
  };
  within = h.within;
}

longer_last_sound : (s t : ReaderState) (within : Within) (line : List ℕ) → Sound s → longer_last s within line ≡ Ok t
    → Sound t
unfolding longer_last
longer_last_sound s t within line h e =
    let p = if_ok s.has_item (last_extended s within line) t BadLine e in
    subst Sound p.1 (last_sound s within line h)

closed_counted : (s t : ReaderState) (l : ℤ) (d : ℕ) → Counted s → closed s l d ≡ Ok t → Counted t
unfolding closed
closed_counted s t l d h e = elim (cases_Bool (is_shaped s.items)) [
  | inl shaped ↦
      let p = if_ok (fits_first s.variants s.items)
      (record s {
        variants = s.variants ++ record { looseness = l; demerits = d; items = s.items } ∷ [];
        items =
            [];
      }) t ChoiceInserts (rw shaped at e) in
      let more = sum_by_push (λ (variant : Variant). length variant.items) s.variants
      (record { looseness = l; demerits = d; items = s.items }) in
      subst Counted p.1 (record { total = omega (arith, more, h.total); few = h.few; width = h.width })
  | inr not_shaped ↦ let wrong = rw not_shaped at e in absurd (cc)
]

next_variant_sound : (s t : ReaderState) (l : ℤ) (d : ℕ) → Counted s → nat_abs l ≤ 100 → d ≤ 100000000
    → next_variant s l d ≡ Ok t → Sound t
unfolding next_variant
next_variant_sound s t l d h looseness demerits e =
    let p = if_ok (nat_lt (length s.variants) 5) (record s { within = InVariant l d; has_item = false }) t Limit e in
    let few : length s.variants < 5 = grind (arith, nat_tests, p.0) in
    subst Sound p.1 (record {
      counted = record { total = h.total; few = h.few; width = h.width };
      within =
          (few, looseness, demerits);
    })

begun_variant_sound : (s t : ReaderState) (within : Within) (l : ℤ) (d : ℕ) → Sound s → nat_abs l ≤ 100 → d ≤ 100000000
    → begun_variant s within l d ≡ Ok t → Sound t
unfolding begun_variant
begun_variant_sound s t Outside l d h looseness demerits e = absurd (cc)
begun_variant_sound s t Listing l d h looseness demerits e = absurd (cc)
begun_variant_sound s t InChoice l d h looseness demerits e =
    next_variant_sound s t l d h.counted looseness demerits e
begun_variant_sound s t (InVariant l' d') l d h looseness demerits e =
    let p = bind_ok (closed s l' d') (λ x. next_variant x l d) t e in
    next_variant_sound p.0 t l d (closed_counted s p.0 l' d' h.counted p.1) looseness demerits p.2

whole_choice_sound : (s t : ReaderState) → Counted s → whole_choice s ≡ Ok t → Sound t
unfolding whole_choice
whole_choice_sound s t h e =
    let is : record s {
      blocks = s.blocks ++ block.Choice s.variants ∷ [];
      variants = [];
      within = Listing;
      has_item =
          false;
    } ≡ t = cc in
    subst Sound is (record {
      counted = record {
        total = omega (arith, sum_by_push block_size s.blocks (block.Choice s.variants), h.total);
        few = h.few;
        width = h.width;
      };
      within = tt;
    })

ended_choice_sound : (s t : ReaderState) (within : Within) → Sound s → ended_choice s within ≡ Ok t → Sound t
unfolding ended_choice
ended_choice_sound s t Outside h e = absurd (cc)
ended_choice_sound s t Listing h e = absurd (cc)
ended_choice_sound s t InChoice h e = absurd (cc)
ended_choice_sound s t (InVariant l d) h e =
    let p = bind_ok (closed s l d) whole_choice t e in
    whole_choice_sound p.0 t (closed_counted s p.0 l d h.counted p.1) p.2

pub ended_sound : (s t : ReaderState) (within : Within) → Sound s → ended s within ≡ Ok t → Sound t
unfolding ended
ended_sound s t Outside h e = let is : s ≡ t = cc in subst Sound is h
ended_sound s t Listing h e =
    let is : record s { within = Outside; has_item = false } ≡ t = cc in
    subst Sound is
    (record {
      counted = record { total = h.counted.total; few = h.counted.few; width = h.counted.width };
      within =
          tt;
    })
ended_sound s t InChoice h e = absurd (cc)
ended_sound s t (InVariant l d) h e = absurd (cc)

first_width : (first : Option ℤ) (width : ℤ) → IfSome first IsScaled → IsScaled width
    → IfSome (or_first first width) IsScaled
first_width None width h w = w
first_width (Some first) width h w = h

begun_listing_sound : (s t : ReaderState) (width : ℤ) → Sound s → IsScaled width → begun_listing s width ≡ Ok t → Sound t
unfolding begun_listing
begun_listing_sound s t width h w e =
    let p = bind_ok (ended s s.within)
    (λ x. Ok (record x { within = Listing; has_item = false; width = or_first x.width width })) t e in
    let x = p.0 in
    let kept = ended_sound s x s.within h p.1 in
    let last = p.2 in
    let is : record x { within = Listing; has_item = false; width = or_first x.width width } ≡ t = cc in
    subst Sound is
    (record {
      counted = record {
        total = kept.counted.total;
        few = kept.counted.few;
        width =
            first_width x.width width kept.counted.width w;
      };
      within = tt;
    })

begun_choice_sound : (s t : ReaderState) (within : Within) → Sound s → begun_choice s within ≡ Ok t → Sound t
unfolding begun_choice
begun_choice_sound s t Outside h e = absurd (cc)
begun_choice_sound s t Listing h e =
    let is : record s { within = InChoice; variants = []; items = []; has_item = false } ≡ t = cc in
    subst Sound is
    (record {
      counted = record {
        total = omega (arith, h.counted.total);
        few = h.counted.few;
        width =
            h.counted.width;
      };
      within = omega arith;
    })
begun_choice_sound s t InChoice h e = absurd (cc)
begun_choice_sound s t (InVariant l d) h e = absurd (cc)

pub step_sound : (s t : ReaderState) (what : ParsedLine) (line : List ℕ) → Sound s → IsParsedInRange what → step s what line ≡ Ok t
    → Sound t
unfolding step
step_sound s t said.Nothing line h r e = let is : s ≡ t = cc in subst Sound is h
step_sound s t said.Blank line h r e = ended_sound s t s.within h e
step_sound s t (said.Root width) line h r e = begun_listing_sound s t width h r e
step_sound s t (said.Item node) line h r e = placed_sound s t s.within (node_item node (past (codes ".") line)) h e
step_sound s t said.Barrier line h r e = barrier_sound s t s.within h e
step_sound s t said.Deeper line h r e = longer_last_sound s t s.within (past (codes ".") line) h e
step_sound s t said.ChoiceMark line h r e = begun_choice_sound s t s.within h e
step_sound s t (said.VariantMark l d) line h r e = begun_variant_sound s t s.within l d h r.0 r.1 e
step_sound s t said.EndMark line h r e = ended_choice_sound s t s.within h e

pub step_keeps : (r : Result (Unit {0}) ListKind) (s t : ReaderState) (what : ParsedLine) (line : List ℕ) → Sound s
    → IsParsedInRange what → Steps r (step s what line) t → OnOk r (Sound t)
step_keeps (Ok done) s t what line h r e = step_sound s t what line h r e
step_keeps (Err kind) s t what line h r e = tt
