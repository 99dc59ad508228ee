-- What is read of a galley file is what its listings say.
use Rattle.std.proofs.Common.{◌≡◌, ◌∙◌, refl, sym, ap, subst, ℕ, Bool, true, false, List, [], ◌∷◌, ◌++◌, append-nil, append_assoc, Option, Some, None}
use Rattle.std.specs.Prelude.{◌||◌, codes, if◌then◌else◌, not, take_while, Result, Ok, Err, ℤ}
use Rattle.std.specs.Str.{bytes_eq}
use Rattle.pg_lemmas.proofs.Bools.{by_bool, if_false, if_true, not_both}
use Rattle.pg_lemmas.proofs.Lists.{some_is}
use Rattle.pg_list.specs.declared.blocks.Block.{Block}
use Rattle.pg_list.specs.GalleyValue.{GalleyValue}
use Rattle.pg_scan.specs.Parts.{after, on}
use Rattle.pg_showbox.specs.ParsedLine.{block_line, ends_cut, galley_line, listing_line, root_at}
use Rattle.pg_showbox.specs.Parts.{◌>>=◌, due, past_size, size_at}
use Rattle.pg_showbox.specs.Reading.{in_listing, line_read, said_in}
use Rattle.pg_showbox.specs.State.{begun_listing, ended, or_first, started, step}
use Rattle.pg_showbox.specs.declared.kinds.ListKind.{ListKind}
use Rattle.pg_showbox.specs.declared.kinds.ListKind.TheVariants.{Truncated}
use Rattle.pg_showbox.specs.declared.parsed.ParsedLine.{ParsedLine}
use Rattle.pg_showbox.specs.declared.parsed.ParsedLine.TheVariants as said
use Rattle.pg_showbox.specs.declared.state.ReaderState.{ReaderState}
use Rattle.pg_showbox.specs.declared.state.Within.{Within}
use Rattle.pg_showbox.specs.declared.state.Within.TheVariants.{Outside, Listing, InChoice, InVariant}
use Rattle.law_readers.specs.Galleys.{IsFirstWidth, IsGalleyOf, Listing as AListing, ReadsItsListings, SaysBlock, SaysBlocks, begins_listing, is_listed, listings}
use Rattle.law_readers.specs.InOrder.{InOrder}
use Rattle.law_readers.specs.LinesRead.{lines_read}
use Rattle.law_readers.proofs.Listed.{Holds, HoldsAt, HoldsBlocks, holds_step, ok_said, said_inside}
use Rattle.law_readers.proofs.Ordered.{taken_more, taken_none}
use Rattle.law_readers.proofs.Through.{LeadsTo, Through, ended_outside, galley_leads, no_root, outside_line}

-- ---- the end of a listing

pub ended_blocks : (s t : ReaderState) (within : Within) → ended s within ≡ Ok t →
    (t.blocks ≡ s.blocks) × (t.width ≡ s.width)
unfolding ended
ended_blocks s t Outside e =
    let same = ok_said s t e in
    (sym (ap (λ (x : ReaderState). x.blocks) same), sym (ap (λ (x : ReaderState). x.width) same))
ended_blocks s t Listing e =
    let same = ok_said (record s { within = Outside; has_item = false }) t e in
    (sym (ap (λ (x : ReaderState). x.blocks) same), sym (ap (λ (x : ReaderState). x.width) same))
ended_blocks s t InChoice e = absurd cc
ended_blocks s t (InVariant looseness demerits) e = absurd cc

-- a listing ends where no choice is open
pub whole : (width : Option ℤ) (old : List Block) (lines : List (List ℕ)) (s t : ReaderState) (within : Within) →
    HoldsAt within width old lines s → ended s within ≡ Ok t → HoldsBlocks width old lines s
unfolding ended
whole width old lines s t Outside holds e = absurd holds
whole width old lines s t Listing holds e = holds
whole width old lines s t InChoice holds e = absurd cc
whole width old lines s t (InVariant looseness demerits) holds e = absurd cc

open_listing : (width : Option ℤ) (old : List Block) (lines : List (List ℕ)) (s : ReaderState) (within : Within) →
    HoldsAt within width old lines s → in_listing within ≡ true
open_listing width old lines s Outside holds = absurd holds
open_listing width old lines s Listing holds = refl
open_listing width old lines s InChoice holds = refl
open_listing width old lines s (InVariant looseness demerits) holds = refl

-- ---- roots

root_only : (line sizes : List ℕ) (it : ParsedLine) → root_at line sizes ≡ Ok it → (width : ℤ) × (it ≡ said.Root width)
unfolding root_at
root_only line sizes it e =
    let (plus, _, behind_plus) = said_inside (past_size sizes) (λ (plus : List ℕ). due (codes "+") plus
    >>= (λ depth. past_size depth >>= (λ close. due (codes ")x") close >>= (λ width. size_at width
    >>= (λ size. if ends_cut line then Err Truncated else Ok (said.Root size.0)))))) it e in
    let (depth, _, behind_depth) = said_inside (due (codes "+") plus) (λ (depth : List ℕ). past_size depth
    >>= (λ close. due (codes ")x") close >>= (λ width. size_at width
    >>= (λ size. if ends_cut line then Err Truncated else Ok (said.Root size.0))))) it behind_plus in
    let (close, _, behind_close) = said_inside (past_size depth) (λ (close : List ℕ). due (codes ")x") close
    >>= (λ width. size_at width
    >>= (λ size. if ends_cut line then Err Truncated else Ok (said.Root size.0)))) it behind_depth in
    let (width, _, behind_width) = said_inside (due (codes ")x") close) (λ (width : List ℕ). size_at width
    >>= (λ size. if ends_cut line then Err Truncated else Ok (said.Root size.0))) it behind_close in
    let (size, _, last) = said_inside (size_at width)
    (λ (size : ℤ × List ℕ). if ends_cut line then Err Truncated else Ok (said.Root size.0)) it behind_width in
    (size.0, cut (ends_cut line) size.0 last)
  where
    cut : (b : Bool) (width : ℤ) → (if b then Err Truncated else Ok (said.Root width)) ≡ Ok it → it ≡ said.Root width
    cut true width e = absurd cc
    cut false width e = sym (ok_said (said.Root width) it e)

root_line : (inside : Bool) (line : List ℕ) (rest : List ℕ) → after (codes "\\vbox(") line ≡ Some rest →
    galley_line inside line ≡ root_at line rest
unfolding galley_line
root_line inside line rest e =
    ap (λ (o : Option (List ℕ)). on o (root_at line) (listing_line inside line)) e

-- a root says a width, and a listing begins
root_read : (s u : ReaderState) (line : List ℕ) → begins_listing line ≡ true → line_read true s line ≡ Ok u →
    (width : ℤ) × (galley_line false line ≡ Ok (said.Root width)) × (begun_listing s width ≡ Ok u)
unfolding line_read said_in step
root_read s u line root e =
    let (it, says, steps) = said_inside (galley_line (in_listing s.within) line)
    (λ (it : ParsedLine). step s it line) u e in
    let (rest, at) = some_is (after (codes "\\vbox(") line) root in
    let alone = sym (root_line (in_listing s.within) line rest at) ∙ says in
    let (width, is) = root_only line rest it alone in (
      width,
      root_line false line rest at ∙ alone ∙ ap (λ (x : ParsedLine). Ok x) is,
      ap (λ (x : ParsedLine). step s x line) (sym is) ∙ steps,
    )

record Begun (s u : ReaderState) (width : ℤ) : Type 0 where
  before : ReaderState
  ends : ended s s.within ≡ Ok before
  blocks : u.blocks ≡ s.blocks
  at : u.within ≡ Listing
  none : u.has_item ≡ false
  kept : u.width ≡ or_first s.width width

begun : (s u : ReaderState) (width : ℤ) → begun_listing s width ≡ Ok u → Begun s u width
unfolding begun_listing
begun s u width e =
    let (x, ends, last) = said_inside (ended s s.within)
    (λ (t : ReaderState). Ok (record t { within = Listing; has_item = false; width = or_first t.width width })) u e in
    let same = ok_said (record x { within = Listing; has_item = false; width = or_first x.width width }) u last in
    let (blocks, wide) = ended_blocks s x s.within ends in
    record {
      before = x;
      ends = ends;
      blocks = sym (ap (λ (y : ReaderState). y.blocks) same) ∙ blocks;
      at = sym (ap (λ (y : ReaderState). y.within) same);
      none = sym (ap (λ (y : ReaderState). y.has_item) same);
      kept = sym (ap (λ (y : ReaderState). y.width) same) ∙ ap (λ (first : Option ℤ). or_first first width) wide;
    }

-- ---- lines of a listing

listed_test : (a b : Bool) → a ≡ false → b ≡ false → not (a || b) ≡ true
listed_test true b p q = absurd cc
listed_test false true p q = absurd cc
listed_test false false p q = refl

ends_test : (a b : Bool) → a ≡ true → not (a || b) ≡ false
ends_test true b p = refl
ends_test false b p = absurd cc

blank_test : (a b : Bool) → b ≡ true → not (a || b) ≡ false
blank_test true b p = refl
blank_test false true p = refl
blank_test false false p = absurd cc

listed_read : (s : ReaderState) (line : List ℕ) → in_listing s.within ≡ true → begins_listing line ≡ false →
    bytes_eq line [] ≡ false → line_read true s line ≡ line_read false s line
unfolding line_read said_in galley_line listing_line
listed_read s line inside root some =
    ap (λ (r : Result ParsedLine ListKind). r >>= (λ it. step s it line))
    (no_root line (root_at line) (listing_line (in_listing s.within) line) root
    ∙ ap (λ (b : Bool). listing_line b line) inside
    ∙ if_false (bytes_eq line []) (Ok said.Blank) (block_line line) some)

blank_step : (s u : ReaderState) (line : List ℕ) → in_listing s.within ≡ true → begins_listing line ≡ false →
    bytes_eq line [] ≡ true → line_read true s line ≡ Ok u → ended s s.within ≡ Ok u
unfolding line_read said_in galley_line listing_line step
blank_step s u line inside root none e =
    sym (ap (λ (r : Result ParsedLine ListKind). r >>= (λ it. step s it line))
    (no_root line (root_at line) (listing_line (in_listing s.within) line) root
    ∙ ap (λ (b : Bool). listing_line b line) inside
    ∙ if_true (bytes_eq line []) (Ok said.Blank) (block_line line) none)) ∙ e

-- ---- all lines

-- where nothing was read yet the first listing tells the width
abbrev TellsWidth : Option ℤ → ReaderState → List (List ℕ) → Type 0
TellsWidth None last lines = (width : ℤ) → last.width ≡ Some width → IsFirstWidth width (listings lines)
TellsWidth (Some width) last lines = last.width ≡ Some width

-- outside of listings: what follows are the blocks of the listings to come
record SaysOutside (s last : ReaderState) (lines : List (List ℕ)) : Type 0 where
  mine : List Block
  blocks : last.blocks ≡ s.blocks ++ mine
  are : InOrder SaysBlocks mine (listings lines)
  width : TellsWidth s.width last lines

-- in a listing: the rest of its lines comes first
record SaysInside (width : ℤ) (old : List Block) (before : List (List ℕ)) (last : ReaderState)
    (lines : List (List ℕ)) : Type 0 where
  here : List Block
  mine : List Block
  blocks : last.blocks ≡ old ++ (here ++ mine)
  each : InOrder SaysBlock (before ++ take_while is_listed lines) here
  are : InOrder SaysBlocks mine (listings lines)
  kept : last.width ≡ Some width

abbrev Says : List (List ℕ) → ReaderState → ReaderState → Type 0
Says lines s last = (s.within ≡ Outside → SaysOutside s last lines)
    × ((width : ℤ) (old : List Block) (before : List (List ℕ)) → Holds (Some width) old before s →
    SaysInside width old before last lines)

no_more : (s t last : ReaderState) → s ≡ t → ended t t.within ≡ Ok last → Says [] s last
no_more s t last same ends =
    let e : ended s s.within ≡ Ok last = ap (λ (x : ReaderState). ended x x.within) same ∙ ends in
    let (blocks, wide) = ended_blocks s last s.within e in (
      λ at. record {
        mine = [];
        blocks = blocks ∙ sym (append-nil s.blocks);
        are = refl;
        width = tells s.width wide;
      },
      λ width old before holds. (let it = whole (Some width) old before s last s.within holds e in record {
        here = it.mine;
        mine = [];
        blocks = blocks ∙ it.blocks ∙ ap (λ (x : List Block). old ++ x) (sym (append-nil it.mine));
        each = subst (λ (l : List (List ℕ)). InOrder SaysBlock l it.mine) (sym (append-nil before)) it.are;
        are = refl;
        kept = wide ∙ it.kept;
      }),
    )
  where
    none_some : (width : ℤ) → last.width ≡ None → last.width ≡ Some width → ⊥
    none_some width p q = absurd cc

    tells : (first : Option ℤ) → last.width ≡ first → TellsWidth first last []
    tells None is = λ width e. none_some width is e
    tells (Some width) is = is

module _ (line : List ℕ) (lines : List (List ℕ)) (s u last : ReaderState) (read : line_read true s line ≡ Ok u)
    (later : Says lines u last) where
  -- ---- a root

  module _ (root : begins_listing line ≡ true) where
    listings_are : listings (line ∷ lines) ≡ record { root = line; lines = take_while is_listed lines } ∷ listings lines
    listings_are = if_true (begins_listing line)
        (record { root = line; lines = take_while is_listed lines } ∷ listings lines) (listings lines) root

    -- the listing that begins says blocks, and the others those behind
    record Opens (width : ℤ) : Type 0 where
      first : List Block
      others : List Block
      blocks : last.blocks ≡ s.blocks ++ (first ++ others)
      are : InOrder SaysBlocks (first ++ others) (listings (line ∷ lines))
      kept : last.width ≡ or_first s.width width

    opens_with : (width wide : ℤ) → galley_line false line ≡ Ok (said.Root width) → Begun s u width →
        u.width ≡ Some wide → or_first s.width width ≡ Some wide → Opens width
    opens_with width wide says new is first =
        let holds : HoldsBlocks (Some wide) s.blocks [] u = record {
          mine = [];
          kept = is;
          blocks = new.blocks ∙ sym (append-nil s.blocks);
          are = refl;
          last = λ has. absurd (not_both u.has_item has new.none);
        } in
        let it = later.1 wide s.blocks [] (subst (λ (w : Within). HoldsAt w (Some wide) s.blocks [] u) (sym new.at) holds) in
        record {
          first = it.here;
          others = it.mine;
          blocks = it.blocks;
          are = subst (λ (all : List AListing). InOrder SaysBlocks (it.here ++ it.mine) all) (sym listings_are)
              (it.here, it.mine, refl, record { width = width; root = says; each = it.each }, it.are);
          kept = it.kept ∙ sym first;
        }

    opens : (width : ℤ) → galley_line false line ≡ Ok (said.Root width) → Begun s u width → Opens width
    opens width says new = by s.width refl
      where
        by : (first : Option ℤ) → s.width ≡ first → Opens width
        by None at = opens_with width width says new
            (new.kept ∙ ap (λ (o : Option ℤ). or_first o width) at) (ap (λ (o : Option ℤ). or_first o width) at)
        by (Some wide) at = opens_with width wide says new
            (new.kept ∙ ap (λ (o : Option ℤ). or_first o width) at) (ap (λ (o : Option ℤ). or_first o width) at)

    root_tells : (width : ℤ) → galley_line false line ≡ Ok (said.Root width) → (first : Option ℤ) → s.width ≡ first →
        last.width ≡ or_first s.width width → TellsWidth first last (line ∷ lines)
    root_tells width says None at kept = λ wide is.
        (let same : width ≡ wide = some_same width wide (sym (kept ∙ ap (λ (o : Option ℤ). or_first o width) at) ∙ is) in
        subst (λ (all : List AListing). IsFirstWidth wide all) (sym listings_are)
        (subst (λ (w : ℤ). galley_line false line ≡ Ok (said.Root w)) same says))
      where
        some_same : (x y : ℤ) → ◌≡◌ {A = Option ℤ} (Some x) (Some y) → x ≡ y
        some_same x y e = cc
    root_tells width says (Some wide) at kept = kept ∙ ap (λ (o : Option ℤ). or_first o width) at

    at_root : Says (line ∷ lines) s last
    at_root =
        let (width, says, steps) = root_read s u line root read in
        let new = begun s u width steps in
        let open_ones = opens width says new in (
          λ at. record {
            mine = open_ones.first ++ open_ones.others;
            blocks = open_ones.blocks;
            are = open_ones.are;
            width = root_tells width says s.width refl open_ones.kept;
          },
          λ wide old before holds. (let it = whole (Some wide) old before s new.before s.within holds new.ends in record {
            here = it.mine;
            mine = open_ones.first ++ open_ones.others;
            blocks = open_ones.blocks ∙ ap (λ (x : List Block). x ++ (open_ones.first ++ open_ones.others)) it.blocks
                ∙ append_assoc old it.mine (open_ones.first ++ open_ones.others);
            each = subst (λ (l : List (List ℕ)). InOrder SaysBlock l it.mine)
                (sym (ap (λ (l : List (List ℕ)). before ++ l)
                (taken_none is_listed line lines (ends_test (begins_listing line) (bytes_eq line []) root))
                ∙ append-nil before)) it.are;
            are = open_ones.are;
            kept = open_ones.kept ∙ ap (λ (o : Option ℤ). or_first o width) it.kept;
          }),
        )

  -- ---- any other line

  module _ (other : begins_listing line ≡ false) where
    listings_same : listings (line ∷ lines) ≡ listings lines
    listings_same = if_false (begins_listing line)
        (record { root = line; lines = take_while is_listed lines } ∷ listings lines) (listings lines) other

    tells_same : (first : Option ℤ) → TellsWidth first last lines → TellsWidth first last (line ∷ lines)
    tells_same None tells = λ width e.
        subst (λ (all : List AListing). IsFirstWidth width all) (sym listings_same) (tells width e)
    tells_same (Some width) tells = tells

    same_listings : (mine : List Block) → InOrder SaysBlocks mine (listings lines) →
        InOrder SaysBlocks mine (listings (line ∷ lines))
    same_listings mine are = subst (λ (all : List AListing). InOrder SaysBlocks mine all) (sym listings_same) are

    outside_says : s.within ≡ Outside → SaysOutside s last (line ∷ lines)
    outside_says at =
        let same = ok_said s u (sym (outside_line s line at other) ∙ read) in
        let it = later.0 (sym (ap (λ (x : ReaderState). x.within) same) ∙ at) in
        record {
          mine = it.mine;
          blocks = it.blocks ∙ ap (λ (x : ReaderState). x.blocks ++ it.mine) (sym same);
          are = same_listings it.mine it.are;
          width = tells_same s.width (subst (λ (o : Option ℤ). TellsWidth o last lines)
              (sym (ap (λ (x : ReaderState). x.width) same)) it.width);
        }

    blank_tells : (first : Option ℤ) (width : ℤ) → first ≡ Some width → TellsWidth first last lines →
        last.width ≡ Some width
    blank_tells None width is tells = absurd cc
    blank_tells (Some wide) width is tells = tells ∙ is

    blank_says : bytes_eq line [] ≡ true → (width : ℤ) (old : List Block) (before : List (List ℕ)) →
        Holds (Some width) old before s → SaysInside width old before last (line ∷ lines)
    blank_says none width old before holds =
        let ends = blank_step s u line (open_listing (Some width) old before s s.within holds) other none read in
        let it = whole (Some width) old before s u s.within holds ends in
        let (blocks, wide) = ended_blocks s u s.within ends in
        let next = later.0 (ended_outside s u s.within refl ends) in
        record {
          here = it.mine;
          mine = next.mine;
          blocks = next.blocks ∙ ap (λ (x : List Block). x ++ next.mine) (blocks ∙ it.blocks)
              ∙ append_assoc old it.mine next.mine;
          each = subst (λ (l : List (List ℕ)). InOrder SaysBlock l it.mine)
              (sym (ap (λ (l : List (List ℕ)). before ++ l)
              (taken_none is_listed line lines (blank_test (begins_listing line) (bytes_eq line []) none))
              ∙ append-nil before)) it.are;
          are = same_listings next.mine next.are;
          kept = blank_tells u.width width (wide ∙ it.kept) next.width;
        }

    listed_says : bytes_eq line [] ≡ false → (width : ℤ) (old : List Block) (before : List (List ℕ)) →
        Holds (Some width) old before s → SaysInside width old before last (line ∷ lines)
    listed_says some width old before holds =
        let alone = sym (listed_read s line (open_listing (Some width) old before s s.within holds) other some) ∙ read in
        let it = later.1 width old (before ++ line ∷ []) (holds_step (Some width) old before line s u holds alone) in
        record {
          here = it.here;
          mine = it.mine;
          blocks = it.blocks;
          each = subst (λ (l : List (List ℕ)). InOrder SaysBlock l it.here)
              (append_assoc before (line ∷ []) (take_while is_listed lines)
              ∙ ap (λ (l : List (List ℕ)). before ++ l)
              (sym (taken_more is_listed line lines (listed_test (begins_listing line) (bytes_eq line []) other some))))
              it.each;
          are = same_listings it.mine it.are;
          kept = it.kept;
        }

    at_other : Says (line ∷ lines) s last
    at_other = (
      outside_says,
      λ width old before holds. by_bool (bytes_eq line []) (λ none. blank_says none width old before holds)
          (λ some. listed_says some width old before holds),
    )

  at_line : Says (line ∷ lines) s last
  at_line = by_bool (begins_listing line) at_root at_other

says_all : (lines : List (List ℕ)) (s t last : ReaderState) → Through true s lines t → ended t t.within ≡ Ok last →
    Says lines s last
says_all [] s t last through ends = no_more s t last through ends
says_all (line ∷ lines) s t last (u, read, rest) ends =
    at_line line lines s u last read (says_all lines u t last rest ends)

leads_says : (lines : List (List ℕ)) (galley : GalleyValue) → LeadsTo lines galley → IsGalleyOf lines galley
leads_says lines galley leads =
    let it = (says_all lines (started Outside) leads.state leads.last leads.through leads.ends).0 refl in
    record {
      width = it.width galley.width leads.width;
      blocks = subst (λ (blocks : List Block). InOrder SaysBlocks blocks (listings lines))
          (sym it.blocks ∙ leads.blocks) it.are;
    }

pub reads_listings : ReadsItsListings
reads_listings wrap text galley e = leads_says (lines_read wrap text) galley (galley_leads wrap text galley e)
