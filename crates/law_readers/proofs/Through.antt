-- Lines of a galley file that are read one after another.
use Rattle.std.proofs.Common.{◌≡◌, ◌∙◌, refl, sym, ap, subst, arith, ℕ, ◌+◌, ◌≤◌, inl, inr, Bool, true, false, List, [], ◌∷◌, ◌++◌, length, length-append, Option, Some, None}
use Rattle.std.specs.Prelude.{codes, Result, Ok, Err, ℤ}
use Rattle.std.specs.List.{AllByRecursion}
use Rattle.pg_lemmas.proofs.Lists.{none_is}
use Rattle.pg_list.specs.declared.blocks.Block.{Block}
use Rattle.pg_list.specs.GalleyValue.{GalleyValue}
use Rattle.pg_scan.specs.Lines.{Line, joined, raw_lines}
use Rattle.pg_scan.specs.Parts.{after, on}
use Rattle.pg_showbox.proofs.ShownLemmas.{then_is}
use Rattle.pg_showbox.specs.ParsedLine.{galley_line, listing_line, root_at}
use Rattle.pg_showbox.specs.Parts.{◌>>=◌}
use Rattle.pg_showbox.specs.Reading.{all_read, at_line, galley_from, galley_of, in_listing, line_read, run, said_in, then_ok}
use Rattle.pg_showbox.specs.State.{ended, started, step}
use Rattle.pg_showbox.specs.declared.kinds.ListFault.{ListFault}
use Rattle.pg_showbox.specs.declared.kinds.ListKind.{ListKind}
use Rattle.pg_showbox.specs.declared.kinds.ListKind.TheVariants.{NoListing}
use Rattle.pg_showbox.specs.declared.parsed.ParsedLine.{ParsedLine}
use Rattle.pg_showbox.specs.declared.state.ReaderState.{ReaderState}
use Rattle.pg_showbox.specs.declared.state.Within.{Within}
use Rattle.pg_showbox.specs.declared.state.Within.TheVariants.{Outside, Listing, InChoice, InVariant}
use Rattle.law_readers.specs.Galleys.{AreClosed, GalleyFaultsStay, PassesOverLinesOutside, ReadsBrokenLines, begins_listing}
use Rattle.law_readers.specs.LinesRead.{EndsWhole, lines_read}
use Rattle.law_readers.proofs.Joined.{From, broken_whole, joined_both, joined_from, texts}

-- each line leads from one state to the next
abbrev pub Through : Bool → ReaderState → List (List ℕ) → ReaderState → Type 0
Through is_file s [] t = s ≡ t
Through is_file s (line ∷ lines) t =
    (u : ReaderState) × (line_read is_file s line ≡ Ok u) × Through is_file u lines t

pub through_both : (is_file : Bool) (s u t : ReaderState) (lines more : List (List ℕ)) → Through is_file s lines u →
    Through is_file u more t → Through is_file s (lines ++ more) t
through_both is_file s u t [] more first second =
    subst (λ (x : ReaderState). Through is_file x more t) (sym first) second
through_both is_file s u t (line ∷ lines) more (next, is, rest) second =
    (next, is, through_both is_file next u t lines more rest second)

pub through_cut : (is_file : Bool) (s t : ReaderState) (lines more : List (List ℕ)) →
    Through is_file s (lines ++ more) t → (u : ReaderState) × Through is_file s lines u × Through is_file u more t
through_cut is_file s t [] more all = (s, refl, all)
through_cut is_file s t (line ∷ lines) more (next, is, rest) =
    let (u, first, second) = through_cut is_file next t lines more rest in (u, (next, is, first), second)

-- ---- answers

pub at_inside : {A : Type 0} (n : ℕ) (r : Result A ListKind) (x : A) → at_line n r ≡ Ok x → r ≡ Ok x
at_inside n (Ok y) x e = let same : y ≡ x = cc in ap (λ (z : _). Ok z) same
at_inside n (Err kind) x e = absurd cc

pub run_through : (is_file : Bool) (s t : ReaderState) (lines : List Line) → run is_file s lines ≡ Ok t →
    Through is_file s (texts lines) t
unfolding run
run_through is_file s t [] e = cc
run_through is_file s t (line ∷ lines) e =
    let (u, is, rest) = then_is (at_line line.number (line_read is_file s line.text))
    (λ (x : ReaderState). run is_file x lines) t e in
    (u, at_inside line.number (line_read is_file s line.text) u is, run_through is_file u t lines rest)

pub through_run : (is_file : Bool) (s t : ReaderState) (lines : List Line) → Through is_file s (texts lines) t →
    run is_file s lines ≡ Ok t
unfolding run
through_run is_file s t [] e = ap (λ (x : ReaderState). Ok x) e
through_run is_file s t (line ∷ lines) (u, is, rest) =
    ap (λ (r : Result ReaderState ListKind). then_ok (at_line line.number r) (λ x. run is_file x lines)) is
    ∙ through_run is_file u t lines rest

-- ---- a whole file

-- the lines lead to a state in which a listing may end, with this galley
pub record LeadsTo (lines : List (List ℕ)) (galley : GalleyValue) : Type 0 where
  pub state : ReaderState
  pub through : Through true (started Outside) lines state
  pub last : ReaderState
  pub ends : ended state state.within ≡ Ok last
  pub width : last.width ≡ Some galley.width
  pub blocks : last.blocks ≡ galley.blocks

galley_inside : (blocks : List Block) (width : Option ℤ) (galley : GalleyValue) → galley_from blocks width ≡ Ok galley →
    (width ≡ Some galley.width) × (blocks ≡ galley.blocks)
galley_inside blocks None galley e = absurd cc
galley_inside blocks (Some width) galley e =
    let same : record { width = width; blocks = blocks } ≡ galley = cc in
    (ap (λ (g : GalleyValue). Some g.width) same, ap (λ (g : GalleyValue). g.blocks) same)

pub galley_leads : (wrap : Option ℕ) (text : List ℕ) (galley : GalleyValue) → galley_of text wrap ≡ Ok galley →
    LeadsTo (lines_read wrap text) galley
unfolding galley_of all_read
galley_leads wrap text galley e =
    let (last, all, made) = then_is (then_ok (run true (started Outside) (joined wrap 1 (raw_lines text)))
    (λ (t : ReaderState). at_line (1 + length (raw_lines text)) (ended t t.within)))
    (λ (s : ReaderState). galley_from s.blocks s.width) galley e in
    let (state, read, ends) = then_is (run true (started Outside) (joined wrap 1 (raw_lines text)))
    (λ (t : ReaderState). at_line (1 + length (raw_lines text)) (ended t t.within)) last all in
    let inside = galley_inside last.blocks last.width galley made in
    record {
      state = state;
      through = run_through true (started Outside) state (joined wrap 1 (raw_lines text)) read;
      last = last;
      ends = at_inside (1 + length (raw_lines text)) (ended state state.within) last ends;
      width = inside.0;
      blocks = inside.1;
    }

pub leads_galley : (wrap : Option ℕ) (text : List ℕ) (galley : GalleyValue) → LeadsTo (lines_read wrap text) galley →
    galley_of text wrap ≡ Ok galley
unfolding galley_of all_read
leads_galley wrap text galley leads =
    let read = through_run true (started Outside) leads.state (joined wrap 1 (raw_lines text)) leads.through in
    ap (λ (r : Result ReaderState ListFault). then_ok (then_ok r
    (λ (t : ReaderState). at_line (1 + length (raw_lines text)) (ended t t.within)))
    (λ (s : ReaderState). galley_from s.blocks s.width)) read
    ∙ ap (λ (r : Result ReaderState ListKind). then_ok (at_line (1 + length (raw_lines text)) r)
    (λ (s : ReaderState). galley_from s.blocks s.width)) leads.ends
    ∙ ap (λ (width : Option ℤ). galley_from leads.last.blocks width) leads.width
    ∙ ap (λ (blocks : List Block). galley_from blocks (Some galley.width)) leads.blocks

pub reads_broken : ReadsBrokenLines
reads_broken width broken whole galley are =
    let same = broken_whole width broken whole are in (
      λ e. leads_galley None whole galley
          (subst (λ (lines : List (List ℕ)). LeadsTo lines galley) same (galley_leads (Some width) broken galley e)),
      λ e. leads_galley (Some width) broken galley
          (subst (λ (lines : List (List ℕ)). LeadsTo lines galley) (sym same) (galley_leads None whole galley e)),
    )

-- ---- lines outside of listings

pub no_root : (line : List ℕ) (f : List ℕ → Result ParsedLine ListKind) (other : Result ParsedLine ListKind) →
    begins_listing line ≡ false → on (after (codes "\\vbox(") line) f other ≡ other
no_root line f other none =
    ap (λ (o : Option (List ℕ)). on o f other) (none_is (after (codes "\\vbox(") line) none)

pub outside_line : (s : ReaderState) (line : List ℕ) → s.within ≡ Outside → begins_listing line ≡ false →
    line_read true s line ≡ Ok s
unfolding line_read said_in galley_line listing_line step
outside_line s line at none =
    ap (λ (within : Within). galley_line (in_listing within) line >>= (λ it. step s it line)) at
    ∙ ap (λ (r : Result ParsedLine ListKind). r >>= (λ it. step s it line))
    (no_root line (root_at line) (listing_line false line) none)

outside_lines : (s : ReaderState) (lines : List (List ℕ)) → s.within ≡ Outside →
    AllByRecursion (λ line. begins_listing line ≡ false) lines → Through true s lines s
outside_lines s [] at each = refl
outside_lines s (line ∷ lines) at each = (s, outside_line s line at each.0, outside_lines s lines at each.1)

outside_through : (s t : ReaderState) (lines : List (List ℕ)) → s.within ≡ Outside →
    AllByRecursion (λ line. begins_listing line ≡ false) lines → Through true s lines t → s ≡ t
outside_through s t [] at each through = through
outside_through s t (line ∷ lines) at each (u, is, rest) =
    let stays = outside_line s line at each.0 in
    let same : s ≡ u = ok_same (sym stays ∙ is) in
    same ∙ outside_through u t lines (sym (ap (λ (x : ReaderState). x.within) same) ∙ at) each.1 rest
  where
    ok_same : ◌≡◌ {A = Result ReaderState ListKind} (Ok s) (Ok u) → s ≡ u
    ok_same e = cc

-- behind an empty line no listing is open
pub ended_outside : (s t : ReaderState) (within : Within) → s.within ≡ within → ended s within ≡ Ok t → t.within ≡ Outside
unfolding ended
ended_outside s t Outside at e = let same : s ≡ t = cc in sym (ap (λ (x : ReaderState). x.within) same) ∙ at
ended_outside s t Listing at e =
    let same : record s { within = Outside; has_item = false } ≡ t = cc in sym (ap (λ (x : ReaderState). x.within) same)
ended_outside s t InChoice at e = absurd cc
ended_outside s t (InVariant looseness demerits) at e = absurd cc

blank_read : (s t : ReaderState) (within : Within) → s.within ≡ within → line_read true s [] ≡ Ok t → t.within ≡ Outside
unfolding line_read said_in galley_line listing_line step after
blank_read s t Outside at e =
    let same : s ≡ t = ok_same (sym (ap (λ (w : Within). galley_line (in_listing w) [] >>= (λ it. step s it [])) at) ∙ e) in
    sym (ap (λ (x : ReaderState). x.within) same) ∙ at
  where
    ok_same : ◌≡◌ {A = Result ReaderState ListKind} (Ok s) (Ok t) → s ≡ t
    ok_same e = cc
blank_read s t Listing at e = ended_outside s t s.within refl
    (sym (ap (λ (w : Within). galley_line (in_listing w) [] >>= (λ it. step s it [])) at) ∙ e)
blank_read s t InChoice at e = ended_outside s t s.within refl
    (sym (ap (λ (w : Within). galley_line (in_listing w) [] >>= (λ it. step s it [])) at) ∙ e)
blank_read s t (InVariant looseness demerits) at e = ended_outside s t s.within refl
    (sym (ap (λ (w : Within). galley_line (in_listing w) [] >>= (λ it. step s it [])) at) ∙ e)

closed_outside : (lines : List (List ℕ)) (t : ReaderState) → AreClosed lines → Through true (started Outside) lines t →
    t.within ≡ Outside
closed_outside lines t (inl none) through =
    let same = subst (λ (xs : List (List ℕ)). Through true (started Outside) xs t) none through in
    sym (ap (λ (x : ReaderState). x.within) same)
closed_outside lines t (inr (front, cut)) through =
    let (u, first, (v, is, rest)) = through_cut true (started Outside) t front ([] ∷ [])
    (subst (λ (xs : List (List ℕ)). Through true (started Outside) xs t) cut through) in
    sym (ap (λ (x : ReaderState). x.within) rest) ∙ blank_read u v u.within refl is

module _ (before outside behind : List (List ℕ)) (galley : GalleyValue) (closed : AreClosed before)
    (each : AllByRecursion (λ line. begins_listing line ≡ false) outside) where
  leave_out : LeadsTo (before ++ (outside ++ behind)) galley → LeadsTo (before ++ behind) galley
  leave_out leads =
      let (u, first, rest) = through_cut true (started Outside) leads.state before (outside ++ behind) leads.through in
      let (v, skipped, last) = through_cut true u leads.state outside behind rest in
      let same = outside_through u v outside (closed_outside before u closed first) each skipped in
      record {
        state = leads.state;
        through = through_both true (started Outside) u leads.state before behind first
            (subst (λ (x : ReaderState). Through true x behind leads.state) (sym same) last);
        last = leads.last;
        ends = leads.ends;
        width = leads.width;
        blocks = leads.blocks;
      }

  put_in : LeadsTo (before ++ behind) galley → LeadsTo (before ++ (outside ++ behind)) galley
  put_in leads =
      let (u, first, last) = through_cut true (started Outside) leads.state before behind leads.through in
      let skipped = outside_lines u outside (closed_outside before u closed first) each in
      record {
        state = leads.state;
        through = through_both true (started Outside) u leads.state before (outside ++ behind) first
            (through_both true u u leads.state outside behind skipped last);
        last = leads.last;
        ends = leads.ends;
        width = leads.width;
        blocks = leads.blocks;
      }

pub passes_over : PassesOverLinesOutside
passes_over wrap more less before outside behind galley closed each more_are less_are = (
  λ e. leads_galley wrap less galley (subst (λ (lines : List (List ℕ)). LeadsTo lines galley) (sym less_are)
      (leave_out before outside behind galley closed each (subst (λ (lines : List (List ℕ)). LeadsTo lines galley) more_are
      (galley_leads wrap more galley e)))),
  λ e. leads_galley wrap more galley (subst (λ (lines : List (List ℕ)). LeadsTo lines galley) (sym more_are)
      (put_in before outside behind galley closed each (subst (λ (lines : List (List ℕ)). LeadsTo lines galley) less_are
      (galley_leads wrap less galley e)))),
)

-- ---- faults

run_both : (is_file : Bool) (s : ReaderState) (front back : List Line) →
    run is_file s (front ++ back) ≡ then_ok (run is_file s front) (λ t. run is_file t back)
unfolding run
run_both is_file s [] back = refl
run_both is_file s (line ∷ front) back = by (at_line line.number (line_read is_file s line.text))
    (λ t. run_both is_file t front back)
  where
    by : (r : Result ReaderState ListFault) →
        ((t : ReaderState) → run is_file t (front ++ back) ≡ then_ok (run is_file t front) (λ u. run is_file u back)) →
        then_ok r (λ t. run is_file t (front ++ back))
        ≡ then_ok (then_ok r (λ t. run is_file t front)) (λ u. run is_file u back)
    by (Ok t) on = on t
    by (Err fault) on = refl

pub fault_line : {A : Type 0} (n : ℕ) (r : Result A ListKind) (fault : ListFault) → at_line n r ≡ Err fault →
    fault.line ≡ n
fault_line n (Ok x) fault e = absurd cc
fault_line n (Err kind) fault e =
    let same : record { line = n; kind = kind } ≡ fault = cc in sym (ap (λ (f : ListFault). f.line) same)

fault_from : (is_file : Bool) (s : ReaderState) (n : ℕ) (lines : List Line) (fault : ListFault) → From n lines →
    run is_file s lines ≡ Err fault → n ≤ fault.line
unfolding run
fault_from is_file s n [] fault each e = absurd cc
fault_from is_file s n (line ∷ lines) fault each e =
    by (at_line line.number (line_read is_file s line.text)) refl (λ t. fault_from is_file t n lines fault each.1) e
  where
    by : (r : Result ReaderState ListFault) → at_line line.number (line_read is_file s line.text) ≡ r →
        ((t : ReaderState) → run is_file t lines ≡ Err fault → n ≤ fault.line) →
        then_ok r (λ t. run is_file t lines) ≡ Err fault → n ≤ fault.line
    by (Ok t) is on e = on t e
    by (Err other) is on e =
        let same : other ≡ fault = cc in
        let line_is = fault_line line.number (line_read is_file s line.text) other is in
        let first = each.0 in
        let number : other.line ≡ fault.line = ap (λ (f : ListFault). f.line) same in
        omega (arith, line_is, number, first)

-- what is made of the lines in front, the lines behind them, and the end of the text behind this line
abbrev galley_behind : Option ℕ → ℕ → List (List ℕ) → ℕ → Result ReaderState ListFault → Result GalleyValue ListFault
galley_behind wrap front back end r = then_ok (then_ok (then_ok r (λ t. run true t (joined wrap (1 + front) back)))
    (λ t. at_line end (ended t t.within))) (λ s. galley_from s.blocks s.width)

galley_cut : (wrap : Option ℕ) (front back : List (List ℕ)) (text : List ℕ) → EndsWhole wrap front →
    raw_lines text ≡ front ++ back →
    galley_of text wrap ≡ galley_behind wrap (length front) back (1 + length (raw_lines text))
    (run true (started Outside) (joined wrap 1 front))
unfolding galley_of all_read
galley_cut wrap front back text whole e =
    ap (λ (r : Result ReaderState ListFault). then_ok (then_ok r
    (λ t. at_line (1 + length (raw_lines text)) (ended t t.within))) (λ s. galley_from s.blocks s.width))
    (ap (λ (lines : List (List ℕ)). run true (started Outside) (joined wrap 1 lines)) e
    ∙ ap (run true (started Outside)) (joined_both wrap 1 front back whole)
    ∙ run_both true (started Outside) (joined wrap 1 front) (joined wrap (1 + length front) back))

module _ (wrap : Option ℕ) (front rest : List (List ℕ)) (end : ℕ) (fault : ListFault) (some : 1 ≤ fault.line)
    (within : fault.line ≤ length front) (long : 1 + length front ≤ end) where
  no_listing : (blocks : List Block) (width : Option ℤ) → galley_from blocks width ≡ Err fault → ⊥
  no_listing blocks None e =
      let same : record { line = 0; kind = NoListing } ≡ fault = cc in
      let number : 0 ≡ fault.line = ap (λ (f : ListFault). f.line) same in
      omega (arith, number, some)
  no_listing blocks (Some width) e = absurd cc

  at_the_end : (u : ReaderState) (r : Result ReaderState ListFault) → at_line end (ended u u.within) ≡ r →
      then_ok r (λ s. galley_from s.blocks s.width) ≡ Err fault → ⊥
  at_the_end u (Ok v) at e = no_listing v.blocks v.width e
  at_the_end u (Err found) at e =
      let same : found ≡ fault = cc in
      let number : found.line ≡ fault.line = ap (λ (f : ListFault). f.line) same in
      let line_is = fault_line end (ended u u.within) found at in
      omega (arith, number, line_is, long, within)

  behind : (t : ReaderState) (r : Result ReaderState ListFault) →
      run true t (joined wrap (1 + length front) rest) ≡ r →
      then_ok (then_ok r (λ u. at_line end (ended u u.within))) (λ s. galley_from s.blocks s.width) ≡ Err fault → ⊥
  behind t (Ok u) at e = at_the_end u (at_line end (ended u u.within)) refl e
  behind t (Err found) at e =
      let same : found ≡ fault = cc in
      let number : found.line ≡ fault.line = ap (λ (f : ListFault). f.line) same in
      let low = fault_from true t (1 + length front) (joined wrap (1 + length front) rest) found
      (joined_from wrap (1 + length front) rest) at in
      omega (arith, number, low, within)

  -- the fault is one of the lines in front
  in_front : (r : Result ReaderState ListFault) → galley_behind wrap (length front) rest end r ≡ Err fault →
      r ≡ Err fault
  in_front (Ok t) e = absurd (behind t (run true t (joined wrap (1 + length front) rest)) refl e)
  in_front (Err found) e = let same : found ≡ fault = cc in ap (λ (f : ListFault). Err f) same

pub galley_faults_stay : GalleyFaultsStay
galley_faults_stay wrap front one other fault whole (rest, begins) (others, begin_alike) is some within =
    let long : length (raw_lines one) ≡ length front + length rest = ap length begins ∙ length-append front rest in
    let at = in_front wrap front rest (1 + length (raw_lines one)) fault some within (omega (arith, long))
    (run true (started Outside) (joined wrap 1 front)) (sym (galley_cut wrap front rest one whole begins) ∙ is) in
    galley_cut wrap front others other whole begin_alike
    ∙ ap (galley_behind wrap (length front) others (1 + length (raw_lines other))) at
