-- What the item lines of a script say.
use Rattle.std.proofs.Common.{◌≡◌, ◌∙◌, refl, sym, ap, subst, arith, ℕ, ◌+◌, false, List, [], ◌∷◌, ◌++◌, length, append-nil, append_assoc, Option, None}
use Rattle.std.specs.Prelude.{Result, Ok, ℤ}
use Rattle.pg_list.specs.declared.blocks.Block.{Block}
use Rattle.pg_scan.specs.Lines.{joined}
use Rattle.pg_showbox.specs.Reading.{at_line, run, then_ok}
use Rattle.pg_showbox.specs.State.{ended, started}
use Rattle.pg_showbox.specs.declared.kinds.ListFault.{ListFault}
use Rattle.pg_showbox.specs.declared.state.ReaderState.{ReaderState}
use Rattle.pg_showbox.specs.declared.state.Within.{Within}
use Rattle.pg_showbox.specs.declared.state.Within.TheVariants.{Listing}
use Rattle.pg_edits.specs.Script.{blocks_at}
use Rattle.law_readers.specs.Galleys.{SaysBlock}
use Rattle.law_readers.specs.InOrder.{InOrder}
use Rattle.law_readers.specs.Scripts.{ItemLinesAreRead, ReadsItsItemLines}
use Rattle.law_readers.proofs.Joined.{none_joined}
use Rattle.law_readers.proofs.Listed.{Holds, HoldsBlocks, holds_step}
use Rattle.law_readers.proofs.Readable.{blocks_go}
use Rattle.law_readers.proofs.Sound.{ended_blocks, whole}
use Rattle.pg_showbox.proofs.ShownLemmas.{then_is}
use Rattle.law_readers.proofs.Through.{Through, at_inside, run_through, through_run}

-- line by line all of them are said
holds_all : (width : Option ℤ) (old : List Block) (before lines : List (List ℕ)) (s t : ReaderState) →
    Holds width old before s → Through false s lines t → Holds width old (before ++ lines) t
holds_all width old before [] s t holds same =
    subst (λ (l : List (List ℕ)). Holds width old l t) (sym (append-nil before))
    (subst (λ (x : ReaderState). Holds width old before x) same holds)
holds_all width old before (line ∷ lines) s t holds (u, read, rest) =
    subst (λ (l : List (List ℕ)). Holds width old l t) (append_assoc before (line ∷ []) lines)
    (holds_all width old (before ++ line ∷ []) lines u t (holds_step width old before line s u holds read) rest)

blocks_inside : (s : ReaderState) (blocks : List Block) →
    ◌≡◌ {A = Result (List Block) ListFault} (Ok s.blocks) (Ok blocks) → s.blocks ≡ blocks
blocks_inside s blocks e = cc

pub reads_items : ReadsItsItemLines
unfolding blocks_at
reads_items first lines blocks e =
    let (last, all, made) = then_is (then_ok (run false (started Listing) (joined None first lines))
    (λ (s : ReaderState). at_line (first + length lines) (ended s s.within))) (λ (s : ReaderState). Ok s.blocks) blocks e in
    let (t, read, ends) = then_is (run false (started Listing) (joined None first lines))
    (λ (s : ReaderState). at_line (first + length lines) (ended s s.within)) last all in
    let end = at_inside (first + length lines) (ended t t.within) last ends in
    let through = subst (λ (l : List (List ℕ)). Through false (started Listing) l t) (none_joined first lines)
    (run_through false (started Listing) t (joined None first lines) read) in
    let start : HoldsBlocks None [] [] (started Listing) = record {
      mine = [];
      kept = refl;
      blocks = refl;
      are = refl;
      last = λ has. absurd cc;
    } in
    let it = whole None [] lines t last t.within
    (holds_all None [] [] lines (started Listing) t start through) end in
    subst (λ (x : List Block). InOrder SaysBlock lines x)
    (sym it.blocks ∙ sym (ended_blocks t last t.within end).0 ∙ blocks_inside last blocks made) it.are

pub items_are_read : ItemLinesAreRead
unfolding blocks_at ended
items_are_read first lines blocks are few =
    let (u, goes, is) = blocks_go false blocks (started Listing) lines are refl (omega (arith, few)) in
    let read = through_run false (started Listing) u (joined None first lines)
    (subst (λ (l : List (List ℕ)). Through false (started Listing) l u) (sym (none_joined first lines)) goes) in
    ap (λ (r : Result ReaderState ListFault). then_ok (then_ok r
    (λ s. at_line (first + length lines) (ended s s.within))) (λ s. Ok s.blocks)) read
    ∙ ap (λ (w : Within). then_ok (at_line (first + length lines) (ended u w)) (λ s. Ok s.blocks)) is.within
    ∙ ap (λ (x : List Block). Ok x) is.are
