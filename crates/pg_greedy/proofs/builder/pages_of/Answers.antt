use Rattle.std.proofs.Common.{◌≡◌, ◌∙◌, ◌+◌, ◌-◌, ◌<◌, sym, subst, arith, false, true, append-nil, length, []}
use Rattle.pg_list.specs.Break.{is_spent}
use Rattle.pg_greedy.specs.FirstFit.{AreFirstFit}
use Rattle.pg_greedy.specs.Looking.{items_from, style_of}
use Rattle.pg_greedy.specs.Single.{singles}
use Rattle.pg_greedy.proofs.OneFit.{takes_some}
use Rattle.pg_greedy.proofs.OnePage.{goes_on}
use Rattle.pg_greedy.proofs.Places.{spent_start}
use Rattle.pg_greedy.proofs.builder.pages_of.Goals as goal

pub pages-smaller : goal.pages-smaller
pages-smaller c =
    let builder = c.args.builder.now in
    let unspent : is_spent (items_from builder c.pages.from) 0 ≡ false =
    sym (spent_start builder c.requires c.pages.from c.pages.invariant.within c.place_at.result c.place_at.ensures
    c.is_spent.result c.is_spent.ensures.column) ∙ c.pages-test.true in
    let some = takes_some (style_of builder) (items_from builder c.pages.from) c.take_page.result unspent
    c.take_page.ensures.takes in
    let within = c.take_page.ensures.within in
    let less : length builder.galley.now.blocks - (c.pages.from + c.take_page.result)
    < length builder.galley.now.blocks - c.pages.from = omega (arith, some, within) in
    less

pub pages-preserved : goal.pages-preserved
pages-preserved c =
    let builder = c.args.builder.now in
    let unspent : is_spent (items_from builder c.pages.from) 0 ≡ false =
    sym (spent_start builder c.requires c.pages.from c.pages.invariant.within c.place_at.result c.place_at.ensures
    c.is_spent.result c.is_spent.ensures.column) ∙ c.pages-test.true in
    record {
      within = c.take_page.ensures.within;
      fit = goes_on (style_of builder) (singles builder.galley.now.blocks) c.pages.from c.take_page.result c.pages.pages
          c.in_ok-fit_page.field-0 c.push.new.self c.pages.invariant.fit unspent c.take_page.ensures.takes
          c.in_ok-fit_page.ensures c.in_ok-push.ensures.ok;
    }

pub returns : goal.returns
returns c =
    let builder = c.args.builder.now in
    let spent : is_spent (items_from builder c.pages.from) 0 ≡ true =
    sym (spent_start builder c.requires c.pages.from c.pages.invariant.within c.place_at.result c.place_at.ensures
    c.is_spent.result c.is_spent.ensures.column) ∙ c.pages-test.false in
    subst (AreFirstFit (style_of builder) (items_from builder 0) 0) (append-nil c.pages.pages)
    (c.pages.invariant.fit [] spent)
