-- What an edit leaves right.
use Rattle.std.proofs.Common.{◌≡◌, subst, arith}
use Rattle.std.specs.Prelude.{min}
use Rattle.pg_list.specs.GalleyValue.{GalleyValue}
use Rattle.pg_list.specs.Places.{spliced}
use Rattle.pg_list.specs.declared.galley.Edit.{Edit}
use Rattle.pg_style.specs.Values.{StyleValue}
use Rattle.pg_rules.specs.Legal.{document}
use Rattle.pg_rules.specs.Ranges.{AreInRange}
use Rattle.pg_rules.specs.Reach.{AgreeBelow, touched}
use Rattle.law_edits.specs.Agreeing.{AgreeLess, EditsAgree, PagesAgree}
use Rattle.law_space.specs.PageSpace.{page_meaning}
use Rattle.pg_table.proofs.BelowLemmas.{right_below_less, right_there}
use Rattle.pg_space.specs.PagesLawful.{key_test, pages_lawful}
use Rattle.pg_session.specs.Edits.{edited}
use Rattle.pg_session.specs.Kept.{StaysRight}

edit_keeps : (g : GalleyValue) (s : StyleValue) (edit : Edit) → AreInRange g s → AreInRange (edited g edit) s →
    EditsAgree g.blocks → AgreeLess g.blocks (edited g edit).blocks → PagesAgree g (edited g edit) s →
    StaysRight g s edit
edit_keeps g s edit a b edits less pages t es right =
    let agree : AgreeBelow (min t (touched g.blocks edit)) g.blocks (spliced g.blocks edit) =
    less (touched g.blocks edit) (min t (touched g.blocks edit)) (omega arith) (edits edit) in
    right_there key_test (page_meaning (document g s)) (page_meaning (document (edited g edit) s)) (pages_lawful g s a)
    (pages_lawful (edited g edit) s b) (min t (touched g.blocks edit)) (pages (min t (touched g.blocks edit)) agree) es
    (right_below_less key_test (page_meaning (document g s)) (pages_lawful g s a) es t (min t (touched g.blocks edit))
    (omega arith) right)

-- a table that is right below a block for a galley is right for the edited one below what the edit touches, too
pub stays_right : (g n : GalleyValue) (s : StyleValue) (edit : Edit) → n ≡ edited g edit → AreInRange g s →
    AreInRange n s → EditsAgree g.blocks → AgreeLess g.blocks n.blocks → PagesAgree g n s → StaysRight g s edit
stays_right g n s edit is a b edits less pages = edit_keeps g s edit a
    (subst (λ (x : GalleyValue). AreInRange x s) is b) edits
    (subst (λ (x : GalleyValue). AgreeLess g.blocks x.blocks) is less)
    (subst (λ (x : GalleyValue). PagesAgree g x s) is pages)
