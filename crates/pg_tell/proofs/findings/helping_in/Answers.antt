use Rattle.std.proofs.Common.{sym}
use Rattle.std.specs.Prelude.{IfOk}
use Rattle.pg_list.specs.GalleyValue.{GalleyValue}
use Rattle.pg_space.proofs.Telling.{of_equal}
use Rattle.pg_style.specs.Values.{StyleValue}
use Rattle.pg_changes.specs.Changes.{AreHelping, NoneLegal}
use Rattle.pg_tell.proofs.findings.helping_in.Goals as goal

pub helping_of-requires : goal.helping_of-requires
helping_of-requires g c = of_equal NoneLegal _ _ _ _ (sym c.galley.ensures) (sym c.style.ensures) c.requires

pub returns : goal.returns
returns g c = of_equal (λ (galley : GalleyValue) (style : StyleValue).
    IfOk c.helping_of.result (AreHelping galley style)) _ _ _ _ c.galley.ensures c.style.ensures
    c.helping_of.ensures
