use Rattle.std.proofs.Common.{◌≡◌, subst}
use Rattle.pg_alone.specs.Notes.{high_note}
use Rattle.pg_furthest.specs.Searches.{SearchValue}
use Rattle.pg_furthest.proofs.search.Search.high_note.Goals as goal

pub returns : goal.returns
returns c = subst (λ (x : SearchValue). c.high_note.result ≡ high_note x.galley x.style) c.self.view_is
    c.high_note.ensures
