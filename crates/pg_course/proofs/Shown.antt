-- What a session that was solved or paginated shows.
use Rattle.std.proofs.Common.{◌≡◌, ◌∙◌, ap, refl, ℕ}
use Rattle.pg_list.specs.GalleyValue.{GalleyValue}
use Rattle.pg_space.specs.declared.solving.Outcome.{Outcome}
use Rattle.pg_session.specs.SessionValue.{SessionValue}
use Rattle.pg_session.specs.Sessions.{IsPaginated, IsSolved, label_reach, labels_reaching}
use Rattle.pg_session.specs.Shows.{Show, after_show, show_of}
use Rattle.pg_session.specs.declared.told.Told.{Told}
use Rattle.pg_course.specs.Counted.{IsShown}

pub solved_shows : (old new : SessionValue) (outcome : Outcome) (before after : ℕ) →
    IsSolved old outcome new before after → IsShown old new before after
solved_shows old new outcome before after solved = record {
  galley = ap (λ (s : SessionValue). s.galley) solved.is;
  style = ap (λ (s : SessionValue). s.style) solved.is;
  floats = ap (λ (s : SessionValue). s.floats) solved.is;
  untouched = ap (λ (s : SessionValue). s.touched) solved.is;
  number = labels_reaching old.touched old.galley old.style new.labels;
  counts = record {
    labels = new.labels;
    frontier = solved.frontier;
    reach = label_reach old.galley old.style;
    reaches = solved.reaches;
    number_is = refl;
  };
  bounded = solved.bounded;
}

pub paginated_shows : (old new : SessionValue) (told : Told) (before after : ℕ) →
    IsPaginated old told new before after → IsShown old new before after
paginated_shows old new told before after paginated = record {
  galley = ap (λ (s : SessionValue). s.galley) paginated.is;
  style = ap (λ (s : SessionValue). s.style) paginated.is;
  floats = ap (λ (s : SessionValue). s.floats) paginated.is;
  untouched = ap (λ (s : SessionValue). s.touched) paginated.is;
  number = labels_reaching old.touched old.galley old.style paginated.labels;
  counts = record {
    labels = paginated.labels;
    frontier = paginated.frontier;
    reach = label_reach old.galley old.style;
    reaches = paginated.reaches;
    number_is = refl;
  };
  bounded = paginated.bounded;
}

-- what is shown next
pub shown_next : (old new : SessionValue) (before after : ℕ) → IsShown old new before after →
    show_of new ≡ after_show (show_of old)
shown_next old new before after shown =
    let seen : GalleyValue → ℕ → Show = λ galley block. record { galley = galley; touched = block } in
    ap (λ (galley : GalleyValue). seen galley new.touched) shown.galley
    ∙ ap (seen old.galley) shown.untouched
