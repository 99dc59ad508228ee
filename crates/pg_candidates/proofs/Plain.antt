-- Ends without picks.
use Rattle.std.proofs.Common.{◌≡◌, refl, List, [], None, ℕ, ℤ, pos}
use Rattle.pg_column.specs.Passed.{Passed}
use Rattle.pg_list.specs.declared.galley.Place.{Place}
use Rattle.pg_notes.specs.NotesValue.{heights, skips}
use Rattle.pg_rules.specs.Room.{Document}
use Rattle.law_walk.specs.Candidates.{Candidate}
use Rattle.pg_candidates.specs.Nears.{IsLeastRoom, IsNear, NearValue, kind_at}
use Rattle.pg_candidates.specs.declared.kind.EndKind.{EndKind}
use Rattle.pg_candidates.specs.Taken.{IsPlain}
use Rattle.pg_candidates.specs.View.{plain_to}

pub plain_is : (c : Candidate) → IsPlain c → c ≡ plain_to c.to c.passed
plain_is c plain = make c.to c.passed c.picks [] c.pick_demerits (pos 0) plain.0 plain.1
  where
    make : (to : Place) (p : Passed) (picks others : List ℕ) (d e : ℤ) → picks ≡ others → d ≡ e →
        ◌≡◌ {A = Candidate} (record { to = to; picks = picks; passed = p; pick_demerits = d })
        (record { to = to; picks = others; passed = p; pick_demerits = e })
    make to p picks others d e f g = rw (f, g) refl

-- what no room changes of one, with nothing known of its worst
abbrev pub plain_value : Document → Candidate → EndKind → ℤ → NearValue
plain_value doc c kind least = record {
  at = 0;
  to = c.to;
  totals = c.passed.totals;
  notes = pos (heights doc.style.classes c.passed.notes);
  give = skips doc.style.classes c.passed.notes;
  pick_demerits = c.pick_demerits;
  kind = kind;
  until = None;
  least = least;
  worst = None;
}

pub plain_near : (doc : Document) (most : ℤ) (c : Candidate) (kind : EndKind) (least : ℤ) → kind ≡ kind_at doc.blocks c.to →
    IsLeastRoom doc c least → IsNear doc most c (plain_value doc c kind least)
plain_near doc most c kind least e is = record {
  to = refl;
  totals = refl;
  notes = refl;
  give = refl;
  pick_demerits = refl;
  kind = e;
  least = is;
  worst = tt;
}
