-- What a session is behind an edit.
use Rattle.std.proofs.Common.{◌≡◌, sym, ap, subst, ◌∙◌, ℕ, inl, inr, List, [], false, arith}
use Rattle.std.specs.Prelude.{min}
use Rattle.pg_floats.specs.AreFloats.{AreFloats}
use Rattle.pg_floats.specs.FloatsValue.{ClassFloatsValue}
use Rattle.pg_hops.specs.Index.{AreHops}
use Rattle.pg_hops.specs.declared.index.Row.{Row}
use Rattle.pg_list.specs.GalleyValue.{GalleyValue}
use Rattle.pg_list.specs.declared.galley.Edit.{Edit}
use Rattle.pg_style.specs.Values.{StyleValue}
use Rattle.pg_rules.specs.Ranges.{AreInRange}
use Rattle.pg_rules.specs.Reach.{touched}
use Rattle.pg_session.specs.Edits.{edited}
use Rattle.pg_session.specs.Kept.{IsRight, IsSession, StaysRight, seen}
use Rattle.pg_session.specs.Sessions.{IsEdited}
use Rattle.pg_session.specs.declared.kept.Kept.{Kept}

-- what is kept behind an edit that touches a block
abbrev pub touched_at : Kept → ℕ → Kept
touched_at kept block = record kept { labels = []; touched = min kept.touched block; solved = false }

module _ (g n : GalleyValue) (s : StyleValue) (old floats : List ClassFloatsValue) (edit : Edit) (kept left : Kept)
    (block : ℕ) (is : n ≡ edited g edit) (own : block ≡ touched g.blocks edit) (left_is : left ≡ touched_at kept block)
    (listed : AreFloats (edited g edit).blocks s floats) where
  left_own : left ≡ touched_at kept (touched g.blocks edit)
  left_own = left_is ∙ ap (touched_at kept) own

  right_left : IsRight g s kept → StaysRight g s edit → IsRight n s left
  right_left right stays = subst (λ (x : GalleyValue). IsRight x s left) (sym is)
      (subst (IsRight (edited g edit) s) (sym left_own) (by right))
    where
      by : IsRight g s kept → IsRight (edited g edit) s (touched_at kept (touched g.blocks edit))
      by (inl none) = inl (omega (arith, none))
      by (inr low) = inr (stays kept.touched kept.table low)

  -- its fields keep what they have to
  pub session_edited : (rows mended : List Row) → IsSession g s old rows kept → AreInRange n s → StaysRight g s edit →
      (AreHops g.blocks s.maxdepth rows → AreHops n.blocks s.maxdepth mended) → IsSession n s floats mended left
  session_edited rows mended was range stays mends = record {
    range = range;
    floats_are = subst (λ (x : GalleyValue). AreFloats x.blocks s floats) (sym is) listed;
    hops = mends was.hops;
    right = right_left was.right stays;
    known = λ e. absurd (let f = ap (λ (k : Kept). k.solved) left_is in cc);
  }

  -- and it is what the edit makes of it
  pub is_edited : IsEdited (seen g s old kept) edit (seen n s floats left)
  is_edited = record {
    floats = listed;
    is = ap (seen n s floats) left_own
        ∙ ap (λ (x : GalleyValue). seen x s floats (touched_at kept (touched g.blocks edit))) is;
  }

-- a session with a galley that is as it was
pub session_still : (g n : GalleyValue) (s : StyleValue) (floats : List ClassFloatsValue) (rows : List Row)
    (kept : Kept) → n ≡ g → IsSession g s floats rows kept → IsSession n s floats rows kept
session_still g n s floats rows kept is was = subst (λ (x : GalleyValue). IsSession x s floats rows kept) (sym is) was
