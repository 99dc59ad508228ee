-- The candidates along the first stretch from a place, taken for all rooms.
use Rattle.std.proofs.Common.{◌≡◌, ◌∙◌, ap, subst, sym, List, [], ℤ, Option, Some, IfSome}
use Rattle.std.specs.List.{AllByRecursion}
use Rattle.pg_list.specs.GalleyValue.{GalleyValue}
use Rattle.pg_rules.specs.Legal.{document}
use Rattle.pg_style.specs.Values.{StyleValue}
use Rattle.pg_style.specs.declared.style.Give.{Give}
use Rattle.law_walk.specs.Candidates.{Candidate}
use Rattle.pg_candidates.specs.Alone.{AreNearAlone, AreTaken, TookAlone}
use Rattle.pg_candidates.specs.Nears.{AreNear, NearValue, NearsValue}
use Rattle.pg_candidates.specs.Taken.{IsPlain}
use Rattle.pg_candidates.specs.declared.all_rooms.AllRooms.{AllRooms}

-- what holds of what an option has
pub of_some : {X : Type 0} (o : Option X) (x : X) (P : X → Type 0) → o ≡ Some x → IfSome o P → P x
of_some {X = X} o x P is holds = subst (λ (p : Option X). IfSome p P) is holds

-- what no room changes of candidates without picks that were taken where there were none, for areas whose gaps give no more
-- than this
pub near_told : (g : GalleyValue) (style : StyleValue) (most : ℤ) (cs : List Candidate) (old new : AllRooms)
    (near : NearsValue) → old.galley.now ≡ g → old.most.stretch ≡ most → old.nears.items ≡ [] →
    AllByRecursion IsPlain cs → TookAlone style old new cs →
    ((ds : List Candidate) → AllByRecursion IsPlain ds → AreTaken style ds new →
    AreNear (document new.galley.now style) new.most.stretch ds near) → AreNear (document g style) most cs near
near_told g style most cs old new near galley gives empty plain took read =
    let before : AreTaken style [] old =
    subst (AreNearAlone (document old.galley.now style) old.most.stretch 0 []) (sym {A = List NearValue} empty) tt in
    subst (λ (z : ℤ). AreNear (document g style) z cs near) (ap (λ (give : Give). give.stretch) took.most ∙ gives)
    (subst (λ (it : GalleyValue). AreNear (document it style) new.most.stretch cs near) (took.galley ∙ galley)
    (read cs plain (took.taken [] before)))
