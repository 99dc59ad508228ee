-- What a line says behind its first point, case by case.
use Rattle.std.proofs.Common.{◌≡◌, ◌∙◌, sym, ap, refl, ℕ, List, true, false, Bool, Option, Some, None}
use Rattle.std.specs.Prelude.{Result, Ok, Err, IsErrAnd, is_some, codes}
use Rattle.std.specs.Option.{option_map}
use Rattle.pg_scan.specs.Parts.{after}
use Rattle.pg_showbox.specs.Nodes.{node_at}
use Rattle.pg_showbox.specs.Parts.{◌>>=◌}
use Rattle.pg_showbox.specs.ParsedLine.{pointed_at, marker_at}
use Rattle.pg_showbox.specs.declared.kinds.ListKind.{ListKind}
use Rattle.pg_showbox.specs.declared.parsed.ParsedLine.TheVariants.{Item}

-- what is not there, seen by a view
pub not_seen : {B : Type 0} (f : B → List ℕ) (o : Option B) (said : Option (List ℕ)) (b : Bool) → option_map f o ≡ said
    → b ≡ is_some o → b ≡ false → is_some said ≡ false
not_seen f None said b e t n = ap is_some (sym e)
not_seen f (Some x) said b e t n = absurd cc

pub none_seen : {B : Type 0} (f : B → List ℕ) (o : Option B) (said : Option (List ℕ)) → option_map f o ≡ said
    → ((x : B) → o ≡ Some x → ⊥) → said ≡ None
none_seen f None said e n = sym e
none_seen f (Some x) said e n = absurd (n x refl)

pub says_marker : (bytes rest : List ℕ) → is_some (after (codes ".") bytes) ≡ false
    → after (codes "\\special{pg:") bytes ≡ Some rest → pointed_at bytes ≡ marker_at rest
unfolding pointed_at
says_marker bytes rest deeper is = rw (deeper, is) refl

pub says_node : (bytes : List ℕ) → is_some (after (codes ".") bytes) ≡ false
    → after (codes "\\special{pg:") bytes ≡ None → pointed_at bytes ≡ (node_at bytes >>= (λ node. Ok (Item node)))
unfolding pointed_at
says_node bytes deeper is = rw (deeper, is) refl

-- a fault that is handed on
pub at_fault : {Y : Type 0} (r : Result Y ListKind) (kind : ListKind) → IsErrAnd r (λ (it : ListKind). it ≡ kind)
    → r ≡ Err kind
at_fault (Ok y) kind h = absurd h
at_fault (Err it) kind h = ap Err h

pub fault_stays : {X Y : Type 0} (r : Result Y ListKind) (f : X → Result Y ListKind) (said : Result X ListKind)
    (kind : ListKind) → IsErrAnd r (λ (it : ListKind). it ≡ kind) → Err kind ≡ said → r ≡ (said >>= f)
fault_stays {X} r f said kind h e = at_fault r kind h ∙ ap (λ (s : Result X ListKind). s >>= f) e
