-- What pieces append that are written in turn.
use Rattle.std.proofs.Common.{◌≡◌, ◌<◌, ◌+◌, ◌∙◌, ℕ, suc, sym, ap, subst, refl, arith, List, [], ◌∷◌, ◌++◌, length}
use Rattle.std.proofs.Common.{get_or, take, take-suc, drop, append_assoc, append-nil}
use Rattle.std.specs.Prelude.{Option}
use Rattle.std.proofs.lemmas.List.{take-append-drop}
use Rattle.std.specs.Io.KnownBytes.{Appends}
use Rattle.pg_outside.specs.Outside.{AppendsFront}
use Rattle.pg_command.specs.declared.line.Piece.{Piece}
use Rattle.pg_command.specs.Lines.{line_text, piece_text}
use Rattle.pg_command.proofs.Fronts.{appends_both, front_after, front_of_more}

line_append : (xs ys : List Piece) → line_text (xs ++ ys) ≡ line_text xs ++ line_text ys
line_append [] ys = refl
line_append (x ∷ xs) ys =
    ap (λ (l : List ℕ). piece_text x ++ l) (line_append xs ys)
    ∙ sym (append_assoc (piece_text x) (line_text xs) (line_text ys))

-- the pieces up to and including the next
line_more : (pieces : List Piece) (i : ℕ) (none : Piece) → i < length pieces →
    line_text (take (i + 1) pieces) ≡ line_text (take i pieces) ++ piece_text (get_or pieces i none)
line_more pieces i none less =
    let next : i + 1 ≡ suc i = omega arith in
    let piece = get_or pieces i none in
    ap (λ (k : ℕ). line_text (take k pieces)) next ∙ ap line_text (take-suc pieces i none less)
    ∙ line_append (take i pieces) (piece ∷ [])
    ∙ ap (λ (l : List ℕ). line_text (take i pieces) ++ l) (append-nil (piece_text piece))

-- one more piece is written
pub one_more_piece : (old mid new : Option (List ℕ)) (pieces : List Piece) (i : ℕ) (none : Piece) →
    i < length pieces → Appends old mid (line_text (take i pieces)) →
    Appends mid new (piece_text (get_or pieces i none)) → Appends old new (line_text (take (i + 1) pieces))
one_more_piece old mid new pieces i none less before appends =
    subst (Appends old new) (sym (line_more pieces i none less))
    (appends_both old mid new (line_text (take i pieces)) (piece_text (get_or pieces i none)) before appends)

-- a front of one more piece is written
pub front_of_pieces : (old mid new : Option (List ℕ)) (pieces : List Piece) (i : ℕ) (none : Piece) →
    i < length pieces → Appends old mid (line_text (take i pieces)) →
    AppendsFront mid new (piece_text (get_or pieces i none)) → AppendsFront old new (line_text pieces)
front_of_pieces old mid new pieces i none less before front =
    let behind = line_text (drop (i + 1) pieces) in
    let so_far : AppendsFront old new (line_text (take (i + 1) pieces)) =
    subst (AppendsFront old new) (sym (line_more pieces i none less))
    (front_after old mid new (line_text (take i pieces)) (piece_text (get_or pieces i none)) before front) in
    let whole : line_text (take (i + 1) pieces) ++ behind ≡ line_text pieces =
    sym (line_append (take (i + 1) pieces) (drop (i + 1) pieces)) ∙ ap line_text (take-append-drop (i + 1) pieces) in
    subst (AppendsFront old new) whole
    (front_of_more old new (line_text (take (i + 1) pieces)) behind so_far)

-- three texts in front of another
pub three_parts : (a b c rest : List ℕ) → a ++ b ++ c ++ rest ≡ a ++ (b ++ (c ++ rest))
three_parts a b c rest = append_assoc (a ++ b) c rest ∙ append_assoc a b (c ++ rest)
