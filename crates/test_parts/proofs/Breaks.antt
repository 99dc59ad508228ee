-- Breaks of small galleys, worked by hand: the penalty of a break, and whether it is forced and whether it is spent.
use Rattle.std.proofs.Common.{refl, ℕ, ℤ, pos, negsuc, List, [], ◌∷◌, Bool, true, false, Option, Some, None}
use Rattle.std.specs.Prelude.{option_map}
use Rattle.pg_list.specs.Places.{place}
use Rattle.pg_list.specs.declared.galley.Place.{Place}
use Rattle.pg_list.specs.declared.blocks.Block.{Block}
use Rattle.pg_list.specs.declared.blocks.Block.TheVariants.{One, Choice}
use Rattle.pg_list.specs.Break.{break_penalty, is_forced, is_spent}
use Rattle.pg_list.specs.Flat.{flat, flat_items, steps_to}
use Rattle.test_parts.proofs.Cases.{AreTold, fil_gap, gap, items, kern, line, mark, penalty, variant}

-- what is said of a break at an offset
abbrev Said : Type 0
Said = Option ℤ × (Bool × Bool)

-- of a break at a place of the galley with these picks
abbrev said : List Block → List ℕ → Place → Option Said
said blocks picks at = option_map (λ k. (
  break_penalty (flat blocks picks) k,
  (
    is_forced (flat blocks picks) k,
    is_spent (flat blocks picks) k,
  ),
)) (steps_to blocks (flat_items blocks picks) at)

-- the break has this penalty, or none; it is neither forced nor spent, or one of both, or both
abbrev plain_at : Option ℤ → Option Said
plain_at penalty = Some (penalty, (false, false))

abbrev forced_at : Option ℤ → Option Said
forced_at penalty = Some (penalty, (true, false))

abbrev spent_at : Option ℤ → Option Said
spent_at penalty = Some (penalty, (false, true))

abbrev last_at : Option ℤ → Option Said
last_at penalty = Some (penalty, (true, true))

abbrev kinds_galley : List Block
kinds_galley = items (line ∷ kern ∷ gap ∷ kern ∷ line ∷ mark ∷ gap ∷ gap ∷ penalty (pos 10000) ∷ penalty (pos 9999) ∷ [])

-- each kind of item
kinds : AreTold (
    (said kinds_galley [] (place 0 0 0), plain_at None)
    ∷ (said kinds_galley [] (place 1 0 0), plain_at (Some (pos 0)))
    ∷ (said kinds_galley [] (place 2 0 0), plain_at None)
    ∷ (said kinds_galley [] (place 3 0 0), plain_at None)
    ∷ (said kinds_galley [] (place 4 0 0), plain_at None)
    ∷ (said kinds_galley [] (place 5 0 0), plain_at None)
    ∷ (said kinds_galley [] (place 6 0 0), spent_at (Some (pos 0)))
    ∷ (said kinds_galley [] (place 7 0 0), spent_at None)
    ∷ (said kinds_galley [] (place 8 0 0), spent_at None)
    ∷ (said kinds_galley [] (place 9 0 0), spent_at (Some (pos 9999)))
    ∷ (said kinds_galley [] (place 10 0 0), last_at (Some (pos 0)))
    ∷ [])
kinds = refl

abbrev forcing_galley : List Block
forcing_galley = items (line ∷ penalty (negsuc 9998) ∷ line ∷ penalty (negsuc 9999) ∷ gap ∷ line ∷ mark ∷ penalty (negsuc 19999) ∷ mark ∷ penalty (negsuc 9999) ∷ gap ∷ [])

-- penalties that force where a box is still to come
forcing : AreTold (
    (said forcing_galley [] (place 1 0 0), plain_at (Some (negsuc 9998)))
    ∷ (said forcing_galley [] (place 3 0 0), forced_at (Some (negsuc 9999)))
    ∷ (said forcing_galley [] (place 4 0 0), plain_at None)
    ∷ (said forcing_galley [] (place 7 0 0), plain_at (Some (negsuc 19999)))
    ∷ (said forcing_galley [] (place 9 0 0), spent_at (Some (negsuc 9999)))
    ∷ (said forcing_galley [] (place 10 0 0), spent_at None)
    ∷ (said forcing_galley [] (place 11 0 0), last_at (Some (pos 0)))
    ∷ [])
forcing = refl

abbrev paragraph_galley : List Block
paragraph_galley = Choice (variant (line ∷ penalty (pos 150) ∷ gap ∷ line ∷ gap ∷ line ∷ penalty (pos 150) ∷ gap ∷ line ∷ []) ∷ variant (line ∷ penalty (negsuc 9999) ∷ gap ∷ line ∷ gap ∷ line ∷ gap ∷ line ∷ penalty (pos 150) ∷ gap ∷ line ∷ []) ∷ []) ∷ One gap ∷ One line ∷ []

-- a paragraph of four lines or of five
paragraph : AreTold (
    (said paragraph_galley [] (place 0 0 0), plain_at None)
    ∷ (said paragraph_galley [] (place 0 0 1), plain_at (Some (pos 150)))
    ∷ (said paragraph_galley [] (place 0 0 2), plain_at None)
    ∷ (said paragraph_galley [] (place 0 0 4), plain_at (Some (pos 0)))
    ∷ (said paragraph_galley [] (place 0 0 6), plain_at (Some (pos 150)))
    ∷ (said paragraph_galley [] (place 0 0 7), plain_at None)
    ∷ (said paragraph_galley (1 ∷ []) (place 0 1 1), forced_at (Some (negsuc 9999)))
    ∷ (said paragraph_galley (1 ∷ []) (place 0 1 4), plain_at (Some (pos 0)))
    ∷ (said paragraph_galley (1 ∷ []) (place 0 1 6), plain_at (Some (pos 0)))
    ∷ (said paragraph_galley (1 ∷ []) (place 0 1 8), plain_at (Some (pos 150)))
    ∷ (said paragraph_galley (1 ∷ []) (place 0 1 10), plain_at None)
    ∷ (said paragraph_galley [] (place 1 0 0), plain_at (Some (pos 0)))
    ∷ (said paragraph_galley [] (place 2 0 0), plain_at None)
    ∷ (said paragraph_galley [] (place 3 0 0), last_at (Some (pos 0)))
    ∷ [])
paragraph = refl
