-- Blocks in place of others.
use Rattle.std.proofs.Common.{◌≡◌, ◌∙◌, refl, ap, sym, arith, length, append_assoc, ℕ, List, [], ◌∷◌, ◌++◌, take, drop}
use Rattle.std.specs.List.{AllByRecursion, splice}
use Rattle.std.specs.Iterator.{Yields}
use Rattle.std.specs.Vec.Iter.{into_iter_steps, into_iter_items, into_iter_len}
use Rattle.std.specs.declared.vec.IntoIter.{IntoIter}
use Rattle.pg_list.specs.declared.blocks.Block.{Block}
use Rattle.pg_list.specs.Shapes.{IsBlock}
use Rattle.pg_lemmas.proofs.Lists.{all_append, all_take, all_drop}

pub still_blocks_within : (at end : ℕ) (blocks fresh : List Block) → AllByRecursion IsBlock blocks → AllByRecursion IsBlock fresh → AllByRecursion IsBlock (take at blocks ++ fresh ++ drop end blocks)
still_blocks_within at end blocks fresh old new =
    all_append IsBlock (take at blocks ++ fresh) (drop end blocks) (all_append IsBlock (take at blocks) fresh (all_take IsBlock at blocks old) new) (all_drop IsBlock end blocks old)

none_left : {X : Type 0} (xs : List X) → length xs ≡ 0 → [] ≡ xs
none_left [] e = refl
none_left (x ∷ xs) e = absurd (omega (arith, e))

-- an iterator that ran to its end gave all the items that it had
pub drained : {X Z : Type 0} (xs : List X) (s t : IntoIter X Z) → Yields into_iter_steps s xs t → into_iter_len t ≡ 0 → into_iter_len s ≡ length (into_iter_items s) → xs ≡ into_iter_items s
drained [] s t same none len = none_left (into_iter_items s) (sym len ∙ ap into_iter_len same ∙ none)
drained {X = X} (x ∷ xs) s t (j, step, more) none len =
    let shorter : into_iter_len j ≡ length (into_iter_items j) = omega (arith, step.1, len, ap length step.0) in
    ap (λ (ys : List X). x ∷ ys) (drained xs j t more none shorter) ∙ sym step.0

pub spliced_is : (at end : ℕ) (old new fresh given : List Block) → given ≡ fresh → new ≡ splice old at end given → new ≡ take at old ++ fresh ++ drop end old
spliced_is at end old new fresh given same is =
    is ∙ ap (λ (bs : List Block). take at old ++ (bs ++ drop end old)) same ∙ sym (append_assoc (take at old) fresh (drop end old))
