-- Entries behind the last.
use Rattle.std.proofs.Common.{◌≡◌, ◌∙◌, ap, ℕ, ◌-◌, List, ◌++◌, length, take, drop}
use Rattle.std.specs.Prelude.{replicate, slice_index}
use Rattle.std.proofs.lemmas.List.{drop-replicate}
use Rattle.pg_changes.specs.Numbers.{longer}

-- the entries, copied over as many of the last
pub longer_is : (entries copied table : List ℕ) (count : ℕ) → copied ≡ entries →
    table ≡ take count (copied ++ drop (length entries) (replicate 9 (slice_index entries (length entries - 1)))) →
    table ≡ longer entries count
longer_is entries copied table count same is =
    is ∙ ap (take count)
    (ap (λ (front : List ℕ). front ++ drop (length entries) (replicate 9 (slice_index entries (length entries - 1)))) same
    ∙ ap (λ (rest : List ℕ). entries ++ rest)
    (drop-replicate (length entries) 9 (slice_index entries (length entries - 1))))
