-- Where no class is of floats, nothing is called.
use Rattle.std.proofs.Common.{◌≡◌, refl, ◌∙◌, sym, ℕ, List, [], ◌∷◌, length}
use Rattle.law_moves.specs.Listed.{beyond}
use Rattle.pg_list.specs.Barrier.{text_block}
use Rattle.pg_list.specs.declared.galley.Place.{Place}
use Rattle.pg_rules.specs.Floats.{called, float_numbers, flushed}
use Rattle.pg_rules.specs.Room.{Document}
use Rattle.pg_sources.specs.Document.{counts_of}
use Rattle.pg_sources.specs.declared.place_counts.PlaceCounts.{PlaceCounts}
use Rattle.pg_sources.proofs.CalledFew.{called_long, flushed_long}

no_items : (xs : List ℕ) → length xs ≡ 0 → xs ≡ []
no_items [] e = refl
no_items (x ∷ xs) e = absurd cc

same_counts : (a b c d e f : List ℕ) → a ≡ d → b ≡ e → c ≡ f → ◌≡◌ {A = PlaceCounts}
    (record { called = a; flushed = b; most = c }) (record { called = d; flushed = e; most = f })
same_counts a b c d e f p q r = cc

-- the counts at a place are none
pub nothing_called : (doc : Document) (from : Place) (a b c : List ℕ) → length (float_numbers doc.style) ≡ 0 → a ≡ [] →
    b ≡ [] → c ≡ [] → ◌≡◌ {A = PlaceCounts} (record { called = a; flushed = b; most = c }) (counts_of doc from)
nothing_called doc from a b c none p q r = same_counts a b c (called doc.blocks doc.style from)
    (flushed doc.blocks doc.style (text_block doc.blocks from)) (called doc.blocks doc.style (beyond doc from))
    (p ∙ sym (no_items (called doc.blocks doc.style from) (called_long doc.blocks doc.style from ∙ none)))
    (q ∙ sym (no_items (flushed doc.blocks doc.style (text_block doc.blocks from))
    (flushed_long doc.blocks doc.style (text_block doc.blocks from) ∙ none)))
    (r ∙ sym (no_items (called doc.blocks doc.style (beyond doc from))
    (called_long doc.blocks doc.style (beyond doc from) ∙ none)))
