-- The law in the form of its contract.
use Rattle.std.proofs.Common.{◌≢◌, ℕ, List}
use Rattle.law_places.proofs.Members.{among_contains, contains_among}
use Rattle.law_places.proofs.Pairs.{pairs_all}
use Rattle.pg_layouts.specs.Counts.{count_lists}
use Rattle.pg_layouts.specs.Laws.{AreAllCounts}
use Rattle.pg_layouts.proofs.CountLists.{AreCounts, count_lists_apart, in_count_lists, of_count_lists}

pub all_counts : (most : ℕ) (limits : List ℕ) → AreAllCounts most limits (count_lists most limits)
all_counts most limits = record {
  sound = λ counts c. (let a : AreCounts most limits counts =
      of_count_lists most limits counts (contains_among (count_lists most limits) counts c) in (a.within, a.few));
  whole = λ counts w h. among_contains (count_lists most limits) counts (in_count_lists most limits counts w h);
  once = pairs_all (λ a b. a ≢ b) (count_lists most limits) (count_lists_apart most limits);
}
