-- What a looser number keeps.
use Rattle.std.proofs.Common.{◌≡◌, refl, ◌≤◌, ℕ, Bool, true, false, List, [], ◌∷◌, arith}
use Rattle.std.specs.Prelude.{◌&&◌, ◌||◌, not, nat_le, if◌then◌else◌, int_le, Option, Some, None, ℤ, ◌≤ℤ◌, unsigned_abs}
use Rattle.std.specs.List.{list_all}
use Rattle.std.specs.Option.{option_map_or}
use Rattle.std.proofs.lemmas.Bool.{leb-true, le-leb}
use Rattle.pg_lemmas.proofs.Bools.{both, both_of}
use Rattle.law_places.proofs.Tests.{int_le_of, int_le_trans, le_int}
use Rattle.law_columns.proofs.BeginningContracts.{unbroken_keep_rules}
use Rattle.law_columns.specs.BeginningLaws.{KeepsRules}
use Rattle.law_columns.specs.Stands.{Stand, StandsAfter}
use Rattle.pg_list.specs.Break.{is_forced}
use Rattle.pg_list.specs.GalleyValue.{GalleyValue}
use Rattle.pg_list.specs.declared.variants.Variant.{Variant}
use Rattle.pg_plan.specs.Order.{columns}
use Rattle.pg_plan.specs.declared.pages.PageMove.{PageMove}
use Rattle.pg_plan.specs.declared.pages.Pagination.{Pagination}
use Rattle.pg_style.specs.Values.{StyleValue}
use Rattle.pg_rules.specs.ColumnRules.{column_variants, text_badness, text_is_over}
use Rattle.pg_rules.specs.History.{context}
use Rattle.pg_rules.specs.Legal.{Legal, document}
use Rattle.pg_rules.specs.Ranges.{AreInRange}
use Rattle.pg_rules.specs.Room.{Document, is_text, items_of, room, size_of}
use Rattle.law_looser.specs.Looser.{LessTextKeeps, MoreLoosenessKeeps, MoreToleranceKeeps, with_least_text, with_looseness, with_tolerance}

-- columns that may stand keep standing where each does
pub all_stand : (old new : Document) → ((m : PageMove) (ms : List PageMove) → StandsAfter old m ms → StandsAfter new m ms) →
    (ms : List PageMove) → Stand old ms → Stand new ms
all_stand old new each [] stand = stand
all_stand old new each (m ∷ ms) (here, rest) = (each m ms here, all_stand old new each ms rest)

-- ---- tolerance

within_more : (b t u : ℕ) → t ≤ u → nat_le b t ≡ true → nat_le b u ≡ true
within_more b t u h k = let a : b ≤ t = leb-true b t k in le-leb b u (omega (arith, a, h))

one_tolerable : (over forced : Bool) (b t u : ℕ) → t ≤ u → (not over && (forced || nat_le b t)) ≡ true →
    (not over && (forced || nat_le b u)) ≡ true
one_tolerable true forced b t u h k = k
one_tolerable false true b t u h k = refl
one_tolerable false false b t u h k = within_more b t u h k

tolerable : (text : Bool) (size : Option ℕ) (over forced : ℕ → Bool) (b : ℕ → ℕ) (t u : ℕ) → t ≤ u →
    (not text || option_map_or (λ (n : ℕ). not (over n) && (forced n || nat_le (b n) t)) size false) ≡ true →
    (not text || option_map_or (λ (n : ℕ). not (over n) && (forced n || nat_le (b n) u)) size false) ≡ true
tolerable false size over forced b t u h k = refl
tolerable true None over forced b t u h k = k
tolerable true (Some n) over forced b t u h k = one_tolerable (over n) (forced n) (b n) t u h k

module _ (g : GalleyValue) (s : StyleValue) (t : ℕ) (more : s.tolerance ≤ t) where
  by_tolerance : (m : PageMove) (ms : List PageMove) → StandsAfter (document g s) m ms →
      StandsAfter (document g (with_tolerance s t)) m ms
  by_tolerance m ms k = record {
    starts = k.starts;
    stands = record {
      takes_run = k.stands.takes_run;
      wide = k.stands.wide;
      deals = k.stands.deals;
      callouts = k.stands.callouts;
      barriers = k.stands.barriers;
      rules = record {
        fits = k.stands.rules.fits;
        well_formed = k.stands.rules.well_formed;
        tolerable = tolerable (is_text (context (document g s) m ms)) (size_of (context (document g s) m ms))
            (text_is_over (context (document g s) m ms)) (is_forced (items_of (context (document g s) m ms)))
            (text_badness (context (document g s) m ms)) s.tolerance t more k.stands.rules.tolerable;
        passes = k.stands.rules.passes;
        room = k.stands.rules.room;
        counts = k.stands.rules.counts;
        note_limits = k.stands.rules.note_limits;
        looseness = k.stands.rules.looseness;
      };
    };
    near = k.near;
  }

  tolerance_keeps : AreInRange g s → AreInRange g (with_tolerance s t) → (plan : Pagination) → Legal g s plan →
      Legal g (with_tolerance s t) plan
  tolerance_keeps range other plan legal =
      let keeps : KeepsRules g s plan = (unbroken_keep_rules g s range plan).0 legal.unbroken in
      record {
        unbroken = (unbroken_keep_rules g (with_tolerance s t) other plan).1
            (record {
              filled = keeps.filled;
              stand = all_stand (document g s) (document g (with_tolerance s t)) by_tolerance (columns plan) keeps.stand;
              spent = keeps.spent;
              dealt = keeps.dealt;
            });
      }

-- ---- looseness

loose_enough : (variants : List Variant) (l k : ℕ) → l ≤ k →
    list_all (λ (variant : Variant). nat_le (unsigned_abs variant.looseness) l) variants ≡ true →
    list_all (λ (variant : Variant). nat_le (unsigned_abs variant.looseness) k) variants ≡ true
loose_enough [] l k h all = refl
loose_enough (v ∷ variants) l k h all =
    let a = both_of (nat_le (unsigned_abs v.looseness) l)
    (list_all (λ (variant : Variant). nat_le (unsigned_abs variant.looseness) l) variants) all in
    both (nat_le (unsigned_abs v.looseness) k)
    (list_all (λ (variant : Variant). nat_le (unsigned_abs variant.looseness) k) variants)
    (within_more (unsigned_abs v.looseness) l k h a.0) (loose_enough variants l k h a.1)

module _ (g : GalleyValue) (s : StyleValue) (l : ℕ) (more : s.max_looseness ≤ l) where
  by_looseness : (m : PageMove) (ms : List PageMove) → StandsAfter (document g s) m ms →
      StandsAfter (document g (with_looseness s l)) m ms
  by_looseness m ms k = record {
    starts = k.starts;
    stands = record {
      takes_run = k.stands.takes_run;
      wide = k.stands.wide;
      deals = k.stands.deals;
      callouts = k.stands.callouts;
      barriers = k.stands.barriers;
      rules = record {
        fits = k.stands.rules.fits;
        well_formed = k.stands.rules.well_formed;
        tolerable = k.stands.rules.tolerable;
        passes = k.stands.rules.passes;
        room = k.stands.rules.room;
        counts = k.stands.rules.counts;
        note_limits = k.stands.rules.note_limits;
        looseness = loose_enough (column_variants (context (document g s) m ms)) s.max_looseness l more
            k.stands.rules.looseness;
      };
    };
    near = k.near;
  }

  looseness_keeps : AreInRange g s → AreInRange g (with_looseness s l) → (plan : Pagination) → Legal g s plan →
      Legal g (with_looseness s l) plan
  looseness_keeps range other plan legal =
      let keeps : KeepsRules g s plan = (unbroken_keep_rules g s range plan).0 legal.unbroken in
      record {
        unbroken = (unbroken_keep_rules g (with_looseness s l) other plan).1
            (record {
              filled = keeps.filled;
              stand = all_stand (document g s) (document g (with_looseness s l)) by_looseness (columns plan) keeps.stand;
              spent = keeps.spent;
              dealt = keeps.dealt;
            });
      }

-- ---- least text

has_least : (text bare : Bool) (least less height : ℤ) → less ≤ℤ least →
    (if text then int_le least height else bare) ≡ true → (if text then int_le less height else bare) ≡ true
has_least true bare least less height h k = int_le_of less height (int_le_trans less least height h (le_int least height k))
has_least false bare least less height h k = k

module _ (g : GalleyValue) (s : StyleValue) (less : ℤ) (fewer : less ≤ℤ s.min_text) where
  by_text : (m : PageMove) (ms : List PageMove) → StandsAfter (document g s) m ms →
      StandsAfter (document g (with_least_text s less)) m ms
  by_text m ms k = record {
    starts = k.starts;
    stands = record {
      takes_run = k.stands.takes_run;
      wide = k.stands.wide;
      deals = k.stands.deals;
      callouts = k.stands.callouts;
      barriers = k.stands.barriers;
      rules = record {
        fits = k.stands.rules.fits;
        well_formed = k.stands.rules.well_formed;
        tolerable = k.stands.rules.tolerable;
        passes = k.stands.rules.passes;
        room = has_least (is_text (context (document g s) m ms)) _ s.min_text less (room (context (document g s) m ms))
            fewer k.stands.rules.room;
        counts = k.stands.rules.counts;
        note_limits = k.stands.rules.note_limits;
        looseness = k.stands.rules.looseness;
      };
    };
    near = k.near;
  }

  text_keeps : AreInRange g s → AreInRange g (with_least_text s less) → (plan : Pagination) → Legal g s plan →
      Legal g (with_least_text s less) plan
  text_keeps range other plan legal =
      let keeps : KeepsRules g s plan = (unbroken_keep_rules g s range plan).0 legal.unbroken in
      record {
        unbroken = (unbroken_keep_rules g (with_least_text s less) other plan).1
            (record {
              filled = keeps.filled;
              stand = all_stand (document g s) (document g (with_least_text s less)) by_text (columns plan) keeps.stand;
              spent = keeps.spent;
              dealt = keeps.dealt;
            });
      }

pub more_tolerance : (g : GalleyValue) (s : StyleValue) → MoreToleranceKeeps g s
more_tolerance g s t more range other plan legal = tolerance_keeps g s t more range other plan legal

pub more_looseness : (g : GalleyValue) (s : StyleValue) → MoreLoosenessKeeps g s
more_looseness g s l more range other plan legal = looseness_keeps g s l more range other plan legal

pub less_text : (g : GalleyValue) (s : StyleValue) → LessTextKeeps g s
less_text g s less fewer range other plan legal = text_keeps g s less fewer range other plan legal
