-- Layouts that are kept for states behind which the same ones stand.
use Rattle.std.specs.Prelude.{◌≡◌, ℕ, List, [], map, slice_get}
use Rattle.std.specs.List.{AllByRecursion}
use Rattle.std.specs.Option.{option_map_or}
use Rattle.pg_plan.specs.declared.states.State.{State}
use Rattle.pg_column.specs.Numbers.{IsRoom}
use Rattle.pg_layouts.specs.Layouts.{float_layouts, text_layouts}
use Rattle.pg_rules.specs.Room.{Document}
use Rattle.pg_rooms.specs.Laid.{laid_of}
use Rattle.pg_rooms.specs.PlaceEnds.{IsPageRoom}
use Rattle.pg_rooms.specs.declared.kept_laid.KeptLaid.{KeptLaid}
use Rattle.pg_rooms.specs.declared.kept_laid.Layouts.{Layouts}
use Rattle.pg_rooms.specs.declared.laid.Laid.{Laid}

-- these are the layouts of the columns of text behind a state, up to a ceiling
pub record AreTextsOf (doc : Document) (u : State) (ceiling : List ℕ) (laid : List Laid) : Type 0 where
  pub are : laid ≡ map (laid_of doc u) (text_layouts doc u ceiling)
  pub small : AllByRecursion (λ (it : Laid). IsRoom it.room) laid
  pub low : AllByRecursion (λ (it : Laid). IsPageRoom doc.style it.room) laid

-- these are the layouts of the columns without text
pub record AreStaysOf (doc : Document) (u : State) (ceiling : List ℕ) (laid : List Laid) : Type 0 where
  pub are : laid ≡ map (laid_of doc u) (float_layouts doc u ceiling)
  pub small : AllByRecursion (λ (it : Laid). IsRoom it.room) laid

-- what is kept for a state
abbrev pub AreTexts : Document → KeptLaid → Type 0
AreTexts doc it = AreTextsOf doc it.state it.ceiling it.laid.items

abbrev pub AreStays : Document → KeptLaid → Type 0
AreStays doc it = AreStaysOf doc it.state it.ceiling it.laid.items

-- all that is kept is of this document
pub record AreLayouts (doc : Document) (it : Layouts) : Type 0 where
  pub texts : AllByRecursion (AreTexts doc) it.texts.items
  pub stays : AllByRecursion (AreStays doc) it.stays.items

-- what is kept for a state serves for another, up to a ceiling: all on which layouts depend is the same
pub record DoesServe (it : KeptLaid) (u : State) (ceiling : List ℕ) : Type 0 where
  pub column : it.state.column ≡ u.column
  pub run : it.state.run ≡ u.run
  pub wide : it.state.wide ≡ u.wide
  pub placed : it.state.placed ≡ u.placed
  pub as_high : it.ceiling ≡ ceiling

-- the layouts at a place among those that are kept
abbrev pub laid_at : List KeptLaid → ℕ → List Laid
laid_at kept at = option_map_or (λ (it : KeptLaid). it.laid.items) (slice_get kept at) []
