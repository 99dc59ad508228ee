-- What a map of labels tells; nobody need believe this.
use Rattle.std.specs.Prelude.{ℕ, List, Option}
use Rattle.std.specs.HashMap.{HashMap, get_by}
use Rattle.std.specs.Str.{bytes_eq}
use denote.Ref.{Bor}

-- the page that is kept for a name
unfoldable pub page_in : {S : Type 0} → HashMap (Bor (List ℕ)) ℕ S → List ℕ → Option ℕ
page_in labels name = get_by (λ key. bytes_eq name key.now) labels
