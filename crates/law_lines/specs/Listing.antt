-- The same by listing all ways, for small paragraphs.
use Rattle.std.specs.Prelude.{ℕ, zero, suc, ◌+◌, ◌==◌, ◌&&◌, ◌||◌, Bool, nat_lt, if◌then◌else◌, List, [], ◌∷◌, length, map, Option, Some, None, Result, Ok, Err, int_lt}
use Rattle.std.specs.List.{filter, flat_map, range_with_len}
use Rattle.std.specs.Option.{option_map_or}
use Rattle.std.specs.Ordering.{is_lt, nat_cmp, int_eq}
use Rattle.std.specs.Cmp.Lexicographic.{slice_cmp}
use Rattle.pg_list.specs.declared.blocks.Block.{Block}
use Rattle.pg_list.specs.declared.variants.Variant.{Variant}
use Rattle.pg_list.specs.Counts.{item_count, item_limit}
use Rattle.pg_list.specs.GalleyValue.{GalleyValue}
use Rattle.pg_hlist.specs.declared.item.HItem.{HItem}
use Rattle.law_lines.specs.declared.rule.LineRule.{LineRule}
use Rattle.law_lines.specs.declared.rule.LineFault.{LineFault}
use Rattle.law_lines.specs.declared.rule.LineFault.TheVariants.{NoBreak, Limit}
use Rattle.law_lines.specs.Lines.{is_line}
use Rattle.law_lines.specs.Ways.{start_of, demerits}
use Rattle.law_lines.specs.Variants.{variants_of}
use Rattle.law_lines.specs.Galleys.{with_choice}

-- each line that may come after these
abbrev pub longer_by : LineRule → List HItem → List ℕ → List (List ℕ)
longer_by rule para way =
    map (λ (k : ℕ). k ∷ way) (filter (is_line rule para (start_of way)) (range_with_len 0 (length para + 1)))

-- the ways of n lines that each may stand, from the front on
abbrev pub kept_ways : LineRule → List HItem → ℕ → List (List ℕ)
kept_ways rule para zero = [] ∷ []
kept_ways rule para (suc n) = flat_map (longer_by rule para) (kept_ways rule para n)

abbrev pub ends_at : ℕ → List ℕ → Bool
ends_at n way = start_of way == n

-- the legal ways of n lines
abbrev pub ways : LineRule → List HItem → ℕ → List (List ℕ)
ways rule para zero = []
ways rule para (suc n) = filter (ends_at (length para)) (kept_ways rule para (suc n))

-- the first comes strictly before the second
abbrev pub is_before : LineRule → List HItem → List ℕ → List ℕ → Bool
is_before rule para way other =
    int_lt (demerits rule para way) (demerits rule para other)
    || (int_eq (demerits rule para way) (demerits rule para other) && is_lt (slice_cmp nat_cmp way other))

abbrev pub better_of : LineRule → List HItem → List ℕ → Option (List ℕ) → List ℕ
better_of rule para way None = way
better_of rule para way (Some other) = if is_before rule para other way then other else way

abbrev pub first_of : LineRule → List HItem → List (List ℕ) → Option (List ℕ)
first_of rule para [] = None
first_of rule para (way ∷ others) = Some (better_of rule para way (first_of rule para others))

-- the least way of n lines
abbrev pub least_way : LineRule → List HItem → ℕ → Option (List ℕ)
least_way rule para n = first_of rule para (ways rule para n)

abbrev pub cheaper_of : LineRule → List HItem → Option (List ℕ) → Option (List ℕ) → Option (List ℕ)
cheaper_of rule para None other = other
cheaper_of rule para (Some way) None = Some way
cheaper_of rule para (Some way) (Some other) =
    if int_lt (demerits rule para other) (demerits rule para way) then Some other else Some way

-- the best of the ways of n lines and of more, k numbers in all
abbrev pub best_from : LineRule → List HItem → ℕ → ℕ → Option (List ℕ)
best_from rule para n zero = None
best_from rule para n (suc k) = cheaper_of rule para (least_way rule para n) (best_from rule para (n + 1) k)

-- no way has more lines than the paragraph has items
abbrev pub best_way : LineRule → List HItem → Option (List ℕ)
best_way rule para = best_from rule para 1 (length para)

abbrev pub paragraph_variants : LineRule → List HItem → Option (List Variant)
paragraph_variants rule para =
    option_map_or (λ (best : List ℕ). Some (variants_of rule para (least_way rule para) best)) (best_way rule para) None

-- too many items are a fault
abbrev pub if_few : List Block → Result GalleyValue LineFault → Result GalleyValue LineFault
if_few blocks result =
    if nat_lt item_limit (item_count blocks) then Err (Limit (item_count blocks)) else result

abbrev pub or_no_break : ℕ → List Block → Option (List Variant) → (List Block → Result GalleyValue LineFault) →
    Result GalleyValue LineFault
or_no_break number blocks None more = Err (NoBreak number)
or_no_break number blocks (Some variants) more = if_few (with_choice blocks variants) (more (with_choice blocks variants))

abbrev pub broken_on : LineRule → ℕ → List Block → List (List HItem) → Result GalleyValue LineFault
broken_on rule number blocks [] = Ok (record { width = rule.width; blocks = blocks })
broken_on rule number blocks (para ∷ paras) =
    or_no_break number blocks (paragraph_variants rule para) (λ (more : List Block). broken_on rule (number + 1) more paras)

-- the galley of paragraphs, or the first fault
abbrev pub broken : LineRule → List (List HItem) → Result GalleyValue LineFault
broken rule paras = broken_on rule 1 [] paras
