-- Where the lines from a place may end.
use Rattle.std.specs.Prelude.{ℕ, zero, suc, ◌+◌, ◌&&◌, ◌||◌, Bool, not, nat_le, if◌then◌else◌, List, [], ◌∷◌, ◌++◌, length, map, ℤ, pos, ◌+ℤ◌}
use Rattle.std.specs.List.{range_with_len}
use Rattle.std.specs.Option.{option_map_or}
use Rattle.pg_list.specs.Badness.{is_over}
use Rattle.pg_list.specs.Whole.{square}
use Rattle.pg_hlist.specs.declared.item.HItem.{HItem}
use Rattle.law_lines.specs.declared.rule.LineRule.{LineRule}
use Rattle.law_lines.specs.Lines.{is_line, line_demerits, penalty_at}
use Rattle.pg_lines.specs.declared.ends.LineEnd.{LineEnd}
use Rattle.pg_lines.specs.declared.sums.LineSums.{LineSums}
use Rattle.pg_lines.specs.Sums.{sums_badness}
use Rattle.pg_rules.specs.Cost.{penalty_demerits}

-- the line from a up to k, where it may stand
abbrev pub end_at : LineRule → List HItem → ℕ → ℕ → List LineEnd
end_at rule para a k =
    if is_line rule para a k then record { place = k; demerits = line_demerits rule para a k } ∷ [] else []

-- the lines from a that may stand and end at k or at one of the places behind it, so many in all
abbrev pub ends_on : LineRule → List HItem → ℕ → ℕ → ℕ → List LineEnd
ends_on rule para a k zero = []
ends_on rule para a k (suc n) = end_at rule para a k ++ ends_on rule para a (suc k) n

-- the lines from a that may stand
abbrev pub ends_from : LineRule → List HItem → ℕ → List LineEnd
ends_from rule para a = ends_on rule para a 0 (length para + 1)

-- for each place the lines from there
abbrev pub all_ends : LineRule → List HItem → List (List LineEnd)
all_ends rule para = map (ends_from rule para) (range_with_len 0 (length para + 1))

-- ---- by sums

-- whether a line of these sums may stand
abbrev pub fits : LineRule → LineSums → Bool → Bool
fits rule sums forced =
    not (is_over sums.total sums.shrink rule.width) && (nat_le (sums_badness rule.width sums) rule.tolerance || forced)

abbrev pub end_with : LineRule → LineSums → ℕ → ℤ → LineEnd
end_with rule sums k penalty = record {
  place = k;
  demerits = square (pos (10 + sums_badness rule.width sums)) +ℤ penalty_demerits penalty;
}

abbrev pub end_by : LineRule → List HItem → LineSums → ℕ → Bool → List LineEnd
end_by rule para sums k forced =
    option_map_or (λ (penalty : ℤ). if fits rule sums forced then end_with rule sums k penalty ∷ [] else [])
    (penalty_at para k) []
