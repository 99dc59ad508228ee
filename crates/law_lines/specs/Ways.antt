-- Ways to break a paragraph. A way is the list of the places where its lines end, from the last line back.
use Rattle.std.specs.Prelude.{◌≡◌, ◌≤◌, ◌⊎◌, ℕ, ◌==◌, Bool, true, false, ◌&&◌, List, [], ◌∷◌, length, Option, Some, None, ℤ, pos, ◌+ℤ◌, ◌<ℤ◌, get_or}
use Rattle.std.specs.Ordering.{is_gt, nat_cmp}
use Rattle.std.specs.Cmp.Lexicographic.{slice_cmp}
use Rattle.pg_hlist.specs.declared.item.HItem.{HItem}
use Rattle.law_lines.specs.declared.rule.LineRule.{LineRule}
use Rattle.law_lines.specs.Lines.{is_line, line_demerits}

-- where the line after these starts
abbrev pub start_of : List ℕ → ℕ
start_of way = get_or way 0 0

-- each line may stand, from where the line before it ended
abbrev pub keeps_lines : LineRule → List HItem → List ℕ → Bool
keeps_lines rule para [] = true
keeps_lines rule para (k ∷ way) = keeps_lines rule para way && is_line rule para (start_of way) k

abbrev pub is_some_line : List ℕ → Bool
is_some_line [] = false
is_some_line (k ∷ way) = true

-- a legal way: one or more lines, from the paragraph's front to its end
abbrev pub is_way : LineRule → List HItem → List ℕ → Bool
is_way rule para way = is_some_line way && (keeps_lines rule para way && (start_of way == length para))

abbrev pub demerits : LineRule → List HItem → List ℕ → ℤ
demerits rule para [] = pos 0
demerits rule para (k ∷ way) = demerits rule para way +ℤ line_demerits rule para (start_of way) k

-- at lower demerits, or at the same and not after the other, by the places from the last line back, the smaller first
abbrev pub IsNoLater : ℤ → List ℕ → ℤ → List ℕ → Type 0
IsNoLater c way d other = (c <ℤ d) ⊎ ((c ≡ d) × (is_gt (slice_cmp nat_cmp way other) ≡ false))

-- of the legal ways of n lines the one of least demerits, the first among equals
pub record IsLeastWay (rule : LineRule) (para : List HItem) (n : ℕ) (way : List ℕ) : Type 0 where
  pub legal : is_way rule para way ≡ true
  pub lines : length way ≡ n
  pub least : (other : List ℕ) → is_way rule para other ≡ true → length other ≡ n →
      IsNoLater (demerits rule para way) way (demerits rule para other) other

-- no legal way has n lines
abbrev pub NoWay : LineRule → List HItem → ℕ → Type 0
NoWay rule para n = (other : List ℕ) → is_way rule para other ≡ true → length other ≡ n → ⊥

abbrev pub IsLeastOf : LineRule → List HItem → ℕ → Option (List ℕ) → Type 0
IsLeastOf rule para n None = NoWay rule para n
IsLeastOf rule para n (Some way) = IsLeastWay rule para n way

-- no legal way at all
abbrev pub CannotBreak : LineRule → List HItem → Type 0
CannotBreak rule para = (other : List ℕ) → is_way rule para other ≡ true → ⊥

-- the best way: of the legal ways of least demerits one with the fewest lines, and of those the first
pub record IsBestWay (rule : LineRule) (para : List HItem) (way : List ℕ) : Type 0 where
  pub least : IsLeastWay rule para (length way) way
  pub best : (other : List ℕ) → is_way rule para other ≡ true →
      (demerits rule para way <ℤ demerits rule para other)
      ⊎ ((demerits rule para way ≡ demerits rule para other) × (length way ≤ length other))
