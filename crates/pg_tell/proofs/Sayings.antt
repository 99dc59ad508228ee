-- Lines that were said, and texts that were told.
use Rattle.std.proofs.Common.{◌≡◌, refl, sym, subst, inl, inr, ℕ, suc, ◌≤◌, ◌<◌, List, [], ◌∷◌, length, map, None, Some, arith}
use Rattle.pg_command.specs.Lines.{Says}
use Rattle.pg_command.specs.declared.ending.Ending.{Ending}
use Rattle.pg_command.specs.declared.ending.Ending.TheVariants as ending
use Rattle.pg_furthest.specs.declared.standing.Standing.{Standing}
use Rattle.pg_pieces.specs.declared.letters.Form.{Form}
use Rattle.pg_tell.specs.Course.{OrMemory}
use Rattle.pg_tell.specs.Words.{files_of}

-- where no fault was counted, all of a line was said
pub whole_line : (said line : List ℕ) (faults : ℕ) → Says (Some []) (Some said) 0 faults line → faults ≡ 0 → said ≡ line
whole_line said line faults (inl all) none = all
whole_line said line faults (inr (rose, front)) none =
    absurd (let h : 1 ≤ faults = rose in omega arith)

-- what is true of an ending and of want of memory is true of either
pub or_memory : (P : Ending → Type 0) (cause end : Ending) → P cause → P ending.Memory → OrMemory cause end → P end
or_memory P cause end a b (inl e) = subst P (sym e) a
or_memory P cause end a b (inr e) = subst P (sym e) b

-- a furthest place, by its numbers
abbrev pub stood : ℕ → ℕ → ℕ → ℕ → ℕ → Standing
stood block variant index column page =
    record { at = record { block = block; variant = variant; index = index }; page = page; column = column }

-- what is true of four numbers is true of the same four
pub four_same : (P : ℕ → ℕ → ℕ → ℕ → Type 0) (a b c d e f g h : ℕ) → a ≡ e → b ≡ f → c ≡ g → d ≡ h → P a b c d → P e f g h
four_same P a b c d e f g h one two three four known =
    subst (λ n. P n f g h) one (subst (λ n. P a n g h) two (subst (λ n. P a b n h) three (subst (λ n. P a b c n) four known)))

-- a word alone is for no files
pub one_word : {A : Type 0} (f : A → List ℕ) (form : Form) (words : List A) → length words < 2 →
    None ≡ files_of form (map f words)
one_word f form [] few = refl
one_word f form (a ∷ []) few = refl
one_word f form (a ∷ (b ∷ rest)) few = absurd (let h : suc (suc (length rest)) < 2 = few in omega arith)

-- six words or more are for no files
pub six_words : {A : Type 0} (f : A → List ℕ) (form : Form) (words : List A) → 6 ≤ length words →
    None ≡ files_of form (map f words)
six_words f form [] many = absurd (let h : 6 ≤ 0 = many in omega arith)
six_words f form (a ∷ []) many = absurd (let h : 6 ≤ 1 = many in omega arith)
six_words f form (a ∷ (b ∷ [])) many = absurd (let h : 6 ≤ 2 = many in omega arith)
six_words f form (a ∷ (b ∷ (c ∷ []))) many = absurd (let h : 6 ≤ 3 = many in omega arith)
six_words f form (a ∷ (b ∷ (c ∷ (d ∷ [])))) many = absurd (let h : 6 ≤ 4 = many in omega arith)
six_words f form (a ∷ (b ∷ (c ∷ (d ∷ (e ∷ []))))) many = absurd (let h : 6 ≤ 5 = many in omega arith)
six_words f form (a ∷ (b ∷ (c ∷ (d ∷ (e ∷ (g ∷ rest)))))) many = refl
