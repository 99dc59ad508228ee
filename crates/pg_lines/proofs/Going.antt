-- The galley so far, with one paragraph more.
use Rattle.std.proofs.Common.{◌≡◌, refl, sym, ap, subst, ◌∙◌, ℕ, ◌+◌, ◌<◌, ◌≤◌, List, [], ◌∷◌, length, arith}
use Rattle.std.specs.Prelude.{get_or, drop, Result, Ok, Err, IsErrAnd}
use Rattle.pg_list.specs.Counts.{item_count, item_limit}
use Rattle.pg_list.specs.GalleyValue.{GalleyValue}
use Rattle.pg_list.specs.Shapes.{IsChoice}
use Rattle.pg_list.specs.declared.blocks.Block.{Block}
use Rattle.pg_list.specs.declared.variants.Variant.{Variant}
use Rattle.pg_hlist.specs.declared.item.HItem.{HItem}
use Rattle.law_lines.specs.declared.rule.LineRule.{LineRule}
use Rattle.law_lines.specs.declared.rule.LineFault.{LineFault}
use Rattle.law_lines.specs.declared.rule.LineFault.TheVariants.{NoBreak, Limit, Memory}
use Rattle.law_lines.specs.Galleys.{Breaks, with_choice}
use Rattle.pg_lines.specs.Answers.{AnswersLines, EndsIn, IsMade}
use Rattle.pg_lines.proofs.LineSizes.{choice_some, count_grows}
use Rattle.pg_lines.specs.declared.galley.Made.{Made}

-- all paragraphs, with those that are left
abbrev pub Goes : LineRule → List (List HItem) → Made → List (List HItem) → Type 0
Goes rule paras made rest = (result : Result GalleyValue LineFault) →
    Breaks rule (made.paragraphs + 1) made.blocks rest result → Breaks rule 1 [] paras result

ends_at : (rule : LineRule) (paras : List (List HItem)) (made : Made) (para : List HItem) (rest : List (List HItem))
    (fault : LineFault) → Goes rule paras made (para ∷ rest) → EndsIn rule made para fault →
    AnswersLines rule paras (Err fault)
ends_at rule paras made para rest (NoBreak number) g h = g (Err (NoBreak number)) (h rest)
ends_at rule paras made para rest (Limit count) g h = g (Err (Limit count)) (h rest)
ends_at rule paras made para rest Memory g h = tt

front_is : (xs : List (List HItem)) (d : List HItem) → 0 < length xs → xs ≡ get_or xs 0 d ∷ drop 1 xs
front_is [] d h = absurd (omega (arith, h))
front_is (x ∷ xs) d h = refl

pub ends : (rule : LineRule) (paras : List (List HItem)) (made : Made) (rest : List (List HItem))
    (para d : List HItem) (fault : LineFault) (r : Result GalleyValue LineFault) →
    IsErrAnd r (λ (x : LineFault). x ≡ fault) → 0 < length rest → para ≡ get_or rest 0 d →
    Goes rule paras made rest → EndsIn rule made para fault → AnswersLines rule paras r
ends rule paras made rest para d fault (Ok galley) a h s g e = absurd a
ends rule paras made rest para d fault (Err x) a h s g e =
    subst (λ (y : LineFault). AnswersLines rule paras (Err y)) (sym a)
    (ends_at rule paras made para (drop 1 rest) fault (subst (Goes rule paras made)
    (front_is rest d h ∙ ap (λ (p : List HItem). p ∷ drop 1 rest) (sym s)) g) e)

-- ---- with a paragraph more

pub made_more : (made : Made) (blocks : List Block) (variants slice : List Variant) (count : ℕ) → IsMade made →
    IsChoice variants → slice ≡ variants → count ≡ item_count (with_choice made.blocks slice) → count ≤ item_limit →
    blocks ≡ with_choice made.blocks variants →
    IsMade (record { blocks = blocks; count = count; paragraphs = made.paragraphs + 1 })
made_more made blocks variants slice count m choice s e few b =
    let is : count ≡ item_count (with_choice made.blocks variants) =
    e ∙ ap (λ (vs : List Variant). item_count (with_choice made.blocks vs)) s in
    let grows = count_grows made.blocks variants in
    let some = choice_some variants choice in
    let before = m.count in
    let least = m.paragraphs in
    record {
      count = is ∙ ap item_count (sym b);
      few = few;
      paragraphs = omega (arith, is, grows, some, before, least);
    }
