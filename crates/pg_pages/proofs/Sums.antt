-- Items added up, one after another.
use Rattle.std.proofs.Common.{◌≡◌, sym, ap, ◌∙◌, subst, ℕ, ◌+◌, ◌-◌, ◌≤◌, ◌<◌, ◌^◌, arith, List, [], ◌∷◌, ◌++◌, append_assoc, append-nil, length, length-append, take, drop, get_or, ℤ}
use Rattle.std.specs.Borrow.{Bor}
use Rattle.std.specs.List.{AllByRecursion}
use Rattle.std.proofs.lemmas.List.{take_all}
use Rattle.std.proofs.Math.Seq.{take-append_seam}
use Rattle.pg_lemmas.proofs.Lists.{no_items}
use Rattle.pg_list.specs.declared.item.Item.{Item}
use Rattle.pg_list.specs.Ranges.{IsItemInRange}
use Rattle.pg_style.specs.Values.{StyleValue}
use Rattle.pg_sums.specs.AreSums.{AreSums}
use Rattle.pg_sums.specs.SumsValue.{SumsValue}
use Rattle.pg_notes.specs.AreNotes.{AreNotes}
use Rattle.pg_notes.specs.NotesValue.{NotesValue}
use Rattle.pg_column.specs.Between.{behind}
use Rattle.pg_pages.proofs.Printed.{behind_long}

-- the sums and the notes are those of all items but the rest
pub record AreAdded (style : StyleValue) (items : List Item) (rest : List (Bor Item)) (sums : SumsValue)
    (notes : NotesValue) : Type 0 where
  pub whole : take sums.count items ++ behind rest ≡ items
  pub ranges : AllByRecursion IsItemInRange (behind rest)
  pub sums_are : AreSums style.topskip style.maxdepth (take sums.count items) sums
  pub notes_are : AreNotes style (take sums.count items) notes

take_on : {X : Type 0} (xs front back : List X) (x : X) (k : ℕ) → front ++ x ∷ back ≡ xs → length front ≡ k →
    take (k + 1) xs ≡ front ++ x ∷ []
take_on xs front back x k whole long =
    let size = length-append front (x ∷ []) in
    let more : k + 1 ≡ length (front ++ x ∷ []) = omega (arith, size, long) in
    ap (λ (n : ℕ). take n xs) more
    ∙ ap (take (length (front ++ x ∷ []))) (sym whole ∙ sym (append_assoc front (x ∷ []) back))
    ∙ take-append_seam (front ++ x ∷ []) back

module _ (style : StyleValue) (items : List Item) (sums : SumsValue) (notes : NotesValue) where
  pub none_added : sums.count ≡ 0 → AllByRecursion IsItemInRange items → (rest : List (Bor Item)) →
      behind rest ≡ items → AreSums style.topskip style.maxdepth [] sums → AreNotes style [] notes →
      AreAdded style items rest sums notes
  none_added none all rest same are are' =
      let start : take sums.count items ≡ [] = ap (λ (n : ℕ). take n items) none in
      record {
        whole = ap (λ (front : List Item). front ++ behind rest) start ∙ same;
        ranges = subst (AllByRecursion IsItemInRange) (sym same) all;
        sums_are = subst (λ (xs : List Item). AreSums style.topskip style.maxdepth xs sums) (sym start) are;
        notes_are = subst (λ (xs : List Item). AreNotes style xs notes) (sym start) are';
      }

  module _ (rest : List (Bor Item)) (are : AreAdded style items rest sums notes) where
    pub so_few : length items ≤ 2 ^ 20 → 1 ≤ length rest → (sums.count < 2 ^ 20) × (notes.count < 2 ^ 20)
    so_few few some =
        let a = are.sums_are.count_is in
        let b = are.notes_are.count_is in
        let c = length-append (take sums.count items) (behind rest) in
        let d = ap length are.whole in
        let e = behind_long rest in
        (omega (arith, a, c, d, e, few, some), omega (arith, b, c, d, e, few, some))

    pub next_range : (x d : Bor Item) → 1 ≤ length rest → x ≡ get_or rest 0 d → IsItemInRange x.now
    next_range x d some is = by rest are.ranges some is
      where
        by : (ys : List (Bor Item)) → AllByRecursion IsItemInRange (behind ys) → 1 ≤ length ys → x ≡ get_or ys 0 d →
            IsItemInRange x.now
        by [] all h e = absurd (omega (arith, h))
        by (y ∷ ys) all h e = subst (λ (z : Bor Item). IsItemInRange z.now) (sym e) all.0

    pub all_added : length rest ≡ 0 → take sums.count items ≡ items
    all_added none = sym (append-nil (take sums.count items))
        ∙ ap (λ (xs : List (Bor Item)). take sums.count items ++ behind xs) (sym (no_items rest none)) ∙ are.whole

  pub one_added : (rest : List (Bor Item)) (x d : Bor Item) (more : SumsValue) (noted : NotesValue) → 1 ≤ length rest →
      x ≡ get_or rest 0 d → more.count ≡ sums.count + 1 →
      ((t m : ℤ) (xs : List Item) → AreSums t m xs sums → AreSums t m (xs ++ x.now ∷ []) more) →
      ((xs : List Item) → AreNotes style xs notes → AreNotes style (xs ++ x.now ∷ []) noted) →
      AreAdded style items rest sums notes → AreAdded style items (take (length rest - 1) (drop 1 rest)) more noted
  one_added [] x d more noted some is count adds notes_add are = absurd (omega (arith, some))
  one_added (y ∷ rest) x d more noted some is count adds notes_add are =
      let all : take (length (y ∷ rest) - 1) rest ≡ rest = take_all (length (y ∷ rest) - 1) rest (omega arith) in
      let one : x.now ≡ y.now = ap (λ (z : Bor Item). z.now) is in
      let long : length (take sums.count items) ≡ sums.count = sym are.sums_are.count_is in
      let front : take more.count items ≡ take sums.count items ++ x.now ∷ [] =
      ap (λ (n : ℕ). take n items) count
      ∙ take_on items (take sums.count items) (behind rest) x.now sums.count
      (ap (λ (z : Item). take sums.count items ++ z ∷ behind rest) one ∙ are.whole) long in
      subst (λ (those : List (Bor Item)). AreAdded style items those more noted) (sym all)
      (record {
        whole = ap (λ (xs : List Item). xs ++ behind rest) front
            ∙ append_assoc (take sums.count items) (x.now ∷ []) (behind rest)
            ∙ ap (λ (z : Item). take sums.count items ++ z ∷ behind rest) one ∙ are.whole;
        ranges = are.ranges.1;
        sums_are = subst (λ (xs : List Item). AreSums style.topskip style.maxdepth xs more) (sym front)
            (adds style.topskip style.maxdepth (take sums.count items) are.sums_are);
        notes_are = subst (λ (xs : List Item). AreNotes style xs noted) (sym front)
            (notes_add (take sums.count items) are.notes_are);
      })
