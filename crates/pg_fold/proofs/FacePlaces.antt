-- How high the piles are after some folds, and that a face stays within its pile.
use Rattle.std.proofs.Common.{◌≡◌, ◌∙◌, refl, sym, ap, subst, arith, ℕ, zero, suc, ◌+◌, ◌-◌, ◌*◌, ◌/◌, ◌%◌, ◌^◌, ◌≤◌, Bool, true, false, pow_mono, pow-suc}
use Rattle.std.specs.Prelude.{nat_lt, ◌==◌, if◌then◌else◌}
use Rattle.pg_fold.specs.Imposed.{across, face_after, face_of, first_place, upwards}
use Rattle.pg_fold.specs.declared.face.Face.{Face}
use Rattle.pg_fold.specs.declared.face.Side.{Side}
use Rattle.pg_fold.specs.declared.face.Side.TheVariants.{Front, Back}

-- twice as high, and within it where the face was within
record IsHigher (face folded : Face) : Type 0 where
  pub height : folded.height ≡ face.height * 2
  pub place : face.place ≤ face.height → folded.place ≤ folded.height

higher_across : (face : Face) → IsHigher face (across face)
higher_across face = by (nat_lt face.column (face.columns / 2))
  where
    by : (b : Bool) →
        IsHigher face
        (if b then record face
        { place = face.height + face.place; columns = face.columns / 2; height = face.height * 2 }
        else record face {
          column = face.columns - 1 - face.column;
          place = face.height - 1 - face.place;
          columns = face.columns / 2;
          height = face.height * 2;
        })
    by true = record { height = refl; place = λ l. omega (arith, l) }
    by false = record { height = refl; place = λ l. omega (arith, l) }

higher_upwards : (face : Face) → IsHigher face (upwards face)
higher_upwards face = by (nat_lt face.row (face.rows / 2))
  where
    by : (b : Bool) →
        IsHigher face
        (if b then record face { place = face.height + face.place; rows = face.rows / 2; height = face.height * 2 }
        else record face {
          row = face.rows - 1 - face.row;
          place = face.height - 1 - face.place;
          rows = face.rows / 2;
          height = face.height * 2;
        })
    by true = record { height = refl; place = λ l. omega (arith, l) }
    by false = record { height = refl; place = λ l. omega (arith, l) }

higher : (n : ℕ) (face : Face) → IsHigher (face_after n face) (face_after (suc n) face)
higher n face = by (suc n % 2 == 1)
  where
    by : (b : Bool) →
        IsHigher (face_after n face) (if b then across (face_after n face) else upwards (face_after n face))
    by true = higher_across (face_after n face)
    by false = higher_upwards (face_after n face)

pub height_after : (n : ℕ) (face : Face) → face.height ≡ 2 → (face_after n face).height ≡ 2 ^ (n + 1)
height_after zero face two = two
height_after (suc n) face two =
    (higher n face).height ∙ (ap (λ h. h * 2) (height_after n face two) ∙ doubled n)
  where
    doubled : (n : ℕ) → 2 ^ (n + 1) * 2 ≡ 2 ^ (suc n + 1)
    doubled n = let e : suc n + 1 ≡ suc (n + 1) = omega arith in
        let p : 2 ^ suc (n + 1) ≡ 2 ^ (n + 1) * 2 = pow-suc 2 (n + 1) in sym (ap (λ k. 2 ^ k) e ∙ p)

pub place_after : (n : ℕ) (face : Face) → face.place ≤ face.height →
    (face_after n face).place ≤ (face_after n face).height
place_after zero face within = within
place_after (suc n) face within = (higher n face).place (place_after n face within)

pub height_small : (n folds : ℕ) (side : Side) (cell : ℕ) (now : Face) →
    now ≡ face_after n (face_of folds side cell) → n ≤ 4 → now.height ≤ 32
height_small n folds side cell now is few =
    let e : now.height ≡ 2 ^ (n + 1) = ap (λ (f : Face). f.height) is ∙ height_after n (face_of folds side cell) refl in
    let m : 2 ^ (n + 1) ≤ 2 ^ 5 = pow_mono {i = n + 1} {j = 5} (omega (arith, few)) in
    omega (arith, e, m)

first_small : (side : Side) → first_place side ≤ 2
first_small Front = omega arith
first_small Back = omega arith

pub place_small : (n folds : ℕ) (side : Side) (cell : ℕ) (now : Face) → now ≡ face_after n (face_of folds side cell) →
    now.place ≤ now.height
place_small n folds side cell now is =
    subst (λ (f : Face). f.place ≤ f.height) (sym is) (place_after n (face_of folds side cell) (first_small side))
