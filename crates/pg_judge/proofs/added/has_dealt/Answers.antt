use Rattle.std.proofs.Common.{◌≡◌, refl, sym, ◌∙◌, Bool, true, false}
use Rattle.std.specs.Prelude.{◌&&◌}
use Rattle.pg_judge.proofs.added.has_dealt.Goals as goal

-- the tests before pass, and so the answer is that of this one
by_third : {a b c : Bool} → a ≡ true → b ≡ true → c ≡ (a && (b && c))
by_third e f = rw (e, f) refl

by_second : {a b t : Bool} (c : Bool) → a ≡ true → t ≡ b → t ≡ false → t ≡ (a && (b && c))
by_second c e f g = rw (e, sym f, g) refl

by_first : {a t : Bool} (b : Bool) → t ≡ a → t ≡ false → t ≡ (a && b)
by_first b e f = rw (sym e, f) refl

pub returns-then-has_floats-2 : goal.returns-then-has_floats-2
returns-then-has_floats-2 c = λ blocks are.
    c.has_floats-then-has_floats-2.ensures blocks are
    ∙ by_third (sym (c.has_floats.ensures blocks are) ∙ c.if-has_floats.true)
    (sym (c.has_floats-then-has_floats.ensures blocks are) ∙ c.if-has_floats-2.true)

pub returns-else-has_floats-2 : goal.returns-else-has_floats-2
returns-else-has_floats-2 c = λ blocks are.
    by_second _ (sym (c.has_floats.ensures blocks are) ∙ c.if-has_floats.true)
    (c.has_floats-then-has_floats.ensures blocks are) c.if-has_floats-2.false

pub returns-else-has_floats : goal.returns-else-has_floats
returns-else-has_floats c = λ blocks are. by_first _ (c.has_floats.ensures blocks are) c.if-has_floats.false
