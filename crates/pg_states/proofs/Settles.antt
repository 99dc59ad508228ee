-- What is told class by class from the lines of a state is what the rules say.
use Rattle.std.proofs.Common.{◌≡◌, ap, subst, ◌∙◌, ℕ, ◌-◌, List, length, map, ◌≤◌, ◌^◌, Bool, Option, Some, None, arith}
use Rattle.std.specs.Prelude.{IfSome}
use Rattle.std.specs.List.{range_with_len}
use Rattle.pg_list.specs.declared.galley.Place.{Place}
use Rattle.pg_plan.specs.declared.states.State.{State}
use Rattle.pg_style.specs.Values.{StyleValue}
use Rattle.pg_rules.specs.Floats.{called, entry, float_numbers}
use Rattle.pg_rules.specs.Follow.{turns}
use Rattle.pg_rules.specs.Room.{Document}
use Rattle.law_moves.specs.Ages.{waits_of}
use Rattle.law_moves.specs.Listed.{may_begin}
use Rattle.pg_states.specs.Lines.{line_in}
use Rattle.pg_states.specs.Settling.{Settles, SettlesBy, known_of}
use Rattle.pg_states.specs.declared.settling.Known.{Known}
use Rattle.pg_states.specs.declared.settling.Settled.{Settled}

pub known_is : (doc : Document) (u : State) (calls waits a b : List ℕ) (n : ℕ) (begins : Bool) →
    begins ≡ may_begin doc u → calls ≡ called doc.blocks doc.style u.place → n ≡ length (float_numbers doc.style) → a ≡ calls → b ≡ u.placed →
    waits ≡ map (λ (slot : ℕ). entry a slot - entry b slot) (range_with_len 0 n) →
    ◌≡◌ {A = Known} (record { called = calls; waits = waits; may_begin = begins }) (known_of doc u)
known_is doc u calls waits a b n begins m c l p q w =
    same calls (called doc.blocks doc.style u.place) waits (waits_of doc u) begins (may_begin doc u) m c
    (w ∙ (ap (λ (xs : List ℕ). map (λ (slot : ℕ). entry xs slot - entry b slot) (range_with_len 0 n)) (p ∙ c)
    ∙ (ap (λ (xs : List ℕ). map (λ (slot : ℕ). entry (called doc.blocks doc.style u.place) slot - entry xs slot)
    (range_with_len 0 n)) q
    ∙ ap (λ (k : ℕ). map (λ (slot : ℕ). entry (called doc.blocks doc.style u.place) slot - entry u.placed slot)
    (range_with_len 0 k)) l)))
  where
    same : (c c' w w' : List ℕ) (b b' : Bool) → b ≡ b' → c ≡ c' → w ≡ w' →
        ◌≡◌ {A = Known} (record { called = c; waits = w; may_begin = b })
        (record { called = c'; waits = w'; may_begin = b' })
    same c c' w w' b b' r p q = cc

-- from the lines of a state
settles_here : (doc : Document) (u : State) (to : Place) (after : List ℕ) (n : ℕ) (it : Option Settled) → n ≤ 8 →
    n ≡ length (float_numbers doc.style) →
    SettlesBy doc.style (line_in (waits_of doc u) u.ages (called doc.blocks doc.style u.place)
    (called doc.blocks doc.style to)) u.placed after (turns doc.style u) (length (float_numbers doc.style)) it →
    Settles doc u to after it
settles_here doc u to after n None few e h = h
settles_here doc u to after n (Some it) few e h =
    let small = h.small in (h.young, (h.left, (h.paid, omega (arith, small, few, e))))

pub settles : (doc : Document) (u : State) (to : Place) (known : Known)
    (waits ages before reached placed end after : List ℕ) (n pages : ℕ) (it : Option Settled) →
    known ≡ known_of doc u → waits ≡ known.waits → ages ≡ u.ages → before ≡ known.called →
    reached ≡ called doc.blocks doc.style to → placed ≡ u.placed → end ≡ after → n ≤ 8 →
    n ≡ length (float_numbers doc.style) → pages ≡ turns doc.style u →
    SettlesBy doc.style (line_in waits ages before reached) placed end pages n it → Settles doc u to after it
settles doc u to known waits ages before reached placed end after n pages it k w a b r p e few l t h =
    settles_here doc u to after n it few l
    (subst (λ (xs : List ℕ). By (line_in xs u.ages here there) u.placed after (turns doc.style u) count)
    (w ∙ ap (λ (x : Known). x.waits) k)
    (subst (λ (xs : List ℕ). By (line_in waits xs here there) u.placed after (turns doc.style u) count) a
    (subst (λ (xs : List ℕ). By (line_in waits ages xs there) u.placed after (turns doc.style u) count)
    (b ∙ ap (λ (x : Known). x.called) k)
    (subst (λ (xs : List ℕ). By (line_in waits ages before xs) u.placed after (turns doc.style u) count) r
    (subst (λ (xs : List ℕ). By (line_in waits ages before reached) xs after (turns doc.style u) count) p
    (subst (λ (xs : List ℕ). By (line_in waits ages before reached) placed xs (turns doc.style u) count) e
    (subst (λ (m : ℕ). By (line_in waits ages before reached) placed end m count) t
    (subst (λ (m : ℕ). By (line_in waits ages before reached) placed end pages m) l h))))))))
  where
    By : (ℕ → List ℕ) → List ℕ → List ℕ → ℕ → ℕ → Type 0
    By line placed after pages n = SettlesBy doc.style line placed after pages n it

    here : List ℕ
    here = called doc.blocks doc.style u.place

    there : List ℕ
    there = called doc.blocks doc.style to

    count : ℕ
    count = length (float_numbers doc.style)

-- what floats pay together is no great number
pub few_paid : (style : StyleValue) (line : ℕ → List ℕ) (placed after : List ℕ) (pages n : ℕ)
    (it : Option Settled) → n ≤ 8 → SettlesBy style line placed after pages n it →
    IfSome it (λ (s : Settled). s.price ≤ 2 ^ 51)
few_paid style line placed after pages n None few h = tt
few_paid style line placed after pages n (Some s) few h = let small = h.small in omega (arith, few, small)
