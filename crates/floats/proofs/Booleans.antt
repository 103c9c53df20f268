-- Laws about Booleans: of `T b`, that b is true, and of equations.
use Rattle.std.proofs.Common.{◌≡◌, refl, Bool, true, false, ◌||◌, T}
use Rattle.std.proofs.Math.Bool.{beq}

pub same_test : (a b : Bool) → (T a → T b) → (T b → T a) → a ≡ b
same_test true true p q = refl
same_test true false p q = absurd (p tt)
same_test false true p q = absurd (q tt)
same_test false false p q = refl

pub or_l : (a b : Bool) → T a → T (a || b)
or_l true b t = tt
or_l false b t = absurd t

pub or_r : (a b : Bool) → T b → T (a || b)
or_r true b t = tt
or_r false b t = t

-- equal by the test
pub beq_same : (a b : Bool) → T (beq a b) → a ≡ b
beq_same true true t = refl
beq_same false false t = refl
beq_same true false t = absurd t
beq_same false true t = absurd t
