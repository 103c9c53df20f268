-- A sequence by a recurrence of three terms: the form of the rungs of every branch, and of a climb. Its laws are in
-- proofs/ThreeTerm.antt.
use Rattle.std.specs.Prelude.{ℕ, zero, suc}

-- a, b, and then each from the two before it: `next k` gives term k + 2 from terms k and k + 1
unfoldable pub continued : {A : Type 0} → (ℕ → A → A → A) → A → A → ℕ → A
continued next a b zero = a
continued next a b (suc k) = continued (λ i. next (suc i)) b (next zero a b) k
