-- The laws of `continued`: its terms, two recurrences that agree, and a sequence taken up in the middle.
use Rattle.std.proofs.Common.{◌≡◌, refl, sym, ap, ◌∙◌, ℕ, zero, suc, ◌+◌, zero-add, arith}
use Rattle.recurrence.specs.ThreeTerm.{continued}

-- a term from the two before it
pub continued_next : {A : Type 0} (next : ℕ → A → A → A) (a b : A) (k : ℕ)
    → continued next a b (suc (suc k)) ≡ next k (continued next a b k) (continued next a b (suc k))
unfolding continued
continued_next next a b zero = refl
continued_next next a b (suc k) = continued_next (λ i. next (suc i)) b (next zero a b) k

pub continued_same : {A : Type 0} (next next' : ℕ → A → A → A) (a b : A) → ((k : ℕ) (p q : A) → next k p q ≡ next' k p q) → (k : ℕ)
    → continued next a b k ≡ continued next' a b k
continued_same next next' a b e k = ap (λ g. continued g a b k) (λ i j p q. e j p q i)

-- TAKEN UP IN THE MIDDLE it goes on as the whole
pub taken_up : {A : Type 0} (next : ℕ → A → A → A) (a b : A) (i k : ℕ)
    → continued (λ j. next (i + j)) (continued next a b i) (continued next a b (suc i)) k ≡ continued next a b (i + k)
unfolding continued
taken_up next a b zero k =
    continued_same (λ j. next (zero + j)) next a b (λ j p q. ap (λ n. next n p q) (zero-add j)) k
    ∙ ap (continued next a b) (sym (zero-add k))
taken_up next a b (suc i) k =
    let e : (j : ℕ) → suc i + j ≡ suc (i + j) = λ j. omega arith in
    continued_same (λ j. next (suc i + j)) (λ j. next (suc (i + j))) (continued next a b (suc i)) (continued next a b (suc (suc i))) (λ j p q. ap (λ n. next n p q) (e j)) k
    ∙ taken_up (λ j. next (suc j)) b (next zero a b) i k
    ∙ ap (continued next a b) (sym (e k))
