-- What is answered by a refusal's number.
use Rattle.std.proofs.Common.{◌≡◌, refl, ℕ, Float, Result, Ok, Err, sym, ◌∙◌, ap, arith, eq-eqb, ne_eqb}
use Rattle.std.proofs.Math.Option.{some, none}
use Rattle.answer.specs.declared.Pair.{Pair}
use Rattle.answer.specs.declared.Refusal.{Refusal}
use Rattle.answer.specs.declared.Refusal.TheVariants.{NotANumber, OrderTooLarge, TableTooShort, OrderOutsideExpansion}
use Rattle.answer.specs.declared.Refusal.TheVariants.{Infinite, NotForward, RungDiffers}
use Rattle.answer.specs.Answer.{number, refusal_of, pair_of, answer_by}

pub refused : (number : ℕ) (pair : Float × Float) → (number ≡ 0 → ⊥) → answer_by number pair ≡ none
unfolding answer_by
refused number pair h = rw (ne_eqb number 0 h)

pub answered : (number : ℕ) (pair : Float × Float) → number ≡ 0 → answer_by number pair ≡ some pair
unfolding answer_by
answered number pair h = rw (eq-eqb number 0 h)

-- no refusal has the number 0
pub numbered : (refusal : Refusal) → number refusal ≡ 0 → ⊥
unfolding number
numbered NotANumber h = omega (arith, h)
numbered OrderTooLarge h = omega (arith, h)
numbered TableTooShort h = omega (arith, h)
numbered OrderOutsideExpansion h = omega (arith, h)
numbered Infinite h = omega (arith, h)
numbered NotForward h = omega (arith, h)
numbered RungDiffers h = omega (arith, h)

-- a test with the refusal's number n: a refusal is passed up, and where there is none n is 0
module _ {A : Type 0} (test : Result A Refusal) (n : ℕ) (e : refusal_of test ≡ n) where
  pub passed_up : (refusal : Refusal) (answer : Result Pair Refusal) → test ≡ Err refusal
      → (passed : Refusal) × (answer ≡ Err passed) × (passed ≡ refusal)
      → (refusal_of answer ≡ n) × (pair_of answer ≡ none) × (n ≡ 0 → ⊥)
  unfolding refusal_of pair_of
  passed_up refusal answer h (passed, i, j) =
      let k : number refusal ≡ n = sym (ap (λ t. refusal_of t) h) ∙ e in
      (ap (λ a. refusal_of a) i ∙ ap number j ∙ k, ap pair_of i, λ z. numbered refusal (k ∙ z))

  pub passed : (a : A) → test ≡ Ok a → n ≡ 0
  unfolding refusal_of
  passed a h = sym e ∙ ap (λ t. refusal_of t) h

-- the refusal's number of a test or a request, as equations
pub not_refused : (A : Type 0) (a : A) → refusal_of {A = A} (Ok a) ≡ 0
unfolding refusal_of
not_refused A a = refl

pub refused_by : (A : Type 0) (refusal : Refusal) → refusal_of {A = A} (Err refusal) ≡ number refusal
unfolding refusal_of
refused_by A refusal = refl

pub ruleset refusal_numbers = (not_refused, refused_by)

-- and the pair of a request
pub pair_given : (pair : Pair) → pair_of (Ok pair) ≡ some (pair.value, pair.derivative)
unfolding pair_of
pair_given pair = refl

pub no_pair : (refusal : Refusal) → pair_of (Err refusal) ≡ none
unfolding pair_of
no_pair refusal = refl

pub ruleset answer_laws = (refusal_numbers, pair_given, no_pair)
