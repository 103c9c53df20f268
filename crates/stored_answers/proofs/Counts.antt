-- The records that differ, counted from the first on: the definition goes on at the last.
use Rattle.std.proofs.Common.{◌≡◌, ℕ, zero, suc, ◌+◌, ◌*◌, Bool, true, false, not, cond, List, ◌∷◌, length, take, drop}
use Rattle.std.proofs.Common.{refl, sym, ◌∙◌, ap, arith}
use Rattle.std.proofs.lemmas.List.{drop-drop}
use Rattle.std.specs.Int.{from_bool}
use Rattle.std.specs.List.{filter}
use Rattle.std.specs.Simd.{first_chunks}
use Rattle.stored_records.specs.Words.{missed}
use Rattle.stored_answers.specs.Answers.{held, differing}

-- a `bool` as a number
pub missed_is : (b : Bool) → from_bool (not b) ≡ missed b
missed_is true = refl
missed_is false = refl

-- the first record, and the k after it
differing_first : (s : List ℕ) (k : ℕ) → differing s (suc k) ≡ missed (held (take 32 s)) + differing (drop 32 s) k
unfolding differing
differing_first s zero = omega arith
differing_first s (suc k) =
    let e : differing s (suc k) ≡ missed (held (take 32 s)) + differing (drop 32 s) k = differing_first s k in
    let place : 32 + 32 * k ≡ 32 * suc k = omega arith in
    rw (e, ← place, ← drop-drop (32 * k) 32 s) (omega arith)

length_more : (b : Bool) (x : List ℕ) (xs : List (List ℕ)) → length (cond (not b) (x ∷ xs) xs) ≡ missed b + length xs
length_more true x xs = omega arith
length_more false x xs = omega arith

pub counted : (k : ℕ) (s : List ℕ) → length (filter (λ r. not (held r)) (first_chunks 32 k s)) ≡ differing s k
unfolding differing
counted zero s = refl
counted (suc k) s =
    let x = take 32 s in
    length_more (held x) x _ ∙ ap (λ (n : ℕ). missed (held x) + n) (counted k (drop 32 s)) ∙ sym (differing_first s k)
