-- A test that antt computes over two lists at once, and the law that carries it to each place; the test of two floats for equality.
use Rattle.std.proofs.Common.{◌≡◌, ap, Bool, true, false, ◌&&◌, List, [], ◌∷◌, ℕ, zero, suc, ◌<◌}
use Rattle.std.proofs.Common.{le_of_suc-le-suc, not-suc-le-zero, T, eqb, eqb→eq, ℤ, pos, negsuc, Float, length, get_or}
use Rattle.std.specs.Float.{nan, inf, fin}
use Rattle.std.specs.Float.Ieee.Fits.{and_l, and_r}
use Rattle.std.proofs.Math.Bool.{beq}
use Rattle.floats.proofs.Booleans.{beq_same}

-- ---- every number below n

abbrev pub every_below : ℕ → (ℕ → Bool) → Bool
every_below zero f = true
every_below (suc n) f = f 0 && every_below n (λ k. f (suc k))

pub each_below : (n : ℕ) (f : ℕ → Bool) → T (every_below n f) → (k : ℕ) → k < n → T (f k)
each_below zero f t k h = absurd (not-suc-le-zero h)
each_below (suc n) f t zero h = and_l (f 0) (every_below n (λ k. f (suc k))) t
each_below (suc n) f t (suc k) h = each_below n (λ k. f (suc k)) (and_r (f 0) (every_below n (λ k. f (suc k))) t) k (le_of_suc-le-suc h)

-- ---- every place of two lists

abbrev pub pairwise : {A B : Type 0} → (A → B → Bool) → List A → List B → Bool
pairwise f [] ys = true
pairwise f (x ∷ xs) [] = false
pairwise f (x ∷ xs) (y ∷ ys) = f x y && pairwise f xs ys

pub each_pair : {A B : Type 0} (f : A → B → Bool) (xs : List A) (ys : List B) (a : A) (b : B) → T (pairwise f xs ys) → (k : ℕ) → k < length xs
    → T (f (get_or xs k a) (get_or ys k b))
each_pair f [] ys a b t k h = absurd (not-suc-le-zero h)
each_pair f (x ∷ xs) [] a b t k h = absurd t
each_pair f (x ∷ xs) (y ∷ ys) a b t zero h = and_l (f x y) (pairwise f xs ys) t
each_pair f (x ∷ xs) (y ∷ ys) a b t (suc k) h = each_pair f xs ys a b (and_r (f x y) (pairwise f xs ys) t) k (le_of_suc-le-suc h)

-- ---- the same finite float

abbrev same_int : ℤ → ℤ → Bool
same_int (pos a) (pos b) = eqb a b
same_int (pos a) (negsuc b) = false
same_int (negsuc a) (pos b) = false
same_int (negsuc a) (negsuc b) = eqb a b

abbrev pub same_float : Float → Float → Bool
same_float nan y = false
same_float (inf s) y = false
same_float (fin s m e) nan = false
same_float (fin s m e) (inf t) = false
same_float (fin s m e) (fin t n d) = beq s t && (eqb m n && same_int e d)

same_int_law : (a b : ℤ) → T (same_int a b) → a ≡ b
same_int_law (pos a) (pos b) t = ap pos (eqb→eq a b t)
same_int_law (pos a) (negsuc b) t = absurd t
same_int_law (negsuc a) (pos b) t = absurd t
same_int_law (negsuc a) (negsuc b) t = ap negsuc (eqb→eq a b t)

pub same_float_law : (x y : Float) → T (same_float x y) → x ≡ y
same_float_law nan y t = absurd t
same_float_law (inf s) y t = absurd t
same_float_law (fin s m e) nan t = absurd t
same_float_law (fin s m e) (inf u) t = absurd t
same_float_law (fin s m e) (fin u n d) t =
    let rest = and_r (beq s u) (eqb m n && same_int e d) t in
    let hs : s ≡ u = beq_same s u (and_l (beq s u) (eqb m n && same_int e d) t) in
    let hm : m ≡ n = eqb→eq m n (and_l (eqb m n) (same_int e d) rest) in
    let he : e ≡ d = same_int_law e d (and_r (eqb m n) (same_int e d) rest) in
    cc
