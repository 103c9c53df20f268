-- A loop that counts j down to `last`: one turn, and the end.
use Rattle.std.proofs.Common.{◌≡◌, refl, sym, ◌∙◌, ap, ℕ, zero, suc, ◌+◌, ◌-◌, ◌<◌, ◌≤◌, arith, Float}
use Rattle.floats.specs.Loops.{down_to}

no_turn : (f : ℕ → Float → Float) (last : ℕ) (p : Float) → down_to f last 0 p ≡ p
unfolding down_to
no_turn f last p = refl

one_turn : (f : ℕ → Float → Float) (last n : ℕ) (p : Float) → down_to f last (suc n) p ≡ down_to f last n (f (last + n) p)
unfolding down_to
one_turn f last n p = refl

-- what the turns from j − 1 down to `last` make of p is x, and so after one of them
pub turns : (f : ℕ → Float → Float) (last j : ℕ) (p x : Float) → down_to f last (j - last) p ≡ x → last < j → down_to f last (j - 1 - last) (f (j - 1) p) ≡ x
turns f last j p x e h =
    let n = j - 1 - last in
    let a : last + n ≡ j - 1 = omega arith in
    let b : j - last ≡ suc n = omega arith in
    ap (λ (k : ℕ). down_to f last n (f k p)) (sym a) ∙ sym (one_turn f last n p) ∙ ap (λ (k : ℕ). down_to f last k p) (sym b) ∙ e

pub ends : (f : ℕ → Float → Float) (last j : ℕ) (p x : Float) → down_to f last (j - last) p ≡ x → j ≤ last → p ≡ x
ends f last j p x e h =
    let b : j - last ≡ 0 = omega arith in
    sym (no_turn f last p) ∙ ap (λ (k : ℕ). down_to f last k p) (sym b) ∙ e

-- where no turn changes p
pub stays : (f : ℕ → Float → Float) (last n : ℕ) (p : Float) → ((j : ℕ) → last ≤ j → j < last + n → f j p ≡ p) → down_to f last n p ≡ p
stays f last zero p h = no_turn f last p
stays f last (suc n) p h =
    one_turn f last n p ∙ ap (λ (q : Float). down_to f last n q) (h (last + n) (omega arith) (omega arith)) ∙ stays f last n p (λ j a b. h j a (omega arith))
