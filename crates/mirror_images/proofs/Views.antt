-- Mirror images are both NaN, both infinite, or of one size, with signs that agree with the relation's or a size of 0.
use Rattle.std.proofs.Common.{◌≡◌, refl, sym, ap, ◌∙◌, subst, ◌⊎◌, inl, inr, ℕ, ◌*◌, ◌<◌, zero-mul, Bool, true, false}
use Rattle.std.proofs.Common.{T, Float, zero-lt-suc, zero-le}
use Rattle.std.specs.Float.Ieee.{nan, inf, fin, binary64, up, down, neg, round, unlike, eq, is_nan}
use Rattle.std.specs.Float.Ieee.Back.{round_whole}
use Rattle.std.specs.Float.Ieee.Bits.{is_true}
use Rattle.std.specs.Float.Ieee.Exact.{HasValue}
use Rattle.std.specs.Float.Ieee.Fits.{and_i, and_l, and_r, down_pos}
use Rattle.std.specs.Float.Ieee.Scale.{round_same}
use Rattle.floats.specs.Operations.{f0}
use Rattle.floats.proofs.Values.{own_value, neg_value}
use Rattle.floats.proofs.Comparison.{zero_equal, equal_zero}
use Rattle.floats.proofs.Rounding.{round_neg}
use Rattle.floats.proofs.Opposites.{unlike_false, unlike_true}
use Rattle.signs.proofs.Signs.{no_number}
use Rattle.mirror_images.specs.Images.{signed, MirrorOf, nans, zeros, exact}

-- ---- from the relation

-- the size is m / c, the signs are t and u
pub record Sized (s : Bool) (a b : Float) : Type 0 where
  pub t : Bool
  pub u : Bool
  pub m : ℕ
  pub c : ℕ
  pub positive : 0 < c
  pub left : HasValue a t m c
  pub right : HasValue b u m c
  pub signs : (m ≡ 0) ⊎ (u ≡ unlike s t)

pub data View (s : Bool) (a b : Float) : Type 0 where
  no_numbers : a ≡ nan → b ≡ nan → View s a b
  infinite : (t u : Bool) → u ≡ unlike s t → a ≡ inf t → b ≡ inf u → View s a b
  sized : Sized s a b → View s a b

signed_nan : (s : Bool) → signed s nan ≡ nan
unfolding signed neg
signed_nan true = refl
signed_nan false = refl

pub signed_inf : (s t : Bool) → signed s (inf t) ≡ inf (unlike s t)
unfolding signed neg
signed_inf true t = ap inf (sym (unlike_true t))
signed_inf false t = ap inf (sym (unlike_false t))

pub signed_value : (s : Bool) (x : Float) (t : Bool) (a c : ℕ) → HasValue x t a c → HasValue (signed s x) (unlike s t) a c
unfolding signed
signed_value true x t a c v = rw (unlike_true t) (neg_value x t a c v)
signed_value false x t a c v = rw (unlike_false t) v

pub view : (s : Bool) (a b : Float) → MirrorOf s a b → View s a b
view s a b (nans t) =
    no_numbers (no_number a (is_true (is_nan a) (and_l (is_nan a) (is_nan b) t))) (no_number b (is_true (is_nan b) (and_r (is_nan a) (is_nan b) t)))
view s a b (zeros t) =
    let p = equal_zero a (and_l (eq a f0) (eq b f0) t) in
    let q = equal_zero b (and_r (eq a f0) (eq b f0) t) in
    sized (record { t = p.0; u = q.0; m = 0; c = 1; positive = zero-lt-suc 0; left = p.1; right = q.1; signs = inl refl })
view s nan b (exact e) = no_numbers refl (e ∙ signed_nan s)
view s (inf t) b (exact e) = infinite t (unlike s t) refl refl (e ∙ signed_inf s t)
view s (fin t m d) b (exact e) =
    sized
    (record {
      t = t;
      u = unlike s t;
      m = m * up d;
      c = down d;
      positive = down_pos d;
      left = own_value t m d;
      right = rw e (signed_value s (fin t m d) t (m * up d) (down d) (own_value t m d));
      signs = inr refl;
    })

-- ---- to the relation

pub nan_images : (s : Bool) (a b : Float) → a ≡ nan → b ≡ nan → MirrorOf s a b
nan_images s a b p q = exact (q ∙ sym (signed_nan s) ∙ ap (signed s) (sym p))

pub infinite_images : (s t u : Bool) (a b : Float) → u ≡ unlike s t → a ≡ inf t → b ≡ inf u → MirrorOf s a b
infinite_images s t u a b h p q = exact (q ∙ ap inf h ∙ sym (signed_inf s t) ∙ ap (signed s) (sym p))

round_zero : (s : Bool) (c : ℕ) → 0 < c → HasValue (round binary64 s 0 c) s 0 1
round_zero s c C =
    subst (λ (z : Float). HasValue z s 0 1) (sym (round_same binary64 s 0 c 0 1 C (zero-lt-suc 0) (zero-mul 1 ∙ sym (zero-mul c))))
    (round_whole binary64 s 0 zero-le)

-- a size that is rounded with two signs
round_images : (s r q : Bool) (n c : ℕ) → 0 < c → (n ≡ 0) ⊎ (q ≡ unlike s r) → MirrorOf s (round binary64 r n c) (round binary64 q n c)
unfolding signed
round_images s r q n c C (inl e) =
    let at : (w : Bool) → T (eq (round binary64 w n c) f0) = λ w. zero_equal (round binary64 w n c) w (rw e (round_zero w c C)) in
    zeros (and_i (eq (round binary64 r n c) f0) (eq (round binary64 q n c) f0) (at r) (at q))
round_images s r q n c C (inr e) = exact (ap (λ (z : Bool). round binary64 z n c) e ∙ go s)
  where
    go : (s : Bool) → round binary64 (unlike s r) n c ≡ signed s (round binary64 r n c)
    go true = ap (λ (z : Bool). round binary64 z n c) (unlike_true r) ∙ sym (round_neg binary64 r n c)
    go false = ap (λ (z : Bool). round binary64 z n c) (unlike_false r)

pub rounded_images : (s r q : Bool) (n c : ℕ) (a b : Float) → 0 < c → a ≡ round binary64 r n c → b ≡ round binary64 q n c
    → (n ≡ 0) ⊎ (q ≡ unlike s r) → MirrorOf s a b
rounded_images s r q n c a b C p p' h = rw (p, p') (round_images s r q n c C h)

-- ---- the signs of a size, or none

pub only : (m : ℕ) {A C : Type 0} → (m ≡ 0) ⊎ A → (A → C) → (m ≡ 0) ⊎ C
only m (inl e) g = inl e
only m (inr a) g = inr (g a)
