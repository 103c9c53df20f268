-- What the definitions are, case by case. Only this crate's proofs cite these laws.
use Rattle.std.specs.Prelude.{◌≡◌, true, false, cond, Float}
use Rattle.std.proofs.Math.Path.{refl}
use Rattle.std.specs.Float.Ieee.{is_nan}
use Rattle.signs.specs.Signs.{infinite}
use Rattle.answer.specs.Answer.{answer_by}
use Rattle.maclaurin_series.specs.Series.{pb_maclaurin}
use Rattle.maclaurin.specs.Maclaurin.{any_input, refusal, answer}

module _ (a x c0 c1 e : Float) where
  pub refusal_is : refusal a x c0 c1 e ≡ cond (any_input is_nan a x c0 c1 e) 1 (cond (any_input infinite a x c0 c1 e) 5 0)
  unfolding refusal
  refusal_is = refl

  pub with_nan : any_input is_nan a x c0 c1 e ≡ true → refusal a x c0 c1 e ≡ 1
  unfolding refusal
  with_nan h = rw (h)

  pub with_infinity : any_input is_nan a x c0 c1 e ≡ false → any_input infinite a x c0 c1 e ≡ true
      → refusal a x c0 c1 e ≡ 5
  unfolding refusal
  with_infinity h i = rw (h, i)

  pub accepted : any_input is_nan a x c0 c1 e ≡ false → any_input infinite a x c0 c1 e ≡ false → refusal a x c0 c1 e ≡ 0
  unfolding refusal
  accepted h i = rw (h, i)

  pub answer_is : answer a x c0 c1 e ≡ answer_by (refusal a x c0 c1 e) (pb_maclaurin a x c0 c1 e)
  unfolding answer
  answer_is = refl
