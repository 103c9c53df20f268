-- What the definitions are, case by case. Only this crate's proofs cite these laws.
use Rattle.std.specs.Prelude.{◌≡◌, true, false, Float}
use Rattle.std.specs.Float.Ieee.{lt}
use Rattle.signs.specs.Signs.{absolute}
use Rattle.mul_exp.specs.MulExp.{mul_exp}
use Rattle.maclaurin_series.specs.Constants.{short_form_limit}
use Rattle.maclaurin_series.specs.Series.{series, short_form, pb_maclaurin}

module _ (a x c0 c1 e : Float) where
  pub short : lt (absolute x) short_form_limit ≡ true → pb_maclaurin a x c0 c1 e ≡ short_form a x c0 c1 e
  unfolding pb_maclaurin
  short h = rw (h)

  pub long : lt (absolute x) short_form_limit ≡ false
      → pb_maclaurin a x c0 c1 e ≡ (mul_exp (series a x c0 c1).4 e, mul_exp (series a x c0 c1).5 e)
  unfolding pb_maclaurin
  long h = rw (h)
