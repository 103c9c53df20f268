-- Pairs of the Maclaurin series by computing, at exponents where e^0 is taken: mul_exp's law gives the factor 1.
use Rattle.std.proofs.Common.{◌≡◌, refl, ◌∙◌, false, Float}
use Rattle.std.specs.Float.Ieee.{add, sub, mul, lt, of_bits}
use Rattle.floats.specs.Operations.{◌⊕◌, ◌⊖◌, ◌⊗◌, bits, decimal, f0, f½, f1, ln2}
use Rattle.signs.specs.Signs.{absolute}
use Rattle.mul_exp.specs.MulExp.{mul_exp}
use Rattle.mul_exp.proofs.Laws.{mul_exp_zero}
use Rattle.maclaurin_series.specs.Constants.{short_form_limit, scale, f600}
use Rattle.maclaurin_series.specs.Series.{series, short_form, pb_maclaurin}
use Rattle.maclaurin_series.specs.Series.Open.{short, long}

abbrev both : (Float → Float) → Float × Float → Float × Float
both f p = (f p.0, f p.1)

-- both mantissas with the exponent 0
unscaled : (p : Float × Float) → both (λ (m : Float). mul_exp m f0) p ≡ both (λ (m : Float). m ⊗ f1 ⊗ f1) p
unscaled p = rw (mul_exp_zero p.0, mul_exp_zero p.1)

-- the series with the exponent 0; specs/Series/Examples.antt has values of its sums
pub with_no_exponent : (a x c0 c1 : Float) → lt (absolute x) short_form_limit ≡ false
    → pb_maclaurin a x c0 c1 f0 ≡ ((series a x c0 c1).4 ⊗ f1 ⊗ f1, (series a x c0 c1).5 ⊗ f1 ⊗ f1)
with_no_exponent a x c0 c1 h = long a x c0 c1 f0 h ∙ unscaled ((series a x c0 c1).4, (series a x c0 c1).5)

-- the short form at x = 2^−600, with the exponent that the scaling takes away: 2^600 + 0.5, rounded, and 0.5·2^600 + 20.5, rounded
abbrev half_scale : Float
half_scale = bits 0x6560_0000_0000_0000

no_exponent : f600 ⊗ ln2 ⊖ f600 ⊗ ln2 ≡ f0
unfolding sub mul of_bits
no_exponent = refl

first_part : f1 ⊗ scale ⊕ f½ ⊗ (bits 0x1a70_0000_0000_0000 ⊗ scale) ≡ scale
unfolding add mul of_bits
first_part = refl

second_part : f½ ⊗ scale ⊕ decimal 205 1 ⊗ f1 ⊗ (bits 0x1a70_0000_0000_0000 ⊗ scale) ≡ half_scale
unfolding add mul of_bits decimal
second_part = refl

pub pair_of_short_form : pb_maclaurin (decimal 205 1) (bits 0x1a70_0000_0000_0000) f1 f½ (f600 ⊗ ln2) ≡ (scale ⊗ f1 ⊗ f1, half_scale ⊗ f1 ⊗ f1)
unfolding short_form absolute lt of_bits
pair_of_short_form =
    short (decimal 205 1) (bits 0x1a70_0000_0000_0000) f1 f½ (f600 ⊗ ln2) refl
    ∙ rw (first_part, second_part, no_exponent) (unscaled (scale, half_scale))
