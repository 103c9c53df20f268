-- The table is right: three tests that antt computes, two over the whole table and one over s, and the laws that carry them to each entry and each s.
--
use Rattle.std.proofs.Common.{◌≡◌, refl, Bool, ℕ, ◌<◌, T, length, Float}
use Rattle.std.specs.Float.{nan}
use Rattle.std.specs.Float.Ieee.{of_bits, size, round}
use Rattle.expansion_coefficients.specs.Fractions.{Fraction, whole}
use Rattle.expansion_coefficients.specs.Dlmf.{obeys, fractions}
use Rattle.expansion_coefficients.specs.Nearest.{within_one_unit, nearest_to, TableRight}
use Rattle.expansion_coefficients.specs.Table.{coefficients}
use Rattle.expansion_coefficients.proofs.Pairwise.{every_below, each_below, pairwise, each_pair, same_float, same_float_law}

abbrev is_nearest : Float → Fraction → Bool
is_nearest a x = same_float a (nearest_to x)

all_close : T (pairwise within_one_unit coefficients fractions)
unfolding coefficients fractions within_one_unit of_bits size
all_close = tt

all_nearest : T (pairwise is_nearest coefficients fractions)
unfolding coefficients fractions of_bits round
all_nearest = tt

all_obey : T (every_below 11 obeys)
all_obey = tt

table_length : length coefficients ≡ 172
unfolding coefficients
table_length = refl

fractions_length : length fractions ≡ 172
unfolding fractions
fractions_length = refl

in_table : (i : ℕ) → i < 172 → i < length coefficients
in_table i h = rw table_length h

pub table_right : TableRight
table_right = record {
  entries = (table_length, fractions_length);
  close = λ i h. each_pair within_one_unit coefficients fractions nan (whole 0) all_close i (in_table i h);
  nearest = λ i h. same_float_law _ _ (each_pair is_nearest coefficients fractions nan (whole 0) all_nearest i (in_table i h));
  dlmf = each_below 11 obeys all_obey;
}
