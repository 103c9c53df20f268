-- 01's examples of the table calls, as laws: P5 to P10 and P12. The parts of each order and the rungs at x = 0 are computed in `order` and `rungs`.
--
use Rattle.std.proofs.Common.{◌≡◌, refl, ap, ◌∙◌, Bool, true, false, cond, [], ◌∷◌, ℕ, ◌+◌, ◌-◌, ◌*◌, eq-eqb, ltb}
use Rattle.std.proofs.Common.{Float}
use Rattle.std.proofs.Math.Option.{some}
use Rattle.std.specs.Float.Ieee.{neg, is_nan, of_bits}
use Rattle.floats.specs.Operations.{bits, decimal, f0, f1}
use Rattle.order.specs.Order.{f1000, below, shifted, fraction_of, top_rung, num}
use Rattle.order.specs.Order.Examples.{Parts, parts}
use Rattle.order.proofs.Laws.{order_zero, order_one, order_two, order_minus_one, order_1000, order_999½, order_below_one, order_tiny_below, order_four, large, side, part, top, columns}
use Rattle.table_refusals.proofs.Laws.{of_numbers}
use Rattle.start_sums_large.specs.Constants.{root_two_over_pi}
use Rattle.floats.specs.declared.Function.{Function}
use Rattle.floats.specs.declared.Function.TheVariants.{D, «V»}
use Rattle.derivatives.specs.Derivatives.{derivative}
use Rattle.recurrence.proofs.Laws.{no_own_two}
use Rattle.recurrence.proofs.Values.{V_own_two}
use Rattle.derivatives.proofs.Values.{D_derivative_0, D_derivative_1, D_derivative_2, D_derivative_4}
use Rattle.branches.specs.declared.Branch.TheVariants.{Forward}
use Rattle.branches.specs.Branches.{branch_of}
use Rattle.order.specs.declared.Sequence.{Sequence}
use Rattle.rungs.specs.Rungs.{rung}
use Rattle.rungs.proofs.Laws.{value_forward, derivative_at_law}
use Rattle.branches.proofs.Laws.{D_forward, V_forward}
use Rattle.rungs.proofs.Values.{D_rung_0, D_rung_1, D_rung_2, D_rung_3, D_rung_4, D_rung_5, V_rung_0, V_rung_1, V_rung_2, V_derivative_0, V_derivative_1}
use Rattle.slots.specs.Slots.{filled}
use Rattle.table_columns.proofs.Tables.{three_values, plain_values}
use Rattle.tables.specs.Tables.{refusal, value_of, derivative_of, values_written, table_after, answer}
use Rattle.tables.specs.Tables.Open.{refusal_is, value_of_is, derivative_of_is, values_written_is, table_after_is, answer_is}

-- ---- a forward branch at x = 0 and f = 0: its columns are its rungs

abbrev at_zero : Function → Bool → Sequence
at_zero fn s = record { function = fn; below = s; x = f0; f = f0 }

module _ (fn : Function) (s : Bool) (v : Float) (p : Parts) (e : parts v ≡ p) (es : p.1 ≡ s) (ef : p.3 ≡ f0) (forward : (u : Float) → branch_of fn s f0 u ≡ Forward) where
  values : value_of fn v f0 ≡ rung (at_zero fn s)
  values =
      value_of_is fn v f0
      ∙ rw (side v p e, es, part v p e, ef) (value_forward (at_zero fn s) (shifted v) (top_rung v) (forward (shifted v)))

  derivatives : (k : ℕ) (low high : Float) → rung (at_zero fn s) k ≡ low → rung (at_zero fn s) (k + 1) ≡ high → derivative_of fn v f0 k ≡ derivative fn s f0 f0 k low high
  derivatives k low high el eh =
      ap (λ (g : ℕ → Float). g k) (derivative_of_is fn v f0)
      ∙ rw (side v p e, es, part v p e, ef)
      (derivative_at_law (at_zero fn s) (shifted v) (top_rung v) k
      ∙ rw (value_forward (at_zero fn s) (shifted v) (top_rung v) (forward (shifted v)), el, eh))

-- ---- whether a request with a number for an argument is refused, by the parts of its order

module _ (v x : Float) (slots : ℕ) (p : Parts) (e : parts v ≡ p) (number : is_nan v ≡ false) (argument : is_nan x ≡ false) where
  refused_as : refusal v x slots ≡ cond p.0 2 (cond (ltb slots (2 * p.5)) 3 0)
  refused_as = rw (refusal_is v x slots, of_numbers v x (ltb slots (2 * num v)) number argument, large v p e, columns v p e)

  -- the answer of one that is not
  answered_as : (fn : Function) → ◌≡◌ {A = ℕ} (cond p.0 2 (cond (ltb slots (2 * p.5)) 3 0)) 0 → answer fn v x slots ≡ some (value_of fn v x (p.4 - 1), derivative_of fn v x (p.4 - 1))
  answered_as fn z = rw (answer_is fn v x slots, eq-eqb (refusal v x slots) 0 (refused_as ∙ z), top v p e)

-- ---- P5: D, v = 0, x = 0: (1, 0); 6 slots do, 5 give 3

d_values : (v : Float) (p : Parts) → parts v ≡ p → p.1 ≡ false → p.3 ≡ f0 → value_of D v f0 ≡ rung (at_zero D false)
d_values v p e es ef = values D false v p e es ef (D_forward f0)

pub P5 : (answer D f0 f0 6 ≡ some (f1, f0)) × (refusal f0 f0 6 ≡ 0) × (refusal f0 f0 5 ≡ 3)
unfolding is_nan of_bits
P5 = (
  answered_as f0 f0 6 _ order_zero refl refl D refl
      ∙ rw (d_values f0 _ order_zero refl refl, D_rung_0, derivatives D false f0 _ order_zero refl refl (D_forward f0) 0 f1 f0 D_rung_0 D_rung_1, D_derivative_0),
  refused_as f0 f0 6 _ order_zero refl refl,
  refused_as f0 f0 5 _ order_zero refl refl,
)

-- ---- P6: D, v = 1, x = 0: (0, 1)

pub P6 : answer D f1 f0 8 ≡ some (f0, f1)
unfolding is_nan of_bits
P6 =
    answered_as f1 f0 8 _ order_one refl refl D refl
    ∙ rw (d_values f1 _ order_one refl refl, D_rung_1, derivatives D false f1 _ order_one refl refl (D_forward f0) 1 f0 (neg f1) D_rung_1 D_rung_2, D_derivative_1)

-- ---- P7: D, v = 2, x = 0: values 1, 0, −1, −0; pair (−1, 0). In a table of ten slots, whatever they hold, slots 4, 8 and 9 are as found.

abbrev two : Float
two = decimal 2 0

two_written : values_written D two ≡ 4
two_written =
    values_written_is D two ∙ plain_values D (below two) (fraction_of two) (top_rung two) (no_own_two (below two) (fraction_of two)) ∙ rw (top two _ order_two)

pub P7_values : (value_of D two f0 0 ≡ f1) × (value_of D two f0 1 ≡ f0) × (value_of D two f0 2 ≡ neg f1) × (value_of D two f0 3 ≡ neg f0)
P7_values = rw (d_values two _ order_two refl refl) (D_rung_0, D_rung_1, D_rung_2, D_rung_3)

two_derivatives : (derivative_of D two f0 0 ≡ f0) × (derivative_of D two f0 1 ≡ f1) × (derivative_of D two f0 2 ≡ f0)
two_derivatives =
    let at = derivatives D false two _ order_two refl refl (D_forward f0) in
    (at 0 f1 f0 D_rung_0 D_rung_1 ∙ D_derivative_0, at 1 f0 (neg f1) D_rung_1 D_rung_2 ∙ D_derivative_1, at 2 (neg f1) (neg f0) D_rung_2 D_rung_3 ∙ D_derivative_2)

pub P7 : answer D two f0 10 ≡ some (neg f1, f0)
unfolding is_nan of_bits decimal
P7 = answered_as two f0 10 _ order_two refl refl D refl ∙ rw (P7_values.2, two_derivatives.2)

pub P7_table : (a b c d e f g h i j : Float)
    → table_after D two f0 (a ∷ b ∷ c ∷ d ∷ e ∷ f ∷ g ∷ h ∷ i ∷ j ∷ []) ≡ f1 ∷ f0 ∷ neg f1 ∷ neg f0 ∷ e ∷ f0 ∷ f1 ∷ f0 ∷ i ∷ j ∷ []
unfolding is_nan of_bits decimal filled
P7_table a b c d e f g h i j =
    let l = a ∷ b ∷ c ∷ d ∷ e ∷ f ∷ g ∷ h ∷ i ∷ j ∷ [] in
    table_after_is D two f0 l
    ∙ rw (
      refused_as two f0 10 _ order_two refl refl,
      columns two _ order_two,
      top two _ order_two,
      two_written,
      P7_values.0,
      P7_values.1,
      P7_values.2,
      P7_values.3,
      two_derivatives.0,
      two_derivatives.1,
      two_derivatives.2,
    )

-- ---- for P11: D, v = 4, x = 0: (3, 0)

abbrev four : Float
four = decimal 4 0

pub four_values : (value_of D four f0 4 ≡ decimal 3 0) × (derivative_of D four f0 4 ≡ f0)
four_values = (
  rw (d_values four _ order_four refl refl) D_rung_4,
  derivatives D false four _ order_four refl refl (D_forward f0) 4 (decimal 3 0) f0 D_rung_4 D_rung_5 ∙ D_derivative_4,
)

pub four_answer : answer D four f0 14 ≡ some (decimal 3 0, f0)
unfolding is_nan of_bits decimal
four_answer = answered_as four f0 14 _ order_four refl refl D refl ∙ rw (four_values.0, four_values.1)

-- ---- P8: V, v = −1, x = 0: (0.7978845608028654, 0)

pub P8 : answer «V» (neg f1) f0 8 ≡ some (root_two_over_pi, f0)
unfolding is_nan of_bits neg
P8 =
    answered_as (neg f1) f0 8 _ order_minus_one refl refl «V» refl
    ∙ rw (values «V» true (neg f1) _ order_minus_one refl refl (V_forward f0), V_rung_1, derivatives «V» true (neg f1) _ order_minus_one refl refl (V_forward f0) 1 root_two_over_pi f0 V_rung_1 V_rung_2, V_derivative_1)

-- ---- P9: v = 1000 gives 2, for every argument that is a number and every table

pub P9 : (x : Float) (slots : ℕ) → is_nan x ≡ false → refusal f1000 x slots ≡ 2
unfolding is_nan of_bits
P9 x slots number = rw (refusal_is f1000 x slots, of_numbers f1000 x (ltb slots (2 * num f1000)) refl number, order_1000.0)

-- ---- P10: v = 999.5 needs 2004 slots

pub P10 : (x : Float) → is_nan x ≡ false → (refusal (decimal 9995 1) x 2004 ≡ 0) × (refusal (decimal 9995 1) x 2003 ≡ 3)
unfolding is_nan of_bits decimal
P10 x number = (refused_as (decimal 9995 1) x 2004 _ order_999½ refl number, refused_as (decimal 9995 1) x 2003 _ order_999½ refl number)

-- ---- P12: v = 1 − 2^−53: u = 2, n = 2, and the value column of 3 slots is full

abbrev below_one : Float
below_one = bits 0x3fef_ffff_ffff_ffff

pub P12 : (shifted below_one ≡ bits 0x4000_0000_0000_0000) × (top_rung below_one ≡ 2) × (num below_one ≡ 3)
unfolding parts
P12 = (ap (λ (q : Parts). q.2) order_below_one, top below_one _ order_below_one, columns below_one _ order_below_one)

-- ---- V writes value 2 at n = 1: at v = −2^−60 and x = 0, in a table of six slots, whatever they hold

abbrev tiny : Float
tiny = neg (bits 0x3c30_0000_0000_0000)

tiny_values : value_of «V» tiny f0 ≡ rung (at_zero «V» true)
tiny_values = values «V» true tiny _ order_tiny_below refl refl (V_forward f0)

tiny_written : values_written «V» tiny ≡ 3
tiny_written =
    values_written_is «V» tiny
    ∙ three_values «V» (below tiny) (fraction_of tiny) (top_rung tiny) (rw (side tiny _ order_tiny_below, part tiny _ order_tiny_below) V_own_two) (top tiny _ order_tiny_below)

tiny_derivative : derivative_of «V» tiny f0 0 ≡ root_two_over_pi
tiny_derivative = derivatives «V» true tiny _ order_tiny_below refl refl (V_forward f0) 0 f0 root_two_over_pi V_rung_0 V_rung_1 ∙ V_derivative_0

pub own_two_table : (a b c d e f : Float)
    → table_after «V» tiny f0 (a ∷ b ∷ c ∷ d ∷ e ∷ f ∷ []) ≡ f0 ∷ root_two_over_pi ∷ f0 ∷ root_two_over_pi ∷ e ∷ f ∷ []
unfolding is_nan of_bits neg filled
own_two_table a b c d e f =
    let l = a ∷ b ∷ c ∷ d ∷ e ∷ f ∷ [] in
    table_after_is «V» tiny f0 l
    ∙ rw (
      refused_as tiny f0 6 _ order_tiny_below refl refl,
      columns tiny _ order_tiny_below,
      top tiny _ order_tiny_below,
      tiny_written,
      tiny_values,
      V_rung_0,
      V_rung_1,
      V_rung_2,
      tiny_derivative,
    )
