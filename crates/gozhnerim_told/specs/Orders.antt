-- What an order needs, in C (01, "A request comes in" and "Splitting the order"): the slots of a table and of a ladder,
-- and the parts of the order. On a refusal all numbers but its own are 0, and f is NaN.
use Rattle.std.specs.Prelude.{ℕ, ◌+◌, ◌*◌, cond, eqb, Float}
use Rattle.std.specs.Float.{nan}
use Rattle.std.specs.Float.Ieee.{is_nan}
use Rattle.order.specs.Order.{too_large, below, fraction_of, top_rung, num}
use Rattle.gozhnerim_told.specs.declared.GozhnerimOrder.{GozhnerimOrder}

-- refusals 1 and 2, as far as an order alone tells
unfoldable pub order_refusal : Float → ℕ
order_refusal v = cond (is_nan v) 1 (cond (too_large v) 2 0)

unfoldable pub refused_order : ℕ → GozhnerimOrder
refused_order number = record {
  refusal = number;
  below_zero = 0;
  n = 0;
  num = 0;
  table_slots = 0;
  value_slots = 0;
  derivative_slots = 0;
  f = nan;
}

unfoldable pub accepted_order : Float → GozhnerimOrder
accepted_order v = record {
  refusal = 0;
  below_zero = cond (below v) 1 0;
  n = top_rung v;
  num = num v;
  table_slots = 2 * num v;
  value_slots = top_rung v + 1;
  derivative_slots = top_rung v;
  f = fraction_of v;
}

unfoldable pub order_in : Float → GozhnerimOrder
order_in v = cond (eqb (order_refusal v) 0) (accepted_order v) (refused_order (order_refusal v))
