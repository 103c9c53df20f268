-- `expansion_elementary::pbdv_elementary` meets its contract: the mantissas and the exponent, step by step.
use Rattle.expansion_elementary.specs.Mantissas.{clamped, mantissas_by}
use Rattle.expansion_elementary.specs.Mantissas.Open.{mantissas_are}
use Rattle.expansion_elementary.proofs.pbdv_elementary.Goals as goal

pub returns : goal.returns
unfolding clamped mantissas_by
returns c =
    record {
      value = rw (
        mantissas_are,
        c.square_root-2.ensures,
        c.uv_sums-sums.ensures.u,
        c.g_bar-g.ensures,
        c.weight.ensures,
        c.square_root.ensures,
        c.square_root-s.ensures,
        c.clamp-y.ensures.value,
      );
      derivative = rw (
        mantissas_are,
        c.square_root-3.ensures,
        c.uv_sums-sums.ensures.v,
        c.g_bar-g.ensures,
        c.weight.ensures,
        c.square_root.ensures,
        c.square_root-s.ensures,
        c.clamp-y.ensures.value,
      );
      exponent = rw (mantissas_are, c.exponent_of-exponent.ensures, c.square_root-s.ensures, c.clamp-y.ensures.value);
    }
