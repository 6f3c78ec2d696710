-- A plan crosses field by field.
-- Assumes nothing.
use mathlib.Core.Path.{refl}
use Rattle.linear_forms.specs.LinearCrosses.{LinearCrosses}

pub linear_crosses : LinearCrosses
linear_crosses = record { plan_in = λ m q K s n generators coefficients z. refl }
