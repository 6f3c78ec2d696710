-- Which parameter of the linear maker's export is which field of the plan.
-- Assumes nothing.
use Rattle.std.specs.Prelude.{ℕ, ◌≡◌, List}
use Rattle.linear_forms.specs.LinearPlan.{linear_plan}

pub record LinearCrosses : Type 0 where
  pub plan_in : (m q K s n : ℕ) (generators coefficients z : List ℕ) → linear_plan m q K s n generators coefficients z
      ≡ record {
        modulus = m;
        order = q;
        challenges = K;
        rows = s;
        columns = n;
        generators = generators;
        coefficients = coefficients;
        statement = z;
      }
