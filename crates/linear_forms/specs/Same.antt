-- Two makers of sheets from linear forms answer the same to every input, refused calls and every byte of the buffer too.
-- Assumes nothing.
use Rattle.std.specs.Prelude.{ℕ, ◌≡◌, List}
use Rattle.linear_forms.specs.LinearCalls.{LinearCalls}
use Rattle.linear_forms.specs.LinearPlan.{LinearPlan}

pub record SameLinear (linear linear' : LinearCalls) : Type 0 where
  pub make_linear : (p : LinearPlan) (buffer : List ℕ) → linear.make_linear p buffer ≡ linear'.make_linear p buffer
