-- The call that makes sheets from linear forms (02, card 10): a field for it, and no definition is named.
-- Assumes nothing.
use Rattle.std.specs.Prelude.{ℕ, List}
use Rattle.formats.specs.Write.{Writing}
use Rattle.linear_forms.specs.LinearPlan.{LinearPlan}

pub record LinearCalls : Type 0 where
  -- the maker: m, q, K, s, n, generators, coefficients and statement, and a buffer
  pub make_linear : LinearPlan → List ℕ → Writing
