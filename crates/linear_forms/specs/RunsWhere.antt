-- Exactly when the linear maker is not refused (02, card 10), without the conditions of its refusals: by the counts, by the values of the
-- plan and by what the second writer answers. So a condition that is changed together with its test is seen.
-- Assumes nothing.
use Rattle.std.specs.Prelude.{ℕ, ◌*◌, ◌<◌, ◌≤◌, ◌≡◌, ◌↔◌, List, length}
use Rattle.lists.specs.Member.{Member}
use Rattle.formats.specs.FileCalls.{FileCalls}
use Rattle.sigma.specs.Element.{Element}
use Rattle.sigma.specs.Instance.{Instance}
use Rattle.linear_forms.specs.LinearCalls.{LinearCalls}
use Rattle.linear_forms.specs.LinearPlan.{LinearPlan}
use Rattle.linear_forms.specs.LinearSheets.{OfPlan}
use Rattle.linear_forms.specs.Refusals.{linear_header}

pub record LinearRuns (files : FileCalls) (linear : LinearCalls) : Type 0 where
  -- a sheet is made exactly if there are 1 to 8 generators, all of them group elements, s × generators × n coefficients, all of them
  -- below q, and s statement values, and the second writer writes the plan's values
  pub makes : (p : LinearPlan) (buffer : List ℕ) → ((linear.make_linear p buffer).answer.refusal ≡ 0)
      ↔ ((1 ≤ length p.generators) × (length p.generators ≤ 8)
      × ((g : ℕ) → Member g p.generators → Element (linear_header p) g)
      × (length p.coefficients ≡ p.rows * (length p.generators * p.columns))
      × ((a : ℕ) → Member a p.coefficients → a < p.order) × (length p.statement ≡ p.rows)
      × ((inst : Instance) × OfPlan p inst × ((files.encode inst buffer).answer.refusal ≡ 0)))
