-- `prime_search::within` meets its contract.
-- Assumes nothing.
use mathlib.Core.Path.{◌≡◌, refl, ◌∙◌}
use mathlib.Core.Bool.{Bool, true, false, cond}
use Prim.Native.Nat.{ℕ}
use Rattle.std.specs.Prelude.{Some, None}
use Rattle.std.specs.Bool.{then_some}
use Rattle.prime_search.specs.Search.{within_of}
use Rattle.prime_search.proofs.within.Goals as goal

some_if : (b : Bool) (d : ℕ) → then_some b d ≡ cond b (Some d) None
some_if true d = refl
some_if false d = refl

pub returns : goal.returns
unfolding within_of
returns c = c.then_some.ensures ∙ some_if _ _
