-- Where the shipped file stands in a buffer that it is written into.
-- Assumes nothing.
use Prim.Native.Nat.{ℕ}
use mathlib.Core.Path.{◌≡◌}
use mathlib.Core.List.{List}
use native.Mathlib.Omega.{arith}
use Rattle.formats.specs.Outcome.{Puts}
use Rattle.formats.proofs.Writing.{start_written}
use Rattle.patterns.specs.Table.{shipped, write_shipped}
use Rattle.patterns.proofs.Shipped.{length_shipped, shipped_runs}

-- a file that is written stands at the start of the buffer
pub shipped_puts : (buffer : List ℕ) → (write_shipped buffer).answer.refusal ≡ 0 → Puts shipped buffer (write_shipped buffer)
unfolding write_shipped
shipped_puts buffer e =
    start_written _ shipped buffer e (omega (arith, length_shipped, (shipped_runs buffer).0 e))
