-- `straus::straus_turn` meets its contract. The invariant: in each lane the square is multiplied by those of the columns passed
-- whose exponent has the bit. Assumes nothing.
use mathlib.Core.Path.{◌≡◌}
use Prim.Native.Nat.{ℕ, ◌≤◌, ◌<◌}
use lib.ListN.{get_or}
use Rattle.powers.proofs.Lanes.{lane}
use Rattle.straus.specs.MultiPowers.{lane_of}
use Rattle.straus.proofs.Straus.{times_columns}
use Rattle.straus.proofs.straus_turn.Given as goal

abbrev pub invariant-loop-j : goal.invariant-loop-j
invariant-loop-j live =
    (live.j ≤ live.n) × ((i : ℕ) → i < 4 → lane live.next i ≡ times_columns live.by.modulus (lane_of live.columns i) (λ l. get_or live.exponents l 0) live.k (lane live.initial.next i) live.j)
