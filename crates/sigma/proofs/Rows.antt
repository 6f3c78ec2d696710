-- The rows of a mask: its bits below 8, rising.
-- Assumes nothing.
use Prim.Native.Nat.{ℕ, zero, suc, ◌/◌, ◌%◌, ◌^◌, ◌<◌}
use mathlib.Core.Path.{◌≡◌}
use mathlib.Core.Bool.{true}
use native.Mathlib.Omega.{arith}
use lib.ListN.{length}
use mathlib.Core.Logic.Iff
use mathlib.Core.Logic.{◌↔◌}
use Rattle.numbers.specs.Bits.{bit}
use Rattle.numbers.proofs.Bits.{bit_digit}
use Rattle.lists.specs.Choices.{selected}
use Rattle.lists.specs.Member.{Member, Rising}
use Rattle.lists.proofs.Choices.{selected_member}
use Rattle.lists.proofs.Rising.{selected_rising}
use Rattle.sigma.specs.Answer.{rows_of}

-- a row is among them exactly if it is below 8 and its bit is set
pub rows_bit : (mask i : ℕ) → Member i (rows_of mask) ↔ ((i < 8) × (bit mask i ≡ true))
unfolding rows_of
rows_bit mask i = selected_member 8 (bit mask) i

-- which is if 2^i is in the mask
pub rows_digit : (mask i : ℕ) → Member i (rows_of mask) ↔ ((i < 8) × (mask / 2 ^ i % 2 ≡ 1))
rows_digit mask i = Iff.trans (rows_bit mask i) (Iff.and Iff.rfl (bit_digit mask i))

-- they rise
pub rows_rising : (mask : ℕ) → Rising (rows_of mask)
unfolding rows_of
rows_rising mask = selected_rising 8 (bit mask)

-- a mask that has one is not 0
pub rows_some : (mask : ℕ) → 0 < length (rows_of mask) → 0 < mask
unfolding rows_of selected bit
rows_some zero some = some
rows_some (suc mask) some = omega arith
