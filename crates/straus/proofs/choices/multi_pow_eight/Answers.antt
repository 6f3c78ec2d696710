use mathlib.Core.Path.{◌≡◌}
use Prim.Native.Nat.{◌+◌, ◌-◌}
use native.Mathlib.Omega.{arith}
use Rattle.straus.proofs.Straus.{four_start, four_turn, four_end}
use Rattle.straus.proofs.Tables.{choices_turn}
use Rattle.straus.proofs.choices.multi_pow_eight.Goals as goal

pub loop-k-init : goal.loop-k-init
loop-k-init c =
    let (short, holds) = c.bit_length-k.ensures in
    (short, λ columns lows highs. four_start _ _ _ _ _ _ c.largest.ensures holds c.splat-values.ensures)

pub loop-k-preserved : goal.loop-k-preserved
loop-k-preserved c =
    let one_less : c.loop-k.k ≡ c.loop-k.k - 1 + 1 = omega arith in (
      omega arith,
      λ columns lows highs.
          four_turn _ _ _ _ (rw one_less at (c.loop-k.invariant.1 columns lows highs))
          (choices_turn _ _ _ _ columns _ _ _ _ _ _ _ lows highs c.digit.ensures c.digit-in-loop-k.ensures
          c.mul-square.ensures c.mul-half.ensures c.mul-values.ensures),
    )

pub returns : goal.returns
returns c =
    let none : c.loop-k.k ≡ 0 = omega arith in
    four_end _ _ _ _ (rw none at (c.loop-k.invariant.1 _ c.choices-low.ensures c.choices-high.ensures))
