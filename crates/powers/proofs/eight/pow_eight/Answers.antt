use mathlib.Core.Path.{◌≡◌, ◌∙◌}
use Prim.Native.Nat.{◌+◌, ◌-◌}
use native.Mathlib.Omega.{arith}
use Rattle.lists.specs.Places.{items_at, tabulate}
use Rattle.powers.specs.Places.{lanes, powers_of}
use Rattle.powers.proofs.Lanes.{two_fours}
use Rattle.powers.proofs.Windows.{powers_start, powers_turn, powers_end}
use Rattle.powers.proofs.eight.pow_eight.Goals as goal

pub loop-k-init : goal.loop-k-init
loop-k-init c =
    let (short, holds) = c.top_digit-last.ensures in
    let digit = c.digit_at-top.ensures in (
      short,
      λ x table. powers_start _ _ _ _ x _ table digit holds,
      λ x table. powers_start _ _ _ _ x _ table digit holds,
    )

pub loop-k-preserved : goal.loop-k-preserved
loop-k-preserved c =
    let digit = c.digit_at-digit.ensures in
    let one_less : c.loop-k.k ≡ c.loop-k.k - 1 + 1 = omega arith in (
      omega arith,
      λ x table.
          powers_turn _ _ _ _ x _ table digit _ _ _ (rw one_less at (c.loop-k.invariant.1 x table))
          c.mul-low.ensures c.mul-low-in-loop-k.ensures
          c.mul-low-in-loop-k-2.ensures,
      λ x table.
          powers_turn _ _ _ _ x _ table digit _ _ _ (rw one_less at (c.loop-k.invariant.2 x table))
          c.mul-high.ensures c.mul-high-in-loop-k.ensures c.mul-high-in-loop-k-2.ensures,
    )

pub returns : goal.returns
unfolding lanes powers_of tabulate items_at
returns c =
    let none : c.loop-k.k ≡ 0 = omega arith in
    λ n most.
    two_fours _ n _ _ most
    (powers_end _ _ _ _ (c.loop-k.invariant.1 _ c.first_powers-lows.ensures) none ∙ simp c.at.ensures)
    (powers_end _ _ _ _ (c.loop-k.invariant.2 _ c.first_powers-highs.ensures) none ∙ simp c.at-2.ensures)
