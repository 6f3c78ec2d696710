use Prim.Native.Nat.{ℕ, ◌+◌, ◌*◌, ◌≤◌, ◌<◌}
use mathlib.Core.List.{List}
use native.Mathlib.Omega.{arith}
use lib.ListN.{length}
use Rattle.types.specs.declared.Header.{Header}
use Rattle.linear_forms.specs.Linear.{coefficient}
use Rattle.linear_maker.specs.Plan.{Counted}
use Rattle.linear_maker.proofs.EntryProduct.{entry_end, entry_start, entry_turn, place_inside}
use Rattle.linear_maker.proofs.entries.entry_of.Goals as goal

-- the coefficient of the generator stands in the slice
inside : (h : Header) (generators coefficients : List ℕ) (i g j : ℕ) → Counted h generators coefficients
    → i < h.rows → g < length generators → j < h.columns
    → let place = i * length generators + g in
    (place ≤ place * h.columns) × (place * h.columns + j < length coefficients)
inside h generators coefficients i g j counted row generator column =
    rw counted.counted (place_inside _ _ _ _ _ _ row generator column)

pub loop-g-init : goal.loop-g-init
loop-g-init c = (entry_start _ _ _ c.requires.counted.modulus, omega arith)

pub overflow_mul-coefficient : goal.overflow_mul-coefficient
overflow_mul-coefficient c = omega (arith, inside _ _ _ _ _ _ c.requires.counted c.requires.row c.loop-g-test.true c.requires.column)

pub overflow_add-coefficient : goal.overflow_add-coefficient
overflow_add-coefficient c = omega (arith, inside _ _ _ _ _ _ c.requires.counted c.requires.row c.loop-g-test.true c.requires.column)

pub overflow_mul-coefficient-in-loop-g : goal.overflow_mul-coefficient-in-loop-g
overflow_mul-coefficient-in-loop-g c = omega (arith, inside _ _ _ _ _ _ c.requires.counted c.requires.row c.loop-g-test.true c.requires.column)

pub overflow_add-coefficient-in-loop-g : goal.overflow_add-coefficient-in-loop-g
overflow_add-coefficient-in-loop-g c = omega (arith, inside _ _ _ _ _ _ c.requires.counted c.requires.row c.loop-g-test.true c.requires.column)

pub offset_bounds-coefficients-i : goal.offset_bounds-coefficients-i
offset_bounds-coefficients-i c = omega (arith, inside _ _ _ _ _ _ c.requires.counted c.requires.row c.loop-g-test.true c.requires.column)

pub bounds-coefficients-i : goal.bounds-coefficients-i
bounds-coefficients-i c = omega (arith, inside _ _ _ _ _ _ c.requires.counted c.requires.row c.loop-g-test.true c.requires.column)

pub pow_mod-power-requires : goal.pow_mod-power-requires
pow_mod-power-requires c = omega (arith, c.requires.counted.modulus)

pub mul_mod-entry-requires : goal.mul_mod-entry-requires
mul_mod-entry-requires c = omega (arith, c.requires.counted.modulus)

pub loop-g-preserved : goal.loop-g-preserved
unfolding coefficient
loop-g-preserved c =
    (entry_turn _ _ _ _ c.loop-g.invariant.0 c.pow_mod-power.ensures.value c.mul_mod-entry.ensures.value, omega arith)

pub returns : goal.returns
returns c = entry_end _ _ _ (omega arith) c.loop-g.invariant.0
