use native.Mathlib.Omega.{arith}
use Rattle.lists.proofs.Filling.{filled_start, filled_turn, filled_eight}
use Rattle.sigma.specs.Instance.{statement_at}
use Rattle.sigma.proofs.Valid.{valid_modulus, valid_order, valid_challenge}
use Rattle.protocol.proofs.Simulating.{simulated_row, simulated_rows, simulated_images}
use Rattle.protocol.proofs.loaded.simulated.Goals as goal

pub mul_negative_powers-requires : goal.mul_negative_powers-requires
unfolding statement_at
mul_negative_powers-requires c =
    let valid = c.args.sheet.now.valid in (
      valid_modulus valid.table,
      valid_order valid.table,
      omega (arith, valid_challenge valid.table _ c.requires),
      omega arith,
      valid.statement,
    )

pub returns-then-side_by_side : goal.returns-then-side_by_side
returns-then-side_by_side c =
    simulated_images _ c.args.sheet.now.valid _ _ c.image.ensures c.mul_negative_powers.ensures

pub loop-i-init : goal.loop-i-init
loop-i-init c = filled_start (omega arith)

pub negative_power-requires : goal.negative_power-requires
unfolding statement_at
negative_power-requires c =
    let valid = c.args.sheet.now.valid in
    let inside = c.loop-i-test.true in
    (valid_modulus valid.table, valid_order valid.table, omega (arith, valid_challenge valid.table _ c.requires), valid.statement _ inside)

pub loop-i-preserved : goal.loop-i-preserved
unfolding simulated_row statement_at
loop-i-preserved c =
    filled_turn c.loop-i.invariant (omega arith) (rw (c.mul_mod.ensures.value, c.row_image.ensures, c.negative_power.ensures))

pub returns : goal.returns
returns c =
    rw (simulated_rows _ c.args.sheet.now.valid _ _) (filled_eight c.loop-i.invariant (omega arith))
