-- `pattern_file::layout::sizes_at` meets its contract.
-- Assumes nothing.
use Prim.Native.Nat.{ℕ, ◌*◌, ◌≤◌, ◌<◌}
use mathlib.Core.Path.{◌∙◌}
use native.Mathlib.Nat.{mul-le-mul}
use native.Mathlib.Omega.{arith}
use Rattle.encoding.proofs.Bytes.{number_at_one}
use Rattle.pattern_file.specs.Walk.{sizes_at}
use Rattle.pattern_file.proofs.layout.sizes_at.Goals as goal

-- the product of two bytes
bytes_product : (a b : ℕ) → a < 256 → b < 256 → a * b ≤ 65025
bytes_product a b small little =
    let s : a ≤ 255 = omega arith in
    let l : b ≤ 255 = omega arith in
    mul-le-mul s l

pub overflow_mul-result : goal.overflow_mul-result
overflow_mul-result c = omega (arith, bytes_product _ _ c.read_u8-rows.ensures.small c.read_u8-columns.ensures.small)

pub overflow_cast-result : goal.overflow_cast-result
overflow_cast-result c = omega (arith, bytes_product _ _ c.read_u8-rows.ensures.small c.read_u8-columns.ensures.small)

pub returns : goal.returns
unfolding sizes_at
returns c =
    rw (
      c.read_u8-rows.ensures.value ∙ number_at_one _ _,
      c.read_u8-columns.ensures.value ∙ number_at_one _ _,
      c.read_u8-values.ensures.value ∙ number_at_one _ _,
    )
