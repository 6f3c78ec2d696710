-- `powers::bound::power_of_two_less_one` meets its contract: 64 ones, shifted until as many are left as the exponent says.
-- Assumes nothing.
use mathlib.Core.Path.{◌≡◌, sym, ap, ◌∙◌}
use Prim.Native.Nat.{ℕ, ◌-◌, ◌+◌, ◌^◌}
use native.Mathlib.Omega.{arith}
use lib.Pow.{pow-add}
use Rattle.std.proofs.lemmas.Nat.{pow_pos}
use Rattle.powers.proofs.Bounded.{less_one_shifted}
use Rattle.powers.proofs.bound.power_of_two_less_one.Goals as goal

pub returns : goal.returns
returns c =
    let e = c.args.exponent in
    let all : 64 - e + e ≡ 64 = omega arith in
    less_one_shifted _ _ (pow_pos (64 - e)) (pow_pos e) (sym (pow-add 2 (64 - e) e) ∙ ap (λ (k : ℕ). 2 ^ k) all)
