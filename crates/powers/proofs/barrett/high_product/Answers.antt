-- `powers::barrett::high_product` meets its contract: each column fits 64 bits, and the last is the upper half.
-- Assumes nothing.
use Rattle.powers.proofs.HighProduct.{upper_half}
use Rattle.powers.proofs.barrett.high_product.Goals as goal

pub returns : goal.returns
returns c = upper_half c.args.u c.args.v
