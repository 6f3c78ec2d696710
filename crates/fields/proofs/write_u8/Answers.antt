-- `fields::write_u8` meets its contract: the one byte of a number is its remainder by 256.
-- Assumes nothing.
use native.Mathlib.Omega.{arith}
use Rattle.fields.proofs.Laws.{byte_stored}
use Rattle.fields.proofs.write_u8.Goals as goal

pub returns : goal.returns
returns c = record { stored = byte_stored _ _ _ _ (omega arith) }
