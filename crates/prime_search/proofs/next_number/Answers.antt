-- `prime_search::next_number` meets its contract.
-- Assumes nothing.
use mathlib.Core.Path.{refl}
use native.Mathlib.Omega.{arith}
use Rattle.prime_words.specs.Words.{next}
use Rattle.prime_search.proofs.next_number.Goals as goal

pub returns : goal.returns
unfolding next
returns c = (refl, omega arith)
