-- The calls on pattern files (02, card 2): a field for each call, and no call's definition is named.
-- Assumes nothing.
use Rattle.std.specs.Prelude.{ℕ, List}
use Rattle.formats.specs.Write.{Writing}

pub record MakerCalls : Type 0 where
  -- the sheet maker: pattern file, number, m, ℓ, K, public values, statement and buffer
  pub make_from : List ℕ → ℕ → ℕ → ℕ → ℕ → List ℕ → List ℕ → List ℕ → Writing
  -- the shipped pattern file, into a buffer
  pub write_shipped : List ℕ → Writing
