-- The reason (02, card 1): a field for each call, and no call's definition is named.
-- Assumes nothing.
use Rattle.std.specs.Prelude.{ℕ, List}

pub record ReasonCalls : Type 0 where
  -- sheet and file
  pub reason_text : List ℕ → List ℕ → List ℕ
