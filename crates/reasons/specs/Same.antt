-- Two reasons say the same of every sheet and file.
-- Assumes nothing.
use Rattle.std.specs.Prelude.{ℕ, ◌≡◌, List}
use Rattle.reasons.specs.ReasonCalls.{ReasonCalls}

pub record SameReasons (reasons reasons' : ReasonCalls) : Type 0 where
  pub reason_text : (s f : List ℕ) → reasons.reason_text s f ≡ reasons'.reason_text s f
