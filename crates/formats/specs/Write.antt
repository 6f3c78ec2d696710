-- Writing into a lent buffer: a refused call leaves every byte as it was.
-- Assumes nothing.
use Rattle.std.specs.Prelude.{ℕ, Bool, List, ltb, length}
use Rattle.std.proofs.lemmas.List.Edits.{sets}
use Rattle.types.specs.declared.Written.{Written}
use Rattle.rules.specs.Call.{Call}
use Rattle.rules.specs.Rule.{Rule}

-- what a writing call answers, and the buffer's bytes when it returns
pub record Writing : Type 0 where
  pub answer : Written
  pub buffer : List ℕ

-- the lent buffer is shorter than the result (22)
unfoldable pub short : List ℕ → ℕ → Bool
short buffer needed = ltb (length buffer) needed

-- a call of these refusals that answers the given length and leaves the given bytes in the buffer
abbrev pub writing : List Rule → ℕ → List ℕ → List ℕ → Call Writing
writing refusals used left buffer =
    record {
      refusals = refusals;
      value = record { answer = record { refusal = 0; length = used }; buffer = left };
      refused = λ n. record { answer = record { refusal = n; length = 0 }; buffer = buffer };
    }

-- a call of these refusals that puts bytes at the buffer's start and changes no byte after them
abbrev pub writing_at_start : List Rule → List ℕ → List ℕ → Call Writing
writing_at_start refusals bytes buffer = writing refusals (length bytes) (sets buffer 0 bytes) buffer
