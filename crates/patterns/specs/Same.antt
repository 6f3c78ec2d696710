-- Two codes answer the same to every call on pattern files: number, length and every byte of the buffer, refused calls too.
-- Assumes nothing.
use Rattle.std.specs.Prelude.{ℕ, ◌≡◌, List}
use Rattle.patterns.specs.MakerCalls.{MakerCalls}

pub record SameMakers (code code' : MakerCalls) : Type 0 where
  pub make_from : (f : List ℕ) (number m ℓ K : ℕ) (values z buffer : List ℕ)
      → code.make_from f number m ℓ K values z buffer ≡ code'.make_from f number m ℓ K values z buffer
  pub write_shipped : (buffer : List ℕ) → code.write_shipped buffer ≡ code'.write_shipped buffer
