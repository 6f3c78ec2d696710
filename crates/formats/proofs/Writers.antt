-- What the calls that write leave in a lent buffer.
-- Assumes nothing.
use Prim.Native.Nat.{ℕ}
use mathlib.Core.Path.{◌≡◌}
use mathlib.Core.List.{[], ◌∷◌}
use mathlib.Core.Logic.{inl, inr}
use Rattle.encoding.specs.Bytes.{bytes_of}
use Rattle.encoding.specs.Text.{ascii}
use Rattle.formats.specs.Meaning.{IsVersion}
use Rattle.formats.specs.Ours.{file_calls}
use Rattle.formats.specs.RoundFile.{no_rounds, round_mark}
use Rattle.formats.specs.Writers.{Writers}
use Rattle.formats.proofs.Appending.{append_adds}
use Rattle.formats.proofs.Writing.{empty_puts, empty_runs, encode_puts}

-- the bytes of a file of no rounds
no_rounds_law : {version : ℕ} → IsVersion version → no_rounds version ≡ 0x52 ∷ 0x4E ∷ 0x44 ∷ 0 ∷ version ∷ 0 ∷ 0 ∷ []
unfolding no_rounds round_mark ascii bytes_of
no_rounds_law (inl one) = rw one
no_rounds_law (inr two) = rw two

pub writers : Writers file_calls
writers = record {
  encoded = encode_puts;
  empty = λ version buffer e. rw (← no_rounds_law ((empty_runs version buffer).0 e).0) (empty_puts version buffer e);
  appended = append_adds;
}
