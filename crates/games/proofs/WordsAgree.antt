-- The commitment of round 0 agrees with the words of the file's bytes.
-- Assumes nothing.
use Prim.Native.Nat.{ℕ}
use mathlib.Core.Path.{◌≡◌, ap, ◌∙◌}
use mathlib.Core.List.{List}
use lib.ListN.{get_or}
use Rattle.lists.proofs.Places.{get_d_pad8}
use Rattle.formats.specs.RoundCalls.{check_round}
use Rattle.formats.specs.Sheet.{header_of}
use Rattle.sigma.specs.Reads.{Agree}
use Rattle.games.specs.Prints.{commitment_words}
use Rattle.games.specs.Text.{named_commitment}
use Rattle.games.proofs.Words.{named_words}

-- so it agrees with the words in all places
pub named_agree : (sheet f : List ℕ) → check_round sheet f 0 ≡ 0
    → Agree (header_of sheet).rows (named_commitment sheet f) (commitment_words sheet f)
named_agree sheet f checked j b = ap (λ (t : List ℕ). get_or t j 0) (named_words sheet f checked) ∙ get_d_pad8 0 (commitment_words sheet f) j
