-- What card 5 asks of the call that compares the commitments of two records of one file (02).
-- Assumes nothing.
use Rattle.std.specs.Prelude.{ℕ, ◌*◌, ◌<◌, ◌≡◌, ◌↔◌, ◌⊎◌, List, [], ◌∷◌, get_or}
use Rattle.formats.specs.FileCalls.{FileCalls}
use Rattle.formats.specs.Refusals.{RefusesOn, same_conditions}
use Rattle.formats.specs.Sheet.{header_of}

module _ (code : FileCalls) where
  open code use {same_commitment, part_of_round}

  -- its refusals; a refused call answers 0
  pub record WordsRefusals : Type 0 where
    pub comparing : (sheet f : List ℕ) (i j : ℕ)
        → RefusesOn sheet (12 ∷ 13 ∷ []) (same_conditions (header_of sheet) f i j)
        (same_commitment sheet f i j).refusal ((same_commitment sheet f i j).same ≡ 0)

  -- and what it answers
  pub record WordsCompare : Type 0 where
    -- the answer is 0 or 1
    pub answers : (sheet f : List ℕ) (i j : ℕ) → ((same_commitment sheet f i j).same ≡ 0) ⊎ ((same_commitment sheet f i j).same ≡ 1)
    -- if nothing is refused, it is 1 exactly if all 4s commitment bytes of the two records agree, the first of their parts
    pub bytes : (sheet f : List ℕ) (i j : ℕ) → (same_commitment sheet f i j).refusal ≡ 0
        → ((same_commitment sheet f i j).same ≡ 1)
        ↔ ((b : ℕ) → b < 4 * (header_of sheet).rows → get_or (part_of_round sheet f i) b 0 ≡ get_or (part_of_round sheet f j) b 0)
