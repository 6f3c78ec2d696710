-- Exactly when the calls on pattern files are not refused, in other words than the conditions: by the patterns that a file spells
-- and by what the second writer answers.
-- Assumes nothing.
use Rattle.std.specs.Prelude.{ℕ, ◌≤◌, ◌≡◌, ◌↔◌, List, ◌∷◌, length, get_or}
use Rattle.lists.specs.Member.{Member}
use Rattle.formats.specs.FileCalls.{FileCalls}
use Rattle.patterns.specs.Maker.{asked}
use Rattle.patterns.specs.MakerCalls.{MakerCalls}
use Rattle.patterns.specs.Pattern.{Pattern, root}
use Rattle.patterns.specs.PatternCalls.{Named, Spells}

module _ (files : FileCalls) (code : MakerCalls) where
  open code use {make_from, write_shipped}

  pub record MakersRun : Type 0 where
    -- a sheet is made exactly if the file spells patterns that are all Named, the number is 0, for the root, or that of one of them,
    -- there are as many public and statement values as this pattern has, and the second writer writes the asked values
    pub makes : (f : List ℕ) (number m ℓ K : ℕ) (values z buffer : List ℕ)
        → ((make_from f number m ℓ K values z buffer).answer.refusal ≡ 0)
        ↔ (((ps : List Pattern) × Spells ps f × ((p : Pattern) → Member p ps → Named p) × (number ≤ length ps)
        × (length values ≡ (get_or (root ∷ ps) number root).values) × (length z ≡ (get_or (root ∷ ps) number root).rows))
        × ((files.encode (asked f number m ℓ K values z) buffer).answer.refusal ≡ 0))
    -- the shipped file is written exactly into 34 bytes or more
    pub ships : (buffer : List ℕ) → ((write_shipped buffer).answer.refusal ≡ 0) ↔ (34 ≤ length buffer)
