-- What follows from the demands on pattern files, or shows that they speak of something, and is no sentence of 00 to 02.
-- Assumes nothing.
use Rattle.std.specs.Prelude.{ℕ, ◌<◌, ◌≤◌, ◌≡◌, ◌⊎◌, List}
use Rattle.patterns.specs.Maker.{asked}
use Rattle.patterns.specs.PatternCalls.{Maker, OldMaker}
use Rattle.patterns.specs.Table.{from_pattern, made, shipped}

pub record MakerCorollaries : Type 0 where
  -- there is a sheet maker as 01 has it
  pub some_maker : OldMaker from_pattern
  -- and there is no other
  pub one_maker : {make make' : Maker} → OldMaker make → OldMaker make' → (number m ℓ K : ℕ) (values z buffer : List ℕ)
      → make number m ℓ K values z buffer ≡ make' number m ℓ K values z buffer
  -- it refused every number outside 1 to 6 with 1
  pub others : {make : Maker} → OldMaker make → (number m ℓ K : ℕ) (values z buffer : List ℕ) → (number < 1) ⊎ (6 < number)
      → (make number m ℓ K values z buffer).answer.refusal ≡ 1
  -- sheets made from the shipped file are 01's value by value too, so that 01's meanings of its patterns are said of them
  pub same_values : (number m ℓ K : ℕ) (values z : List ℕ) → 1 ≤ number → number ≤ 5
      → asked shipped number m ℓ K values z ≡ made number m ℓ K values z
  pub same_root_values : (m e K : ℕ) (values z : List ℕ) → asked shipped 0 m e K values z ≡ made 6 m e K values z
