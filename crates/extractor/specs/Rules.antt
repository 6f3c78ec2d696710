-- The extractor's refusals before any round is judged: 14 to 16, 18 and 19.
-- Assumes nothing.
use Rattle.std.specs.Prelude.{List, take}
use Rattle.types.specs.declared.Round.{Round}
use Rattle.rules.specs.Rule.{Rule}
use Rattle.sigma.specs.Extractor.{extracting}
use Rattle.sigma.specs.Instance.{Instance}

-- the refusals of two rounds but for the last, 20
abbrev pub rules_of_pair : Instance → Round → Round → List Rule
rules_of_pair inst first second = take 5 (extracting inst first second).refusals
