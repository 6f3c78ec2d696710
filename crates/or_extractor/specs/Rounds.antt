-- The rules of two rounds, on what is read of them, and what extracting gives as the record that crosses to other languages.
-- Assumes nothing.
use Rattle.std.specs.Prelude.{List, Result, Ok, Err, take}
use Rattle.lists.specs.Places.{zeros8}
use Rattle.rules.specs.Rule.{Clear, Rule}
use Rattle.sigma.specs.Instance.{Instance}
use Rattle.refusals.specs.declared.Refusal.{Refusal}
use Rattle.refusals.specs.Number.{number}
use Rattle.disjunctions.specs.declared.OrExtracted.{OrExtracted}
use Rattle.disjunctions.specs.declared.OrRound.{OrRound}
use Rattle.disjunctions.specs.Extractor.{extracting_or}
use Rattle.or_extractor.specs.declared.loaded.SideWitness.{SideWitness}

-- the rules of two rounds but for the last, 20
abbrev pub rounds_rules : Instance → Instance → OrRound → OrRound → List Rule
rounds_rules i j a b = take 5 (extracting_or i j a b).refusals

-- no rule of two rounds applies
abbrev pub NotRefused : Instance → Instance → OrRound → OrRound → Type 0
NotRefused i j a b = Clear (extracting_or i j a b).refusals

-- the record of a witness and its side: zeros beside a refusal's number
abbrev pub extracted : Result SideWitness Refusal → OrExtracted
extracted (Ok witness) = record { values = witness.values; side = witness.side; refusal = 0 }
extracted (Err refusal) = record { values = zeros8; side = 0; refusal = number refusal }
