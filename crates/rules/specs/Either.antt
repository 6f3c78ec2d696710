-- The rules and conditions of two inputs that are tested alike: each number is asked of both before the next.
-- Assumes nothing.
use Rattle.std.specs.Prelude.{◌||◌, List, [], ◌∷◌, ◌⊎◌}
use Rattle.rules.specs.Condition.{Condition, ◌if◌}
use Rattle.rules.specs.Rule.{Rule, ◌when◌}

-- two lists of rules with the same numbers as one
unfoldable pub either_rules : List Rule → List Rule → List Rule
either_rules [] others = others
either_rules (rule ∷ rules) [] = rule ∷ rules
either_rules ((n when broken) ∷ rules) ((m when broken') ∷ others) = (n when (broken || broken')) ∷ either_rules rules others

-- two lists of conditions with the same numbers as one
abbrev pub either_conditions : List Condition → List Condition → List Condition
either_conditions [] others = others
either_conditions (condition ∷ conditions) [] = condition ∷ conditions
either_conditions ((n if holds) ∷ conditions) ((m if holds') ∷ others) = (n if (holds ⊎ holds')) ∷ either_conditions conditions others
