-- No rule on values has the number 0, so that 0 stands for "nothing is refused".
-- Assumes nothing.
use Prim.Native.Nat.{ℕ}
use mathlib.Core.List.{List}
use lib.Dec.{T}
use Rattle.types.specs.declared.Header.{Header}
use Rattle.types.specs.declared.Round.{Round}
use Rattle.rules.specs.Rule.{all_positive}
use Rattle.sigma.specs.Instance.{Instance}
use Rattle.sigma.specs.Admission.{header_rules, element_rules}
use Rattle.sigma.specs.Judge.{judging}
use Rattle.sigma.specs.Simulator.{simulating}
use Rattle.sigma.specs.Extractor.{extracting}

-- the numbers of the fixed fields' rules are positive
pub header_positive : (h : Header) → T (all_positive (header_rules h))
unfolding header_rules
header_positive h = tt

-- the numbers of the elements' rules are positive
pub element_positive : (i : Instance) → T (all_positive (element_rules i))
unfolding element_rules
element_positive i = tt

-- the numbers of judging are positive
pub judge_positive : (i : Instance) (round : Round) → T (all_positive (judging i round).refusals)
unfolding judging
judge_positive i round = tt

-- the numbers of simulating are positive
pub simulate_positive : (i : Instance) (c : ℕ) (r : List ℕ) → T (all_positive (simulating i c r).refusals)
unfolding simulating
simulate_positive i c r = tt

-- the numbers of extracting are positive
pub extract_positive : (i : Instance) (first second : Round) → T (all_positive (extracting i first second).refusals)
unfolding extracting
extract_positive i first second = tt
