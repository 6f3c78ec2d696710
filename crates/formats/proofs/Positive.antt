-- No rule of a call on bytes has the number 0, so that 0 stands for "nothing is refused".
-- Assumes nothing.
use Prim.Native.Nat.{ℕ}
use mathlib.Core.List.{List}
use lib.Dec.{T}
use Rattle.rules.specs.Rule.{all_positive}
use Rattle.sigma.specs.Admission.{header_rules, element_rules}
use Rattle.sigma.specs.Instance.{Instance}
use Rattle.formats.specs.Encode.{encoding}
use Rattle.formats.specs.Load.{on_sheet, shape_rules, load_rules}
use Rattle.formats.specs.RoundCalls.{checking, counting}
use Rattle.formats.specs.Sheet.{header_of}

-- loading a sheet
pub load_positive : (s : List ℕ) → T (all_positive (load_rules s))
unfolding load_rules shape_rules header_rules element_rules
load_positive s = tt

-- the second writer
pub encode_positive : (i : Instance) (buffer : List ℕ) → T (all_positive (encoding i buffer).refusals)
unfolding encoding header_rules element_rules
encode_positive i buffer = tt

-- counting rounds
pub count_positive : (s f : List ℕ) → T (all_positive (on_sheet s (counting (header_of s) f)).refusals)
unfolding load_rules shape_rules header_rules element_rules counting
count_positive s f = tt

-- checking, giving and reading a round
pub check_positive : (s f : List ℕ) (k : ℕ) → T (all_positive (on_sheet s (checking (header_of s) f k)).refusals)
unfolding load_rules shape_rules header_rules element_rules checking
check_positive s f k = tt
