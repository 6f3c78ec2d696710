-- A call as data: its refusals in their order, what it answers if none applies, and what it hands back with a refusal's number.
-- Assumes nothing.
use Rattle.std.specs.Prelude.{ℕ, List, ◌++◌}
use Rattle.rules.specs.Answer.{unless_refused}
use Rattle.rules.specs.Rule.{Rule, lowest}

-- a call on inputs that are given
pub record Call (A : Type 0) : Type 0 where
  -- its refusals, in the order in which they are asked
  pub refusals : List Rule
  -- what it answers if no refusal applies
  pub value : A
  -- what it answers with the number of the first that applies
  pub refused : ℕ → A

-- the number of the first refusal that applies, 0 if none does
unfoldable pub number_of : {A : Type 0} → Call A → ℕ
number_of call = lowest call.refusals

-- what the call answers
unfoldable pub answer : {A : Type 0} → Call A → A
answer call = unless_refused (number_of call) call.value (call.refused (number_of call))

-- the call with other refusals put in front of its own, as those of a sheet
abbrev pub after : {A : Type 0} → List Rule → Call A → Call A
after before call = record { refusals = before ++ call.refusals; value = call.value; refused = call.refused }
