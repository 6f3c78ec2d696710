-- A session that holds a side beyond 1 answers no challenge, and can be dropped like any other.
-- Assumes nothing.
use Prim.Native.Nat.{ℕ, ◌≤◌, ◌<◌}
use mathlib.Core.Path.{◌≡◌, refl, sym, ◌∙◌}
use mathlib.Core.Logic.{inl, inr}
use mathlib.Core.List.{List, [], ◌∷◌, ◌++◌}
use native.Mathlib.Omega.{arith}
use Rattle.rules.specs.Call.{number_of}
use Rattle.rules.specs.Condition.{Applies, Condition, ◌if◌}
use Rattle.rules.specs.Order.{position, position_in, refusal_order}
use Rattle.rules.proofs.Refuses.{earliest}
use Rattle.formats.specs.Sheet.{instance_of}
use Rattle.disjunctions.specs.Calls.{OrDrop, OrRespond}
use Rattle.disjunctions.specs.Ours.{call_or}
use Rattle.disjunctions.specs.Prover.{dropping_or, or_prover_in}
use Rattle.disjunctions.specs.Refusals.{pair_conditions, respond_or_conditions}
use Rattle.disjunctions.proofs.OrRefusals.{or_refusals}
use Rattle.disjunctions.proofs.OrSessions.{drop_or_number}
use Rattle.or_crossing.specs.Calls.{answered_or}
use Rattle.or_crossing.specs.Provers.{or_answer, or_prover_of}
use Rattle.or_crossing.specs.declared.OrSession.{OrSession}

-- a condition that holds behind others holds in the joined list
applies_behind : (before conditions : List Condition) (n : ℕ) → Applies conditions n → Applies (before ++ conditions) n
applies_behind [] conditions n holds = holds
applies_behind ((m if fact) ∷ before) conditions n holds = inr (applies_behind before conditions n holds)

-- responding with a held side beyond 1 is refused, with 21 or a number that stands before it in the order
pub held_side_refused : (s s' : List ℕ) (given : OrSession) (c : ℕ) (x : List ℕ) → 1 < given.side
    → (0 < (answered_or (OrRespond s s' c x) given).refusal)
    × (position (answered_or (OrRespond s s' c x) given).refusal ≤ position 21)
unfolding or_answer or_prover_of call_or position position_in refusal_order
held_side_refused s s' given c x beyond =
    let conditions = respond_or_conditions (instance_of s) (instance_of s') (or_prover_of given) c x in
    let last : Applies conditions 21 = inr (inr (inr (inl (inr (inl beyond), refl)))) in
    let first : position (answered_or (OrRespond s s' c x) given).refusal ≤ position 21 =
    earliest (or_refusals.responding s s' (or_prover_of given) c x) 21 (applies_behind (pair_conditions s s') conditions 21 last) in
    let never : ¬ ((answered_or (OrRespond s s' c x) given).refusal ≡ 0) =
    λ e. let z : position 0 ≤ position 21 = rw e at first in omega arith in
    (omega arith, first)

-- whether dropping is refused is fixed by the state alone
pub drop_by_state : (given other : OrSession) → given.phase ≡ other.phase
    → (answered_or OrDrop given).refusal ≡ (answered_or OrDrop other).refusal
unfolding or_answer or_prover_of call_or number_of dropping_or or_prover_in
drop_by_state given other same =
    drop_or_number (or_prover_of given) ∙ rw same (sym (drop_or_number (or_prover_of other)))
