-- The number that each call on a sheet's bytes gives is that of the first of 01's conditions that holds, 0 where none does
-- (01, "Turned back"): the sheet's conditions, 2 to 11, then the call's own.
-- Assumes nothing.
use Prim.Native.Nat.{ℕ}
use mathlib.Core.Path.{◌≡◌, refl}
use mathlib.Core.List.{List, ◌++◌}
use Rattle.types.specs.declared.Prover.{Prover}
use Rattle.types.specs.declared.Round.{Round}
use Rattle.types.specs.declared.Verifier.{Verifier}
use Rattle.rules.specs.Call.{Call, answer, number_of}
use Rattle.rules.specs.Condition.{Condition, Given, Tests}
use Rattle.rules.specs.Rule.{Rule, lowest}
use Rattle.rules.proofs.Call.{answer_number}
use Rattle.rules.proofs.Condition.{given_behind, given}
use Rattle.rules.proofs.Lowest.{lowest_clear}
use Rattle.rules.proofs.Told.{told_given}
use Rattle.formats.specs.Load.{load_rules, load_refusal, on_sheet}
use Rattle.formats.specs.Refusals.{load_conditions}
use Rattle.formats.specs.Sheet.{instance_of}
use Rattle.formats.proofs.Loads.{loads_valid}
use Rattle.formats.proofs.Refusals.{load_tests}
use Rattle.sigma.specs.Answer.{outcome, judged}
use Rattle.sigma.specs.Extractor.{extracting}
use Rattle.sigma.specs.Judge.{judging}
use Rattle.sigma.specs.Refusals.{judge_conditions, simulate_conditions, extract_conditions}
use Rattle.sigma.specs.Simulator.{simulating}
use Rattle.sigma.specs.Valid.{Valid}
use Rattle.sigma.proofs.Calls.{judge_not_refused}
use Rattle.sigma.proofs.Refusals.{judge_tests, simulate_tests, extract_tests}
use Rattle.runs.specs.Calls.{judge_round, simulate_commitment, extract_witness}
use Rattle.runs.specs.Prover.{commit, committing, drop_session, dropping, respond, responding}
use Rattle.runs.specs.Refusals.{
  commit_conditions,
  respond_conditions,
  drop_conditions,
  save_conditions,
  return_conditions,
  take_commitment_conditions,
  take_challenge_conditions,
  take_response_conditions,
}
use Rattle.runs.specs.Saving.{return_to, returning, save, saving}
use Rattle.runs.specs.Verifier.{take_challenge, take_commitment, take_response, taking_challenge, taking_commitment, taking_response}
use Rattle.runs.proofs.Outcome.{judged_number}
use Rattle.runs.proofs.Refusals.{commit_tests, respond_tests, drop_tests, save_tests, return_tests}
use Rattle.runs.proofs.Refusals.{take_commitment_tests, take_challenge_tests, take_response_tests}
use Rattle.runs.proofs.VerifierSteps.{response_number}

-- rules that test a call's conditions where the sheet loads, behind those of the sheet
behind_sheet : (sheet : List ℕ) (rules : List Rule) (conditions : List Condition) → (Valid (instance_of sheet) → Tests rules conditions)
    → Given (load_conditions sheet ++ conditions) (lowest (load_rules sheet ++ rules))
unfolding load_refusal
behind_sheet sheet rules conditions tests =
    given_behind (load_rules sheet) rules (load_conditions sheet) conditions (load_tests sheet)
    (λ none. tests (loads_valid sheet (lowest_clear (load_rules sheet) none)))

module _ (sheet : List ℕ) where
  -- so is the number in the answer of a call on the sheet
  told_behind_sheet : {A : Type 0} (call : Call A) (number : A → ℕ) → number call.value ≡ 0
      → ((n : ℕ) → number (call.refused n) ≡ n) → (conditions : List Condition)
      → (Valid (instance_of sheet) → Tests call.refusals conditions)
      → Given (load_conditions sheet ++ conditions) (number (answer (on_sheet sheet call)))
  unfolding number_of
  told_behind_sheet call number none some conditions tests =
      rw (answer_number (on_sheet sheet call) number none some) (behind_sheet sheet call.refusals conditions tests)

  -- ---- calls on rounds

  -- judging: the number is the lowest of the sheet's refusals and its own
  pub judge_lowest : (round : Round)
      → (outcome (judge_round sheet round)).number ≡ lowest (load_rules sheet ++ (judging (instance_of sheet) round).refusals)
  unfolding judge_round judging answer number_of judged
  judge_lowest round = judged_number _ _ (judge_not_refused (instance_of sheet) round)

  -- and that of the first condition that holds
  pub judge_number : (round : Round)
      → Given (load_conditions sheet ++ judge_conditions (instance_of sheet) round) (outcome (judge_round sheet round)).number
  judge_number round = rw (judge_lowest round) (behind_sheet sheet _ _ (λ valid. judge_tests (instance_of sheet) round))

  -- simulating: the number is the lowest of the sheet's refusals and its own
  pub simulate_lowest : (c : ℕ) (r : List ℕ)
      → (simulate_commitment sheet c r).refusal ≡ lowest (load_rules sheet ++ (simulating (instance_of sheet) c r).refusals)
  unfolding simulate_commitment simulating number_of
  simulate_lowest c r = answer_number (on_sheet sheet (simulating (instance_of sheet) c r)) (λ a. a.refusal) refl (λ n. refl)

  -- and that of the first condition that holds
  pub simulate_number : (c : ℕ) (r : List ℕ)
      → Given (load_conditions sheet ++ simulate_conditions (instance_of sheet) c r) (simulate_commitment sheet c r).refusal
  simulate_number c r = rw (simulate_lowest c r) (behind_sheet sheet _ _ (λ valid. simulate_tests (instance_of sheet) c r))

  -- extracting: the number is the lowest of the sheet's refusals and its own
  pub extract_lowest : (first second : Round)
      → (extract_witness sheet first second).refusal ≡ lowest (load_rules sheet ++ (extracting (instance_of sheet) first second).refusals)
  unfolding extract_witness extracting number_of
  extract_lowest first second =
      answer_number (on_sheet sheet (extracting (instance_of sheet) first second)) (λ a. a.refusal) refl (λ n. refl)

  -- and that of the first condition that holds
  pub extract_number : (first second : Round)
      → Given (load_conditions sheet ++ extract_conditions (instance_of sheet) first second) (extract_witness sheet first second).refusal
  extract_number first second = rw (extract_lowest first second) (behind_sheet sheet _ _ (λ valid. extract_tests valid first second))

  -- ---- Peggy

  -- committing
  pub commit_number : (p : Prover) (k : List ℕ)
      → Given (load_conditions sheet ++ commit_conditions (instance_of sheet) p k) (commit sheet p k).refusal
  unfolding commit committing
  commit_number p k =
      told_behind_sheet (committing (instance_of sheet) p k) (λ step. step.refusal) refl (λ n. refl)
      (commit_conditions (instance_of sheet) p k) (λ valid. commit_tests (instance_of sheet) p k)

  -- responding
  pub respond_number : (p : Prover) (c : ℕ) (x : List ℕ)
      → Given (load_conditions sheet ++ respond_conditions (instance_of sheet) p c x) (respond sheet p c x).refusal
  unfolding respond responding
  respond_number p c x =
      told_behind_sheet (responding (instance_of sheet) p c x) (λ step. step.refusal) refl (λ n. refl)
      (respond_conditions (instance_of sheet) p c x) (λ valid. respond_tests valid p c x)

  -- ---- Vic

  -- the commitment
  pub take_commitment_number : (v : Verifier) (t : List ℕ)
      → Given (load_conditions sheet ++ take_commitment_conditions (instance_of sheet) v t) (take_commitment sheet v t).refusal
  unfolding take_commitment taking_commitment
  take_commitment_number v t =
      told_behind_sheet (taking_commitment (instance_of sheet) v t) (λ step. step.refusal) refl (λ n. refl)
      (take_commitment_conditions (instance_of sheet) v t) (λ valid. take_commitment_tests (instance_of sheet) v t)

  -- the challenge
  pub take_challenge_number : (v : Verifier) (c : ℕ)
      → Given (load_conditions sheet ++ take_challenge_conditions (instance_of sheet) v c) (take_challenge sheet v c).refusal
  unfolding take_challenge taking_challenge
  take_challenge_number v c =
      told_behind_sheet (taking_challenge (instance_of sheet) v c) (λ step. step.refusal) refl (λ n. refl)
      (take_challenge_conditions (instance_of sheet) v c) (λ valid. take_challenge_tests (instance_of sheet) v c)

  -- the response
  pub take_response_number : (v : Verifier) (r : List ℕ)
      → Given (load_conditions sheet ++ take_response_conditions (instance_of sheet) v r)
      (outcome (take_response sheet v r).verdict).number
  unfolding take_response taking_response outcome
  take_response_number v r =
      told_behind_sheet (taking_response (instance_of sheet) v r) (λ told. (outcome told.verdict).number)
      (response_number (instance_of sheet) v r) (λ n. refl) (take_response_conditions (instance_of sheet) v r)
      (λ valid. take_response_tests (instance_of sheet) v r)

-- dropping, which takes no sheet
pub drop_number : (p : Prover) → Given (drop_conditions p) (drop_session p).refusal
unfolding drop_session dropping
drop_number p = told_given (dropping p) (λ step. step.refusal) refl (λ n. refl) (drop_conditions p) (drop_tests p)

-- saving and returning, which take none either
pub save_number : (p : Prover) (name : ℕ) → Given (save_conditions name) (save p name).refusal
unfolding save saving
save_number p name = told_given (saving p name) (λ step. step.refusal) refl (λ n. refl) (save_conditions name) (save_tests p name)

pub return_number : (p : Prover) (name : ℕ) → Given (return_conditions p name) (return_to p name).refusal
unfolding return_to returning
return_number p name =
    told_given (returning p name) (λ step. step.refusal) refl (λ n. refl) (return_conditions p name) (return_tests p name)
