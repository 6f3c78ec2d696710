-- Demand 1 of the calls on rounds and sessions, and of the marker: each, for any bytes and any numbers, ends in a result or in one
-- of its refusals, whose conditions are fixed, and a refused call changes no session.
-- Assumes nothing.
use Prim.Native.Nat.{ℕ, ◌<◌}
use mathlib.Core.Path.{refl, ap, subst, ◌≡◌}
use mathlib.Core.List.{[], ◌∷◌, ◌++◌, List}
use Rattle.types.specs.declared.Computed.{Computed}
use Rattle.types.specs.declared.Prover.{Prover}
use Rattle.types.specs.declared.ProverStep.{ProverStep}
use Rattle.types.specs.declared.Round.{Round}
use Rattle.types.specs.declared.VerifierStep.{VerifierStep}
use Rattle.lists.specs.Places.{zeros8}
use Rattle.rules.specs.Call.{answer, number_of}
use Rattle.rules.specs.Refuses.{condition_numbers}
use Rattle.rules.specs.Order.{refusal_order, sheet_numbers, is_sublist}
use Rattle.rules.proofs.Call.{answer_refused}
use Rattle.rules.proofs.Condition.{given, given_unique}
use Rattle.rules.proofs.Refuses.{refuses_given, refuses_tested}
use Rattle.formats.specs.Load.{load_rules, on_sheet}
use Rattle.formats.specs.Refusals.{RefusesOn, load_conditions}
use Rattle.formats.specs.Sheet.{header_of, instance_of}
use Rattle.sigma.specs.Answer.{judged}
use Rattle.sigma.specs.Extractor.{extracting}
use Rattle.sigma.specs.Judge.{judging}
use Rattle.sigma.specs.Simulator.{simulating}
use Rattle.sigma.proofs.Calls.{judge_not_refused}
use Rattle.runs.specs.Calls.{judge_round, simulate_commitment, extract_witness}
use Rattle.runs.specs.Level.{mark_conditions}
use Rattle.runs.specs.Marker.{mark_refusal, marker_calls, marker_text}
use Rattle.runs.specs.Ours.{call_prover, run_calls}
use Rattle.runs.specs.ProverCalls.{Commit, Drop, ProverCall, Respond, Return, Save}
use Rattle.runs.specs.RunRefusals.{MarkRefusals, OneLine, RunRefusals, Unmoved}
use Rattle.runs.proofs.MarkerRefusal.{mark_tests, one_line}
use Rattle.runs.proofs.Numbers.{judge_number, simulate_lowest, simulate_number, extract_lowest, extract_number, commit_number, respond_number}
use Rattle.runs.proofs.Numbers.{drop_number, save_number, return_number}
use Rattle.runs.proofs.Numbers.{take_commitment_number, take_challenge_number, take_response_number}
use Rattle.runs.proofs.Outcome.{judged_kept}
use Rattle.runs.proofs.ProverCalls.{prover_kept}
use Rattle.runs.proofs.VerifierSteps.{take_commitment_kept, take_challenge_kept, take_response_kept}

-- a refused call on Peggy's session hands it back, and zeros
unmoved : (call : ProverCall) (p : Prover) → 0 < (call_prover call p).refusal → Unmoved p (call_prover call p)
unmoved call p some =
    let kept = prover_kept call p some in (ap (λ (s : ProverStep). s.session) kept, ap (λ (s : ProverStep). s.values) kept)

-- a simulator that is refused leaves zeros
simulate_left : (sheet : List ℕ) (c : ℕ) (r : List ℕ) → 0 < (simulate_commitment sheet c r).refusal
    → (simulate_commitment sheet c r).values ≡ zeros8
unfolding simulate_commitment simulating number_of
simulate_left sheet c r some =
    ap (λ (a : Computed). a.values)
    (answer_refused (on_sheet sheet (simulating (instance_of sheet) c r)) (subst (λ (n : ℕ). 0 < n) (simulate_lowest sheet c r) some))

-- so does an extractor
extract_left : (sheet : List ℕ) (first second : Round) → 0 < (extract_witness sheet first second).refusal
    → (extract_witness sheet first second).values ≡ zeros8
unfolding extract_witness extracting number_of
extract_left sheet first second some =
    ap (λ (a : Computed). a.values)
    (answer_refused (on_sheet sheet (extracting (instance_of sheet) first second))
    (subst (λ (n : ℕ). 0 < n) (extract_lowest sheet first second) some))

-- the calls on rounds and sessions
pub run_refusals : RunRefusals run_calls
unfolding condition_numbers is_sublist refusal_order sheet_numbers judge_round judging judged
    simulate_commitment simulating extract_witness extracting answer call_prover zeros8
run_refusals = record {
  judging = λ sheet round.
      refuses_given _ _ refl refl _ (judge_number sheet round) (judged_kept _ _ (judge_not_refused (instance_of sheet) round));
  simulating = λ sheet c r. refuses_given _ _ refl refl _ (simulate_number sheet c r) (simulate_left sheet c r);
  extracting = λ sheet first second.
      refuses_given _ _ refl refl _ (extract_number sheet first second) (extract_left sheet first second);
  committing = λ sheet p k.
      refuses_given _ _ refl refl _ (commit_number sheet p k) (unmoved (Commit sheet k) p);
  responding = λ sheet p c x.
      refuses_given _ _ refl refl _ (respond_number sheet p c x) (unmoved (Respond sheet c x) p);
  dropping = λ p. refuses_given _ _ refl refl _ (drop_number p) (unmoved Drop p);
  saving = λ p name. refuses_given _ _ refl refl _ (save_number p name) (unmoved (Save name) p);
  returning = λ p name. refuses_given _ _ refl refl _ (return_number p name) (unmoved (Return name) p);
  taking_commitment_law = λ sheet v t.
      refuses_given _ _ refl refl _ (take_commitment_number sheet v t)
      (λ some. ap (λ (step : VerifierStep). step.session) (take_commitment_kept sheet v t some));
  taking_challenge_law = λ sheet v c.
      refuses_given _ _ refl refl _ (take_challenge_number sheet v c)
      (λ some. ap (λ (step : VerifierStep). step.session) (take_challenge_kept sheet v c some));
  taking_response_law = λ sheet v r.
      refuses_given _ _ refl refl _ (take_response_number sheet v r) (take_response_kept sheet v r);
}

-- the marker: the number is that of its one line
pub mark_refusals : MarkRefusals marker_calls
unfolding condition_numbers is_sublist refusal_order sheet_numbers mark_refusal
mark_refusals = record {
  marking = λ sheet file level n is.
      let conditions = load_conditions sheet ++ mark_conditions (header_of sheet) file level in
      subst
      (λ (k : ℕ). RefusesOn sheet (12 ∷ 25 ∷ []) (mark_conditions (header_of sheet) file level) k (OneLine k (marker_text sheet file level)))
      (given_unique conditions (mark_refusal sheet file level) n (given _ conditions (mark_tests sheet file level)) is)
      (refuses_tested _ _ refl refl _ (mark_tests sheet file level) (one_line sheet file level));
}
