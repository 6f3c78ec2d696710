-- No answer depends on places beyond s and n, whether or not the sheet loads.
-- Assumes nothing.
use Prim.Native.Nat.{ℕ}
use mathlib.Core.Path.{refl, ap, ◌≡◌}
use mathlib.Core.List.{List}
use Rattle.types.specs.declared.ProverStep.{ProverStep}
use Rattle.types.specs.declared.Computed.{Computed}
use Rattle.types.specs.declared.Round.{Round}
use Rattle.types.specs.declared.Verdict.{Verdict}
use Rattle.types.specs.declared.Verifier.{Verifier}
use Rattle.types.specs.declared.VerifierStep.{VerifierStep}
use Rattle.types.specs.declared.VerifierVerdict.{VerifierVerdict}
use Rattle.lists.specs.Places.{places}
use Rattle.rules.specs.Call.{Call, answer}
use Rattle.formats.specs.Load.{load_rules, on_sheet}
use Rattle.formats.specs.Sheet.{instance_of}
use Rattle.sigma.specs.Reads.{SameRound, padded_round}
use Rattle.sigma.proofs.Unread.{same_round_of_padded, same_round_sym, judging_same, simulating_same, extracting_same}
use Rattle.runs.specs.Calls.{judge_round, simulate_commitment, extract_witness}
use Rattle.runs.specs.Corollaries.{ReadAlone, SessionsReadAlone}
use Rattle.runs.specs.OnSheet.{read_prover, read_verifier}
use Rattle.runs.specs.Ours.{honest_round, run_calls}
use Rattle.runs.specs.Prover.{new_prover, commit, respond}
use Rattle.runs.specs.Verifier.{take_commitment, take_challenge, take_response}
use Rattle.runs.proofs.Unread.{SameVerifier, committing_same, read_agrees, respond_held, responding_same}
use Rattle.runs.proofs.Unread.{take_challenge_held, take_response_held, taking_commitment_same, taking_response_same}

-- judging rounds that are the same
pub judge_round_same : (sheet : List ℕ) {round round' : Round} → SameRound (instance_of sheet).header round round'
    → judge_round sheet round ≡ judge_round sheet round'
unfolding judge_round
judge_round_same sheet same = ap (λ (call : Call Verdict). answer (on_sheet sheet call)) (judging_same (instance_of sheet) same)

-- the calls on rounds, and an honest round
pub read_alone : (sheet : List ℕ) → ReadAlone run_calls sheet
unfolding honest_round simulate_commitment extract_witness commit respond instance_of
read_alone sheet =
    let before = load_rules sheet in
    let inst = instance_of sheet in
    let slots = read_agrees inst.header.columns in
    let on_sheet_law : Call Computed → Computed = λ call. answer (on_sheet sheet call) in
    let read : (round : Round) → SameRound inst.header round (padded_round inst.header round) =
    λ round. same_round_sym (same_round_of_padded inst.header round) in
    record {
      honest = λ x c k.
          let k' = places inst.header.columns k in
          rw (
            committing_same inst new_prover k k' (slots k),
            responding_same inst _ c x (places inst.header.columns x) (slots x),
          );
      simulated = λ c r. ap on_sheet_law (simulating_same inst c r _ (slots r));
      judged = λ round. judge_round_same sheet (read round);
      extracted = λ first second. ap on_sheet_law (extracting_same inst (read first) (read second));
    }

-- the calls on sessions
pub sessions_read_alone : (sheet : List ℕ) → SessionsReadAlone run_calls sheet
unfolding commit respond take_commitment take_challenge take_response
sessions_read_alone sheet =
    let before = load_rules sheet in
    let inst = instance_of sheet in
    let values = read_agrees inst.header.rows in
    let slots = read_agrees inst.header.columns in
    let alike : (v : Verifier) → SameVerifier inst.header v (read_verifier sheet v) =
    λ v. record { phase = refl; commitment = values v.commitment; challenge = refl } in
    record {
      committed = λ p k. ap (λ (call : Call ProverStep). answer (on_sheet sheet call)) (committing_same inst p k _ (slots k));
      responded = λ p c x. ap (λ (call : Call ProverStep). answer (on_sheet sheet call)) (responding_same inst p c x _ (slots x));
      responded_held = λ p c x.
          respond_held before inst p (read_prover sheet p)
          (record { phase = refl; nonce = slots p.nonce; commitment = read_agrees 8 p.commitment; memory = refl }) c x;
      commitment = λ v t. ap (λ (call : Call VerifierStep). answer (on_sheet sheet call)) (taking_commitment_same inst v t _ (values t));
      challenge_held = λ v c. take_challenge_held before inst v _ refl (values v.commitment) c;
      response = λ v r. ap (λ (call : Call VerifierVerdict). answer (on_sheet sheet call)) (taking_response_same inst v r _ (slots r));
      response_held = λ v r. take_response_held before inst v (read_verifier sheet v) (alike v) r;
    }
