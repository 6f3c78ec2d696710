-- Vic's response call answers what judging answers on the round of the held commitment, the held challenge and the response
-- brought (01, "Sessions" and "A round").
-- Assumes nothing.
use Prim.Native.Nat.{ℕ}
use mathlib.Core.Path.{◌≡◌, refl}
use mathlib.Core.List.{List}
use Rattle.types.specs.declared.Round.{Round}
use Rattle.types.specs.declared.Verifier.{Verifier}
use Rattle.lists.specs.Places.{places}
use Rattle.rules.specs.Call.{after, answer, number_of}
use Rattle.rules.specs.Rule.{Rule, lowest}
use Rattle.rules.proofs.Told.{read_alike}
use Rattle.rules.proofs.Lowest.{lowest_behind}
use Rattle.formats.specs.Load.{load_rules}
use Rattle.formats.specs.Sheet.{instance_of}
use Rattle.formats.proofs.Positive.{load_positive}
use Rattle.sigma.specs.Answer.{judged, outcome}
use Rattle.sigma.specs.Instance.{Instance}
use Rattle.sigma.specs.Judge.{judging}
use Rattle.sigma.specs.Reads.{round_of}
use Rattle.sigma.proofs.Passed.{challenge_passes, commitment_passes}
use Rattle.runs.specs.Calls.{judge_round}
use Rattle.runs.specs.Meaning.{ReadyToJudge}
use Rattle.runs.specs.Verifier.{take_response, taking_response}
use Rattle.runs.proofs.VerifierSteps.{ready_passes, take_response_runs}

-- the round of what Vic holds and a response
abbrev pub held_round : Verifier → List ℕ → Round
held_round v r = round_of v.commitment v.challenge r

module _ (inst : Instance) (v : Verifier) (ready : ReadyToJudge inst v) where
  -- where 21 does not apply, the response call's rules and those of judging give the same number
  same_number : (r : List ℕ)
      → lowest (taking_response inst v r).refusals ≡ lowest (judging inst (held_round v r)).refusals
  unfolding taking_response judging lowest
  same_number r =
      let t = places inst.header.rows v.commitment in
      let below = (challenge_passes inst v.challenge).1 ready.challenge in
      rw ((ready_passes inst v).1 ready, (commitment_passes inst t).1 ready.held, below)

  -- where 21 does not apply, the response call answers what judging answers
  pub response_judged : (before : List Rule) (r : List ℕ)
      → (answer (after before (taking_response inst v r))).verdict ≡ answer (after before (judging inst (held_round v r)))
  unfolding taking_response judging number_of
  response_judged before r =
      read_alike (after before (taking_response inst v r)) (after before (judging inst (held_round v r))) (λ told. told.verdict) (λ told. told)
      (lowest_behind before _ _ (same_number r)) refl (λ n. refl)

-- on a sheet's bytes: where 21 does not apply, the response call answers what the call that judges rounds answers
pub take_response_judged : (sheet : List ℕ) (v : Verifier) → ReadyToJudge (instance_of sheet) v → (r : List ℕ)
    → (take_response sheet v r).verdict ≡ judge_round sheet (held_round v r)
unfolding take_response judge_round
take_response_judged sheet v ready r = response_judged (instance_of sheet) v ready (load_rules sheet) r

-- so does a response call that is not refused
pub take_response_given : (sheet : List ℕ) (v : Verifier) (r : List ℕ) → (outcome (take_response sheet v r).verdict).number ≡ 0
    → (take_response sheet v r).verdict ≡ judge_round sheet (round_of v.commitment v.challenge r)
take_response_given sheet v r passed = take_response_judged sheet v ((take_response_runs sheet v r).0 passed).1.ready r
