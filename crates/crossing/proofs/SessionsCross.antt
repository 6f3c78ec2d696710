-- Verdicts, sessions and answers cross field by field.
-- Assumes nothing.
use mathlib.Core.Path.{◌≡◌, refl, sym, ap, ◌∙◌}
use native.Mathlib.Omega.{arith}
use Rattle.types.specs.declared.Verdict.{Verdict}
use Rattle.types.specs.declared.VerifierPhase.TheVariants.{Waiting, Holding, Asked, Judged}
use Rattle.sigma.specs.Answer.{outcome}
use Rattle.rules.proofs.Answer.{unless_refused_zero, unless_refused_positive}
use Rattle.runs.specs.Prover.{prover_state}
use Rattle.runs.specs.Saving.{prover_phase}
use Rattle.runs.specs.Verifier.{verifier_state}
use Rattle.runs.proofs.SavedStates.{phase_beyond}
use Rattle.crossing.specs.OfFour.{of_four}
use Rattle.crossing.specs.Provers.{prover_of, prover_session, prover_answer}
use Rattle.crossing.specs.SessionsCross.{SessionsCross}
use Rattle.crossing.specs.Verdicts.{judgement}
use Rattle.crossing.specs.Verifiers.{verifier_phase, verifier_of, verifier_session, verifier_answer, verifier_judgement}
use Rattle.crossing.specs.declared.Judgement.{Judgement}
use Rattle.crossing.proofs.Judgements.{judgement_number}
use Rattle.crossing.proofs.Phases.{of_four_beyond}

-- the number of a verdict is that of its outcome
number_told_law : (w : Verdict) (j : Judgement) → judgement w ≡ j → (outcome w).number ≡ j.refusal
number_told_law w j told = sym (judgement_number w) ∙ ap (λ (j : Judgement). j.refusal) told

pub sessions_cross : SessionsCross
unfolding judgement of_four prover_state prover_phase prover_session prover_of prover_answer verifier_state verifier_phase verifier_session
    verifier_of verifier_answer verifier_judgement
sessions_cross =
    record {
      accepted = refl;
      rejected = λ mask. refl;
      refused = λ n. refl;
      prover = λ k t m. (
        record { out = refl; into = refl },
        record { out = refl; into = refl },
        record { out = refl; into = refl },
        record { out = refl; into = refl },
      );
      prover_beyond = λ n k t m beyond. rw (phase_beyond n (omega arith));
      prover_passed = λ given s p xs same. rw (unless_refused_zero (prover_session p) given, same);
      prover_refused = λ given p xs n some. rw (unless_refused_positive (prover_session p) given n some);
      verifier = λ t c. (
        record { out = refl; into = refl },
        record { out = refl; into = refl },
        record { out = refl; into = refl },
        record { out = refl; into = refl },
      );
      verifier_beyond = λ n t c beyond. rw (of_four_beyond Waiting Holding Asked Judged {n = n} (omega arith));
      verifier_passed = λ given s v same. rw (unless_refused_zero (verifier_session v) given, same);
      verifier_refused = λ given v n some. rw (unless_refused_positive (verifier_session v) given n some);
      response_passed = λ given s v w j same told none.
          rw (number_told_law w j told ∙ none, unless_refused_zero (verifier_session v) given, same, told);
      response_refused = λ given v w j told some.
          rw (number_told_law w j told, unless_refused_positive (verifier_session v) given j.refusal some, told);
    }
