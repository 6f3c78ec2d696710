-- The OR proof's verdict, session and answers cross field by field.
-- Assumes nothing.
use mathlib.Core.Path.{refl}
use native.Mathlib.Omega.{arith}
use Rattle.rules.proofs.Answer.{unless_refused_zero, unless_refused_positive}
use Rattle.runs.specs.Prover.{prover_state}
use Rattle.runs.specs.Saving.{prover_phase}
use Rattle.runs.proofs.SavedStates.{phase_beyond}
use Rattle.or_crossing.specs.OrCrosses.{OrCrosses}
use Rattle.or_crossing.specs.Provers.{or_prover_of, or_session, or_answer}
use Rattle.or_crossing.specs.Verdicts.{or_judgement}

pub or_crosses : OrCrosses
unfolding or_judgement prover_state prover_phase or_session or_prover_of or_answer
or_crosses =
    record {
      accepted = refl;
      rejected = λ a b. refl;
      refused = λ n. refl;
      prover = λ k r t0 t1 c side. (
        record { out = refl; into = refl },
        record { out = refl; into = refl },
        record { out = refl; into = refl },
        record { out = refl; into = refl },
      );
      prover_beyond = λ n k r t0 t1 c side beyond. rw (phase_beyond n (omega arith));
      prover_passed = λ given s p xs ys c0 same. rw (unless_refused_zero (or_session p) given, same);
      prover_refused = λ given p xs ys c0 n some. rw (unless_refused_positive (or_session p) given n some);
    }
