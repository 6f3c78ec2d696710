-- Completeness and c-simulatability of Maurer's round (2015, section 5): for each challenge c, the simulated rounds over
-- all responses, and the honest rounds of a witness over all nonces, are exactly the accepted rounds, each met once.
-- Assumes nothing.
use mathlib.Core.Path.{◌≡◌, refl, ap}
use Prim.Native.Nat.{ℕ}
use lib.IntN.{pos}
use Rattle.groups.specs.Group.{Group, group_power, group_quotient}
use Rattle.groups.specs.Homomorphism.{Homomorphism}
use Rattle.groups.specs.Transcript.{Transcript, Accepting, honest_response, simulated_commitment, simulated_transcript, honest_transcript, EnumeratesAccepting}
use Rattle.groups.proofs.Groups.{multiply_divide, divide_multiply, cancel_right}
use Rattle.groups.proofs.Powers.{power_negation, preserves_power, preserves_quotient}

-- the nonce r / x^c has the response r
pub nonce_response : {A : Type 0} (G : Group A) (x : A) (c : ℕ) (r : A) → honest_response G x c (group_quotient G r (group_power G x (pos c))) ≡ r
unfolding honest_response group_quotient
nonce_response G x c r = divide_multiply G r (group_power G x (pos c))

module _ {A B : Type 0} {G : Group A} {H : Group B} (f : Homomorphism G H) (z : B) (c : ℕ) where
  -- the simulator's commitment makes the round accepted
  pub simulated_accepting : (r : A) → Accepting f z (simulated_commitment f z c r) c r
  unfolding simulated_commitment
  simulated_accepting r = cc (power_negation H z (pos c), divide_multiply H (f.map r) (group_power H z (pos c)))

  -- the only commitment that c and r make accepted is the simulator's
  pub simulated_only : (t : B) (r : A) → Accepting f z t c r → simulated_commitment f z c r ≡ t
  unfolding simulated_commitment
  simulated_only t r accepted = cc (power_negation H z (pos c), multiply_divide H t (group_power H z (pos c)))

  -- c-simulatability: the simulated rounds over all responses are the accepted rounds with challenge c, each once
  pub simulated_transcripts : EnumeratesAccepting f z c (simulated_transcript f z c)
  unfolding simulated_transcript
  simulated_transcripts = record {
    challenged = λ r. refl;
    accepted = simulated_accepting;
    met = λ t r accepted. (r, λ i. record { commitment = simulated_only t r accepted i; challenge = c; response = r });
    once = λ r r' same. ap (λ (round : Transcript A B). round.response) same;
  }

  module _ (x : A) (witness : f.map x ≡ z) where
    -- completeness: the honest round is accepted
    pub honest_accepting : (k : A) → Accepting f z (f.map k) c (honest_response G x c k)
    unfolding honest_response
    honest_accepting k = cc (f.preserves k (group_power G x (pos c)), preserves_power f x (pos c))

    -- the nonce r / x^c has the commitment of the accepted round with challenge c and response r
    pub nonce_image : (t : B) (r : A) → Accepting f z t c r → f.map (group_quotient G r (group_power G x (pos c))) ≡ t
    unfolding group_quotient
    nonce_image t r accepted =
        cc (preserves_quotient f r (group_power G x (pos c)), preserves_power f x (pos c), multiply_divide H t (group_power H z (pos c)))

    -- the honest rounds of a witness over all nonces are the accepted rounds with challenge c, each once
    pub honest_transcripts : EnumeratesAccepting f z c (honest_transcript f x c)
    unfolding honest_transcript honest_response
    honest_transcripts = record {
      challenged = λ k. refl;
      accepted = honest_accepting;
      met = λ t r accepted. (
        group_quotient G r (group_power G x (pos c)),
        λ i. record { commitment = nonce_image t r accepted i; challenge = c; response = nonce_response G x c r i },
      );
      once = λ k k' same. cancel_right G k k' (group_power G x (pos c)) (ap (λ (round : Transcript A B). round.response) same);
    }
