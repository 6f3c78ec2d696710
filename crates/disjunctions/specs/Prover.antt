-- Peggy's session of the OR proof (02, card 4; refusals 2 to 11 of either sheet, 26, then 15 to 17 and 21): she holds the nonce of
-- the side that she knows, and of the other a simulated challenge and response, which make its commitment.
-- Assumes nothing.
use Rattle.std.specs.Prelude.{ℕ, Bool, cond, not, ◌||◌, List, [], ◌∷◌, eqb, ltb}
use Rattle.types.specs.declared.ProverPhase.{ProverPhase}
use Rattle.types.specs.declared.ProverPhase.TheVariants.{New, Committed, Answered, Dropped}
use Rattle.disjunctions.specs.declared.OrProver.{OrProver}
use Rattle.disjunctions.specs.declared.OrStep.{OrStep}
use Rattle.lists.specs.Places.{pad8, places, zeros8}
use Rattle.rules.specs.Call.{Call, answer}
use Rattle.rules.specs.Rule.{◌when◌}
use Rattle.formats.specs.Sheet.{instance_of}
use Rattle.runs.specs.Prover.{prover_state}
use Rattle.sigma.specs.Comparison.{differ}
use Rattle.sigma.specs.Image.{image}
use Rattle.sigma.specs.Instance.{Instance, table_of}
use Rattle.sigma.specs.Round.{bad_challenge, bad_coordinates, bad_witness, response}
use Rattle.sigma.specs.Simulator.{simulated}
use Rattle.disjunctions.specs.Judge.{on_pair}
use Rattle.disjunctions.specs.Round.{other_challenge}

-- of two values the one of the side, every side but 0 being 1, and the one of the other side
unfoldable pub own {ℓ} : {A : Type ℓ} → ℕ → A → A → A
own side first second = cond (eqb side 0) first second

unfoldable pub other {ℓ} : {A : Type ℓ} → ℕ → A → A → A
other side first second = cond (eqb side 0) second first

-- whether a session is in a state
unfoldable pub or_prover_in : ProverPhase → OrProver → Bool
or_prover_in state p = eqb (prover_state p.phase) (prover_state state)

-- a session with nothing held but both commitments
unfoldable pub wiped_or : ProverPhase → List ℕ → List ℕ → OrProver
wiped_or phase first second =
    record {
      nonce = zeros8;
      response = zeros8;
      commitment0 = first;
      commitment1 = second;
      challenge = 0;
      side = 0;
      phase = phase;
    }

-- a new session holds zeros
unfoldable pub new_or_prover : OrProver
new_or_prover = wiped_or New zeros8 zeros8

-- what a refused call hands back: the number, the same session and zeros
abbrev pub refused_or : OrProver → ℕ → OrStep
refused_or p n = record { session = p; values0 = zeros8; values1 = zeros8; challenge0 = 0; refusal = n }

-- the commitment of a side: of the side that she knows the image of the nonce k, of the other the simulated commitment of the
-- challenge d and the response r
unfoldable pub first_commitment : Instance → ℕ → List ℕ → ℕ → List ℕ → List ℕ
first_commitment i side k d r = own side (image (table_of i) k) (simulated i d r)

unfoldable pub second_commitment : Instance → ℕ → List ℕ → ℕ → List ℕ → List ℕ
second_commitment j side k d r = own side (simulated j d r) (image (table_of j) k)

-- committing: 15 for the simulated challenge, 16 for the nonce by its own sheet and the simulated response by the other, 21 for the
-- state, else what is brought and both commitments are stored, and both commitments answered
unfoldable pub committing_or : Instance → Instance → OrProver → ℕ → List ℕ → ℕ → List ℕ → Call OrStep
committing_or i j p side nonce d reply =
    let k : List ℕ = places (own side i j).header.columns nonce in
    let r : List ℕ = places (other side i j).header.columns reply in
    let t : List ℕ = pad8 0 (first_commitment i side k d r) in
    let t' : List ℕ = pad8 0 (second_commitment j side k d r) in
    record {
      refusals =
          (15 when bad_challenge i d) ∷
          (16 when (bad_coordinates (own side i j) k || bad_coordinates (other side i j) r)) ∷
          (21 when not (or_prover_in New p)) ∷ [];
      value =
          record {
            session =
                record {
                  nonce = pad8 0 k;
                  response = pad8 0 r;
                  commitment0 = t;
                  commitment1 = t';
                  challenge = d;
                  side = own side 0 1;
                  phase = Committed;
                };
            values0 = t;
            values1 = t';
            challenge0 = 0;
            refusal = 0;
          };
      refused = refused_or p;
    }

-- the held side is neither 0 nor 1, a held slot is no domain slot of its sheet, the held challenge is K or more, or the held values do not
-- make both held commitments, 0 beyond s, in all eight places
unfoldable pub unfit_or : Instance → Instance → OrProver → Bool
unfit_or i j p =
    let k : List ℕ = places (own p.side i j).header.columns p.nonce in
    let r : List ℕ = places (other p.side i j).header.columns p.response in
    ltb 1 p.side || bad_coordinates (own p.side i j) k || bad_coordinates (other p.side i j) r ||
    bad_challenge i p.challenge ||
    differ 8 (pad8 0 (first_commitment i p.side k p.challenge r)) p.commitment0 ||
    differ 8 (pad8 0 (second_commitment j p.side k p.challenge r)) p.commitment1

-- responding: 15 for the challenge, 16 and 17 for the witness by the held side's sheet, 21 for the session, else the side that she
-- knows answers the challenge that is left, the other the simulated one, and all but the commitments is set to zeros
unfoldable pub responding_or : Instance → Instance → OrProver → ℕ → List ℕ → Call OrStep
responding_or i j p c witness =
    let x : List ℕ = places (own p.side i j).header.columns witness in
    let k : List ℕ = places (own p.side i j).header.columns p.nonce in
    let r : List ℕ = places (other p.side i j).header.columns p.response in
    let d : ℕ = other_challenge i.header.challenges c p.challenge in
    let reply : List ℕ = response (own p.side i j).header k d x in
    record {
      refusals =
          (15 when bad_challenge i c) ∷
          (16 when bad_coordinates (own p.side i j) x) ∷
          (17 when bad_witness (own p.side i j) x) ∷
          (21 when (not (or_prover_in Committed p) || unfit_or i j p)) ∷ [];
      value =
          record {
            session = wiped_or Answered p.commitment0 p.commitment1;
            values0 = pad8 0 (own p.side reply r);
            values1 = pad8 0 (own p.side r reply);
            challenge0 = own p.side d p.challenge;
            refusal = 0;
          };
      refused = refused_or p;
    }

-- dropping: 21 for the state, else all but the commitments is set to zeros
unfoldable pub dropping_or : OrProver → Call OrStep
dropping_or p =
    record {
      refusals = (21 when not (or_prover_in New p || or_prover_in Committed p)) ∷ [];
      value =
          record {
            session = wiped_or Dropped p.commitment0 p.commitment1;
            values0 = zeros8;
            values1 = zeros8;
            challenge0 = 0;
            refusal = 0;
          };
      refused = refused_or p;
    }

-- the call that commits: a side, a nonce, and a simulated challenge and response
unfoldable pub commit_or : List ℕ → List ℕ → OrProver → ℕ → List ℕ → ℕ → List ℕ → OrStep
commit_or s s' p side k d r = answer (on_pair s s' (committing_or (instance_of s) (instance_of s') p side k d r))

-- the call that responds to a challenge
unfoldable pub respond_or : List ℕ → List ℕ → OrProver → ℕ → List ℕ → OrStep
respond_or s s' p c x = answer (on_pair s s' (responding_or (instance_of s) (instance_of s') p c x))

-- the call that drops a session
unfoldable pub drop_or : OrProver → OrStep
drop_or p = answer (dropping_or p)
