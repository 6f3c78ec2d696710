-- What committing and responding answer where no rule refuses them, made of what each side gives.
-- Assumes nothing.
use Prim.Native.Nat.{ℕ}
use mathlib.Core.Path.{◌≡◌, refl, sym, ap, ◌∙◌}
use mathlib.Core.Bool.{not}
use mathlib.Core.List.{List}
use lib.Dec.{eqb}
use Rattle.types.specs.declared.Header.{Header}
use Rattle.types.specs.declared.ProverPhase.TheVariants.{Answered, Committed}
use Rattle.lists.specs.Places.{pad8, places}
use Rattle.rules.specs.Call.{answer, number_of}
use Rattle.sigma.specs.Instance.{Instance}
use Rattle.disjunctions.specs.declared.OrProver.{OrProver}
use Rattle.disjunctions.specs.declared.OrStep.{OrStep}
use Rattle.disjunctions.specs.Prover.{committing_or, other, own, responding_or, wiped_or}
use Rattle.disjunctions.specs.Round.{other_challenge}
use Rattle.or_judge.specs.Values.{FitTogether}
use Rattle.or_session.specs.Sides.{side_commitment, side_response}
use Rattle.or_session.proofs.SideValues.{first_commitment_law, first_response_law, own_places, second_commitment_law, second_response}
use Rattle.or_session.proofs.Steps.{step_given}

-- steps of equal parts are equal
same_step : {p q : OrProver} {xs xs' ys ys' : List ℕ} {c d : ℕ} → p ≡ q → xs ≡ xs' → ys ≡ ys' → c ≡ d
    → ◌≡◌ {A = OrStep} (record { session = p; values0 = xs; values1 = ys; challenge0 = c; refusal = 0 })
    (record { session = q; values0 = xs'; values1 = ys'; challenge0 = d; refusal = 0 })
same_step session first second challenge = λ t. record {
  session = session t;
  values0 = first t;
  values1 = second t;
  challenge0 = challenge t;
  refusal = 0;
}

-- committing: both commitments, stored with what is read of what is brought
pub commit_given : {i j : Instance} → FitTogether i j → (p : OrProver) (side : ℕ) (k : List ℕ) (d : ℕ) (r : List ℕ) {n : ℕ}
    → n ≡ number_of (committing_or i j p side k d r) → n ≡ 0 → {mine yours : Header}
    → mine ≡ own side i.header j.header → yours ≡ own side j.header i.header → {nonce reply t t' : List ℕ} {held : ℕ}
    → nonce ≡ pad8 0 (places mine.columns k) → reply ≡ pad8 0 (places yours.columns r)
    → t ≡ pad8 0 (side_commitment (eqb side 0) i k d r) → t' ≡ pad8 0 (side_commitment (not (eqb side 0)) j k d r)
    → held ≡ own side 0 1
    → record {
      session =
          record {
            nonce = nonce;
            response = reply;
            commitment0 = t;
            commitment1 = t';
            challenge = d;
            side = held;
            phase = Committed;
          };
      values0 = t;
      values1 = t';
      challenge0 = 0;
      refusal = 0;
    }
    ≡ answer (committing_or i j p side k d r)
unfolding committing_or own other
commit_given {i} {j} fit p side k d r is_number none is_mine is_yours is_nonce is_reply is_first is_second is_held_lem =
    let nonce = is_nonce ∙ ap (pad8 0) (own_places side i j k is_mine) in
    let reply = is_reply ∙ ap (pad8 0) (own_places side j i r is_yours) in
    let first = is_first ∙ ap (pad8 0) (sym (first_commitment_law fit.first fit.second side k d r)) in
    let second = is_second ∙ ap (pad8 0) (sym (second_commitment_law fit.first fit.second side k d r)) in
    step_given (committing_or i j p side k d r) is_number none
    (same_step
    (λ t. record {
      nonce = nonce t;
      response = reply t;
      commitment0 = first t;
      commitment1 = second t;
      challenge = d;
      side = is_held_lem t;
      phase = Committed;
    }) first second refl)

-- responding: both responses and the first side's challenge, and a wiped session
pub respond_given : (i j : Instance) (p : OrProver) (c : ℕ) (x : List ℕ) {n : ℕ}
    → n ≡ number_of (responding_or i j p c x) → n ≡ 0 → {session : OrProver} {values values' : List ℕ} {d first : ℕ}
    → d ≡ other_challenge i.header.challenges c p.challenge
    → session ≡ wiped_or Answered p.commitment0 p.commitment1
    → values ≡ pad8 0 (side_response (eqb p.side 0) i.header p.nonce d x p.response)
    → values' ≡ pad8 0 (side_response (not (eqb p.side 0)) j.header p.nonce d x p.response)
    → first ≡ own p.side d p.challenge
    → record { session = session; values0 = values; values1 = values'; challenge0 = first; refusal = 0 }
    ≡ answer (responding_or i j p c x)
unfolding responding_or
respond_given i j p c x is_number none {d = d} is_left is_session is_first is_second is_challenge =
    let left = other_challenge i.header.challenges c p.challenge in
    step_given (responding_or i j p c x) is_number none
    (same_step is_session
    (is_first ∙ rw (is_left, first_response_law i j p.side p.nonce left x p.response))
    (is_second ∙ rw (is_left, second_response i j p.side p.nonce left x p.response))
    (is_challenge ∙ ap (λ (e : ℕ). own p.side e p.challenge) is_left))
