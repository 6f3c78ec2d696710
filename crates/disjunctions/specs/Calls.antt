-- Any list of calls on one of Peggy's sessions of the OR proof (02, card 4, "a session like document 01's").
-- Assumes nothing.
use Rattle.std.specs.Prelude.{ℕ, ◌≡◌, ◌⊎◌, List, [], ◌∷◌}
use Rattle.types.specs.declared.ProverPhase.TheVariants.{New, Committed, Answered, Dropped}
use Rattle.disjunctions.specs.declared.OrProver.{OrProver}
use Rattle.disjunctions.specs.declared.OrStep.{OrStep}
use Rattle.lists.specs.Places.{pad8, zeros8}
use Rattle.runs.specs.OnSheet.{read_slots}
use Rattle.runs.specs.Run.{session_after, trace}
use Rattle.disjunctions.specs.OrCalls.{OrCalls}
use Rattle.disjunctions.specs.Prover.{other, own}

-- a call with what it brings: two sheets, a side, a nonce, and a simulated challenge and response; two sheets, a challenge and a
-- witness; or nothing
pub data OrCall : Type 0 where
  OrCommit : List ℕ → List ℕ → ℕ → List ℕ → ℕ → List ℕ → OrCall
  OrRespond : List ℕ → List ℕ → ℕ → List ℕ → OrCall
  OrDrop : OrCall

module _ (either : OrCalls) where
  open either use {commit_or, drop_or, respond_or}

  -- what a call on a session gives
  abbrev pub call_or : OrCall → OrProver → OrStep
  call_or (OrCommit s s' side k d r) p = commit_or s s' p side k d r
  call_or (OrRespond s s' c x) p = respond_or s s' p c x
  call_or OrDrop p = drop_or p

  -- the session after a list of calls
  abbrev pub or_after : List OrCall → OrProver → OrProver
  or_after calls p = session_after call_or (λ step. step.session) calls p

  -- the calls of a list that are carried out, each with what it answered
  abbrev pub or_trace : List OrCall → OrProver → List (OrCall × OrStep)
  or_trace calls p = trace call_or (λ step. step.session) (λ step. step.refusal) calls p

-- nonce, side, simulated challenge and response are zeros
pub record Wiped (p : OrProver) : Type 0 where
  pub nonce : p.nonce ≡ zeros8
  pub response : p.response ≡ zeros8
  pub challenge : p.challenge ≡ 0
  pub side : p.side ≡ 0

-- both commitments are those of the session before
abbrev pub KeepsBoth : OrProver → OrProver → Type 0
KeepsBoth p q = (q.commitment0 ≡ p.commitment0) × (q.commitment1 ≡ p.commitment1)

-- nothing is answered
abbrev pub Empty : OrStep → Type 0
Empty step = (step.values0 ≡ zeros8) × (step.values1 ≡ zeros8) × (step.challenge0 ≡ 0)

-- in which state a call is carried out, and what it hands back: committing answers no challenge, and dropping nothing at all
abbrev pub OrMoves : OrProver → OrCall → OrStep → Type 0
OrMoves p (OrCommit s s' side k d r) step =
    (p.phase ≡ New) ×
    (step.session
    ≡ record {
      nonce = pad8 0 (read_slots (own side s s') k);
      response = pad8 0 (read_slots (other side s s') r);
      commitment0 = step.values0;
      commitment1 = step.values1;
      challenge = d;
      side = own side 0 1;
      phase = Committed;
    }) ×
    (step.challenge0 ≡ 0)
OrMoves p (OrRespond s s' c x) step =
    (p.phase ≡ Committed) × (step.session.phase ≡ Answered) × Wiped step.session × KeepsBoth p step.session
OrMoves p OrDrop step =
    ((p.phase ≡ New) ⊎ (p.phase ≡ Committed)) × (step.session.phase ≡ Dropped) × Wiped step.session ×
    KeepsBoth p step.session × Empty step

-- the challenges that a call brings: one if it is responding, else none
abbrev pub or_challenges_of : OrCall → List ℕ
or_challenges_of (OrCommit s s' side k d r) = []
or_challenges_of (OrRespond s s' c x) = c ∷ []
or_challenges_of OrDrop = []
