-- The calls on Peggy's session are determined: by their refusals, by the steps of the session, and by what 01's calls answer.
-- Assumes nothing.
use Prim.Native.Nat.{ℕ, zero, suc, ◌<◌}
use mathlib.Core.Path.{◌≡◌, refl, sym, ap, ◌∙◌}
use mathlib.Core.List.{List, [], ◌∷◌}
use mathlib.Core.Logic.{inl, inr}
use native.Mathlib.Omega.{arith}
use Rattle.types.specs.declared.Computed.{Computed}
use Rattle.types.specs.declared.Memory.{Memory}
use Rattle.types.specs.declared.Prover.{Prover}
use Rattle.types.specs.declared.ProverPhase.TheVariants.{Committed}
use Rattle.types.specs.declared.ProverStep.{ProverStep}
use Rattle.disjunctions.specs.declared.OrProver.{OrProver}
use Rattle.disjunctions.specs.declared.OrStep.{OrStep}
use Rattle.lists.specs.Places.{pad8}
use Rattle.rules.proofs.Determined.{none_append, refused_or_not, same_number}
use Rattle.formats.specs.FileCalls.{FileCalls}
use Rattle.formats.specs.Sheet.{instance_of}
use Rattle.runs.specs.OnSheet.{read_slots}
use Rattle.runs.specs.RunCalls.{RunCalls}
use Rattle.runs.proofs.Run.{moves_first}
use Rattle.runs.specs.Same.{SameRuns}
use Rattle.disjunctions.specs.Calls.{KeepsBoth, OrCall, OrCommit, OrDrop, OrMoves, OrRespond, Wiped, call_or}
use Rattle.disjunctions.specs.OneOfTwo.{OrSessions, OrUnmoved}
use Rattle.disjunctions.specs.OrCalls.{OrCalls}
use Rattle.disjunctions.specs.Prover.{other, own}
use Rattle.disjunctions.specs.Refusals.{commit_or_conditions, pair_conditions, respond_or_conditions}
use Rattle.disjunctions.proofs.OnlyRounds.{EitherDemands, NonePair, none_pair, proof_of}

-- a call that is carried out moves the session
or_moves : (either : OrCalls) → OrSessions either → (call : OrCall) (p : OrProver) → (call_or either call p).refusal ≡ 0
    → OrMoves p call (call_or either call p)
or_moves either sessions call p e = moves_first (call_or either) _ _ OrMoves call p _ e (sessions.in_order (call ∷ []) p)

-- steps with equal parts are equal
step_same : (a b : OrStep) → a.refusal ≡ b.refusal → a.session ≡ b.session → a.values0 ≡ b.values0 → a.values1 ≡ b.values1
    → a.challenge0 ≡ b.challenge0 → a ≡ b
step_same a b n p v w c = λ i. record { session = p i; values0 = v i; values1 = w i; challenge0 = c i; refusal = n i }

-- refused calls on one session answer the same
unmoved_same : (p : OrProver) (a b : OrStep) → a.refusal ≡ b.refusal → OrUnmoved p a → OrUnmoved p b → a ≡ b
unmoved_same p a b n u w =
    step_same a b n (u.0 ∙ sym w.0) (u.1 ∙ sym w.1) (u.2 ∙ sym w.2) (u.3 ∙ sym w.3)

-- sessions in one state that hold zeros but for the commitments of p are equal
wiped_same : (p q r : OrProver) → q.phase ≡ r.phase → Wiped q → Wiped r → KeepsBoth p q → KeepsBoth p r → q ≡ r
wiped_same p q r e w z k l = λ i. record {
  nonce = (w.nonce ∙ sym z.nonce) i;
  response = (w.response ∙ sym z.response) i;
  commitment0 = (k.0 ∙ sym l.0) i;
  commitment1 = (k.1 ∙ sym l.1) i;
  challenge = (w.challenge ∙ sym z.challenge) i;
  side = (w.side ∙ sym z.side) i;
  phase = e i;
}

-- a side that is not above 1 is 0 or 1
sides : {A : Type 0} (n : ℕ) → ¬ (1 < n) → (n ≡ 0 → A) → (n ≡ 1 → A) → A
sides zero few f g = f refl
sides (suc zero) few f g = g refl
sides (suc (suc n)) few f g = absurd (few (omega arith))

module _ {files files' : FileCalls} {code code' : RunCalls} {either either' : OrCalls} (d : EitherDemands files code either)
    (d' : EitherDemands files' code' either') (runs : SameRuns code code') where
  -- a new session
  pub new_same : either.new_or_prover ≡ either'.new_or_prover
  new_same = d.proof.sessions.new ∙ sym d'.proof.sessions.new

  -- dropping
  pub drop_same : (p : OrProver) → either.drop_or p ≡ either'.drop_or p
  drop_same p =
      let r = d.refusals.dropping p in
      let r' = d'.refusals.dropping p in
      refused_or_not r r' (unmoved_same p _ _)
      (λ e e' none.
      let (a, at, w, k, empty) = or_moves either d.proof.sessions OrDrop p e in
      let (a', at', w', k', empty') = or_moves either' d'.proof.sessions OrDrop p e' in
      step_same _ _ (same_number r r') (wiped_same p _ _ (at ∙ sym at') w w' k k')
      (empty.0 ∙ sym empty'.0) (empty.1 ∙ sym empty'.1) (empty.2 ∙ sym empty'.2))

  -- what 01's calls give
  responded : (sheet : List ℕ) (q : Memory → Prover) (c : ℕ) (x : List ℕ)
      → (code.respond sheet (q code.new_prover.memory) c x).values ≡ (code'.respond sheet (q code'.new_prover.memory) c x).values
  responded sheet q c x =
      ap (λ (step : ProverStep). step.values)
      (ap (λ (p : Prover). code.respond sheet (q p.memory) c x) runs.new_prover ∙ runs.respond sheet (q code'.new_prover.memory) c x)

  committed : (sheet k : List ℕ)
      → (code.commit sheet code.new_prover k).values ≡ (code'.commit sheet code'.new_prover k).values
  committed sheet k =
      ap (λ (step : ProverStep). step.values)
      (ap (λ (p : Prover). code.commit sheet p k) runs.new_prover ∙ runs.commit sheet code'.new_prover k)

  simulated : (sheet : List ℕ) (c : ℕ) (r : List ℕ)
      → (code.simulate_commitment sheet c r).values ≡ (code'.simulate_commitment sheet c r).values
  simulated sheet c r = ap (λ (answer : Computed). answer.values) (runs.simulate_commitment sheet c r)

  -- responding
  pub respond_same : (s s' : List ℕ) (p : OrProver) (c : ℕ) (x : List ℕ)
      → either.respond_or s s' p c x ≡ either'.respond_or s s' p c x
  respond_same s s' p c x =
      let r = d.refusals.responding s s' p c x in
      let r' = d'.refusals.responding s s' p c x in
      refused_or_not r r' (unmoved_same p _ _)
      (λ e e' none.
      let (sheets, own) = none_append (pair_conditions s s') (respond_or_conditions (instance_of s) (instance_of s') p c x) none in
      let both = none_pair s s' sheets in
      let (a, at, w, k) = or_moves either d.proof.sessions (OrRespond s s' c x) p e in
      let (a', at', w', k') = or_moves either' d'.proof.sessions (OrRespond s s' c x) p e' in
      let session = wiped_same p _ _ (at ∙ sym at') w w' k k' in
      let held : List ℕ → Memory → Prover = λ t m. record { phase = Committed; nonce = p.nonce; commitment = t; memory = m } in
      sides p.side (λ high. own.1.1.1.0 (inr (inl high)))
      (λ known.
      let (c0, v, u) = (proof_of d s s' both).responds_first p c x known e in
      let (c0', v', u') = (proof_of d' s s' both).responds_first p c x known e' in
      step_same _ _ (same_number r r') session (v ∙ responded s (λ m. held p.commitment0 m) _ x ∙ sym v') (u ∙ sym u') (c0 ∙ sym c0'))
      (λ known.
      let (c0, v, u) = (proof_of d s s' both).responds_second p c x known e in
      let (c0', v', u') = (proof_of d' s s' both).responds_second p c x known e' in
      step_same _ _ (same_number r r') session (v ∙ sym v') (u ∙ responded s' (λ m. held p.commitment1 m) _ x ∙ sym u') (c0 ∙ sym c0')))

  -- committing: both commitments, by the side that is known
  commitments : (s s' : List ℕ) → NonePair s s' → (p : OrProver) (side : ℕ) (k : List ℕ) (c : ℕ) (r : List ℕ)
      → (either.commit_or s s' p side k c r).refusal ≡ 0 → (either'.commit_or s s' p side k c r).refusal ≡ 0
      → ((either.commit_or s s' p side k c r).values0 ≡ (either'.commit_or s s' p side k c r).values0)
      × ((either.commit_or s s' p side k c r).values1 ≡ (either'.commit_or s s' p side k c r).values1)
  commitments s s' both p zero k c r e e' =
      let (v, u) = (proof_of d s s' both).commits_first p k c r e in
      let (v', u') = (proof_of d' s s' both).commits_first p k c r e' in
      (v ∙ committed s k ∙ sym v', u ∙ simulated s' c r ∙ sym u')
  commitments s s' both p (suc n) k c r e e' =
      let (v, u) = (proof_of d s s' both).commits_second p n k c r e in
      let (v', u') = (proof_of d' s s' both).commits_second p n k c r e' in
      (v ∙ simulated s c r ∙ sym v', u ∙ committed s' k ∙ sym u')

  -- committing
  pub commit_same : (s s' : List ℕ) (p : OrProver) (side : ℕ) (k : List ℕ) (c : ℕ) (r : List ℕ)
      → either.commit_or s s' p side k c r ≡ either'.commit_or s s' p side k c r
  commit_same s s' p side k c r =
      let q = d.refusals.committing s s' p side k c r in
      let q' = d'.refusals.committing s s' p side k c r in
      refused_or_not q q' (unmoved_same p _ _)
      (λ e e' none.
      let sheets = (none_append (pair_conditions s s') (commit_or_conditions (instance_of s) (instance_of s') p side k c r) none).0 in
      let (v, u) = commitments s s' (none_pair s s' sheets) p side k c r e e' in
      let (a, held, empty) = or_moves either d.proof.sessions (OrCommit s s' side k c r) p e in
      let (a', held', empty') = or_moves either' d'.proof.sessions (OrCommit s s' side k c r) p e' in
      let session : (either.commit_or s s' p side k c r).session ≡ (either'.commit_or s s' p side k c r).session =
      held
      ∙ (λ i. record {
        nonce = pad8 0 (read_slots (own side s s') k);
        response = pad8 0 (read_slots (other side s s') r);
        commitment0 = v i;
        commitment1 = u i;
        challenge = c;
        side = own side 0 1;
        phase = Committed;
      }) ∙ sym held' in
      step_same _ _ (same_number q q') session v u (empty ∙ sym empty'))
