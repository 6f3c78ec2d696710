-- The demands determine the calls on Peggy's and Vic's sessions, with every field of the session.
-- Assumes nothing.
use Prim.Native.Nat.{ℕ}
use mathlib.Core.Path.{◌≡◌, sym, ap, ◌∙◌}
use mathlib.Core.List.{List, [], ◌∷◌}
use mathlib.Core.Logic.{⊎_elim}
use lib.Seq.{ext_get_or}
use Rattle.types.specs.declared.Prover.{Prover}
use Rattle.types.specs.declared.ProverPhase.TheVariants.{Committed}
use Rattle.types.specs.declared.ProverStep.{ProverStep}
use Rattle.types.specs.declared.Verdict.TheVariants.{Refused}
use Rattle.types.specs.declared.Verifier.{Verifier}
use Rattle.types.specs.declared.VerifierStep.{VerifierStep}
use Rattle.lists.specs.Places.{pad8}
use Rattle.rules.proofs.Determined.{below_or_not, none_append, refused_or_not, same_number}
use Rattle.formats.specs.FileCalls.{FileCalls}
use Rattle.formats.specs.Refusals.{load_conditions}
use Rattle.formats.specs.Sheet.{instance_of}
use Rattle.sigma.specs.Reads.{round_of}
use Rattle.runs.specs.OnSheet.{read_slots}
use Rattle.runs.specs.ProverCalls.{Commit, Drop, ProverCall, ProverMoves, Respond, Return, Save, call_prover}
use Rattle.runs.specs.Refusals.{commit_conditions, respond_conditions, take_response_conditions}
use Rattle.runs.specs.RunCalls.{RunCalls}
use Rattle.runs.specs.Sessions.{Sessions}
use Rattle.runs.specs.VerifierCalls.{Challenge, Commitment, Response, VerifierCall, VerifierMoves, call_verifier}
use Rattle.formats.proofs.FileRefusals.{none_loads}
use Rattle.formats.proofs.Refusals.{sheet_valid}
use Rattle.runs.proofs.OnlyRounds.{judge_only}
use Rattle.runs.proofs.Run.{moves_first}
use Rattle.runs.proofs.RunDemands.{RunDemands}

-- ---- a call that is carried out moves the session, whatever calls take their steps in order

module _ {code : RunCalls} (d : Sessions code) where
  pub prover_moves : (call : ProverCall) (p : Prover) → (call_prover code call p).refusal ≡ 0 → ProverMoves p call (call_prover code call p)
  prover_moves call p e = moves_first (call_prover code) _ _ ProverMoves call p _ e (d.prover.in_order (call ∷ []) p)

  pub verifier_moves : (call : VerifierCall) (v : Verifier) → (call_verifier code call v).refusal ≡ 0
      → VerifierMoves v call (call_verifier code call v)
  verifier_moves call v e = moves_first (call_verifier code) _ _ VerifierMoves call v _ e (d.verifier.in_order (call ∷ []) v)

-- ---- two codes

-- a step of Peggy's session, field by field
step_same : (s s' : ProverStep) → s.refusal ≡ s'.refusal → s.session ≡ s'.session → s.values ≡ s'.values → s ≡ s'
step_same s s' n q v = λ i. record { session = q i; values = v i; refusal = n i }

-- a step of Vic's
verifier_step_same : (s s' : VerifierStep) → s.refusal ≡ s'.refusal → s.session ≡ s'.session → s ≡ s'
verifier_step_same s s' n q = λ i. record { session = q i; refusal = n i }

module _ {files files' : FileCalls} {code code' : RunCalls} (d : RunDemands files code) (d' : RunDemands files' code') where
  -- ---- Peggy

  pub commit_only : (sheet : List ℕ) (p : Prover) (k : List ℕ) → code.commit sheet p k ≡ code'.commit sheet p k
  commit_only sheet p k =
      let r = d.refusals.committing sheet p k in
      let r' = d'.refusals.committing sheet p k in
      refused_or_not r r' (λ n l l'. step_same _ _ n (l.0 ∙ sym l'.0) (l.1 ∙ sym l'.1))
      (λ e e' none.
      let loads = (none_append (load_conditions sheet) (commit_conditions (instance_of sheet) p k) none).0 in
      let w = d.protocol sheet (none_loads d.loading sheet loads) in
      let w' = d'.protocol sheet (none_loads d'.loading sheet loads) in
      let values : (code.commit sheet p k).values ≡ (code'.commit sheet p k).values =
      ext_get_or 0 _ _ (w.commitment_eight p k ∙ sym (w'.commitment_eight p k))
      (λ i inside. below_or_not i (instance_of sheet).header.rows
      (λ l. w.commitment p k e i l ∙ sym (w'.commitment p k e' i l))
      (λ l. w.beyond_rows p k i l ∙ sym (w'.beyond_rows p k i l))) in
      step_same _ _ (same_number r r')
      ((prover_moves d.sessions (Commit sheet k) p e).1
      ∙ ap (λ (t : List ℕ). record { phase = Committed; nonce = pad8 0 (read_slots sheet k); commitment = t; memory = p.memory }) values
      ∙ sym (prover_moves d'.sessions (Commit sheet k) p e').1) values)

  pub respond_only : (sheet : List ℕ) (p : Prover) (c : ℕ) (x : List ℕ) → code.respond sheet p c x ≡ code'.respond sheet p c x
  respond_only sheet p c x =
      let r = d.refusals.responding sheet p c x in
      let r' = d'.refusals.responding sheet p c x in
      refused_or_not r r' (λ n l l'. step_same _ _ n (l.0 ∙ sym l'.0) (l.1 ∙ sym l'.1))
      (λ e e' none.
      let loads = (none_append (load_conditions sheet) (respond_conditions (instance_of sheet) p c x) none).0 in
      let w = d.protocol sheet (none_loads d.loading sheet loads) in
      let w' = d'.protocol sheet (none_loads d'.loading sheet loads) in
      let values : (code.respond sheet p c x).values ≡ (code'.respond sheet p c x).values =
      ext_get_or 0 _ _ (w.response_eight p c x ∙ sym (w'.response_eight p c x))
      (λ j inside. below_or_not j (instance_of sheet).header.columns
      (λ l. ⊎_elim
      (λ one. w.exponent_response one p c x e j l ∙ sym (w'.exponent_response one p c x e' j l))
      (λ two. w.root_response two p c x e j l ∙ sym (w'.root_response two p c x e' j l))
      (sheet_valid sheet loads).table.kind)
      (λ l. w.beyond_columns p c x j l ∙ sym (w'.beyond_columns p c x j l))) in
      step_same _ _ (same_number r r')
      ((prover_moves d.sessions (Respond sheet c x) p e).1 ∙ sym (prover_moves d'.sessions (Respond sheet c x) p e').1) values)

  pub drop_only : (p : Prover) → code.drop_session p ≡ code'.drop_session p
  drop_only p =
      let r = d.refusals.dropping p in
      let r' = d'.refusals.dropping p in
      refused_or_not r r' (λ n l l'. step_same _ _ n (l.0 ∙ sym l'.0) (l.1 ∙ sym l'.1))
      (λ e e' none.
      let m = prover_moves d.sessions Drop p e in
      let m' = prover_moves d'.sessions Drop p e' in
      step_same _ _ (same_number r r') (m.1 ∙ sym m'.1) (m.2 ∙ sym m'.2))

  pub save_only : (p : Prover) (name : ℕ) → code.save p name ≡ code'.save p name
  save_only p name =
      let r = d.refusals.saving p name in
      let r' = d'.refusals.saving p name in
      refused_or_not r r' (λ n l l'. step_same _ _ n (l.0 ∙ sym l'.0) (l.1 ∙ sym l'.1))
      (λ e e' none.
      let m = prover_moves d.sessions (Save name) p e in
      let m' = prover_moves d'.sessions (Save name) p e' in
      step_same _ _ (same_number r r') (m.1 ∙ sym m'.1) (m.2 ∙ sym m'.2))

  pub return_only : (p : Prover) (name : ℕ) → code.return_to p name ≡ code'.return_to p name
  return_only p name =
      let r = d.refusals.returning p name in
      let r' = d'.refusals.returning p name in
      refused_or_not r r' (λ n l l'. step_same _ _ n (l.0 ∙ sym l'.0) (l.1 ∙ sym l'.1))
      (λ e e' none.
      let m = prover_moves d.sessions (Return name) p e in
      let m' = prover_moves d'.sessions (Return name) p e' in
      step_same _ _ (same_number r r') (m.1 ∙ sym m'.1) (m.2 ∙ sym m'.2))

  -- ---- Vic

  pub take_commitment_only : (sheet : List ℕ) (v : Verifier) (t : List ℕ)
      → code.take_commitment sheet v t ≡ code'.take_commitment sheet v t
  take_commitment_only sheet v t =
      let r = d.refusals.taking_commitment_law sheet v t in
      let r' = d'.refusals.taking_commitment_law sheet v t in
      refused_or_not r r' (λ n l l'. verifier_step_same _ _ n (l ∙ sym l'))
      (λ e e' none.
      verifier_step_same _ _ (same_number r r')
      ((verifier_moves d.sessions (Commitment sheet t) v e).1 ∙ sym (verifier_moves d'.sessions (Commitment sheet t) v e').1))

  pub take_challenge_only : (sheet : List ℕ) (v : Verifier) (c : ℕ) → code.take_challenge sheet v c ≡ code'.take_challenge sheet v c
  take_challenge_only sheet v c =
      let r = d.refusals.taking_challenge_law sheet v c in
      let r' = d'.refusals.taking_challenge_law sheet v c in
      refused_or_not r r' (λ n l l'. verifier_step_same _ _ n (l ∙ sym l'))
      (λ e e' none.
      verifier_step_same _ _ (same_number r r')
      ((verifier_moves d.sessions (Challenge sheet c) v e).1 ∙ sym (verifier_moves d'.sessions (Challenge sheet c) v e').1))

  pub take_response_only : (sheet : List ℕ) (v : Verifier) (x : List ℕ) → code.take_response sheet v x ≡ code'.take_response sheet v x
  take_response_only sheet v x =
      refused_or_not (d.refusals.taking_response_law sheet v x) (d'.refusals.taking_response_law sheet v x)
      (λ n l l'. l ∙ ap (λ (k : ℕ). record { verdict = Refused k; session = v }) n ∙ sym l')
      (λ e e' none.
      let loads = (none_append (load_conditions sheet) (take_response_conditions (instance_of sheet) v x) none).0 in
      let verdict =
      (d.protocol sheet (none_loads d.loading sheet loads)).verifier v x e
      ∙ judge_only d d' sheet (round_of v.commitment v.challenge x)
      ∙ sym ((d'.protocol sheet (none_loads d'.loading sheet loads)).verifier v x e') in
      let session = (verifier_moves d.sessions (Response sheet x) v e).1 ∙ sym (verifier_moves d'.sessions (Response sheet x) v e').1 in
      λ i. record { verdict = verdict i; session = session i })
