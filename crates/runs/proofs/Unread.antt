-- A call's outcome depends only on what 01 reads of the arrays and of the session that it is handed.
-- Assumes nothing.
use Prim.Native.Nat.{ℕ}
use mathlib.Core.Path.{◌≡◌, refl, ap, sym, ◌∙◌}
use mathlib.Core.Bool.{not}
use mathlib.Core.List.{List}
use Rattle.types.specs.declared.Header.{Header}
use Rattle.types.specs.declared.Prover.{Prover}
use Rattle.types.specs.declared.Verifier.{Verifier}
use Rattle.lists.specs.Places.{places}
use Rattle.lists.proofs.Places.{get_d_places, places_agree}
use Rattle.numbers.proofs.Search.{any_agree}
use Rattle.rules.specs.Call.{after, answer, number_of}
use Rattle.rules.specs.Rule.{Rule}
use Rattle.rules.proofs.Says.{says_iff, says_same}
use Rattle.rules.proofs.Told.{read_alike}
use Rattle.sigma.specs.Comparison.{differ}
use Rattle.sigma.specs.Instance.{Instance}
use Rattle.sigma.specs.Reads.{Agree}
use Rattle.sigma.proofs.Comparison.{says_differ}
use Rattle.runs.specs.Memory.{is_listed, listed_at}
use Rattle.runs.specs.Prover.{committing, prover_in, responding, unfit_prover}
use Rattle.runs.specs.Verifier.{taking_challenge, taking_commitment, taking_response, unfit_commitment, verifier_in}

-- an array agrees with what is read of it
pub read_agrees : (n : ℕ) (xs : List ℕ) → Agree n xs (places n xs)
read_agrees n xs j h = sym (get_d_places n xs j h)

-- ---- what a call brings

module _ (inst : Instance) where
  -- committing reads n places of the nonce
  pub committing_same : (p : Prover) (k k' : List ℕ) → Agree inst.header.columns k k' → committing inst p k ≡ committing inst p k'
  unfolding committing
  committing_same p k k' a = rw (places_agree inst.header.columns k k' a)

  -- responding reads n places of the witness
  pub responding_same : (p : Prover) (c : ℕ) (x x' : List ℕ) → Agree inst.header.columns x x'
      → responding inst p c x ≡ responding inst p c x'
  unfolding responding
  responding_same p c x x' a = rw (places_agree inst.header.columns x x' a)

  -- Vic's commitment call reads s places of the commitment
  pub taking_commitment_same : (v : Verifier) (t t' : List ℕ) → Agree inst.header.rows t t'
      → taking_commitment inst v t ≡ taking_commitment inst v t'
  unfolding taking_commitment
  taking_commitment_same v t t' a = rw (places_agree inst.header.rows t t' a)

  -- Vic's response call reads n places of the response
  pub taking_response_same : (v : Verifier) (r r' : List ℕ) → Agree inst.header.columns r r'
      → taking_response inst v r ≡ taking_response inst v r'
  unfolding taking_response
  taking_response_same v r r' a = rw (places_agree inst.header.columns r r' a)

-- ---- what Peggy holds

-- two of Peggy's sessions agree in what is read: the state, n places of the nonce, all eight of the commitment, and the memory
pub record SameProver (h : Header) (p p' : Prover) : Type 0 where
  pub phase : p.phase ≡ p'.phase
  pub nonce : Agree h.columns p.nonce p'.nonce
  pub commitment : Agree 8 p.commitment p'.commitment
  pub memory : p.memory ≡ p'.memory

-- a list's difference from another is that from any list that agrees with the other there
differ_same : (n : ℕ) (xs ys ys' : List ℕ) → Agree n ys ys' → differ n xs ys ≡ differ n xs ys'
differ_same n xs ys ys' a =
    says_same (says_differ n xs ys)
    (says_iff (says_differ n xs ys')
    (λ (i, h, d). (i, h, λ e. d (e ∙ a i h)), λ (i, h, d). (i, h, λ e. d (e ∙ sym (a i h)))))

-- whether what Peggy holds fits depends on what is read of it
pub unfit_prover_same : (inst : Instance) (p p' : Prover) → SameProver inst.header p p' → unfit_prover inst p ≡ unfit_prover inst p'
unfolding unfit_prover
unfit_prover_same inst p p' s =
    let nonce = places_agree inst.header.columns p.nonce p'.nonce s.nonce in
    rw (nonce, differ_same 8 _ p.commitment p'.commitment s.commitment)

-- and whether her commitment is listed
pub is_listed_same : {h : Header} (p p' : Prover) → SameProver h p p'
    → is_listed p.memory p.commitment ≡ is_listed p.memory p'.commitment
unfolding is_listed
is_listed_same p p' s =
    any_agree _ _ _ (λ i b. ap not (differ_same 8 (listed_at p.memory i) p.commitment p'.commitment s.commitment))

module _ (before : List Rule) (inst : Instance) (p p' : Prover) where
  -- responding reads the state, n places of the nonce, all of the commitment and the memory
  pub respond_held : SameProver inst.header p p' → (c : ℕ) (x : List ℕ)
      → ((answer (after before (responding inst p c x))).refusal ≡ (answer (after before (responding inst p' c x))).refusal)
      × ((answer (after before (responding inst p c x))).values ≡ (answer (after before (responding inst p' c x))).values)
  unfolding responding prover_in number_of
  respond_held s c x =
      let number : number_of (after before (responding inst p c x)) ≡ number_of (after before (responding inst p' c x)) =
      rw (unfit_prover_same inst p p' s, is_listed_same p p' s, s.memory, s.phase) in
      let nonce = places_agree inst.header.columns p.nonce p'.nonce s.nonce in (
        read_alike (after before (responding inst p c x)) (after before (responding inst p' c x))
            (λ step. step.refusal) (λ step. step.refusal) number refl (λ n. refl),
        read_alike (after before (responding inst p c x)) (after before (responding inst p' c x))
            (λ step. step.values) (λ step. step.values) number (rw nonce) (λ n. refl),
      )

-- ---- what Vic holds

-- two of Vic's sessions agree in what is read: the state, s places of the commitment and the challenge
pub record SameVerifier (h : Header) (v v' : Verifier) : Type 0 where
  pub phase : v.phase ≡ v'.phase
  pub commitment : Agree h.rows v.commitment v'.commitment
  pub challenge : v.challenge ≡ v'.challenge

-- whether the commitment that Vic holds fits depends on s places of it
pub unfit_commitment_same : (inst : Instance) (v v' : Verifier) → Agree inst.header.rows v.commitment v'.commitment
    → unfit_commitment inst v ≡ unfit_commitment inst v'
unfolding unfit_commitment
unfit_commitment_same inst v v' a = rw (places_agree inst.header.rows v.commitment v'.commitment a)

module _ (before : List Rule) (inst : Instance) (v v' : Verifier) where
  -- the challenge call reads the state and s places of the commitment
  pub take_challenge_held : v.phase ≡ v'.phase → Agree inst.header.rows v.commitment v'.commitment → (c : ℕ)
      → (answer (after before (taking_challenge inst v c))).refusal ≡ (answer (after before (taking_challenge inst v' c))).refusal
  unfolding taking_challenge verifier_in number_of
  take_challenge_held e a c =
      read_alike (after before (taking_challenge inst v c)) (after before (taking_challenge inst v' c))
      (λ step. step.refusal) (λ step. step.refusal) (rw (unfit_commitment_same inst v v' a, e)) refl (λ n. refl)

  -- the response call reads the state, s places of the commitment and the challenge
  pub take_response_held : SameVerifier inst.header v v' → (r : List ℕ)
      → (answer (after before (taking_response inst v r))).verdict ≡ (answer (after before (taking_response inst v' r))).verdict
  unfolding taking_response verifier_in number_of
  take_response_held s r =
      let commitment = places_agree inst.header.rows v.commitment v'.commitment s.commitment in
      read_alike (after before (taking_response inst v r)) (after before (taking_response inst v' r))
      (λ told. told.verdict) (λ told. told.verdict)
      (rw (unfit_commitment_same inst v v' s.commitment, s.phase, s.challenge)) (rw (commitment, s.challenge)) (λ n. refl)
