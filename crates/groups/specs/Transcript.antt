-- Maurer's main protocol (2015, section 5) over a homomorphism f and a statement z: a round's transcript and when it is
-- accepting, the honest and the simulated transcript, and the extractor's formula.
-- Assumes nothing.
use Rattle.std.specs.Prelude.{◌≡◌, ℕ, ℤ, pos, neg_ℤ, ◌+ℤ◌, ◌-ℤ◌, ◌*ℤ◌}
use Rattle.groups.specs.Group.{Group, group_power, group_quotient}
use Rattle.groups.specs.Homomorphism.{Homomorphism}

-- a round's transcript (t, c, r) of commitment, challenge and response
pub record Transcript (A B : Type 0) : Type 0 where
  pub commitment : B
  pub challenge : ℕ
  pub response : A

-- the honest prover's response to c with witness x and nonce k: k · x^c
unfoldable pub honest_response : {A : Type 0} → Group A → A → ℕ → A → A
honest_response G x c k = G.product k (group_power G x (pos c))

-- the extractor's formula: u^a · (r / r')^b
unfoldable pub witness_formula : {A : Type 0} → Group A → A → ℤ → ℤ → A → A → A
witness_formula G u a b r r' = G.product (group_power G u a) (group_power G (group_quotient G r r') b)

-- a and b fit the formula for the challenges c and c': ℓ · a + (c − c') · b = 1
abbrev pub Bezout : ℕ → ℕ → ℕ → ℤ → ℤ → Type 0
Bezout ℓ c c' a b = pos ℓ *ℤ a +ℤ (pos c -ℤ pos c') *ℤ b ≡ pos 1

module _ {A B : Type 0} {G : Group A} {H : Group B} (f : Homomorphism G H) where
  -- the transcript (t, c, r) is accepting for the statement z: [r] = t · z^c
  abbrev pub Accepting : B → B → ℕ → A → Type 0
  Accepting z t c r = f.map r ≡ H.product t (group_power H z (pos c))

  -- the simulator's commitment for c and r: [r] · z^(−c)
  unfoldable pub simulated_commitment : B → ℕ → A → B
  simulated_commitment z c r = H.product (f.map r) (group_power H z (neg_ℤ (pos c)))

  -- the simulated transcript of c and r
  unfoldable pub simulated_transcript : B → ℕ → A → Transcript A B
  simulated_transcript z c r = record { commitment = simulated_commitment z c r; challenge = c; response = r }

  -- the honest transcript of the witness x, the challenge c and the nonce k
  unfoldable pub honest_transcript : A → ℕ → A → Transcript A B
  honest_transcript x c k = record { commitment = f.map k; challenge = c; response = honest_response G x c k }

  -- the transcripts that `make` gives are exactly the accepting ones with challenge c, each met once
  pub record EnumeratesAccepting (z : B) (c : ℕ) {C : Type 0} (make : C → Transcript A B) : Type 0 where
    pub challenged : (x : C) → (make x).challenge ≡ c
    pub accepted : (x : C) → Accepting z (make x).commitment (make x).challenge (make x).response
    pub met : (t : B) (r : A) → Accepting z t c r → (x : C) × (make x ≡ record { commitment = t; challenge = c; response = r })
    pub once : (x y : C) → make x ≡ make y → x ≡ y
