-- What each call on a session asks for (01, "Turned back", 14 to 17 and 21; 02, card 13), as facts on what is read.
-- Assumes nothing.
use Rattle.std.specs.Prelude.{ℕ, ◌<◌, ◌≡◌, ◌⊎◌, List}
use Rattle.types.specs.declared.Memory.{Memory}
use Rattle.types.specs.declared.Prover.{Prover}
use Rattle.types.specs.declared.ProverPhase.TheVariants.{New, Committed}
use Rattle.types.specs.declared.Verifier.{Verifier}
use Rattle.types.specs.declared.VerifierPhase.TheVariants.{Waiting, Holding, Asked}
use Rattle.lists.specs.Places.{pad8, places}
use Rattle.sigma.specs.Image.{image}
use Rattle.sigma.specs.Instance.{Instance, table_of}
use Rattle.sigma.specs.Knowledge.{Witness}
use Rattle.sigma.specs.Meaning.{Elements, Coordinates}
use Rattle.sigma.specs.Reads.{Agree}
use Rattle.runs.specs.Memory.{listed_at}

-- a commitment is none of those that a memory counts
abbrev pub Unlisted : Memory → List ℕ → Type 0
Unlisted m t = (i : ℕ) → i < m.count → ¬ Agree 8 (listed_at m i) t

-- committing to the nonce k
pub record Commits (inst : Instance) (p : Prover) (k : List ℕ) : Type 0 where
  pub nonce : Coordinates inst k
  pub phase : p.phase ≡ New

-- responding to the challenge c with the witness x
pub record Responds (inst : Instance) (p : Prover) (c : ℕ) (x : List ℕ) : Type 0 where
  pub challenge : c < inst.header.challenges
  pub witness : Witness inst x
  pub phase : p.phase ≡ Committed
  pub nonce : Coordinates inst (places inst.header.columns p.nonce)
  pub commitment : Agree 8 (pad8 0 (image (table_of inst) (places inst.header.columns p.nonce))) p.commitment
  pub unlisted : Unlisted p.memory p.commitment
  pub room : p.memory.count < 64

-- dropping
abbrev pub Drops : Prover → Type 0
Drops p = (p.phase ≡ New) ⊎ (p.phase ≡ Committed)

-- Vic's commitment call
pub record TakesCommitment (inst : Instance) (v : Verifier) (t : List ℕ) : Type 0 where
  pub commitment : Elements inst t
  pub phase : v.phase ≡ Waiting

-- Vic's challenge call
pub record TakesChallenge (inst : Instance) (v : Verifier) (c : ℕ) : Type 0 where
  pub challenge : c < inst.header.challenges
  pub phase : v.phase ≡ Holding
  pub held : Elements inst (places inst.header.rows v.commitment)

-- 21 does not apply to Vic's response call
pub record ReadyToJudge (inst : Instance) (v : Verifier) : Type 0 where
  pub phase : v.phase ≡ Asked
  pub held : Elements inst (places inst.header.rows v.commitment)
  pub challenge : v.challenge < inst.header.challenges

-- Vic's response call
pub record TakesResponse (inst : Instance) (v : Verifier) (r : List ℕ) : Type 0 where
  pub response : Coordinates inst r
  pub ready : ReadyToJudge inst v
