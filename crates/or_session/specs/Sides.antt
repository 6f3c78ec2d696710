-- What each side of Peggy's session commits and responds, what is asked of what is brought, by its side, and what a call answers.
-- Assumes nothing.
use Rattle.std.specs.Prelude.{ℕ, Bool, cond, ◌||◌, List, [], ◌∷◌, Result, Ok, Err}
use Rattle.types.specs.declared.Header.{Header}
use Rattle.lists.specs.Places.{places}
use Rattle.rules.specs.Rule.{Rule, ◌when◌}
use Rattle.sigma.specs.Image.{image}
use Rattle.sigma.specs.Instance.{Instance, table_of}
use Rattle.sigma.specs.Round.{bad_coordinates, bad_witness, response}
use Rattle.sigma.specs.Simulator.{simulated}
use Rattle.refusals.specs.declared.Refusal.{Refusal}
use Rattle.refusals.specs.Number.{number}
use Rattle.disjunctions.specs.declared.OrProver.{OrProver}
use Rattle.disjunctions.specs.declared.OrStep.{OrStep}
use Rattle.disjunctions.specs.Prover.{other, own, refused_or}

-- the commitment of a side: the image of the nonce where it is known, else the simulated commitment
unfoldable pub side_commitment : Bool → Instance → List ℕ → ℕ → List ℕ → List ℕ
side_commitment known i k d r = cond known (image (table_of i) k) (simulated i d r)

-- the response of a side: that of the nonce where it is known, else n places of the simulated one
unfoldable pub side_response : Bool → Header → List ℕ → ℕ → List ℕ → List ℕ → List ℕ
side_response known h k d x r = cond known (response h k d x) (places h.columns r)

-- 16 of what is read of a nonce by the side's sheet, and of a simulated response by the other
unfoldable pub bad_slots : Instance → Instance → ℕ → List ℕ → List ℕ → Bool
bad_slots i j side k r =
    bad_coordinates (own side i j) (places (own side i j).header.columns k) ||
    bad_coordinates (other side i j) (places (other side i j).header.columns r)

-- 16 and 17 of what is read of a witness
unfoldable pub witness_rules : Instance → List ℕ → List Rule
witness_rules i x =
    (16 when bad_coordinates i (places i.header.columns x)) ∷
    (17 when bad_witness i (places i.header.columns x)) ∷ []

-- what a call answers: its step, or that of a refused call
abbrev pub stepped : OrProver → Result OrStep Refusal → OrStep
stepped session (Ok step) = step
stepped session (Err refusal) = refused_or session (number refusal)
