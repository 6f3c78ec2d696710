-- The simulator (01, "A round"; refusals 15 and 16).
-- Assumes nothing.
use Rattle.std.specs.Prelude.{ℕ, ◌*◌, ◌%◌, List, [], ◌∷◌, pos, neg_ℤ}
use Rattle.types.specs.declared.Computed.{Computed}
use Rattle.lists.specs.Places.{tabulate, places, pad8, zeros8}
use Rattle.numbers.specs.Integer.{power}
use Rattle.rules.specs.Call.{Call, answer}
use Rattle.rules.specs.Rule.{◌when◌}
use Rattle.sigma.specs.Image.{row_image}
use Rattle.sigma.specs.Instance.{Instance, table_of, statement_at}
use Rattle.sigma.specs.Round.{bad_challenge, bad_coordinates}

-- the simulated commitment t = [r] · z^(−c), a value for each row
unfoldable pub simulated : Instance → ℕ → List ℕ → List ℕ
simulated inst c r =
    tabulate inst.header.rows
    (λ i. row_image (table_of inst) r i * power inst.header.modulus (statement_at inst i) (neg_ℤ (pos c)) % inst.header.modulus)

-- simulating: 15 and 16, else the simulated commitment in eight places; n places of r are read
unfoldable pub simulating : Instance → ℕ → List ℕ → Call Computed
simulating inst c response =
    let r : List ℕ = places inst.header.columns response in
    record {
      refusals = (15 when bad_challenge inst c) ∷ (16 when bad_coordinates inst r) ∷ [];
      value = record { refusal = 0; values = pad8 0 (simulated inst c r) };
      refused = λ n. record { refusal = n; values = zeros8 };
    }

-- the simulated commitment of a Valid instance, for callers that have loaded the sheet
unfoldable pub simulate_loaded : Instance → ℕ → List ℕ → Computed
simulate_loaded inst c response = answer (simulating inst c response)
