-- The combiner of a team (02, card 6; refusals 2 to 9 of the sheet, 27, 10, 11, then 14 or 16, then 28): it multiplies the players'
-- commitments and joins their responses. What the players bring stands in arrays with a row for each, and both calls take the images.
-- Assumes nothing.
use Rattle.std.specs.Prelude.{ℕ, ◌%◌, Bool, cond, ◌||◌, List, [], ◌∷◌, ◌++◌, ltb, get_or}
use Rattle.types.specs.declared.Computed.{Computed}
use Rattle.types.specs.declared.Header.{Header}
use Rattle.lists.specs.Places.{pad8, tabulate, zeros8}
use Rattle.numbers.specs.Product.{product, sum}
use Rattle.numbers.specs.Search.{any}
use Rattle.rules.specs.Call.{Call, after, answer}
use Rattle.rules.specs.Rule.{Rule, ◌when◌}
use Rattle.formats.specs.Load.{shape_rules}
use Rattle.formats.specs.Sheet.{instance_of}
use Rattle.sigma.specs.Admission.{bad_entries, bad_statement}
use Rattle.sigma.specs.Comparison.{differ}
use Rattle.sigma.specs.Element.{some_non_element}
use Rattle.sigma.specs.Instance.{Instance, is_exponent}
use Rattle.sigma.specs.Round.{bad_commitment, bad_coordinates}

-- what player p brings: row p of an array
abbrev pub part : List (List ℕ) → ℕ → List ℕ
part parts p = get_or parts p []

-- what all players bring multiplied mod m, row by row
unfoldable pub multiply_all : Header → ℕ → List (List ℕ) → List ℕ
multiply_all h count parts = tabulate h.rows (λ i. product count (λ p. get_or (part parts p) i 0) % h.modulus)

-- what all players bring joined, slot by slot: added mod q in kind 1, multiplied mod m in kind 2
unfoldable pub join_all : Header → ℕ → List (List ℕ) → List ℕ
join_all h count parts =
    tabulate h.columns
    (λ j. cond (is_exponent h) (sum count (λ p. get_or (part parts p) j 0) % h.order)
    (product count (λ p. get_or (part parts p) j 0) % h.modulus))

-- the team is outside 2 to 8 (27)
unfoldable pub bad_team : ℕ → Bool
bad_team count = ltb count 2 || ltb 8 count

-- some value of the statement or of a player's image is no group element (11)
unfoldable pub bad_images : Instance → ℕ → List (List ℕ) → Bool
bad_images inst count images =
    bad_statement inst || any count (λ p. some_non_element inst.header inst.header.rows (part images p))

-- the images do not multiply to the statement (28)
unfoldable pub bad_product : Instance → ℕ → List (List ℕ) → Bool
bad_product inst count images = differ inst.header.rows (multiply_all inst.header count images) inst.statement

-- the rules of the team and of what both calls take, after those of the sheet's shape
unfoldable pub team_rules : Instance → ℕ → List (List ℕ) → List Rule
team_rules inst count images = (27 when bad_team count) ∷ (10 when bad_entries inst) ∷ (11 when bad_images inst count images) ∷ []

-- multiplying the players' commitments: 27, 10 and 11, 14 for any player's commitment, 28, else a value for each row
unfoldable pub multiplying : Instance → ℕ → List (List ℕ) → List (List ℕ) → Call Computed
multiplying inst count images commitments =
    record {
      refusals =
          team_rules inst count images ++ (14 when any count (λ p. bad_commitment inst (part commitments p))) ∷
          (28 when bad_product inst count images) ∷ [];
      value = record { refusal = 0; values = pad8 0 (multiply_all inst.header count commitments) };
      refused = λ n. record { refusal = n; values = zeros8 };
    }

-- joining the players' responses: 27, 10 and 11, 16 for any player's response, 28, else a slot for each column
unfoldable pub joining : Instance → ℕ → List (List ℕ) → List (List ℕ) → Call Computed
joining inst count images responses =
    record {
      refusals =
          team_rules inst count images ++ (16 when any count (λ p. bad_coordinates inst (part responses p))) ∷
          (28 when bad_product inst count images) ∷ [];
      value = record { refusal = 0; values = pad8 0 (join_all inst.header count responses) };
      refused = λ n. record { refusal = n; values = zeros8 };
    }

-- the call that multiplies the players' commitments
unfoldable pub multiply_commitments : List ℕ → ℕ → List (List ℕ) → List (List ℕ) → Computed
multiply_commitments sheet count images commitments =
    answer (after (shape_rules sheet) (multiplying (instance_of sheet) count images commitments))

-- the call that joins the players' responses
unfoldable pub join_responses : List ℕ → ℕ → List (List ℕ) → List (List ℕ) → Computed
join_responses sheet count images responses =
    answer (after (shape_rules sheet) (joining (instance_of sheet) count images responses))
