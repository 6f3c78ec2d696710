-- A round on values (01, "A round"): response, the verifier's two sides, and the tests of what a call brings.
-- Assumes nothing.
use Rattle.std.specs.Prelude.{ℕ, ◌+◌, ◌*◌, ◌%◌, ◌^◌, Bool, cond, List, leb, get_or}
use Rattle.types.specs.declared.Header.{Header}
use Rattle.types.specs.declared.Verdict.{Verdict}
use Rattle.lists.specs.Places.{tabulate}
use Rattle.sigma.specs.Instance.{Instance, table_of, is_exponent, statement_at}
use Rattle.sigma.specs.Element.{some_non_element, some_non_coordinate}
use Rattle.sigma.specs.Image.{image}
use Rattle.sigma.specs.Comparison.{differ, compare_sides}

-- a coordinate of the response: k + c·x mod q in kind 1, k·x^c mod m in kind 2
unfoldable pub response_coordinate : Header → ℕ → ℕ → ℕ → ℕ
response_coordinate h k c x = cond (is_exponent h) ((k + c * x) % h.order) (k * x ^ c % h.modulus)

-- the response to challenge c, of nonce k and witness x
unfoldable pub response : Header → List ℕ → ℕ → List ℕ → List ℕ
response h k c x = tabulate h.columns (λ j. response_coordinate h (get_or k j 0) c (get_or x j 0))

-- what [r] has to be, t · z^c, a value for each row
unfoldable pub expected_image : Instance → List ℕ → ℕ → List ℕ
expected_image inst t c = tabulate inst.header.rows (λ i. get_or t i 0 * statement_at inst i ^ c % inst.header.modulus)

-- the verdict: accepted where [r] and t · z^c agree in every row
unfoldable pub verdict : Instance → List ℕ → ℕ → List ℕ → Verdict
verdict inst t c r = compare_sides inst.header.rows (image (table_of inst) r) (expected_image inst t c)

-- some value of a commitment is no group element (14)
unfoldable pub bad_commitment : Instance → List ℕ → Bool
bad_commitment inst t = some_non_element inst.header inst.header.rows t

-- the challenge is K or more (15)
unfoldable pub bad_challenge : Instance → ℕ → Bool
bad_challenge inst c = leb inst.header.challenges c

-- some slot of a witness, nonce or response is no domain slot (16)
unfoldable pub bad_coordinates : Instance → List ℕ → Bool
bad_coordinates inst x = some_non_coordinate inst.header inst.header.columns x

-- the witness's image is not the statement (17)
unfoldable pub bad_witness : Instance → List ℕ → Bool
bad_witness inst x = differ inst.header.rows (image (table_of inst) x) inst.statement
